-- The need is not left; or it is, and the head there reads or not, in the payload or before it.
use mathlib.Core.Path.{◌∙◌, ap}
use native.Mathlib.Omega.{arith}
use Rattle.heads.specs.Judge.{is_read}
use Rattle.splitter.specs.Search.{joined_bytes}
use Rattle.splitter.proofs.Heads.{head_high, told_there}
use Rattle.splitter.proofs.search.Joined.false_sync.Goals as goal

pub returns-then-carried-end : goal.returns-then-carried-end
returns-then-carried-end c =
    let j = c.args.self.now in
    told_there j.syntax (joined_bytes j) c.args.end (omega arith) _
    (c.reads.ensures
    ∙ ap is_read (head_high j.syntax j.pending.now j.payload.now c.args.end (omega arith)))
