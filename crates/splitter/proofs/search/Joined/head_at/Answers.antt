-- The place lies in the payload, or has eight pending bytes, which decide its head, or its bytes are gathered.
use mathlib.Core.Path.{◌∙◌}
use native.Mathlib.Omega.{arith}
use Rattle.splitter.proofs.Heads.{head_high, head_low}
use Rattle.splitter.proofs.search.Joined.head_at.Goals as goal

pub returns-then-carried-at : goal.returns-then-carried-at
returns-then-carried-at c =
    let j = c.args.self.now in
    c.parse.ensures.value ∙ head_high j.syntax j.pending.now j.payload.now c.args.at (omega arith)

pub returns-then-carried-at-ge-HEAD_MAX : goal.returns-then-carried-at-ge-HEAD_MAX
returns-then-carried-at-ge-HEAD_MAX c =
    let j = c.args.self.now in
    c.parse-then-carried-at-ge-HEAD_MAX.ensures.value ∙ head_low j.syntax j.pending.now j.payload.now c.args.at (omega arith)
