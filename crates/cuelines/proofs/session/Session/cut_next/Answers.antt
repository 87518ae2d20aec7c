-- A block is read, and its payloads are cut.
use Rattle.std.proofs.Common.{◌≡◌, sym, ◌*◌, length, rules}
use Rattle.std.specs.Prelude.{Ok, Err}
use Rattle.sheet.specs.Sheet.{payload_size}
use Rattle.cuelines.specs.Hearing.{hearing}
use Rattle.cuelines.specs.declared.session.Failure.TheVariants.{Read}
use Rattle.cuelines.proofs.Going.{next_heard}
use Rattle.cuelines.proofs.session.Session.cut_next.Goals as goal

pub returns-then-filled-clause-heard : goal.returns-then-filled-clause-heard
returns-then-filled-clause-heard g c =
    let full : length c.fill-filled.new.buffer ≡ 8 * payload_size = search rules in
    next_heard c.args.times.now (hearing (length c.args.times.now) c.args.self.now) c.fill-filled.new.buffer
    c.fill-filled.result c.fill-filled.ensures.most full c.cut_block.new.self c.after_read.new.self (Err Read)
    (sym c.if-filled.true) c.cut_block.ensures c.after_read.ensures

pub returns-clause-heard : goal.returns-clause-heard
returns-clause-heard g c =
    let full : length c.fill-filled.new.buffer ≡ 8 * payload_size = search rules in
    next_heard c.args.times.now (hearing (length c.args.times.now) c.args.self.now) c.fill-filled.new.buffer
    c.fill-filled.result c.fill-filled.ensures.most full c.cut_block.new.self c.after_read.new.self (Ok tt)
    (sym c.if-filled.false) c.cut_block.ensures c.after_read.ensures
