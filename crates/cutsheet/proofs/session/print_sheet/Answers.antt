-- `print_sheet` cuts all blocks, and ends the sheet.
use Rattle.cutsheet.specs.Parts.{stand}
use Rattle.cutsheet.proofs.Running.{fresh_long, ran_none, ran_over}
use Rattle.cutsheet.proofs.session.print_sheet.Goals as goal

pub returns : goal.returns
returns g c =
    ran_over c.args.sheet c.new-session.result.buffers.pending
    (fresh_long c.args.sheet c.new-session.result c.new-session.ensures) (stand c.cut_all.new.self c.cut_all.new.output)
    c.end.result
    (c.cut_all.ensures c.args.source.now c.args.output.now.sink c.args.sheet c.new-session.result.buffers.pending
    (ran_none c.args.source.now c.args.output.now c.args.sheet c.new-session.result c.requires c.new-session.ensures))
    c.end.ensures
