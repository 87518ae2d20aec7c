-- The parts of the IDs passed are put.
use Rattle.std.proofs.Common.{take}
use Rattle.heads.specs.Chart.{for_each, ids}
use Rattle.text.specs.Output.{Put}
use Rattle.chart.specs.Table.{parts_text}
use Rattle.chart.proofs.table.put_table.Given as goal

abbrev pub invariant-loop-id : goal.invariant-loop-id
invariant-loop-id g l = Put g.W.Sink.writes (for_each (take l.id ids) parts_text) l.initial.out l.out
