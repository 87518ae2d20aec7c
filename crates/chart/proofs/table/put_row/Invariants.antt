-- The lengths passed are put.
use Rattle.std.proofs.Common.{take}
use Rattle.heads.specs.Chart.{for_each}
use Rattle.text.specs.Output.{Put}
use Rattle.chart.specs.Table.{cell}
use Rattle.chart.proofs.table.put_row.Given as goal

abbrev pub invariant-loop-length : goal.invariant-loop-length
invariant-loop-length g l = Put g.W.Sink.writes (for_each (take l.length-index l.lengths) cell) l.initial.out l.out
