-- The parts of the layers passed are put.
use Rattle.std.proofs.Common.{take}
use Rattle.heads.specs.Chart.{for_each, layers}
use Rattle.text.specs.Output.{Put}
use Rattle.chart.specs.Table.{part_text}
use Rattle.chart.proofs.table.put_parts.Given as goal

abbrev pub invariant-loop-layer : goal.invariant-loop-layer
invariant-loop-layer g l = Put g.W.Sink.writes (for_each (take l.layer-index layers) (part_text l.id)) l.initial.out l.out
