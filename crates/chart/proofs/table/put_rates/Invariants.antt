-- The rates passed are put.
use Rattle.std.proofs.Common.{ℕ, take}
use Rattle.heads.specs.Mpeg.{mpeg_rate}
use Rattle.heads.specs.Chart.{for_each, rates}
use Rattle.text.specs.Output.{Put}
use Rattle.chart.specs.Table.{cell}
use Rattle.chart.proofs.table.put_rates.Given as goal

abbrev pub invariant-loop-index : goal.invariant-loop-index
invariant-loop-index g l =
    Put g.W.Sink.writes (for_each (take l.index rates) (λ (rate : ℕ). cell (mpeg_rate l.id rate))) l.initial.out l.out
