-- A part more.
use Rattle.std.proofs.Common.{arith, refl}
use Rattle.heads.specs.Chart.{layers}
use Rattle.chart.specs.Table.{part_text}
use Rattle.chart.proofs.Listing.{put_next}
use Rattle.chart.proofs.table.put_parts.Goals as goal

pub loop-layer-preserved : goal.loop-layer-preserved
loop-layer-preserved g c =
    put_next (part_text c.args.id) layers c.loop-layer.layer-index _ refl (omega arith) c.loop-layer.invariant
    c.put_part.ensures
