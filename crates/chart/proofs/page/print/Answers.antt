-- What is put, and what is then written.
use Rattle.text.proofs.Blocks.{handed_join}
use Rattle.chart.proofs.page.print.Goals as goal

pub returns : goal.returns
returns g c = handed_join c.put_page.ensures.put.handed c.flush.ensures.handed
