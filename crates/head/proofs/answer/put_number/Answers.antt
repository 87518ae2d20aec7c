-- The digits, and the line feed.
use Rattle.text.proofs.Blocks.{put_both}
use Rattle.head.proofs.answer.put_number.Goals as goal

pub returns : goal.returns
returns g c = put_both c.put_decimal.ensures c.put_byte.ensures
