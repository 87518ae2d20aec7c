-- A number that was read is within its limit.
use Rattle.text.proofs.Numbers.{after_read}
use Rattle.replay.proofs.words.Words.number.Goals as goal

pub returns : goal.returns
returns c = (after_read _ _ _ c.in_ok-value.was _ c.number_after.ensures).within
