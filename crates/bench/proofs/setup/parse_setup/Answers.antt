-- The stream begins behind the line feed, which stands within the input.
use Rattle.std.proofs.Common.{arith}
use Rattle.text.proofs.Numbers.{found}
use Rattle.bench.proofs.setup.parse_setup.Goals as goal

pub returns : goal.returns
returns c = (omega arith, (found _ _ _ c.in_ok-start.was c.skip.ensures).inside)
