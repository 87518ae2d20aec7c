-- The search stays on the walk from the place where it began, and each way out of it is what it met. What is left of
-- the joined bytes gets less at each step.
use Prim.Native.Nat.{◌-◌}
use lib.ListN.{length}
use Rattle.splitter.specs.Search.{Slid, joined_bytes}
use Rattle.splitter.proofs.search.Joined.search.Given as goal

abbrev pub invariant-loop-walk : goal.invariant-loop-walk
invariant-loop-walk l =
    Slid l.self.syntax (joined_bytes l.self) (length l.self.pending.now) l.initial.clock l.initial.walk l.clock l.walk

abbrev pub decreases-loop-walk : goal.decreases-loop-walk
decreases-loop-walk l = length (joined_bytes l.self) - l.walk.place
