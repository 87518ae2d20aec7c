-- There are never more bytes than the most, and the copies grow.
use Rattle.std.proofs.Common.{◌≤◌, ◌-◌}
use Rattle.replay.proofs.payload.join_word.Given as goal

abbrev pub invariant-loop-pair : goal.invariant-loop-pair
invariant-loop-pair l =
    (goal.iterator-loop-pair).can_next l.pair-iterator ×
    (goal.iterator-loop-pair).is_finite l.pair-iterator ×
    (l.payload.len ≤ l.most)

abbrev pub invariant-loop-copies : goal.invariant-loop-copies
invariant-loop-copies l = (l.payload.len ≤ l.most) × (1 ≤ l.copies)

abbrev pub decreases-loop-copies : goal.decreases-loop-copies
decreases-loop-copies l = l.times - l.copies
