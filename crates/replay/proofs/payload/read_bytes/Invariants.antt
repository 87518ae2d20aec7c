-- There are never more bytes than the most.
use Rattle.std.proofs.Common.{◌≤◌}
use Rattle.replay.proofs.payload.read_bytes.Given as goal

abbrev pub invariant-loop-word : goal.invariant-loop-word
invariant-loop-word l =
    (goal.iterator-loop-word).can_next l.word-iterator ×
    (goal.iterator-loop-word).is_finite l.word-iterator ×
    (l.payload.len ≤ l.most)
