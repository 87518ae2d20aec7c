-- The search stays on the walk from the place where it began, and each way out of it is what it met. What is left of
-- the joined bytes gets less at each step.
use mathlib.Core.Path.{◌≡◌, sym, ◌∙◌, ap}
use Prim.Native.Nat.{◌+◌, ◌≤◌}
use native.Mathlib.Omega.{arith}
use lib.ListN.{length, drop}
use Rattle.heads.proofs.Promise.{need_least}
use Rattle.heads.specs.Syntax.{head_of, need_of}
use Rattle.heads.specs.declared.info.Head.TheVariants.{Read}
use Rattle.splitter.specs.Search.{joined_bytes}
use Rattle.splitter.specs.Steps.{lost_walk}
use Rattle.splitter.specs.declared.push.Walk.{Walk}
use Rattle.splitter.proofs.Walking.{slid_small, slid_run, slid_below, slid_false}
use Rattle.splitter.proofs.search.Joined.search.Goals as goal
use Rattle.splitter.proofs.search.Joined.search.Goals.{then-info-self+else-not-false_sync, else-info-self}

pub lose-walk-requires : goal.lose-walk-requires
lose-walk-requires c =
    let j = c.args.self.now in
    slid_small c.loop-walk.invariant c.requires.small c.requires.joined_few
    (omega (arith, c.unread_run.ensures.room, need_least j.syntax))

pub loop-walk-smaller-in_default : goal.loop-walk-smaller-in_default
unfolding lost_walk
loop-walk-smaller-in_default c =
    let j = c.args.self.now in
    omega (
      arith,
      ap (λ (w : Walk). w.place) c.lose-walk.ensures,
      c.unread_run.ensures.some,
      need_least j.syntax,
      j.need_is,
    )

pub loop-walk-preserved-in_default : goal.loop-walk-preserved-in_default
loop-walk-preserved-in_default c =
    rw (c.voided-clock.ensures, c.lose-walk.ensures)
    (slid_run c.loop-walk.invariant (sym c.head_at.ensures ∙ c.in_default.is) c.unread_run.ensures)

pub loop-walk-smaller : goal.loop-walk-smaller
unfolding lost_walk
loop-walk-smaller c =
    let j = c.args.self.now in
    omega (arith, ap (λ (w : Walk). w.place) c.lose-walk-in-loop-walk.ensures, need_least j.syntax, j.need_is)

pub loop-walk-preserved : goal.loop-walk-preserved
loop-walk-preserved c =
    let j = c.args.self.now in
    let info = c.in-Read.info in
    let reads : head_of j.syntax (drop c.loop-walk.walk.place (joined_bytes j)) ≡ Read info = sym c.head_at.ensures
    ∙ c.in-Read.is in
    let enough : c.loop-walk.walk.place + need_of j.syntax ≤ length (joined_bytes j) = omega (arith, j.need_is) in
    let inside : c.loop-walk.walk.place + info.frame_len ≤ length (joined_bytes j) = omega (arith, c.loop-walk.invariant.reached) in
    rw c.lose-walk-in-loop-walk.ensures
    (elim c.if-info-self.branch [
      | then-info-self+else-not-false_sync w ↦ rw (w.clock-is ∙ w.voided-clock-then-info-self.ensures)
          (slid_false c.loop-walk.invariant reads enough (omega (arith, w.if-info-self.true, j.need_is)) inside
          (sym w.false_sync.ensures ∙ w.if-not-false_sync.false))
      | else-info-self w ↦ rw w.clock-is (slid_below c.loop-walk.invariant reads enough (omega (arith, j.need_is)))
    ])
