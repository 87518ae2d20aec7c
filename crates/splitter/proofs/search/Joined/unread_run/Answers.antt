-- No head begins at the places that the skip passes, and the bytes that it is lent end where the need is still left.
use Prim.Native.Nat.{◌+◌, ◌-◌}
use native.Mathlib.Omega.{arith}
use lib.ListN.{length, length-append}
use Rattle.heads.proofs.Promise.{need_least}
use Rattle.splitter.proofs.Heads.{place_within, unread_low, unread_high}
use Rattle.splitter.proofs.search.Joined.unread_run.Goals as goal

pub overflow_add-result : goal.overflow_add-result
overflow_add-result c =
    let j = c.args.self.now in
    omega (
      arith,
      place_within j.syntax (c.args.at + 1 + c.min-k.result - (c.args.at + 1)) (c.args.at + 1) c.skip_to_sync.result
          j.pending.now c.skip_to_sync.ensures,
    )

pub returns-then-from-carried : goal.returns-then-from-carried
returns-then-from-carried c =
    let j = c.args.self.now in
    let k = c.min-k.result in
    unread_low j.syntax j.pending.now j.payload.now c.args.at c.skip_to_sync.result c.requires.0 c.requires.1
    (c.args.at + 1 + k - (c.args.at + 1)) (omega (arith, c.min-k.ensures)) (omega (arith, c.min-k.ensures, j.need_is))
    c.skip_to_sync.ensures

pub overflow_add-result-2 : goal.overflow_add-result-2
overflow_add-result-2 c =
    let j = c.args.self.now in
    let a = c.args.at + 1 - length j.pending.now in
    let n = c.total.result - c.args.at - j.need + 1 in
    omega (arith, place_within j.syntax (a + n - a) a c.skip_to_sync-2.result j.payload.now c.skip_to_sync-2.ensures)

pub returns : goal.returns
returns c =
    let j = c.args.self.now in
    let a = c.args.at + 1 - length j.pending.now in
    let n = c.total.result - c.args.at - j.need + 1 in
    unread_high j.syntax j.pending.now j.payload.now c.args.at c.skip_to_sync-2.result c.requires.0 c.requires.1
    (a + n - a) (omega arith) (omega (arith, j.need_is, c.total.ensures)) c.skip_to_sync-2.ensures

pub slice_bounds-skip_to_sync-end-2 : goal.slice_bounds-skip_to_sync-end-2
slice_bounds-skip_to_sync-end-2 c =
    let j = c.args.self.now in
    omega (arith, need_least j.syntax, j.need_is, length-append j.pending.now j.payload.now)
