-- The bytes that decide a head are the first eight, or all there are: the pending ones, and those of the payload
-- written behind them.
use mathlib.Core.Path.{◌≡◌, sym, ◌∙◌, ap}
use mathlib.Core.List.{List, ◌++◌}
use Prim.Native.Nat.{ℕ, ◌-◌}
use native.Mathlib.Omega.{arith}
use lib.ListN.{length, take, drop, replicate, length-drop}
use lib.Seq.{length-take-le, take_all}
use borrow.Rule.Slice.PartMut.{put_mid}
use Rattle.splitter.specs.Push.{over}
use Rattle.splitter.specs.Search.{joined_bytes}
use Rattle.splitter.proofs.Buffers.{two_writes, slice_mid}
use Rattle.splitter.proofs.Heads.{head_gathered}
use Rattle.splitter.proofs.search.Joined.gathered_head.Goals as goal

pub returns : goal.returns
returns c =
    let j = c.args.self.now in
    let k : ℕ = length j.pending.now - c.args.at in
    let count : ℕ = c.min-n.result in
    let window : List ℕ = put_mid k (8 - k) c.copy_front.new.dst c.copy_few.new.dst in
    let f = drop c.args.at j.pending.now in
    let t = take (count - k) j.payload.now in
    let l : 8 - k ≡ length c.copy_front.new.dst - k = omega arith in
    let whole : take k f ≡ f = take_all k f (simp length-drop (omega arith)) in
    let filled : window ≡ over (take count (drop c.args.at (joined_bytes j))) (replicate 8 0) =
    ap (λ (m : ℕ). put_mid k m c.copy_front.new.dst c.copy_few.new.dst) l
    ∙ two_writes k (take k f) t (replicate 8 0) c.copy_front.new.dst c.copy_few.new.dst
    (length-take-le k f (simp length-drop (omega arith))) (omega arith) c.copy_front.ensures
    (c.copy_few.ensures ∙ ap (λ (m : ℕ). over t (take m (drop k c.copy_front.new.dst))) l)
    ∙ ap (λ (z : List ℕ). over z (replicate 8 0))
    (ap (λ (z : List ℕ). z ++ t) whole
    ∙ sym (slice_mid j.pending.now j.payload.now c.args.at count (omega arith) (omega arith))) in
    c.parse.ensures.value
    ∙ head_gathered j.syntax j.pending.now j.payload.now c.args.at count window (replicate 8 0) (omega arith)
    c.min-n.ensures filled
