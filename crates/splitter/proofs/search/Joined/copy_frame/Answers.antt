-- A part of the joined bytes lies in the payload, or in the pending bytes, or begins in those and ends in the payload:
-- there one write follows another.
use mathlib.Core.Path.{◌≡◌, sym, ◌∙◌, ap}
use mathlib.Core.List.{List, ◌++◌}
use Prim.Native.Nat.{ℕ, ◌+◌, ◌-◌}
use native.Mathlib.Omega.{arith}
use lib.ListN.{length, take, drop, length-drop}
use lib.Seq.{length-take-le, take_all}
use Rattle.splitter.specs.Push.{over}
use Rattle.splitter.proofs.Buffers.{two_writes, slice_high, slice_mid}
use Rattle.splitter.proofs.search.Joined.copy_frame.Goals as goal

pub returns-then-carried-from : goal.returns-then-carried-from
returns-then-carried-from c =
    let j = c.args.self.now in
    let p = length j.pending.now in
    let a = c.args.from - p in
    let m : c.args.from + c.args.n - p - a ≡ c.args.n = omega arith in
    c.copy_front.ensures
    ∙ ap (λ (l : List ℕ). over l c.args.dst.now)
    (ap (λ (n : ℕ). take n (drop a j.payload.now)) m
    ∙ sym (slice_high j.pending.now j.payload.now c.args.from c.args.n (omega arith)))

pub returns : goal.returns
returns c =
    let j = c.args.self.now in
    let p = length j.pending.now in
    let f = c.args.from in
    let k = p - f in
    let l = drop f j.pending.now in
    let n : f + c.args.n - p ≡ c.args.n - k = omega arith in
    two_writes k (take k l) (take (f + c.args.n - p) j.payload.now) c.args.dst.now c.copy_front-2.new.dst
    c.copy_front-3.new.dst (length-take-le k l (simp length-drop (omega arith))) (omega arith) c.copy_front-2.ensures
    c.copy_front-3.ensures
    ∙ ap (λ (z : List ℕ). over z c.args.dst.now)
    (ap (λ (z : List ℕ). z ++ take (f + c.args.n - p) j.payload.now) (take_all k l (simp length-drop (omega arith)))
    ∙ ap (λ (m : ℕ). l ++ take m j.payload.now) n
    ∙ sym (slice_mid j.pending.now j.payload.now f c.args.n (omega arith) (omega arith)))
