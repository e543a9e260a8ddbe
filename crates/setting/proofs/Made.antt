-- An array whose places were asked of a closure one after the other. Assumes nothing.
use Prim.Native.Nat.{ℕ, zero, suc, ◌+◌, ◌<◌}
use mathlib.Core.Path.{◌≡◌, subst, ◌∙◌}
use mathlib.Core.List.{List, map}
use native.Mathlib.Omega.{arith}
use lib.ListN.{get_or}
use Rattle.std.specs.Array.{IsFromFnResult, IsFromFnResultFrom}
use Rattle.std.specs.Fn.{Called, Mut}
use Rattle.std.specs.List.{range_with_len}
use Rattle.std.proofs.lemmas.List.FromFn.{fill_by_all}

-- The closure stays as it is, and gives h of the place.
module _ {F : Type 0} (g : Mut F (ℕ × Unit {0}) ℕ) (f : F) (h : ℕ → ℕ) (same : (x y : ℕ) (q : F) → Called g f (x, tt) y q → (q ≡ f) × (y ≡ h x)) (ys : List ℕ) where
  at_each : (i n k j : ℕ) → IsFromFnResultFrom g f ys i n → k < n → i + k ≡ j → get_or ys j 0 ≡ h j
  at_each i zero k j r l e = absurd (omega arith)
  at_each i (suc n) zero j (q, y, at, called, rest) l e =
      let here : i ≡ j = omega arith in
      subst (λ (m : ℕ). get_or ys m 0 ≡ h m) here (at.1 0 ∙ (same i y q called).1)
  at_each i (suc n) (suc k) j (q, y, at, called, rest) l e =
      at_each (i + 1) n k j (subst (λ (p : F). IsFromFnResultFrom g p ys (i + 1) n) (same i y q called).0 rest) (omega arith) (omega arith)

  pub made : (n : ℕ) → IsFromFnResult g f ys n → ys ≡ map h (range_with_len 0 n)
  made n r = fill_by_all h ys n 0 r.long (λ k l. at_each 0 n k k r.each l (omega arith))
