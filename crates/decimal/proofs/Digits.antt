-- Decimal digits put one behind the other. Assumes nothing.
use Prim.Native.Nat.{ℕ, zero, suc, ◌+◌, ◌-◌, ◌/◌, ◌%◌, ◌<◌, ◌≤◌}
use mathlib.Core.Path.{◌≡◌, ap, sym, ◌∙◌}
use mathlib.Core.List.{List, [], ◌∷◌, ◌++◌}
use native.Mathlib.Omega.{arith}
use lib.ListN.{length, length-append}
use lib.Dec.{ltb}
use borrow.Author.Tests.{lt-ltb, le-ltb}
use Rattle.basics.specs.Choice.{when◌then◌else◌}
use Rattle.basics.proofs.Cases.{if-both}
use Rattle.text.specs.private.Adds.{Adds}
use Rattle.text.proofs.Adding.{adds_nothing, then-adds}
use Rattle.decimal.specs.Decimal.{decimal_in}

-- a number below ten has one digit
pub one-digit : (k n : ℕ) → n < 10 → decimal_in (suc k) n ≡ (48 + n % 10) ∷ []
unfolding decimal_in when◌then◌else◌
one-digit k n h = rw (lt-ltb n 10 h)

-- any other has its last one behind those of its tenth
pub more-digits : (k n : ℕ) → 10 ≤ n → decimal_in (suc k) n ≡ decimal_in k (n / 10) ++ ((48 + n % 10) ∷ [])
unfolding decimal_in when◌then◌else◌
more-digits k n h = rw (le-ltb n 10 h)

pub length-decimal : (k n : ℕ) → length (decimal_in k n) ≤ k
unfolding decimal_in
length-decimal zero n = omega arith
length-decimal (suc k) n =
    if-both (λ (l : List ℕ). length l ≤ suc k) (ltb n 10) _ _ (λ _. omega arith) (λ _. simp length-append (omega (arith, length-decimal k (n / 10))))

-- the three ways in which the last k digits are put
module _ {room : ℕ} {t : List ℕ} (n k : ℕ) where
  pub adds-none : k ≡ 0 → Adds room t t (decimal_in k n)
  unfolding decimal_in
  adds-none e = rw e adds_nothing

  pub adds_one : {u : List ℕ} {w : List ℕ} → (k ≡ 0 → ⊥) → n < 10 → w ≡ (48 + n % 10) ∷ [] → Adds room t u w → Adds room t u (decimal_in k n)
  adds_one {u} {w} z h e a =
      let some : k ≡ suc (k - 1) = omega arith in
      let digits : decimal_in k n ≡ w = ap (λ (j : ℕ). decimal_in j n) some ∙ one-digit (k - 1) n h ∙ sym e in
      rw digits a

  pub adds-last : {s u : List ℕ} {w : List ℕ} → (k ≡ 0 → ⊥) → 10 ≤ n → w ≡ (48 + n % 10) ∷ []
      → Adds room t s (decimal_in (k - 1) (n / 10)) → Adds room s u w → Adds room t u (decimal_in k n)
  adds-last {s} {u} {w} z h e a b =
      let some : k ≡ suc (k - 1) = omega arith in
      let digits : decimal_in k n ≡ decimal_in (k - 1) (n / 10) ++ w =
      ap (λ (j : ℕ). decimal_in j n) some ∙ more-digits (k - 1) n h ∙ ap (λ (l : List ℕ). decimal_in (k - 1) (n / 10) ++ l) (sym e) in
      rw digits (then-adds a b)
