-- The one ruleset for case analysis. A definition chooses by tests; the code has made the same tests on its way to a return. Under
-- `unfolding` of that definition, `search cases depth N` goes down its choices by the facts that the code's own tests left, wherever
-- those facts stand. N bounds how deep the laws may nest: one for each test on the way, and two or three for the test that decides; 9 is
-- enough for every definition here but the table of kinds, which has a test for each kind, and a smaller tree costs no more by it. Assumes nothing.
use Prim.Native.Nat.{ℕ, ◌<◌, ◌≤◌}
use mathlib.Core.Bool.{Bool, true, false, not, ◌&&◌, ◌||◌}
use mathlib.Core.Path.{◌≡◌, refl, sym, ◌∙◌}
use lib.Dec.{eqb, ltb}
use borrow.Author.Tests.{lt-ltb, le-ltb, le-leb, lt-leb, eq-eqb, ne_eqb}
use Rattle.basics.specs.Choice.{when◌then◌else◌}

module _ {A : Type 0} (t : Bool) (x y r : A) where
  pub if_yes : t ≡ true → r ≡ x → r ≡ when t then x else y
  unfolding when◌then◌else◌
  if_yes h q = rw h q

  pub if_no : t ≡ false → r ≡ y → r ≡ when t then x else y
  unfolding when◌then◌else◌
  if_no h q = rw h q

-- a property of both cases, each with what its test says, is one of the choice
pub if-both : {A : Type 0} (P : A → Type 0) (t : Bool) (x y : A) → (t ≡ true → P x) → (t ≡ false → P y) → P (when t then x else y)
unfolding when◌then◌else◌
if-both P true x y f g = f refl
if-both P false x y f g = g refl

-- a test that a callee made: s is its result
pub told : (t s b : Bool) → s ≡ t → s ≡ b → t ≡ b
told t s b e h = sym e ∙ h

-- a test of a number n that a callee gave: s is its result
module _ (n k s : ℕ) (e : s ≡ n) where
  pub told-eq : s ≡ k → eqb n k ≡ true
  told-eq h = eq-eqb n k (sym e ∙ h)

  pub told-ne : (s ≡ k → ⊥) → eqb n k ≡ false
  told-ne h = ne_eqb n k (λ q. h (e ∙ q))

  pub told-lt : k < s → ltb k n ≡ true
  told-lt h = lt-ltb k n (rw e at h)

  pub told-ge : s ≤ k → ltb k n ≡ false
  told-ge h = le-ltb k n (rw e at h)

-- that test itself as an answer
pub told-test : (n k s : ℕ) → s ≡ n → eqb s k ≡ eqb n k
told-test n k s e = rw e

-- a Bool that is made by the connectives, from left to right
module _ (t u r : Bool) where
  pub or_yes : t ≡ true → r ≡ true → r ≡ (t || u)
  or_yes h q = rw h q

  pub or_no : t ≡ false → r ≡ u → r ≡ (t || u)
  or_no h q = rw h q

  pub and_yes : t ≡ true → r ≡ u → r ≡ (t && u)
  and_yes h q = rw h q

  pub and_no : t ≡ false → r ≡ false → r ≡ (t && u)
  and_no h q = rw h q

module _ (t r : Bool) where
  pub not_yes : t ≡ true → r ≡ false → r ≡ not t
  not_yes h q = rw h q

  pub not-no : t ≡ false → r ≡ true → r ≡ not t
  not-no h q = rw h q

pub ruleset cases = (if_yes, if_no, told, told-eq, told-ne, told-lt, told-ge, told-test, or_yes, or_no, and_yes, and_no, not_yes, not-no, lt-ltb, le-ltb, le-leb, lt-leb, eq-eqb, ne_eqb)
