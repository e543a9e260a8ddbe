-- Laws of numbers in a row. Assumes nothing.
use Prim.Native.Nat.{ℕ, zero, suc, ◌+◌, ◌≤◌, ◌<◌}
use mathlib.Core.Path.{◌≡◌, refl, ap, ap₂, sym, ◌∙◌}
use mathlib.Core.List.Memᴰ
use mathlib.Core.List.{List, [], ◌∷◌, ◌++◌, map, map-append, Memᴰ}
use mathlib.Core.Logic.{⊎_elim}
use native.Mathlib.Nat.{add-zero, zero-add, add-suc, suc-add, eq-or-lt_of_le}
use native.Mathlib.Numerals.{add-one}
use native.Mathlib.Omega.{arith}
use lib.ListN.{length, get_or, length-map}
use Rattle.basics.specs.Count.{count}

-- one row after the other
pub count-append : (a m n : ℕ) → count a (m + n) ≡ count a m ++ count (a + m) n
unfolding count
count-append a zero n = rw (zero-add, add-zero)
count-append a (suc m) n = rw (suc-add, add-suc, ← suc-add) (ap (λ (l : List ℕ). a ∷ l) (count-append (suc a) m n))

-- just the numbers from its first on, below its end
pub mem-count : (x a n : ℕ) → a ≤ x → x < a + n → Memᴰ x (count a n)
unfolding count
mem-count x a zero h k = absurd (omega arith)
mem-count x a (suc n) h k =
    ⊎_elim (λ e. Memᴰ.head (sym e)) (λ (l : a < x). Memᴰ.tail (mem-count x (suc a) n l (omega arith))) (eq-or-lt_of_le h)

pub count-mem : (x a n : ℕ) → Memᴰ x (count a n) → (a ≤ x) × (x < a + n)
unfolding count
count-mem x a zero m = absurd (Memᴰ.not-nil m)
count-mem x a (suc n) m =
    ⊎_elim (λ (e : x ≡ a). omega arith) (λ t. let q = count-mem x (suc a) n t in omega arith) (Memᴰ.cases_cons m)

pub length-count : (a n : ℕ) → length (count a n) ≡ n
unfolding count
length-count a zero = refl
length-count a (suc n) = ap suc (length-count (suc a) n)

-- the last of them
count-last : (a n : ℕ) → count a (suc n) ≡ count a n ++ ((a + n) ∷ [])
unfolding count
count-last a zero = ap (λ (x : ℕ). x ∷ []) (sym (add-zero a))
count-last a (suc n) =
    ap (λ (l : List ℕ). a ∷ l) (count-last (suc a) n ∙ ap (λ (x : ℕ). count (suc a) n ++ (x ∷ [])) (suc-add a n ∙ sym (add-suc a n)))

-- what f makes of each number below n
module _ {A : Type 0} (f : ℕ → A) where
  pub each_none : map f (count 0 0) ≡ []
  unfolding count
  each_none = refl

  -- one more, as a loop takes it
  pub each_last : (n : ℕ) → map f (count 0 (n + 1)) ≡ map f (count 0 n) ++ (f n ∷ [])
  each_last n =
      ap (λ (m : ℕ). map f (count 0 m)) (add-one n)
      ∙ ap (map f) (count-last 0 n ∙ ap (λ (x : ℕ). count 0 n ++ (x ∷ [])) (zero-add n))
      ∙ map-append f (count 0 n) (n ∷ [])

  pub length-each : (n : ℕ) → length (map f (count 0 n)) ≡ n
  length-each n = length-map (count 0 n) f ∙ length-count 0 n

  each_from : (d : A) (a n k : ℕ) → k < n → get_or (map f (count a n)) k d ≡ f (a + k)
  unfolding count
  each_from d a zero k h = absurd (omega arith)
  each_from d a (suc n) zero h = ap f (sym (add-zero a))
  each_from d a (suc n) (suc k) h = each_from d (suc a) n k (omega arith) ∙ ap f (suc-add a k ∙ sym (add-suc a k))

  -- what stands at a place
  pub each_at : (d : A) (n k : ℕ) → k < n → get_or (map f (count 0 n)) k d ≡ f k
  each_at d n k h = each_from d 0 n k h ∙ ap f (zero-add k)

-- what is made alike of each number below n
module _ {A : Type 0} (f g : ℕ → A) where
  same_from : (a n : ℕ) → ((k : ℕ) → k < a + n → f k ≡ g k) → map f (count a n) ≡ map g (count a n)
  unfolding count
  same_from a zero h = refl
  same_from a (suc n) h = ap₂ (λ (x : A) (l : List A). x ∷ l) (h a (omega arith)) (same_from (suc a) n (λ k l. h k (omega arith)))

  pub each_same : (n : ℕ) → ((k : ℕ) → k < n → f k ≡ g k) → map f (count 0 n) ≡ map g (count 0 n)
  each_same n h = same_from 0 n (λ k l. h k (omega arith))
