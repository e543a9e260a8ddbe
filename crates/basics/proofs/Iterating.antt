-- Laws of `iterate`, and what a loop over it needs, whose invariant is `(i ≤ n) × (x ≡ iterate f i x₀)`. Assumes nothing.
use Prim.Native.Nat.{ℕ, zero, suc, ◌+◌, ◌*◌, ◌<◌, ◌≤◌}
use mathlib.Core.Path.{◌≡◌, refl, ap, ◌∙◌}
use native.Mathlib.Nat.{zero-add, suc-add, zero-mul, suc-mul, lt-suc_self}
use native.Mathlib.Omega.{arith}
use Rattle.basics.specs.Iterate.{iterate}

-- a step taken first may be taken last
iterate-in : {A : Type 0} (f : A → A) (n : ℕ) (x : A) → iterate f n (f x) ≡ f (iterate f n x)
unfolding iterate
iterate-in f zero x = refl
iterate-in f (suc n) x = ap f (iterate-in f n x)

module _ {A : Type 0} (f : A → A) where
  -- before the first turn
  pub iterate-none : (x : A) → x ≡ iterate f 0 x
  unfolding iterate
  iterate-none x = refl

  -- after the last turn
  pub iterate-done : (i n : ℕ) (x y : A) → i ≤ n → n ≤ i → y ≡ iterate f i x → y ≡ iterate f n x
  iterate-done i n x y h l e = let q : n ≡ i = omega arith in rw q e

  pub iterate-add : (m n : ℕ) (x : A) → iterate f (m + n) x ≡ iterate f m (iterate f n x)
  unfolding iterate
  iterate-add zero n x = rw zero-add
  iterate-add (suc m) n x = rw suc-add (ap f (iterate-add m n x))

  -- a run of places, each the next step of the one before it
  pub iterate-run : (at : ℕ → A) (n : ℕ) → ((k : ℕ) → k < n → f (at k) ≡ at (suc k)) → iterate f n (at 0) ≡ at n
  unfolding iterate
  iterate-run at zero h = refl
  iterate-run at (suc n) h =
      ap f (iterate-run at n (λ k l. h k (omega arith))) ∙ h n (lt-suc_self n)

  -- what every step keeps, any number of steps keep
  pub iterate-keeps : (P : A → Type 0) → ((x : A) → P x → P (f x)) → (n : ℕ) (x : A) → P x → P (iterate f n x)
  unfolding iterate
  iterate-keeps P k zero x p = p
  iterate-keeps P k (suc n) x p = k (iterate f n x) (iterate-keeps P k n x p)

  -- m turns of n steps each, where n steps from any place that P holds of are one g
  pub iterate-turns : (P : A → Type 0) (g : A → A) (n : ℕ) → ((x : A) → P x → iterate f n x ≡ g x) → ((x : A) → P x → P (g x))
      → (m : ℕ) (x : A) → P x → iterate f (m * n) x ≡ iterate g m x
  unfolding iterate
  iterate-turns P g n e k zero x p = rw zero-mul
  iterate-turns P g n e k (suc m) x p =
      rw (suc-mul, iterate-add, e x p) (iterate-turns P g n e k m (g x) (k x p) ∙ iterate-in g m x)
