-- Sums over the numbers below n. Assumes nothing.
use Prim.Native.Nat.{ℕ, zero, suc, ◌+◌, ◌*◌, ◌/◌, ◌%◌, ◌<◌, ◌≤◌, min}
use mathlib.Core.Path.{◌≡◌, refl, ap, ap₂, sym, ◌∙◌}
use mathlib.Core.Bool.{Bool}
use mathlib.Core.List.{map}
use mathlib.Core.Logic.{⊎_elim}
use native.Mathlib.Nat.{add-zero, add-suc, zero-mul, suc-mul, mul-zero, mul-add, add-mul, add_assoc}
use native.Mathlib.Numerals.{add-one}
use native.Mathlib.Omega.{arith}
use lib.Arith.{digits_div, digits_mod}
use lib.Dec.{ltb}
use borrow.Author.Tests.{lt-ltb, le-ltb}
use Rattle.basics.specs.Bits.{num}
use Rattle.basics.specs.Count.{count}
use Rattle.basics.proofs.Counting.{each_last, each_same}
use Rattle.basics.proofs.Tests.{lt-or-ge}
use Rattle.tally.specs.Sums.{sum}
use Rattle.tally.proofs.Summing.{sum-last}

-- f of each number below n, added up
abbrev pub up_to : (ℕ → ℕ) → ℕ → ℕ
up_to f n = sum (map f (count 0 n))

up_none : (f : ℕ → ℕ) → up_to f 0 ≡ 0
unfolding sum count
up_none f = refl

up_suc : (f : ℕ → ℕ) (n : ℕ) → up_to f (suc n) ≡ up_to f n + f n
up_suc f n = ap (up_to f) (sym (add-one n)) ∙ ap sum (each_last f n) ∙ sum-last (map f (count 0 n)) (f n)

-- alike below n
pub up_same : (f g : ℕ → ℕ) (n : ℕ) → ((t : ℕ) → t < n → f t ≡ g t) → up_to f n ≡ up_to g n
up_same f g n h = ap sum (each_same f g n h)

-- m numbers and then n more
up-add : (f : ℕ → ℕ) (m n : ℕ) → up_to f (m + n) ≡ up_to f m + up_to (λ (j : ℕ). f (m + j)) n
up-add f m zero = ap (up_to f) (add-zero m) ∙ sym (add-zero (up_to f m)) ∙ ap (λ (x : ℕ). up_to f m + x) (sym (up_none (λ (j : ℕ). f (m + j))))
up-add f m (suc n) =
    ap (up_to f) (add-suc m n)
    ∙ up_suc f (m + n)
    ∙ ap (λ (x : ℕ). x + f (m + n)) (up-add f m n)
    ∙ add_assoc (up_to f m) (up_to (λ (j : ℕ). f (m + j)) n) (f (m + n))
    ∙ ap (λ (x : ℕ). up_to f m + x) (sym (up_suc (λ (j : ℕ). f (m + j)) n))

up-scale : (k : ℕ) (f : ℕ → ℕ) (n : ℕ) → up_to (λ (j : ℕ). k * f j) n ≡ k * up_to f n
up-scale k f zero = up_none (λ (j : ℕ). k * f j) ∙ sym (ap (λ (x : ℕ). k * x) (up_none f) ∙ mul-zero k)
up-scale k f (suc n) =
    up_suc (λ (j : ℕ). k * f j) n
    ∙ ap (λ (x : ℕ). x + k * f n) (up-scale k f n)
    ∙ sym (mul-add k (up_to f n) (f n))
    ∙ ap (λ (x : ℕ). k * x) (sym (up_suc f n))

-- m lines of w places each, where one factor goes by the line and one by the place in it
pub up-lines : (P Q : ℕ → ℕ) (w m : ℕ) → up_to (λ (t : ℕ). P (t / w) * Q (t % w)) (m * w) ≡ up_to P m * up_to Q w
up-lines P Q w zero =
    ap (up_to (λ (t : ℕ). P (t / w) * Q (t % w))) (zero-mul w) ∙ up_none _
    ∙ sym (ap (λ (x : ℕ). x * up_to Q w) (up_none P) ∙ zero-mul (up_to Q w))
up-lines P Q w (suc m) =
    ap (up_to (λ (t : ℕ). P (t / w) * Q (t % w))) (suc-mul m w)
    ∙ up-add (λ (t : ℕ). P (t / w) * Q (t % w)) (m * w) w
    ∙ ap₂ (λ (x y : ℕ). x + y) (up-lines P Q w m)
    (up_same (λ (j : ℕ). P ((m * w + j) / w) * Q ((m * w + j) % w)) (λ (j : ℕ). P m * Q j) w
    (λ j l. ap₂ (λ (x y : ℕ). P x * Q y) (digits_div m l) (digits_mod m l))
    ∙ up-scale (P m) Q w)
    ∙ sym (add-mul (up_to P m) (P m) (up_to Q w))
    ∙ ap (λ (x : ℕ). x * up_to Q w) (sym (up_suc P m))

-- how many numbers below n are below k
pub up-below : (k n : ℕ) → up_to (λ (i : ℕ). num (ltb i k)) n ≡ min k n
up-below k zero = up_none (λ (i : ℕ). num (ltb i k)) ∙ omega arith
up-below k (suc n) =
    up_suc (λ (i : ℕ). num (ltb i k)) n
    ∙ ap (λ (x : ℕ). x + num (ltb n k)) (up-below k n)
    ∙ ⊎_elim
    (λ (l : n < k). ap (λ (b : Bool). min k n + num b) (lt-ltb n k l) ∙ omega arith)
    (λ (l : k ≤ n). ap (λ (b : Bool). min k n + num b) (le-ltb n k l) ∙ omega arith)
    (lt-or-ge n k)
