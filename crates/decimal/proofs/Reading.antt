-- The digits of a number name that number. Assumes nothing.
use Prim.Native.Nat.{ℕ, zero, suc, ◌+◌, ◌*◌, ◌-◌, ◌/◌, ◌%◌, ◌^◌, ◌<◌, ◌≤◌}
use mathlib.Core.Path.{◌≡◌, refl, ap, sym, ◌∙◌}
use mathlib.Core.List.{List, [], ◌∷◌, ◌++◌}
use mathlib.Core.Logic.{⊎_elim}
use native.Mathlib.Nat.{pow-suc, div-lt_iff_lt-mul}
use native.Mathlib.Omega.{arith}
use lib.Dec.{lit<}
use lib.ListN.{length, get_or, length-append, get_or-append}
use lib.Seq.{get_or-append_seam}
use Rattle.basics.proofs.Tests.{lt-or-ge}
use Rattle.decimal.specs.Decimal.{decimal_in, most_digits, read_on, Digits}
use Rattle.decimal.proofs.Digits.{one-digit, more-digits}

read-append : (a : ℕ) (l m : List ℕ) → read_on a (l ++ m) ≡ read_on (read_on a l) m
unfolding read_on
read-append a [] m = refl
read-append a (d ∷ l) m = read-append (10 * a + (d - 48)) l m

read_one : (a x : ℕ) → read_on a ((48 + x) ∷ []) ≡ 10 * a + x
unfolding read_on
read_one a x = omega arith

below-ten : (k n : ℕ) → n < 10 → read_on 0 (decimal_in (suc k) n) ≡ n
below-ten k n l = ap (read_on 0) (one-digit k n l) ∙ read_one 0 (n % 10) ∙ omega arith

read-digits : (k n : ℕ) → n < 10 ^ suc k → read_on 0 (decimal_in (suc k) n) ≡ n
read-digits zero n h = below-ten 0 n (omega arith)
read-digits (suc k) n h =
    ⊎_elim
    (λ (l : n < 10). below-ten (suc k) n l)
    (λ (l : 10 ≤ n).
    ap (read_on 0) (more-digits (suc k) n l)
    ∙ read-append 0 (decimal_in (suc k) (n / 10)) ((48 + n % 10) ∷ [])
    ∙ read_one (read_on 0 (decimal_in (suc k) (n / 10))) (n % 10)
    ∙ ap (λ (x : ℕ). 10 * x + n % 10) (read-digits k (n / 10) ((div-lt_iff_lt-mul (lit< tt)).1 (rw (pow-suc 10 (suc k)) at h)))
    ∙ omega arith)
    (lt-or-ge n 10)

-- a digit at the end of digits
each_more : (l : List ℕ) (x i : ℕ) → x < 10 → ((j : ℕ) → j < length l → (48 ≤ get_or l j 0) × (get_or l j 0 ≤ 57))
    → i < length (l ++ ((48 + x) ∷ [])) → (48 ≤ get_or (l ++ ((48 + x) ∷ [])) i 0) × (get_or (l ++ ((48 + x) ∷ [])) i 0 ≤ 57)
each_more l x i h all k =
    ⊎_elim
    (λ (b : i < length l). rw (get_or-append l ((48 + x) ∷ []) 0 i b) (all i b))
    (λ (b : length l ≤ i).
    let last : i ≡ length l = omega (arith, length-append l ((48 + x) ∷ [])) in
    rw (last, get_or-append_seam l (48 + x) [] 0) (omega arith, omega arith))
    (lt-or-ge i (length l))

each-digit : (k n i : ℕ) → i < length (decimal_in k n) → (48 ≤ get_or (decimal_in k n) i 0) × (get_or (decimal_in k n) i 0 ≤ 57)
unfolding decimal_in
each-digit zero n i h = absurd (omega arith)
each-digit (suc k) n i h =
    ⊎_elim
    (λ (l : n < 10). rw (one-digit k n l) (each_more [] (n % 10) i (omega arith) (λ j m. absurd (omega arith)) (rw (one-digit k n l) at h)))
    (λ (l : 10 ≤ n).
    rw (more-digits k n l) (each_more (decimal_in k (n / 10)) (n % 10) i (omega arith) (each-digit k (n / 10)) (rw (more-digits k n l) at h)))
    (lt-or-ge n 10)

-- there is one, and it is `0` for 0 alone
some-digit : (k n : ℕ) → 0 < length (decimal_in (suc k) n)
some-digit k n =
    ⊎_elim
    (λ (l : n < 10). rw (one-digit k n l) (omega arith))
    (λ (l : 10 ≤ n). rw (more-digits k n l) (omega (arith, length-append (decimal_in k (n / 10)) ((48 + n % 10) ∷ []))))
    (lt-or-ge n 10)

first-of-one : (k n : ℕ) → n < 10 → get_or (decimal_in (suc k) n) 0 0 ≡ 48 → n ≡ 0
first-of-one k n l e = omega (arith, rw (one-digit k n l) at e)

first-digit : (k n : ℕ) → n < 10 ^ suc k → get_or (decimal_in (suc k) n) 0 0 ≡ 48 → n ≡ 0
first-digit zero n h e = first-of-one 0 n (omega arith) e
first-digit (suc k) n h e =
    ⊎_elim
    (λ (l : n < 10). first-of-one (suc k) n l e)
    (λ (l : 10 ≤ n).
    let tenth : n / 10 < 10 ^ suc k = (div-lt_iff_lt-mul (lit< tt)).1 (rw (pow-suc 10 (suc k)) at h) in
    let front = get_or-append (decimal_in (suc k) (n / 10)) ((48 + n % 10) ∷ []) 0 0 (some-digit k (n / 10)) in
    let none : n / 10 ≡ 0 = first-digit k (n / 10) tenth (sym front ∙ rw (more-digits (suc k) n l) at e) in
    absurd (omega arith))
    (lt-or-ge n 10)

-- twenty digits are enough for every number of 64 bits
pub digits : (n : ℕ) → Digits n
digits n = record {
  name = λ h. read-digits 19 n (omega (arith, h));
  each = each-digit most_digits n;
  first = λ h. first-digit 19 n (omega (arith, h));
}
