-- A number with one bit replaced: the bit is the new one, every other is kept, and there are no more bits than before. So it is what the
-- code makes with `|` and `&`. Assumes nothing.
use Rattle.std.proofs.Common.{◌≡◌, ◌≢◌, ℕ, ◌+◌, ◌-◌, ◌*◌, ◌/◌, ◌%◌, ◌^◌, ◌<◌, ◌≤◌, suc, sym, ap, ◌∙◌, arith, eqb}
use Rattle.std.proofs.lemmas.Nat.Bits.{bit_at-suc, bit_at_cat_low, bit_at_cat_high, bit_at_set_same, bit_at_set_other, bit_at_clear_same, bit_at_clear_other, same_from_bits_below}
use Rattle.std.proofs.lemmas.Nat.{or_lt}
use Rattle.std.specs.Int.{bit_at, bit_not, w16}
use Rattle.std.specs.Int.Bits.{bit_or, bit_and, and_lt}
use mathlib.Core.Logic.{⊎_elim}
use native.Mathlib.Nat.{mod-lt}
use lib.Pow.{pow_pos, pow-add, shr_lt, high}
use lib.Arith.{digits_lt}
use Rattle.basics.specs.Bits.{num}
use Rattle.basics.proofs.Tests.{lt-or-ge}
use Rattle.control.specs.Write.{put_bit}

-- ---- bit by bit

parts : (k n : ℕ) → n / 2 ^ k * 2 ^ k + n % 2 ^ k ≡ n
parts k n = let p : 0 < 2 ^ k = pow_pos k in omega arith

-- bit k itself
pub put_same : (k v bits : ℕ) → v < 2 → bit_at (put_bit k v bits) k ≡ v
unfolding put_bit
put_same k v bits h =
    rw (high (bits / 2 ^ k / 2 * 2 + v) k (mod-lt bits (pow_pos k))) (omega arith)

put-below : (j k v bits : ℕ) → j < k → bit_at (put_bit k v bits) j ≡ bit_at bits j
unfolding put_bit
put-below j k v bits l =
    bit_at_cat_low (bits / 2 ^ k / 2 * 2 + v) k (bits % 2 ^ k) j l
    ∙ sym (bit_at_cat_low (bits / 2 ^ k) k (bits % 2 ^ k) j l)
    ∙ ap (λ (n : ℕ). bit_at n j) (parts k bits)

put-above : (j k v bits : ℕ) → v < 2 → k < j → bit_at (put_bit k v bits) j ≡ bit_at bits j
unfolding put_bit
put-above j k v bits h l =
    let less : bits % 2 ^ k < 2 ^ k = mod-lt bits (pow_pos k) in
    let e : j - k ≡ suc (j - k - 1) = omega arith in
    let half : (bits / 2 ^ k / 2 * 2 + v) / 2 ≡ bits / 2 ^ k / 2 = omega arith in
    let same : bit_at (bits / 2 ^ k / 2 * 2 + v) (j - k) ≡ bit_at (bits / 2 ^ k) (j - k) = rw (e, bit_at-suc, bit_at-suc, half) in
    bit_at_cat_high (bits / 2 ^ k / 2 * 2 + v) k (bits % 2 ^ k) j less (omega arith)
    ∙ same
    ∙ sym (bit_at_cat_high (bits / 2 ^ k) k (bits % 2 ^ k) j less (omega arith))
    ∙ ap (λ (n : ℕ). bit_at n j) (parts k bits)

-- a bit other than k, wherever it lies
pub put_other : (j k v bits : ℕ) → v < 2 → j ≢ k → bit_at (put_bit k v bits) j ≡ bit_at bits j
put_other j k v bits h ne =
    ⊎_elim (λ (l : j < k). put-below j k v bits l) (λ (l : k ≤ j). put-above j k v bits h (omega (arith, ne))) (lt-or-ge j k)

-- ---- its width

put-lt-at : (j k v bits : ℕ) → v < 2 → bits < 2 ^ ((j + 1) + k) → put_bit k v bits < 2 ^ ((j + 1) + k)
unfolding put_bit
put-lt-at j k v bits hv hb =
    let two : 2 ^ (j + 1) ≡ 2 ^ j * 2 = pow-add 2 j 1 in
    let q : bits / 2 ^ k < 2 ^ (j + 1) = shr_lt (j + 1) k hb in
    let d : bits / 2 ^ k / 2 * 2 + v < 2 ^ (j + 1) = omega arith in
    rw (pow-add 2 (j + 1) k) (digits_lt d (mod-lt bits (pow_pos k)))

-- over the width n
put-lt : (n k v bits : ℕ) → k < n → v < 2 → bits < 2 ^ n → put_bit k v bits < 2 ^ n
put-lt n k v bits hk hv hb =
    let e : n ≡ ((n - (k + 1)) + 1) + k = omega arith in
    rw e (put-lt-at (n - (k + 1)) k v bits hv (rw e at hb))

-- ---- what the code makes

module _ (k bits : ℕ) (hk : k < 16) (hb : bits < 65536) where
  pub set_is_put : bit_or bits (1 * 2 ^ k % 2 ^ 16) ≡ put_bit k 1 bits
  set_is_put =
      let put : (i : ℕ) → i < 16 → bit_at (bit_or bits (1 * 2 ^ k % 2 ^ 16)) i ≡ bit_at (put_bit k 1 bits) i = λ i l. grind (arith, bit_at_set_same w16 bits k hk, bit_at_set_other w16 bits k hk i, put_same k 1 bits (omega arith), put_other i k 1 bits (omega arith)) in
      same_from_bits_below 16 _ _ (or_lt 16 bits _ hb (omega arith)) (put-lt 16 k 1 bits hk (omega arith) hb) put

  pub clear_is_put : bit_and bits (bit_not w16 (1 * 2 ^ k % 2 ^ 16)) ≡ put_bit k 0 bits
  clear_is_put =
      let put : (i : ℕ) → i < 16 → bit_at (bit_and bits (bit_not w16 (1 * 2 ^ k % 2 ^ 16))) i ≡ bit_at (put_bit k 0 bits) i = λ i l. grind (arith, bit_at_clear_same w16 bits k hk, bit_at_clear_other w16 bits k hk i l, put_same k 0 bits (omega arith), put_other i k 0 bits (omega arith)) in
      same_from_bits_below 16 _ _ (and_lt 16 bits _ hb (omega arith)) (put-lt 16 k 0 bits hk (omega arith) hb) put

pub odd_num : (a : ℕ) → num (eqb (a % 2) 1) ≡ a % 2
odd_num a = grind arith
