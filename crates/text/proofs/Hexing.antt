-- Laws of hex digits. Assumes nothing.
use Prim.Native.Nat.{ℕ, ◌+◌, ◌*◌, ◌<◌}
use mathlib.Core.Path.{◌≡◌, refl, ap, ◌∙◌}
use mathlib.Core.List.{List, [], ◌∷◌, ◌++◌}
use native.Mathlib.Omega.{arith}
use lib.ListN.{length, get_or, take}
use Rattle.basics.proofs.Laying.{take_next}
use Rattle.text.specs.Hex.{pair_of, hex_of}

-- two digits for each byte
pub length-pair : (b : ℕ) → length (pair_of b) ≡ 2
unfolding pair_of
length-pair b = refl

pub length-hex : (bs : List ℕ) → length (hex_of bs) ≡ 2 * length bs
unfolding hex_of pair_of
length-hex [] = refl
length-hex (b ∷ bs) = omega (arith, length-hex bs)

-- the digits of joined bytes are the digits joined
pub hex-append : (xs bs : List ℕ) → hex_of (xs ++ bs) ≡ hex_of xs ++ hex_of bs
unfolding hex_of pair_of
hex-append [] bs = refl
hex-append (x ∷ xs) bs = ap (λ (l : List ℕ). pair_of x ++ l) (hex-append xs bs)

-- the digits of one byte more
pub hex-take : (src : List ℕ) (i : ℕ) → i < length src → hex_of (take (i + 1) src) ≡ hex_of (take i src) ++ pair_of (get_or src i 0)
unfolding hex_of pair_of
hex-take src i h = ap hex_of (take_next src i h) ∙ hex-append (take i src) (get_or src i 0 ∷ [])
