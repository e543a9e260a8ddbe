-- Laws of `laid_at` and `put_at`: layings one after the other. Assumes nothing.
use Prim.Native.Nat.{ℕ, ◌+◌, ◌≤◌, ◌<◌}
use mathlib.Core.Path.{◌≡◌, refl, sym, ap, ◌∙◌}
use mathlib.Core.Bool.{Bool, true, false}
use mathlib.Core.Logic.{◌↔◌, ⊎_elim}
use mathlib.Core.List.{List, [], ◌∷◌, ◌++◌, append_assoc, append-nil}
use native.Mathlib.Nat.{add-zero, zero-add}
use native.Mathlib.Numerals.{add-one}
use native.Mathlib.Omega.{arith}
use lib.Dec.{leb}
use borrow.Author.Tests.{le-leb, lt-leb, leb-true, leb-false}
use lib.ListN.{length, get_or, set, take, drop, length-append, length-take, length-drop, take-append-drop}
use lib.Seq.{take_at, take-length, drop_at, drop-drop, sets, sets-eq, take-suc}
use borrow.Rule.Slice.PartMut.{put_mid}
use Rattle.std.proofs.lemmas.Slice.{put_mid-paste}
use Rattle.basics.specs.Lay.{laid_at, room_at, put_at, behind_of, Laid, Writes}
use Rattle.basics.proofs.Cases.{if_yes, if_no}
use Rattle.basics.proofs.Tests.{lt-or-ge}

module _ (t : List ℕ) (p : ℕ) where
  -- laying what has room keeps the buffer's length
  pub length-laid : (w : List ℕ) → p + length w ≤ length t → length (laid_at t p w) ≡ length t
  unfolding laid_at
  length-laid w h = simp (length-append, length-take, length-drop) (omega arith)

  pub laid_none : laid_at t p [] ≡ t
  unfolding laid_at
  laid_none = rw (append-nil, add-zero, take-append-drop)

  -- one after the other is both at once
  pub laid-laid : (v w : List ℕ) (q : ℕ) → q ≡ p + length v → q + length w ≤ length t → laid_at (laid_at t p v) q w ≡ laid_at t p (v ++ w)
  unfolding laid_at
  laid-laid v w q e h =
      let len : length (take p t ++ v) ≡ q = simp (length-append, length-take) (omega arith) in
      let far : (p + length v) + length w ≡ p + length (v ++ w) = simp length-append (omega arith) in
      let back : drop (q + length w) (take p t ++ v ++ drop (p + length v) t) ≡ drop (p + length (v ++ w)) t =
      sym (drop-drop (length w) q (take p t ++ v ++ drop (p + length v) t))
      ∙ ap (λ (l : List ℕ). drop (length w) l) (drop_at (take p t ++ v) (drop (p + length v) t) q len)
      ∙ drop-drop (length w) (p + length v) t
      ∙ ap (λ (k : ℕ). drop k t) far in
      rw (back, take_at (take p t ++ v) (drop (p + length v) t) q len) (ap (λ (l : List ℕ). l ++ drop (p + length (v ++ w)) t) (append_assoc (take p t) v w))

  -- stores one by one of a list that is written out
  pub laid-sets : (w : List ℕ) → p + length w ≤ length t → sets t p w ≡ laid_at t p w
  unfolding laid_at
  laid-sets w h = sets-eq w t p h

  -- a copy of w into the part of the buffer from p on lays it: k is the part's length
  pub part_laid : (k : ℕ) (w : List ℕ) → length w ≡ k → put_mid p k t w ≡ laid_at t p w
  unfolding laid_at
  part_laid k w h =
      put_mid-paste p k t w w (length w) refl h refl
      ∙ ap (λ (l : List ℕ). take p t ++ l ++ drop (p + length w) t) (take-length w)

  -- a store with room lays its bytes, and one without leaves the buffer
  pub put-has-room : (w : List ℕ) → p + length w ≤ length t → put_at t p w ≡ laid_at t p w
  put-has-room w h = sym (if_yes (room_at t p w) (laid_at t p w) t (laid_at t p w) (le-leb (p + length w) (length t) h) refl)

  pub put-not : (w : List ℕ) → length t < p + length w → put_at t p w ≡ t
  put-not w h = sym (if_no (room_at t p w) (laid_at t p w) t t (lt-leb (p + length w) (length t) h) refl)

  -- and so its place
  pub behind-has-room : (w : List ℕ) → p + length w ≤ length t → behind_of t p w ≡ p + length w
  behind-has-room w h = sym (if_yes (room_at t p w) (p + length w) p (p + length w) (le-leb (p + length w) (length t) h) refl)

  pub behind-not : (w : List ℕ) → length t < p + length w → behind_of t p w ≡ p
  behind-not w h = sym (if_no (room_at t p w) (p + length w) p p (lt-leb (p + length w) (length t) h) refl)

-- a store with room, behind what is laid already
pub laid-put : (t : List ℕ) (p : ℕ) (v w : List ℕ) (q : ℕ) → q ≡ p + length v → q + length w ≤ length t → put_at (laid_at t p v) q w ≡ laid_at t p (v ++ w)
laid-put t p v w q e h =
    let len : length (laid_at t p v) ≡ length t = length-laid t p v (omega arith) in
    put-has-room (laid_at t p v) q w (omega arith) ∙ laid-laid t p v w q e h

-- one byte more
pub laid_next : (t : List ℕ) (p : ℕ) (v : List ℕ) (x q : ℕ) → q ≡ p + length v → q + 1 ≤ length t → set (laid_at t p v) q x ≡ laid_at t p (v ++ (x ∷ []))
laid_next t p v x q e h =
    let len : length (laid_at t p v) ≡ length t = length-laid t p v (omega arith) in
    laid-sets (laid_at t p v) q (x ∷ []) (omega arith) ∙ laid-laid t p v (x ∷ []) q e h

-- laid at the front, w stands first
pub laid-front : (t w : List ℕ) → laid_at t 0 w ≡ w ++ drop (length w) t
unfolding laid_at
laid-front t w = rw zero-add

-- the part of s before i + 1 ends with what stands at i
pub take_next : (s : List ℕ) (i : ℕ) → i < length s → take (i + 1) s ≡ take i s ++ (get_or s i 0 ∷ [])
take_next s i h = rw add-one (take-suc s i 0 h)

-- a buffer keeps its length
pub laid_same : {t u : List ℕ} {p q : ℕ} {w : List ℕ} → Laid t u p q w → length u ≡ length t
laid_same {t} {u} {p} {q} {w} a = ap length a.holds ∙ length-laid t p w (omega (arith, a.place, a.within))

-- two writers one after the other
pub then-laid : {t u s : List ℕ} {p q r : ℕ} {v w : List ℕ} → Laid t u p q v → Laid u s q r w → Laid t s p r (v ++ w)
then-laid {t} {u} {s} {p} {q} {r} {v} {w} a b =
    let len : length u ≡ length t = laid_same a in
    let far : r ≤ length t = omega (arith, b.within) in
    record {
      place = simp length-append (omega (arith, a.place, b.place));
      within = far;
      holds = b.holds ∙ rw a.holds (laid-laid t p v w q a.place (omega (arith, b.place)));
    }

-- nothing is written without a step
pub writes_nothing : {t : List ℕ} {p : ℕ} → Writes t t p p []
writes_nothing {t} {p} = λ room. record { place = omega arith; within = omega arith; holds = sym (laid_none t p) }

-- two writers one after the other are one writer, of the bytes of both
pub then-writes : {t u s : List ℕ} {p q r : ℕ} {v w : List ℕ} → Writes t u p q v → Writes u s q r w → Writes t s p r (v ++ w)
then-writes {t} {u} {s} {p} {q} {r} {v} {w} a b =
    λ room.
    let both : length (v ++ w) ≡ length v + length w = length-append v w in
    let first : Laid t u p q v = a (omega arith) in
    let len : length u ≡ length t = laid_same first in
    then-laid first (b (omega (arith, first.place)))

-- what a test of room says that a callee made: b is its result
module _ (m n : ℕ) {b : Bool} (test : b ≡ leb m n) where
  pub told-room : b ≡ true → m ≤ n
  told-room h = leb-true m n (sym test ∙ h)

  pub told-full : b ≡ false → n < m
  told-full h = leb-false m n (sym test ∙ h)

-- What every public writer ensures of its bytes w, for all cases: the place behind them, what the buffer then holds, that another buffer
-- s is as it was, and what the next writer needs. It has shown it when w is laid,
pub put-laid : {t u s : List ℕ} {p q : ℕ} {w : List ℕ} → Laid t u p q w → (q ≡ behind_of t p w) × ((u ≡ put_at t p w) × ((s ≡ s) × Writes t u p q w))
put-laid {t} {u} {s} {p} {q} {w} a =
    let room : p + length w ≤ length t = omega (arith, a.place, a.within) in
    (a.place ∙ sym (behind-has-room t p w room), (a.holds ∙ sym (put-has-room t p w room), (refl, λ h. a)))

module _ (t : List ℕ) (p : ℕ) (w : List ℕ) where
  -- or when w has no room and nothing is done
  pub put-nothing : {s : List ℕ} → length t < p + length w → (p ≡ behind_of t p w) × ((t ≡ put_at t p w) × ((s ≡ s) × Writes t t p p w))
  put-nothing h = (sym (behind-not t p w h), (sym (put-not t p w h), (refl, λ room. absurd (omega arith))))

  -- bytes, one at least, had no room where the place is given back as it was, and nowhere else
  pub told-by-place : (q : ℕ) → 1 ≤ length w → q ≡ behind_of t p w → (q ≡ p) ↔ (length t < p + length w)
  told-by-place q some e = (
    λ same.
        ⊎_elim
        (λ (no : length t < p + length w). no)
        (λ (room : p + length w ≤ length t). absurd (omega (arith, e ∙ behind-has-room t p w room)))
        (lt-or-ge (length t) (p + length w)),
    λ no. e ∙ behind-not t p w no,
  )
