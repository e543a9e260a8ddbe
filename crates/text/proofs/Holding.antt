-- Laws of a text in its room. Assumes nothing.
use Prim.Native.Nat.{ℕ, ◌+◌, ◌-◌, ◌<◌, ◌≤◌}
use mathlib.Core.Path.{◌≡◌, sym, ap, ◌∙◌}
use mathlib.Core.Logic.{⊎_elim}
use mathlib.Core.List.{List, ◌++◌}
use native.Mathlib.Omega.{arith}
use lib.ListN.{length, take, drop, replicate, length-append, length-take, length-replicate, take-append-drop}
use lib.Seq.{take_at, drop_at, drop-drop, length-take-le}
use Rattle.std.proofs.lemmas.List.{drop-replicate}
use Rattle.basics.specs.Lay.{laid_at, behind_of, put_at}
use Rattle.basics.proofs.Laying.{length-laid, put-has-room, put-not, behind-has-room, behind-not}
use Rattle.basics.proofs.Tests.{lt-or-ge}
use Rattle.text.specs.Owned.{appended, Holds}
use Rattle.text.proofs.Adding.{puts-room, puts-full}

-- a text stands so where zeros are behind it,
pub holds : {room used : ℕ} (bytes : List ℕ) → used ≤ room → length bytes ≡ room → drop used bytes ≡ replicate (room - used) 0 → Holds room bytes used
holds {room} {used} bytes within long zeros =
    let count : length (take used bytes) ≡ used = length-take-le used bytes (omega arith) in
    record { within = within; count = count; filled = rw (count, ← zeros) (take-append-drop used bytes) }

-- and nowhere else
module _ {room used : ℕ} {bytes : List ℕ} (h : Holds room bytes used) where
  pub length-room : length bytes ≡ room
  length-room =
      let all : length (take used bytes ++ replicate (room - length (take used bytes)) 0) ≡ room =
      simp (length-append, length-replicate) (omega (arith, h.count, h.within)) in
      sym (ap length h.filled) ∙ all

  zeros-behind : drop used bytes ≡ replicate (room - used) 0
  zeros-behind =
      ap (drop used) (sym h.filled)
      ∙ drop_at (take used bytes) (replicate (room - length (take used bytes)) 0) used h.count
      ∙ ap (λ (n : ℕ). replicate (room - n) 0) h.count

  -- What a writer does to the bytes from there on it does to the text: what has room is put at the end, and what has none is not.
  module _ (w : List ℕ) where
    laid-take : used + length w ≤ length bytes → take (used + length w) (laid_at bytes used w) ≡ take used bytes ++ w
    unfolding laid_at
    laid-take fit =
        let long : length (take used bytes ++ w) ≡ used + length w = simp (length-append, length-take) (omega arith) in
        take_at (take used bytes ++ w) (drop (used + length w) bytes) (used + length w) long

    laid-drop : used + length w ≤ length bytes → drop (used + length w) (laid_at bytes used w) ≡ replicate (room - (used + length w)) 0
    unfolding laid_at
    laid-drop fit =
        let long : length (take used bytes ++ w) ≡ used + length w = simp (length-append, length-take) (omega arith) in
        let rest : room - used - length w ≡ room - (used + length w) = omega arith in
        rw (drop_at (take used bytes ++ w) (drop (used + length w) bytes) (used + length w) long, ← drop-drop (length w) used bytes, zeros-behind, drop-replicate {X = ℕ} (length w) (room - used) 0, rest)

    pub put-appends : take (behind_of bytes used w) (put_at bytes used w) ≡ appended room (take used bytes) w
    put-appends =
        ⊎_elim
        (λ (none : length bytes < used + length w).
        rw (behind-not bytes used w none, put-not bytes used w none) (puts-full room (take used bytes) w (omega (arith, h.count, length-room))))
        (λ (fit : used + length w ≤ length bytes).
        rw (behind-has-room bytes used w fit, put-has-room bytes used w fit)
        (puts-room room (take used bytes) w (omega (arith, h.count, length-room)) (laid-take fit)))
        (lt-or-ge (length bytes) (used + length w))

    put-holds : Holds room (put_at bytes used w) (behind_of bytes used w)
    put-holds =
        ⊎_elim
        (λ (none : length bytes < used + length w). rw (behind-not bytes used w none, put-not bytes used w none) h)
        (λ (fit : used + length w ≤ length bytes).
        rw (behind-has-room bytes used w fit, put-has-room bytes used w fit)
        (holds (laid_at bytes used w) (omega (arith, length-room)) (length-laid bytes used w fit ∙ length-room) (laid-drop fit)))
        (lt-or-ge (length bytes) (used + length w))

    -- so of a writer that gives the place behind: u is what the bytes are then
    pub put-writes : {t u : List ℕ} {q : ℕ} → take used bytes ≡ t → q ≡ behind_of bytes used w → u ≡ put_at bytes used w → take q u ≡ appended room t w
    put-writes {t} {u} {q} e place laid = rw (place, laid, ← e) put-appends

    pub still-holds : {u : List ℕ} {q : ℕ} → q ≡ behind_of bytes used w → u ≡ put_at bytes used w → Holds room u q
    still-holds {u} {q} place laid = rw (place, laid) put-holds
