-- Laws of the lines of answers. Assumes nothing.
use Prim.Native.Nat.{ℕ, zero, suc, ◌+◌, ◌*◌, ◌/◌, ◌≤◌, ◌<◌}
use mathlib.Core.Path.{◌≡◌, refl, sym, ap, ◌∙◌}
use mathlib.Core.Bool.{Bool, true, false}
use mathlib.Core.List.{List, [], ◌∷◌, ◌++◌, append_assoc}
use native.Mathlib.Omega.{arith}
use lib.ListN.{length, take, drop, length-append, length-take}
use borrow.Author.Tests.{le-leb, lt-leb}
use Rattle.basics.specs.Lay.{laid_at, Writes}
use Rattle.basics.proofs.Cases.{if_yes, if_no}
use Rattle.answer.specs.Answer.{bytes_of}
use Rattle.answer.specs.declared.Answer.{Answer}
use Rattle.text.specs.Hex.{hex_of}
use Rattle.text.specs.Lines.{per_line, rows_of}
use Rattle.text.specs.private.Adds.{Adds}
use Rattle.text.proofs.Hexing.{length-hex}
use Rattle.text.proofs.Lining.{rows_none, rows-first}
use Rattle.replay.specs.Run.{written_of}
use Rattle.replay.proofs.Replaying.{length-written, written-first}
use Rattle.answer_lines.specs.Lines.{odd_of, line_end_of, answer_lines_of}
use Rattle.answer_lines.specs.Marked.{answer_of, marked_of, lines_in, marked_length, lines_room, put_lines, behind_lines, WritesLines, lines_fit, with_lines}

-- answers that were written one after the other, on their lines
lines_rows : (l : List Answer) → rows_of marked_of (length l) (written_of l) ≡ answer_lines_of l
unfolding answer_lines_of marked_of odd_of
lines_rows [] = rows_none marked_of (written_of [])
lines_rows (a ∷ l) =
    rw (rows-first marked_of (length l) (written_of (a ∷ l)), written-first a l) (ap (λ (w : List ℕ). marked_of (bytes_of a) ++ w) (lines_rows l))

pub lines-answers : (l : List Answer) → lines_in (written_of l) ≡ answer_lines_of l
unfolding lines_in
lines-answers l =
    let n : length (written_of l) / per_line ≡ length l = omega (arith, length-written l) in
    rw n (lines_rows l)

-- no line is longer than a marked one
length-end : (odd : Bool) → length (line_end_of odd) ≤ length (line_end_of true)
length-end true = omega arith
length-end false = omega arith

pub length_marked : (bytes : List ℕ) → length bytes ≤ per_line → length (marked_of bytes) ≤ marked_length
unfolding marked_of
length_marked bytes h = simp (length-append, length-hex) (omega (arith, length-end (odd_of (answer_of bytes))))

length-rows : (n : ℕ) (bytes : List ℕ) → length (rows_of marked_of n bytes) ≤ marked_length * n
length-rows zero bytes = rw (rows_none marked_of bytes) (omega arith)
length-rows (suc n) bytes =
    let first = length_marked (take per_line bytes) (simp length-take (omega arith)) in
    let rest = length-rows n (drop per_line bytes) in
    rw (rows-first marked_of n bytes) (simp length-append (omega (arith, first, rest)))

pub length-answers : (l : List Answer) → length (answer_lines_of l) ≤ marked_length * length l
length-answers l = rw (← lines_rows l) (length-rows (length l) (written_of l))

-- answers after answers, on their lines
pub lines-append : (l m : List Answer) → answer_lines_of (l ++ m) ≡ answer_lines_of l ++ answer_lines_of m
unfolding answer_lines_of
lines-append [] m = refl
lines-append (a ∷ l) m =
    let first = hex_of (bytes_of a) ++ line_end_of (odd_of a) in
    ap (λ (w : List ℕ). first ++ w) (lines-append l m) ∙ sym (append_assoc first (answer_lines_of l) (answer_lines_of m))

-- What `put_answers` ensures: when the lines have room and are laid, by a writer of them,
module _ (t : List ℕ) (p : ℕ) (bytes : List ℕ) where
  abbrev Puts : List ℕ → ℕ → Type 0
  Puts u q =
      (q ≡ behind_lines t p bytes)
      × ((u ≡ put_lines t p bytes) × ((bytes ≡ bytes) × WritesLines t u p q bytes))

  pub puts-lines : {u : List ℕ} {q : ℕ} → p + marked_length * (length bytes / per_line) ≤ length t
      → Writes t u p q (rows_of marked_of (length bytes / per_line) bytes) → Puts u q
  unfolding lines_in
  puts-lines {u} {q} room w =
      let yes : lines_room t p bytes ≡ true = le-leb (p + marked_length * (length bytes / per_line)) (length t) room in
      let laid = w (omega (arith, length-rows (length bytes / per_line) bytes)) in (
        if_yes _ (p + length (lines_in bytes)) p q yes laid.place,
        (if_yes _ (laid_at t p (lines_in bytes)) t u yes laid.holds, (refl, λ _. laid)),
      )

  -- and when they have not, and nothing is done
  pub puts-nothing : length t < p + marked_length * (length bytes / per_line) → Puts t p
  puts-nothing full =
      let no : lines_room t p bytes ≡ false = lt-leb (p + marked_length * (length bytes / per_line)) (length t) full in
      (if_no _ _ p p no refl, (if_no _ _ t t no refl, (refl, λ room. absurd (omega arith))))

-- a text with the lines that had room, and one without those that had not
module _ (room : ℕ) (t bytes : List ℕ) where
  pub put-lines : {u : List ℕ} → length t + marked_length * (length bytes / per_line) ≤ room → Adds room t u (rows_of marked_of (length bytes / per_line) bytes)
      → u ≡ with_lines room t bytes
  unfolding lines_in
  put-lines {u} h a =
      let yes = le-leb (length t + marked_length * (length bytes / per_line)) room h in
      if_yes (lines_fit room t bytes) (t ++ lines_in bytes) t u yes (a.holds (omega (arith, length-rows (length bytes / per_line) bytes)))

  pub put-none : room < length t + marked_length * (length bytes / per_line) → t ≡ with_lines room t bytes
  put-none h = if_no (lines_fit room t bytes) (t ++ lines_in bytes) t t (lt-leb (length t + marked_length * (length bytes / per_line)) room h) refl

  -- so whoever knows of the room knows what it is
  pub adds-lines : {u : List ℕ} → u ≡ with_lines room t bytes → length t + marked_length * (length bytes / per_line) ≤ room → u ≡ t ++ lines_in bytes
  adds-lines e h =
      let yes = le-leb (length t + marked_length * (length bytes / per_line)) room h in
      e ∙ sym (if_yes (lines_fit room t bytes) (t ++ lines_in bytes) t (t ++ lines_in bytes) yes refl)
