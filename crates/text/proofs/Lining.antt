-- Laws of lines. Assumes nothing.
use Prim.Native.Nat.{ℕ, zero, suc, ◌+◌, ◌-◌, ◌*◌, ◌/◌, ◌≤◌, ◌<◌, min}
use mathlib.Core.Path.{◌≡◌, refl, sym, ap, ap₂, ◌∙◌}
use mathlib.Core.Logic.{⊎_elim}
use mathlib.Core.List.{List, [], ◌++◌, append_assoc, append-nil}
use native.Mathlib.Numerals.{add-one}
use native.Mathlib.Omega.{arith}
use lib.ListN.{length, take, drop, length-append, length-take, length-drop}
use lib.Seq.{drop-drop, take_all, take_at, drop_at}
use Rattle.basics.specs.Lay.{Writes}
use Rattle.basics.proofs.Laying.{then-writes}
use Rattle.basics.proofs.Tests.{lt-or-ge}
use Rattle.text.specs.Lines.{per_line, line_of, rows_of, line_count, lines_of}
use Rattle.text.proofs.Hexing.{length-hex}

-- the bytes of a line
abbrev pub row_at : ℕ → List ℕ → List ℕ
row_at i bytes = take per_line (drop (per_line * i) bytes)

-- a part of the bytes that reaches as far as a line can is the line's
pub row-part : (bytes : List ℕ) (i to : ℕ) → per_line * i ≤ length bytes → to ≡ min (per_line * i + per_line) (length bytes)
    → take (to - per_line * i) (drop (per_line * i) bytes) ≡ row_at i bytes
row-part bytes i to h e =
    let rest = drop (per_line * i) bytes in
    let long : length rest ≡ length bytes - per_line * i = length-drop (per_line * i) bytes in
    ⊎_elim
    (λ (short : length bytes < per_line * i + per_line). take_all (to - per_line * i) rest (omega arith) ∙ sym (take_all per_line rest (omega arith)))
    (λ (full : per_line * i + per_line ≤ length bytes). ap (λ (k : ℕ). take k rest) (let k : to - per_line * i ≡ per_line = omega arith in k))
    (lt-or-ge (length bytes) (per_line * i + per_line))

module _ (f : List ℕ → List ℕ) where
  -- no line, and a first line before the others
  pub rows_none : (bytes : List ℕ) → rows_of f 0 bytes ≡ []
  unfolding rows_of
  rows_none bytes = refl

  pub rows-first : (n : ℕ) (bytes : List ℕ) → rows_of f (suc n) bytes ≡ f (take per_line bytes) ++ rows_of f n (drop per_line bytes)
  unfolding rows_of
  rows-first n bytes = refl

  -- one line more
  rows-suc : (n : ℕ) (bytes : List ℕ) → rows_of f (suc n) bytes ≡ rows_of f n bytes ++ f (row_at n bytes)
  unfolding rows_of
  rows-suc zero bytes = append-nil (f (row_at 0 bytes))
  rows-suc (suc n) bytes =
      let k : per_line + per_line * n ≡ per_line * suc n = omega arith in
      rw (← k, ← drop-drop (per_line * n) per_line bytes, append_assoc) (ap (λ (l : List ℕ). f (row_at 0 bytes) ++ l) (rows-suc n (drop per_line bytes)))

  -- a turn of a loop over the lines
  pub writes-row : {t u s : List ℕ} {p q r : ℕ} {part : List ℕ} (i : ℕ) (bytes : List ℕ) → Writes t u p q (rows_of f i bytes) → Writes u s q r (f part)
      → part ≡ row_at i bytes → Writes t s p r (rows_of f (i + 1) bytes)
  writes-row i bytes before row e = rw (add-one, rows-suc i bytes, ← e) (then-writes before row)

  -- the bytes of a whole line, and then those behind it
  rows-whole : (n : ℕ) (chunk rest : List ℕ) → length chunk ≡ per_line → rows_of f (suc n) (chunk ++ rest) ≡ f chunk ++ rows_of f n rest
  rows-whole n chunk rest h = rows-first n (chunk ++ rest) ∙ ap₂ (λ a b. f a ++ rows_of f n b) (take_at chunk rest per_line h) (drop_at chunk rest per_line h)

  -- what a loop over whole lines takes first
  pub rows-exact : (bytes chunk rest : List ℕ) → bytes ≡ chunk ++ rest → length chunk ≡ per_line
      → rows_of f (length bytes / per_line) bytes ≡ f chunk ++ rows_of f (length rest / per_line) rest
  rows-exact bytes chunk rest e h =
      let long : length bytes ≡ length chunk + length rest = ap length e ∙ length-append chunk rest in
      let n : length bytes / per_line ≡ suc (length rest / per_line) = omega arith in
      ap₂ (rows_of f) n e ∙ rows-whole (length rest / per_line) chunk rest h

  pub rows-few : (bytes : List ℕ) → length bytes < per_line → rows_of f (length bytes / per_line) bytes ≡ []
  rows-few bytes h =
      let none : length bytes / per_line ≡ 0 = omega arith in
      ap (λ (n : ℕ). rows_of f n bytes) none ∙ rows_none bytes

-- how long lines are
pub length-line : (bytes : List ℕ) → length (line_of bytes) ≡ 2 * length bytes + 1
unfolding line_of
length-line bytes = simp (length-append, length-hex)

length-rows : (n : ℕ) (bytes : List ℕ) → length (rows_of line_of n bytes) ≡ 2 * length (take (per_line * n) bytes) + n
unfolding rows_of
length-rows zero bytes = refl
length-rows (suc n) bytes = simp (length-append, length-line, length-rows n (drop per_line bytes), length-take, length-drop) (omega arith)

pub length-lines : (bytes : List ℕ) → length (lines_of bytes) ≡ 2 * length bytes + line_count (length bytes)
unfolding lines_of
length-lines bytes =
    length-rows (line_count (length bytes)) bytes
    ∙ ap (λ (l : List ℕ). 2 * length l + line_count (length bytes)) (take_all (per_line * line_count (length bytes)) bytes (omega arith))
