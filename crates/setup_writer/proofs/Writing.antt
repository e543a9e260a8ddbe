-- The file of a setup part by part. Assumes nothing.
use Prim.Native.Nat.{ℕ, ◌+◌, ◌*◌, ◌≤◌}
use mathlib.Core.Path.{◌≡◌, refl, ap, ◌∙◌}
use mathlib.Core.List.{List, ◌∷◌, ◌++◌, append-nil}
use native.Mathlib.Omega.{arith}
use lib.ListN.{length, length-append}
use Rattle.std.specs.Prelude.{Option, None, Some}
use Rattle.basics.specs.Lay.{laid_at, Writes}
use Rattle.basics.proofs.Laying.{then-writes}
use Rattle.setup_file.specs.Setup.{Setup, kind_of, word_body}
use Rattle.setup_file.specs.File.{Piece, piece_if, pieces_of, entries_from, bodies_of, bytes_of, file_of}
use Rattle.setup_file.specs.declared.kind.Kind.TheVariants.{Registers, Control, Batch}
use Rattle.setup_file.proofs.Pieces.{entries-append, bodies-append}
use Rattle.setup_writer.specs.private.Layout.{number_in, count_of, registers_at, control_at, batch_at, entry_in, contents_of, bodies_in}
use Rattle.setup_writer.specs.Write.{bytes_in, clean_part, judged_of, written_of}

-- a part that is there or not, as a piece of the file
count-piece : (kind : ℕ) (b : Option (List ℕ)) → length (piece_if kind b) ≡ number_in b
count-piece kind None = refl
count-piece kind (Some b) = refl

count_word : (x : Option ℕ) → number_in (word_body x) ≡ number_in x
count_word None = refl
count_word (Some x) = refl

bodies-piece : (kind : ℕ) (b : Option (List ℕ)) → bodies_of (piece_if kind b) ≡ bytes_in b
unfolding bodies_of
bodies-piece kind None = refl
bodies-piece kind (Some b) = append-nil b

entries-piece : (kind at : ℕ) (b : Option (List ℕ)) → entries_from at (piece_if kind b) ≡ entry_in kind at b
unfolding entries_from
entries-piece kind at None = refl
entries-piece kind at (Some b) = refl

length-entry : (kind at : ℕ) (b : Option (List ℕ)) → length (entry_in kind at b) ≡ 5 * number_in b
length-entry kind at None = refl
length-entry kind at (Some b) = refl

module _ (s : Setup) where
  abbrev pair : Option (List ℕ)
  pair = word_body s.control

  -- the pieces, each by its part
  abbrev first : List Piece
  first = piece_if (kind_of Registers) s.registers

  abbrev second : List Piece
  second = piece_if (kind_of Control) pair

  abbrev third : List Piece
  third = piece_if (kind_of Batch) s.batch

  pub count-is : length (pieces_of s) ≡ count_of s
  count-is =
      simp length-append
      (omega (arith, count-piece (kind_of Registers) s.registers, count-piece (kind_of Control) pair, count-piece (kind_of Batch) s.batch, count_word s.control))

  ends-first : registers_at s + length (bodies_of first) ≡ control_at s
  ends-first = omega (arith, ap length (bodies-piece (kind_of Registers) s.registers))

  ends-second : control_at s + length (bodies_of second) ≡ batch_at s
  ends-second = omega (arith, ap length (bodies-piece (kind_of Control) pair))

  entries-are : entries_from (registers_at s) (first ++ (second ++ third))
      ≡ entry_in (kind_of Registers) (registers_at s) s.registers
      ++ (entry_in (kind_of Control) (control_at s) pair
      ++ entry_in (kind_of Batch) (batch_at s) s.batch)
  entries-are =
      entries-append (registers_at s) first (second ++ third)
      ∙ rw (
        ends-first,
        entries-append (control_at s) second third,
        ends-second,
        entries-piece (kind_of Registers) (registers_at s) s.registers,
        entries-piece (kind_of Control) (control_at s) pair,
        entries-piece (kind_of Batch) (batch_at s) s.batch,
      )

  bodies-are : bodies_of (first ++ (second ++ third)) ≡ bodies_in s
  bodies-are =
      bodies-append first (second ++ third)
      ∙ rw (
        bodies-append second third,
        bodies-piece (kind_of Registers) s.registers,
        bodies-piece (kind_of Control) pair,
        bodies-piece (kind_of Batch) s.batch,
      )

  pub file-is : file_of s ≡ contents_of s ++ bodies_in s
  unfolding bytes_of
  file-is =
      rw count-is
      (ap (λ (l : List ℕ). count_of s ∷ (l ++ bodies_of (first ++ (second ++ third)))) entries-are
      ∙ ap (λ (l : List ℕ). contents_of s ++ l) bodies-are)

  -- how long it is
  pub length-file : length (file_of s) ≡ batch_at s + length (bytes_in s.batch)
  length-file =
      rw file-is
      (simp length-append
      (omega (
        arith,
        length-entry (kind_of Registers) (registers_at s) s.registers,
        length-entry (kind_of Control) (control_at s) pair,
        length-entry (kind_of Batch) (batch_at s) s.batch,
        count_word s.control,
      )))

  -- the answer, as the writer finds it
  pub written_is : (room : ℕ) → judged_of (count_of s) (length (bytes_in s.batch)) (clean_part s.registers) (batch_at s + length (bytes_in s.batch)) room ≡ written_of s room
  written_is room = rw (count-is, length-file)

  -- contents and then bodies are the file
  pub file-laid : {t u v : List ℕ} {p q : ℕ} → batch_at s + length (bytes_in s.batch) ≤ length t → Writes t u 0 p (contents_of s)
      → Writes u v p q (bodies_in s) → v ≡ laid_at t 0 (file_of s)
  file-laid {t} {u} {v} {p} {q} room i j =
      let whole : Writes t v 0 q (file_of s) = rw file-is (then-writes i j) in
      let fits : 0 + length (file_of s) ≤ length t = omega (arith, length-file) in
      (whole fits).holds
