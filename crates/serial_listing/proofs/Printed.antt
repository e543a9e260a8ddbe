-- `PrintsTheListing` of specs/Printed.antt. Assumes nothing.
use Prim.Native.Nat.{ℕ, ◌%◌, ◌≤◌, ◌<◌}
use mathlib.Core.List.{List, [], ◌∷◌, ◌++◌}
use mathlib.Core.Logic.{⊎_elim}
use mathlib.Core.Path.{◌≡◌, refl, sym, ap, ap₂, ◌∙◌}
use native.Mathlib.Omega.{arith}
use lib.ListN.{length, length-append}
use borrow.Author.Tests.{le-ltb}
use Rattle.basics.specs.Choice.{when◌then◌else◌}
use Rattle.answer_lines.specs.Lines.{answer_lines_of}
use Rattle.answer_lines.proofs.Lined.{lines-append}
use Rattle.batch.specs.Fresh.{most_bytes, most_output, fresh_bench, fresh_run_of}
use Rattle.decimal.proofs.Digits.{one-digit}
use Rattle.every_line.specs.Cuts.{RoomFor, Same, last_of, answers_of, Roomy}
use Rattle.every_line.proofs.Cuts.{together}
use Rattle.every_replay.proofs.Counts.{sound}
use Rattle.line.specs.CallEnding.{call_ending_number}
use Rattle.line.specs.Line.{fresh_line, closing_of}
use Rattle.line.specs.declared.calls.Line.{Line}
use Rattle.line.proofs.Holding.{held-most}
use Rattle.lister.specs.Listing.{end_of, listed_of, batch_listing_of, listing_of}
use Rattle.replay.specs.Ending.{ending_number}
use Rattle.serial_text.specs.Turn.{turn_of, turn_text_of}
use Rattle.serial_text.specs.Ending.{last_text_of}
use Rattle.serial_listing.specs.Printed.{as_cuts, input_of, WithinOneRead, so_far_of, printed_of, PrintsTheListing}

-- the texts are the lines of all answers
lines-so-far : (l : Line) (cuts : List (List ℕ)) → so_far_of l cuts ≡ answer_lines_of (answers_of l (as_cuts cuts))
unfolding so_far_of answers_of turn_text_of answer_lines_of
lines-so-far l [] = refl
lines-so-far l (cut ∷ cuts) =
    let k = turn_of l cut in
    ap (λ (x : List ℕ). answer_lines_of k.answers ++ x) (lines-so-far k.line cuts) ∙ sym (lines-append k.answers (answers_of k.line (as_cuts cuts)))

-- each of them has room for the answers that it can give
read-roomy : (l : Line) (cuts : List (List ℕ)) → WithinOneRead cuts → Roomy l (as_cuts cuts)
unfolding WithinOneRead Roomy
read-roomy l [] h = tt
read-roomy l (cut ∷ cuts) h =
    (simp length-append (omega (arith, held-most l.held, h.0)), read-roomy (turn_of l cut).line cuts h.1)

-- the last line, of a number of one digit
last_end : (l : Line) (n : ℕ) → call_ending_number (closing_of l).ending ≡ n → n < 10 → last_text_of l ≡ end_of n
unfolding last_text_of
last_end l n e h =
    let digit : n % 10 ≡ n = omega arith in
    rw (e, one-digit 19 n h, digit)

module _ (cuts : List (List ℕ)) (read : WithinOneRead cuts) (room : ℕ) (enough : RoomFor (input_of cuts) room) where
  same : Same (answers_of fresh_line (as_cuts cuts)) (last_of fresh_line (as_cuts cuts)) (fresh_run_of (input_of cuts) room)
  unfolding fresh_run_of
  same = (together fresh_line).cuts refl (as_cuts cuts) (read-roomy fresh_line cuts read) room enough

  small : ending_number (fresh_run_of (input_of cuts) room).ending < 10
  unfolding fresh_run_of
  small = ⊎_elim (λ e. omega (arith, e)) (λ m. ⊎_elim (λ e. omega (arith, e)) (λ e. omega (arith, e)) m) (sound (input_of cuts) room fresh_bench).endings

  lines : so_far_of fresh_line cuts ≡ answer_lines_of (fresh_run_of (input_of cuts) room).answers
  lines = lines-so-far fresh_line cuts ∙ ap answer_lines_of same.answers-same

  all : printed_of cuts ≡ listed_of (fresh_run_of (input_of cuts) room)
  unfolding listed_of
  all = ap₂ (λ (x y : List ℕ). x ++ y) lines (last_end (last_of fresh_line (as_cuts cuts)) (ending_number (fresh_run_of (input_of cuts) room).ending) same.number_same small)

is-listing : (cuts : List (List ℕ)) → WithinOneRead cuts → length (input_of cuts) ≤ most_bytes → printed_of cuts ≡ listing_of (input_of cuts)
unfolding listing_of batch_listing_of when◌then◌else◌
is-listing cuts read h = rw (le-ltb most_bytes (length (input_of cuts)) h) (all cuts read most_output (omega arith))

pub prints : PrintsTheListing
prints cuts read room enough =
    record { so_far = lines cuts read room enough; whole = all cuts read room enough; listing = is-listing cuts read }
