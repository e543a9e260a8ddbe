-- What the program `serial` prints, cut after cut, and that it is the listing (document 02, W3). proofs/Printed.antt shows it. That `main`
-- prints these texts, one after the other, is no statement: it is held to its words.
use Rattle.std.specs.Prelude.{ℕ, ◌*◌, ◌≤◌, List, [], ◌∷◌, ◌++◌, map, ◌≡◌, length}
use Rattle.answer_lines.specs.Lines.{answer_lines_of}
use Rattle.batch.specs.Fresh.{most_bytes, fresh_run_of}
use Rattle.line.specs.Line.{fresh_line}
use Rattle.line.specs.declared.calls.Line.{Line}
use Rattle.lister.specs.Listing.{listed_of, listing_of}
use Rattle.text.specs.Lines.{per_line}
use Rattle.serial_text.specs.Turn.{most_cut, most_turn_answers, turn_of, turn_text_of}
use Rattle.serial_text.specs.Ending.{last_text_of}
use Rattle.every_line.specs.Cuts.{RoomFor, Cut, joined_of, last_of}

-- what is read, cut after cut, each call with the room that the program lends
abbrev pub as_cuts : List (List ℕ) → List Cut
as_cuts cuts = map (λ (bytes : List ℕ). record { bytes = bytes; room = per_line * most_turn_answers }) cuts

-- the bytes of all reads, joined
abbrev pub input_of : List (List ℕ) → List ℕ
input_of cuts = joined_of (as_cuts cuts)

-- what is read at once is not longer than the program reads at once
unfoldable pub WithinOneRead : List (List ℕ) → Type 0
WithinOneRead [] = Unit {0}
WithinOneRead (cut ∷ cuts) = (length cut ≤ most_cut) × WithinOneRead cuts

-- the texts of all cuts, on the line that those before them left
unfoldable pub so_far_of : Line → List (List ℕ) → List ℕ
so_far_of l [] = []
so_far_of l (cut ∷ cuts) = turn_text_of l cut ++ so_far_of (turn_of l cut).line cuts

-- all that is printed, the last line included
abbrev pub printed_of : List (List ℕ) → List ℕ
printed_of cuts = so_far_of fresh_line cuts ++ last_text_of (last_of fresh_line (as_cuts cuts))

-- a replay of the whole input on fresh chips, with room for all its answers
pub record Printed (cuts : List (List ℕ)) (room : ℕ) : Type 0 where
  -- after any number of reads, the lines of all records that are whole by then, and no other, have been printed
  pub so_far : so_far_of fresh_line cuts ≡ answer_lines_of (fresh_run_of (input_of cuts) room).answers
  -- at the end of the input, its answers on lines and its ending
  pub whole : printed_of cuts ≡ listed_of (fresh_run_of (input_of cuts) room)
  -- that is the listing, of an input which that program takes
  pub listing : length (input_of cuts) ≤ most_bytes → printed_of cuts ≡ listing_of (input_of cuts)

abbrev pub PrintsTheListing : Type 0
PrintsTheListing = (cuts : List (List ℕ)) → WithinOneRead cuts → (room : ℕ) → RoomFor (input_of cuts) room → Printed cuts room
