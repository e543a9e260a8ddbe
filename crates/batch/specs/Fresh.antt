-- A batch as the programs take it (document 01, "Records and what comes back", the listing program): its length and its replay.
use Rattle.std.specs.Prelude.{ℕ, ◌*◌, ◌/◌, ◌≤◌, List, ◌≡◌, length}
-- both chips as they start, on the bench
pub use Rattle.bench.specs.Fresh.{fresh_bench}
use Rattle.replay.specs.Ending.{ending_number}
use Rattle.replay.specs.Run.{Run, run_of}
use Rattle.replay.specs.declared.run.Replayed.{Replayed}

-- the most bytes that a program takes as a batch
abbrev pub most_bytes : ℕ
most_bytes = 4096

-- the most answers that they have: one for every four bytes
abbrev pub most_answers : ℕ
most_answers = most_bytes / 4

-- the output that these answers fill, eight bytes each
abbrev pub most_output : ℕ
most_output = most_answers * 8

-- a batch on fresh chips, into an output of so many bytes
unfoldable pub fresh_run_of : List ℕ → ℕ → Run
fresh_run_of batch room = run_of batch room fresh_bench

-- How far the numbers go that such a replay returns: the output keeps its length, the ending's number is a digit, no more bytes are taken than
-- there are, and every answer has its eight bytes of room. All of it follows from the run; a caller needs it for the room of its text.
pub record Bounded (batch out out' : List ℕ) (r : Replayed) : Type 0 where
  pub same : length out' ≡ length out
  pub ending : ending_number r.ending ≤ 4
  pub taken : r.taken ≤ length batch
  pub answers : 8 * r.answers ≤ length out
