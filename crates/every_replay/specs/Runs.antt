-- What holds of every replay (document 01, "Records and what comes back"). proofs/Counts.antt and proofs/Parts.antt show it.
use Rattle.std.specs.Prelude.{ℕ, ◌+◌, ◌-◌, ◌*◌, ◌≤◌, ◌<◌, ◌≡◌, List, ◌++◌, ◌↔◌, ◌⊎◌, length, take, drop}
use Rattle.bench.specs.declared.step.Bench.{Bench}
use Rattle.replay.specs.Ending.{ending_number}
use Rattle.replay.specs.declared.ending.Ending.TheVariants.{Empty}
use Rattle.replay.specs.Run.{Run, onto, run_of}

-- a run's counts, and each ending number in its own case and in no other
pub record Sound (batch : List ℕ) (room : ℕ) (r : Run) : Type 0 where
  -- four bytes are taken for each answer, no more than the batch has, and each answer has its eight bytes of room
  pub taken : r.taken ≡ 4 * length r.answers
  pub within : r.taken ≤ length batch
  pub has_room : 8 * length r.answers ≤ room
  -- there are three endings: 0 when nothing is left of the batch, 3 when one to three bytes are left, 4 when a record is left and no room
  -- for its answer
  pub endings : (ending_number r.ending ≡ 0) ⊎ (ending_number r.ending ≡ 3) ⊎ (ending_number r.ending ≡ 4)
  pub none : (ending_number r.ending ≡ 0) ↔ (r.taken ≡ length batch)
  pub short : (ending_number r.ending ≡ 3) ↔ ((r.taken < length batch) × (length batch < r.taken + 4))
  pub full : (ending_number r.ending ≡ 4) ↔ ((r.taken + 4 ≤ length batch) × (room < 8 * length r.answers + 8))

-- a run, and then a run over further bytes, on the chips and in the room that the first left
abbrev pub and_then : Run → List ℕ → ℕ → Run
and_then r more room = onto r.taken r.answers (run_of more (room - 8 * length r.answers) r.bench)

-- every run on a bench into some room
pub record Runs (b : Bench) (room : ℕ) : Type 0 where
  pub sound : (batch : List ℕ) → Sound batch room (run_of batch room b)
  -- What a run took, with any bytes behind it, replayed into any room that holds the run's answers: that run, and then a run over the
  -- bytes behind. However the run ended, nothing but what it took bears on it.
  pub run-taken : (batch more : List ℕ) (wide : ℕ) → 8 * length (run_of batch room b).answers ≤ wide
      → run_of (take (run_of batch room b).taken batch ++ more) wide b ≡ and_then (run_of batch room b) more wide
  -- A batch is replayed part by part: a run over its first part, however that ends, and then a run over what the first left unread, with
  -- the second part behind it.
  pub run-then : (batch more : List ℕ)
      → run_of (batch ++ more) room b ≡ and_then (run_of batch room b) (drop (run_of batch room b).taken batch ++ more) room
  -- so where the first part is taken whole, the second alone is left
  pub run-whole : (batch more : List ℕ) → (run_of batch room b).ending ≡ Empty → run_of (batch ++ more) room b ≡ and_then (run_of batch room b) more room
