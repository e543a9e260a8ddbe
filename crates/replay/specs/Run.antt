-- What a replay gives (document 01, "Records and what comes back": the table of refusals and the order at each record).
use Rattle.std.specs.Prelude.{ℕ, ◌+◌, ◌-◌, List, [], ◌∷◌, ◌++◌, ltb, length}
use Rattle.basics.specs.Choice.{when◌then◌else◌}
use Rattle.basics.specs.Lay.{laid_at}
use Rattle.answer.specs.Answer.{bytes_of}
use Rattle.answer.specs.declared.Answer.{Answer}
use Rattle.bench.specs.Step.{step_of}
use Rattle.bench.specs.declared.step.Bench.{Bench}
use Rattle.bench.specs.declared.step.Stepped.{Stepped}
use Rattle.replay.specs.declared.ending.Ending.{Ending}
use Rattle.replay.specs.declared.ending.Ending.TheVariants.{Empty, CutShort, NoRoom}
use Rattle.replay.specs.declared.run.Replayed.{Replayed}

-- both chips at the end, why it ended, the bytes taken, and the answers in order
pub record Run : Type 0 where
  pub bench : Bench
  pub ending : Ending
  pub taken : ℕ
  pub answers : List Answer

-- a replay that ends here
abbrev pub stop : Bench → Ending → Run
stop b ending = record { bench = b; ending = ending; taken = 0; answers = [] }

-- bytes taken and answers given, and then what a further replay gives
abbrev pub onto : ℕ → List Answer → Run → Run
onto taken answers r =
    record { bench = r.bench; ending = r.ending; taken = taken + r.taken; answers = answers ++ r.answers }

-- one record taken and answered, and then the rest
abbrev pub after : Stepped → (Bench → Run) → Run
after s rest = onto 4 (s.answer ∷ []) (rest s.bench)

-- A batch, the output bytes that are left, and both chips. At each record it is asked in this order: is the batch empty, do only one
-- to three bytes remain, are fewer than eight output bytes left. If not, the record is taken whole and its answer uses eight.
unfoldable pub run_of : List ℕ → ℕ → Bench → Run
run_of [] room b = stop b Empty
run_of (x ∷ []) room b = stop b CutShort
run_of (x ∷ y ∷ []) room b = stop b CutShort
run_of (x ∷ y ∷ z ∷ []) room b = stop b CutShort
run_of (kind ∷ hi ∷ lo ∷ value ∷ rest) room b =
    when ltb room 8 then stop b NoRoom else after (step_of b kind hi lo value) (run_of rest (room - 8))

-- the answers' bytes, one answer after the other
unfoldable pub written_of : List Answer → List ℕ
written_of [] = []
written_of (a ∷ l) = bytes_of a ++ written_of l

-- the run of a batch into an output, on two chips
abbrev pub ran_of : List ℕ → List ℕ → Bench → Run
ran_of batch out b = run_of batch (length out) b

-- what is returned: both chips, why the replay ended, how many bytes were taken and how many answers written
abbrev pub ended_of : Bench → Ending → ℕ → ℕ → Replayed
ended_of b ending taken answers = record { bench = b; ending = ending; taken = taken; answers = answers }

-- the same of a run
abbrev pub returned_of : Run → Replayed
returned_of r = ended_of r.bench r.ending r.taken (length r.answers)

-- what a replay of a batch into an output returns, on two chips
unfoldable pub replay_of : List ℕ → List ℕ → Bench → Replayed
replay_of batch out b = returned_of (ran_of batch out b)

-- what the output then holds: the answers' bytes at its front, and past them what stood there
unfoldable pub output_of : List ℕ → List ℕ → Bench → List ℕ
output_of batch out b = laid_at out 0 (written_of (ran_of batch out b).answers)
