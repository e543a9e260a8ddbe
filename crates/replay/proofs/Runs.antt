-- A run, one record at a time: what a replay returns and writes, what stands before a further run, a batch of too few bytes, and a record
-- that has no room or has some. Assumes nothing.
use Prim.Native.Nat.{ℕ, ◌+◌, ◌-◌, ◌≤◌, ◌<◌}
use mathlib.Core.Path.{◌≡◌, refl}
use mathlib.Core.List.{List, [], ◌∷◌, ◌++◌, append_assoc}
use native.Mathlib.Nat.{zero-add, add_assoc}
use native.Mathlib.Omega.{arith}
use lib.ListN.{length}
use borrow.Author.Tests.{lt-ltb, le-ltb}
use Rattle.basics.specs.Choice.{when◌then◌else◌}
use Rattle.basics.specs.Lay.{laid_at}
use Rattle.answer.specs.declared.Answer.{Answer}
use Rattle.bench.specs.Step.{step_of}
use Rattle.bench.specs.declared.step.Bench.{Bench}
use Rattle.replay.specs.declared.ending.Ending.TheVariants.{Empty, CutShort, NoRoom}
use Rattle.replay.specs.Run.{Run, stop, onto, after, run_of, ran_of, written_of, returned_of, replay_of, output_of}

-- what a replay returns and writes are those of its run
module _ (batch out : List ℕ) (b : Bench) where
  pub replay-run : replay_of batch out b ≡ returned_of (ran_of batch out b)
  unfolding replay_of
  replay-run = refl

  pub output-run : output_of batch out b ≡ laid_at out 0 (written_of (ran_of batch out b).answers)
  unfolding output_of
  output-run = refl

-- nothing before, and two parts before, what a further replay gives
pub onto-none : (r : Run) → r ≡ onto 0 [] r
onto-none r = simp zero-add

pub onto-onto : (t u : ℕ) (l m : List Answer) (r : Run) → onto t l (onto u m r) ≡ onto (t + u) (l ++ m) r
onto-onto t u l m r = simp (add_assoc, append_assoc)

-- an empty batch, and one of one to three bytes
pub run_none : (room : ℕ) (b : Bench) → run_of [] room b ≡ stop b Empty
unfolding run_of
run_none room b = refl

pub run_short : (x : List ℕ) (room : ℕ) (b : Bench) → 0 < length x → length x < 4 → run_of x room b ≡ stop b CutShort
unfolding run_of
run_short [] room b h g = absurd (omega arith)
run_short (x ∷ []) room b h g = refl
run_short (x ∷ y ∷ []) room b h g = refl
run_short (x ∷ y ∷ z ∷ []) room b h g = refl
run_short (w ∷ x ∷ y ∷ z ∷ r) room b h g = absurd (omega arith)

-- a record that has no room, and one that has
module _ (kind hi lo value : ℕ) (rest : List ℕ) (room : ℕ) (b : Bench) where
  pub run-full : room < 8 → run_of (kind ∷ hi ∷ lo ∷ value ∷ rest) room b ≡ stop b NoRoom
  unfolding run_of when◌then◌else◌
  run-full h = rw (lt-ltb room 8 h)

  pub run_more : 8 ≤ room → run_of (kind ∷ hi ∷ lo ∷ value ∷ rest) room b ≡ after (step_of b kind hi lo value) (run_of rest (room - 8))
  unfolding run_of when◌then◌else◌
  run_more h = rw (le-ltb room 8 h)
