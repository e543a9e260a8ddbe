-- A replay on fresh chips. Assumes nothing.
use Prim.Native.Nat.{ℕ, ◌*◌, ◌≤◌}
use mathlib.Core.Path.{◌≡◌, refl, ap, ◌∙◌}
use mathlib.Core.List.{List}
use mathlib.Core.Logic.{⊎_elim}
use native.Mathlib.Omega.{arith}
use lib.ListN.{length}
use Rattle.basics.specs.Lay.{laid_at}
use Rattle.basics.proofs.Laying.{length-laid}
use Rattle.bench.specs.declared.step.Bench.{Bench}
use Rattle.replay.specs.Run.{written_of, returned_of, replay_of, output_of}
use Rattle.replay.specs.declared.run.Replayed.{Replayed}
use Rattle.replay.proofs.Runs.{replay-run, output-run}
use Rattle.replay.proofs.Replaying.{length-written}
use Rattle.every_replay.proofs.Counts.{sound}
use Rattle.batch.specs.Fresh.{fresh_bench, fresh_run_of, Bounded}

-- no more answers than have room
pub answers-have-room : (batch : List ℕ) (room : ℕ) → 8 * length (fresh_run_of batch room).answers ≤ room
unfolding fresh_run_of
answers-have-room batch room = (sound batch room fresh_bench).has_room

-- what the replay gives on chips that are fresh
pub ran : (batch out : List ℕ) {out' : List ℕ} {r : Replayed} {b : Bench} → b ≡ fresh_bench
    → r ≡ replay_of batch out b → out' ≡ output_of batch out b
    → (r ≡ returned_of (fresh_run_of batch (length out))) × ((out' ≡ laid_at out 0 (written_of (fresh_run_of batch (length out)).answers)) × ((batch ≡ batch) × Bounded batch out out' r))
unfolding fresh_run_of
ran batch out {out'} {r} {b} eb er eo =
    let run = fresh_run_of batch (length out) in
    let s = sound batch (length out) fresh_bench in
    let returned : r ≡ returned_of run = rw eb at (er ∙ replay-run batch out b) in
    let output : out' ≡ laid_at out 0 (written_of run.answers) = rw eb at (eo ∙ output-run batch out b) in
    let bounded : Bounded batch out out' r =
    record {
      same = ap length output ∙ length-laid out 0 (written_of run.answers) (omega (arith, length-written run.answers, s.has_room));
      ending = rw returned (⊎_elim (λ e. omega arith) (λ n. ⊎_elim (λ e. omega arith) (λ e. omega arith) n) s.endings);
      taken = rw returned s.within;
      answers = rw returned s.has_room;
    } in
    (returned, (output, (refl, bounded)))
