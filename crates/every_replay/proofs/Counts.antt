-- The counts of a run, and how it ends: `Sound` of specs/Runs.antt holds of every run. Assumes nothing.
use Prim.Native.Nat.{ℕ, suc, ◌+◌, ◌-◌, ◌*◌, ◌≤◌, ◌<◌}
use mathlib.Core.Path.{◌≡◌, refl}
use mathlib.Core.List.{List, [], ◌∷◌}
use mathlib.Core.Logic.{⊎_elim, inl, inr}
use native.Mathlib.Omega.{arith}
use lib.ListN.{length}
use Rattle.basics.proofs.Tests.{lt-or-ge}
use Rattle.bench.specs.Step.{step_of}
use Rattle.bench.specs.declared.step.Bench.{Bench}
use Rattle.replay.specs.Ending.{ending_number}
use Rattle.replay.specs.Run.{Run, run_of}
use Rattle.replay.proofs.Runs.{run_none, run_short, run-full, run_more}
use Rattle.every_replay.specs.Runs.{Sound}

-- how a run ends, by what is left of the batch and of the room
data End (ending left room : ℕ) : Type 0 where
  empty : ending ≡ 0 → left ≡ 0 → End ending left room
  short : ending ≡ 3 → 0 < left → left < 4 → End ending left room
  full : ending ≡ 4 → 4 ≤ left → room < 8 → End ending left room

record Core (batch : List ℕ) (room : ℕ) (r : Run) : Type 0 where
  pub taken : r.taken ≡ 4 * length r.answers
  pub within : r.taken ≤ length batch
  pub has_room : 8 * length r.answers ≤ room
  pub end : End (ending_number r.ending) (length batch - r.taken) (room - 8 * length r.answers)

cut : (batch : List ℕ) (room : ℕ) (b : Bench) → 0 < length batch → length batch < 4 → Core batch room (run_of batch room b)
cut batch room b h k =
    rw (run_short batch room b h k)
    (record { taken = refl; within = omega arith; has_room = omega arith; end = short refl (omega arith) (omega arith) })

core : (batch : List ℕ) (room : ℕ) (b : Bench) → Core batch room (run_of batch room b)
core [] room b = rw (run_none room b) (record { taken = refl; within = omega arith; has_room = omega arith; end = empty refl (omega arith) })
core (x ∷ []) room b = cut (x ∷ []) room b (omega arith) (omega arith)
core (x ∷ y ∷ []) room b = cut (x ∷ y ∷ []) room b (omega arith) (omega arith)
core (x ∷ y ∷ z ∷ []) room b = cut (x ∷ y ∷ z ∷ []) room b (omega arith) (omega arith)
core (kind ∷ hi ∷ lo ∷ value ∷ rest) room b =
    ⊎_elim
    (λ (h : room < 8).
    rw (run-full kind hi lo value rest room b h)
    (record { taken = refl; within = omega arith; has_room = omega arith; end = full refl (omega arith) (omega arith) }))
    (λ (h : 8 ≤ room).
    let s = step_of b kind hi lo value in
    let r = run_of rest (room - 8) s.bench in
    let c = core rest (room - 8) s.bench in
    let left : length (kind ∷ hi ∷ lo ∷ value ∷ rest) - (4 + r.taken) ≡ length rest - r.taken = omega arith in
    let free : room - 8 * suc (length r.answers) ≡ room - 8 - 8 * length r.answers = omega arith in
    rw (run_more kind hi lo value rest room b h)
    (record { taken = omega (arith, c.taken); within = omega (arith, c.within); has_room = omega (arith, c.has_room); end = rw (left, free) c.end }))
    (lt-or-ge room 8)

sound-core : (batch : List ℕ) (room : ℕ) (r : Run) → Core batch room r → Sound batch room r
sound-core batch room r c = by_end c.end where
  by_end : End (ending_number r.ending) (length batch - r.taken) (room - 8 * length r.answers) → Sound batch room r
  by_end (empty e l) =
      record {
        taken = c.taken;
        within = c.within;
        has_room = c.has_room;
        endings = inl e;
        none = (λ p. omega (arith, c.within), λ p. e);
        short = (λ p. absurd (omega arith), λ p. absurd (omega (arith, p.0, p.1)));
        full = (λ p. absurd (omega arith), λ p. absurd (omega (arith, p.0, p.1)));
      }
  by_end (short e l m) =
      record {
        taken = c.taken;
        within = c.within;
        has_room = c.has_room;
        endings = inr (inl e);
        none = (λ p. absurd (omega arith), λ p. absurd (omega arith));
        short = (λ p. (omega (arith, c.within), omega arith), λ p. e);
        full = (λ p. absurd (omega arith), λ p. absurd (omega (arith, p.0, p.1)));
      }
  by_end (full e l m) =
      record {
        taken = c.taken;
        within = c.within;
        has_room = c.has_room;
        endings = inr (inr e);
        none = (λ p. absurd (omega arith), λ p. absurd (omega arith));
        short = (λ p. absurd (omega arith), λ p. absurd (omega (arith, p.0, p.1)));
        full = (λ p. (omega (arith, c.within), omega arith), λ p. e);
      }

pub sound : (batch : List ℕ) (room : ℕ) (b : Bench) → Sound batch room (run_of batch room b)
sound batch room b = sound-core batch room (run_of batch room b) (core batch room b)
