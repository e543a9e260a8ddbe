-- Runs one after the other: `Runs` of specs/Runs.antt holds on every bench and in every room. Assumes nothing.
use Prim.Native.Nat.{ℕ, suc, ◌+◌, ◌-◌, ◌*◌, ◌≤◌, ◌<◌}
use mathlib.Core.Path.{◌≡◌, sym, ap, ◌∙◌}
use mathlib.Core.List.{List, [], ◌∷◌, ◌++◌, append_assoc}
use mathlib.Core.Logic.{⊎_elim}
use native.Mathlib.Omega.{arith}
use lib.ListN.{length, take, drop, take-append-drop, drop_of_length-le}
use lib.Seq.{take-append-add}
use Rattle.basics.proofs.Tests.{lt-or-ge}
use Rattle.bench.specs.Step.{step_of}
use Rattle.bench.specs.declared.step.Bench.{Bench}
use Rattle.replay.specs.Ending.{ending_number}
use Rattle.replay.specs.declared.ending.Ending.{Ending}
use Rattle.replay.specs.declared.ending.Ending.TheVariants.{Empty, CutShort, NoRoom}
use Rattle.replay.specs.Run.{stop, onto, run_of}
use Rattle.replay.proofs.Runs.{onto-none, onto-onto, run_none, run_short, run-full, run_more}
use Rattle.every_replay.specs.Runs.{and_then, Runs}
use Rattle.every_replay.proofs.Counts.{sound}

-- nothing taken and nothing answered
nothing : (more : List ℕ) (wide : ℕ) (b : Bench) (ending : Ending) → run_of more wide b ≡ and_then (stop b ending) more wide
nothing more wide b ending = ap (λ (k : ℕ). run_of more k b) (omega arith) ∙ onto-none (run_of more (wide - 0) b)

-- what was taken of a batch begins with its first record
take-record : (kind hi lo value : ℕ) (rest : List ℕ) (n : ℕ) → take (4 + n) (kind ∷ hi ∷ lo ∷ value ∷ rest) ≡ kind ∷ hi ∷ lo ∷ value ∷ take n rest
take-record kind hi lo value rest n = take-append-add (kind ∷ hi ∷ lo ∷ value ∷ []) rest n

pub run-taken : (batch more : List ℕ) (room wide : ℕ) (b : Bench) → 8 * length (run_of batch room b).answers ≤ wide
    → run_of (take (run_of batch room b).taken batch ++ more) wide b ≡ and_then (run_of batch room b) more wide
run-taken [] more room wide b h = rw (run_none room b) (nothing more wide b Empty)
run-taken (x ∷ []) more room wide b h = rw (run_short (x ∷ []) room b (omega arith) (omega arith)) (nothing more wide b CutShort)
run-taken (x ∷ y ∷ []) more room wide b h = rw (run_short (x ∷ y ∷ []) room b (omega arith) (omega arith)) (nothing more wide b CutShort)
run-taken (x ∷ y ∷ z ∷ []) more room wide b h = rw (run_short (x ∷ y ∷ z ∷ []) room b (omega arith) (omega arith)) (nothing more wide b CutShort)
run-taken (kind ∷ hi ∷ lo ∷ value ∷ rest) more room wide b h =
    ⊎_elim
    (λ (g : room < 8). rw (run-full kind hi lo value rest room b g) (nothing more wide b NoRoom))
    (λ (g : 8 ≤ room).
    let s = step_of b kind hi lo value in
    let r = run_of rest (room - 8) s.bench in
    let all : 8 * suc (length r.answers) ≤ wide = rw (run_more kind hi lo value rest room b g) at h in
    let free : wide - 8 - 8 * length r.answers ≡ wide - 8 * suc (length r.answers) = omega arith in
    rw (
      run_more kind hi lo value rest room b g,
      take-record kind hi lo value rest r.taken,
      run_more kind hi lo value (take r.taken rest ++ more) wide b (omega arith),
      ← free,
    )
    (ap (onto 4 (s.answer ∷ [])) (run-taken rest more (room - 8) (wide - 8) s.bench (omega arith))
    ∙ onto-onto 4 r.taken (s.answer ∷ []) r.answers (run_of more (wide - 8 - 8 * length r.answers) r.bench)))
    (lt-or-ge room 8)

-- the same with what the run left unread before what stands behind
pub run_on : (batch more : List ℕ) (room wide : ℕ) (b : Bench) → 8 * length (run_of batch room b).answers ≤ wide
    → run_of (batch ++ more) wide b ≡ and_then (run_of batch room b) (drop (run_of batch room b).taken batch ++ more) wide
run_on batch more room wide b h =
    let t = (run_of batch room b).taken in
    let parts : batch ++ more ≡ take t batch ++ (drop t batch ++ more) =
    ap (λ (l : List ℕ). l ++ more) (sym (take-append-drop t batch)) ∙ append_assoc (take t batch) (drop t batch) more in
    rw parts (run-taken batch (drop t batch ++ more) room wide b h)

pub run-then : (batch more : List ℕ) (room : ℕ) (b : Bench)
    → run_of (batch ++ more) room b ≡ and_then (run_of batch room b) (drop (run_of batch room b).taken batch ++ more) room
run-then batch more room b = run_on batch more room room b (sound batch room b).has_room

pub run-whole : (batch more : List ℕ) (room : ℕ) (b : Bench) → (run_of batch room b).ending ≡ Empty
    → run_of (batch ++ more) room b ≡ and_then (run_of batch room b) more room
run-whole batch more room b h =
    let all : length batch ≤ (run_of batch room b).taken = omega (arith, (sound batch room b).none.0 (ap ending_number h)) in
    let none : drop (run_of batch room b).taken batch ≡ [] = drop_of_length-le batch all in
    run-then batch more room b ∙ rw none

pub runs : (b : Bench) (room : ℕ) → Runs b room
runs b room =
    record {
      sound = λ batch. sound batch room b;
      run-taken = λ batch more wide h. run-taken batch more room wide b h;
      run-then = λ batch more. run-then batch more room b;
      run-whole = λ batch more h. run-whole batch more room b h;
    }
