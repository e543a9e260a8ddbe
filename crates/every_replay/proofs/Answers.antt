-- What holds of every step's answer holds of every answer of a run. Assumes nothing.
use Prim.Native.Nat.{ℕ, ◌-◌, ◌≤◌, ◌<◌}
use mathlib.Core.Path.{◌≡◌}
use mathlib.Core.List.Memᴰ
use mathlib.Core.List.{List, [], ◌∷◌, Memᴰ}
use mathlib.Core.Logic.{⊎_elim}
use native.Mathlib.Omega.{arith}
use lib.ListN.{length}
use Rattle.basics.proofs.Tests.{lt-or-ge}
use Rattle.answer.specs.declared.Answer.{Answer}
use Rattle.bench.specs.Step.{step_of}
use Rattle.bench.specs.declared.step.Bench.{Bench}
use Rattle.replay.specs.Run.{run_of}
use Rattle.replay.proofs.Runs.{run_none, run_short, run-full, run_more}

-- what holds of the answer to every record on every bench holds of every answer of a run
module _ (P : Answer → Type 0) (each : (b : Bench) (kind hi lo value : ℕ) → P (step_of b kind hi lo value).answer) where
  first-or : (a x : Answer) (l : List Answer) → P x → (Memᴰ a l → P a) → Memᴰ a (x ∷ l) → P a
  first-or a x l p further m = ⊎_elim (λ (e : a ≡ x). rw e p) further (Memᴰ.cases_cons m)

  none : (batch : List ℕ) (room : ℕ) (b : Bench) (a : Answer) → 0 < length batch → length batch < 4 → Memᴰ a (run_of batch room b).answers → P a
  none batch room b a h k m = absurd (Memᴰ.not-nil (rw (run_short batch room b h k) at m))

  pub every-answer : (batch : List ℕ) (room : ℕ) (b : Bench) (a : Answer) → Memᴰ a (run_of batch room b).answers → P a
  every-answer [] room b a m = absurd (Memᴰ.not-nil (rw (run_none room b) at m))
  every-answer (x ∷ []) room b a m = none (x ∷ []) room b a (omega arith) (omega arith) m
  every-answer (x ∷ y ∷ []) room b a m = none (x ∷ y ∷ []) room b a (omega arith) (omega arith) m
  every-answer (x ∷ y ∷ z ∷ []) room b a m = none (x ∷ y ∷ z ∷ []) room b a (omega arith) (omega arith) m
  every-answer (kind ∷ hi ∷ lo ∷ value ∷ rest) room b a m =
      ⊎_elim
      (λ (g : room < 8). absurd (Memᴰ.not-nil (rw (run-full kind hi lo value rest room b g) at m)))
      (λ (g : 8 ≤ room).
      let s = step_of b kind hi lo value in
      first-or a s.answer (run_of rest (room - 8) s.bench).answers (each b kind hi lo value) (every-answer rest (room - 8) s.bench a)
      (rw (run_more kind hi lo value rest room b g) at m))
      (lt-or-ge room 8)
