-- Acts one after the other. Assumes nothing.
use Prim.Native.Nat.{ℕ}
use mathlib.Core.Path.{◌≡◌, refl}
use mathlib.Core.Bool.{Bool}
use mathlib.Core.List.{List, [], ◌∷◌, ◌++◌, map}
use Rattle.controller.specs.Chip.{clock_of, strike_of}
use Rattle.controller.specs.Reads.{read_of}
use Rattle.controller.specs.declared.chip.Controller.{Controller}
use Rattle.frames.specs.Calls.{Wait, clocks, reads, after_wait, Act, waits, strikes, after_act, after_acts}

pub acts-append : (l m : List Act) (c : Controller) → after_acts (l ++ m) c ≡ after_acts m (after_acts l c)
unfolding after_acts
acts-append [] m c = refl
acts-append (a ∷ l) m c = acts-append l m (after_act a c)

pub strike-first : (l : List Act) (c : Controller) → after_acts (strikes ∷ l) c ≡ after_acts l (strike_of c)
unfolding after_acts after_act
strike-first l c = refl

-- what clocks and reads keep, waits keep, however many
pub waits-keep : (P : Controller → Type 0) → ((n : ℕ) (c : Controller) → P c → P (clock_of n c)) → ((rs : Bool) (c : Controller) → P c → P (read_of c rs).controller)
    → (more : List Wait) (c : Controller) → P c → P (after_acts (map waits more) c)
unfolding after_acts after_act after_wait
waits-keep P k l [] c p = p
waits-keep P k l (clocks n ∷ more) c p = waits-keep P k l more (clock_of n c) (k n c p)
waits-keep P k l (reads rs ∷ more) c p = waits-keep P k l more (read_of c rs).controller (l rs c p)
