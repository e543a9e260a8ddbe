-- n character times of the controller are a walk of n: no step reads what the step before it left. Assumes nothing.
use Prim.Native.Nat.{ℕ, zero, suc, ◌-◌}
use mathlib.Core.Path.{◌≡◌, sym, ap, ◌∙◌}
use native.Mathlib.Omega.{arith}
use Rattle.basics.specs.Iterate.{iterate}
use Rattle.clocks.specs.declared.place.Place.{Place}
use Rattle.clocks.specs.declared.place.Walk.{Walk}
use Rattle.clocks.specs.Walk.{walk_of}
use Rattle.clocks.proofs.Walking.{stepped, walk-one, walk_more}
use Rattle.controller.specs.Chip.{step_of, clock_of}
use Rattle.controller.specs.private.Walked.{place_of, walked_of}
use Rattle.controller.specs.declared.chip.Controller.{Controller}

pub by-walk : (c : Controller) (m : ℕ) → clock_of (suc m) c ≡ walked_of c (walk_of c.regs (suc m) (place_of c))
unfolding iterate clock_of step_of walked_of
by-walk c zero = rw (walk-one c.regs (place_of c), stepped c.regs (place_of c))
by-walk c (suc m) =
    let w = walk_of c.regs (suc m) (place_of c) in
    ap step_of (by-walk c m) ∙ rw (walk_more c.regs (place_of c) m, stepped c.regs w.place)

module _ (c d : Controller) (n : ℕ) where
  -- the code's two returns: a walk, and no time at all
  pub clock-some : (o : Place) (w : Walk) → (n ≡ 0 → ⊥) → o ≡ place_of c → w ≡ walk_of c.regs n o → d ≡ walked_of c w → d ≡ clock_of n c
  clock-some o w z eo ew ed =
      let e : n ≡ suc (n - 1) = omega arith in
      let at : w ≡ walk_of c.regs (suc (n - 1)) (place_of c) = rw (← e, ← eo) ew in
      rw e (ed ∙ ap (walked_of c) at ∙ sym (by-walk c (n - 1)))

  pub clock-none : n ≡ 0 → d ≡ c → d ≡ clock_of n c
  unfolding iterate clock_of
  clock-none e f = rw e f

pub ruleset clocking = (clock-some, clock-none)
