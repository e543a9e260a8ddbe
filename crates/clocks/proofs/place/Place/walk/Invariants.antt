-- The loop's invariant: what has been walked so far is as many steps. The measure is what is left of n.
use Prim.Native.Nat.{◌≤◌, ◌-◌}
use mathlib.Core.Path.{◌≡◌}
use Rattle.clocks.specs.Walk.{walk_of}
use Rattle.clocks.proofs.place.Place.walk.Given as goal

abbrev pub invariant-loop-i : goal.invariant-loop-i
invariant-loop-i l = (l.i ≤ l.n) × (l.w ≡ walk_of l.r l.i l.initial.w.place)

abbrev pub decreases-loop-i : goal.decreases-loop-i
decreases-loop-i l = l.n - l.i
