use Prim.Native.Nat.{◌≤◌, ◌-◌}
use mathlib.Core.Path.{◌≡◌}
use Rattle.basics.specs.Iterate.{iterate}
use Rattle.tally.specs.private.Pass.{turn_of}
use Rattle.tally.proofs.frame.count_frame.Given as goal

abbrev pub invariant-loop-t : goal.invariant-loop-t
invariant-loop-t l = (l.t ≤ l.n) × (l.p ≡ iterate (turn_of l.r) l.t l.initial.p)

abbrev pub decreases-loop-t : goal.decreases-loop-t
decreases-loop-t l = l.n - l.t
