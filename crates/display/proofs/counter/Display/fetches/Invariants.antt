-- The loop's invariant: i fetches are made. The measure is what is left of n.
use Rattle.std.proofs.Common.{◌≡◌, ◌-◌, ◌≤◌}
use Rattle.display.specs.Counter.{fetches_of}
use Rattle.display.proofs.counter.Display.fetches.Given as goal

abbrev pub invariant-loop-i : goal.invariant-loop-i
invariant-loop-i l = (l.i ≤ l.n) × (l.display ≡ fetches_of l.mode l.i l.initial.display)

abbrev pub decreases-loop-i : goal.decreases-loop-i
decreases-loop-i l = l.n - l.i
