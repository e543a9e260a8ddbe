-- The loop's invariant: i fetches are made. The measure is what is left of n.
use Rattle.std.proofs.Common.{arith, rules}
use Rattle.basics.proofs.Iterating.{iterate-none}
use Rattle.display.proofs.Runs.{fetches-on}
use Rattle.display.proofs.counter.Display.fetches.Goals as goal

pub loop-i-init : goal.loop-i-init
loop-i-init c = (omega arith, search iterate-none)

pub loop-i-preserved : goal.loop-i-preserved
loop-i-preserved c = (search rules, search fetches-on)
