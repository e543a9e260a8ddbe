-- The loop's invariant: what has been walked so far is as many steps. The measure is what is left of n.
use mathlib.Core.Path.{refl}
use borrow.Author.Rules.{rules}
use Rattle.clocks.specs.Walk.{walk_of}
use Rattle.clocks.proofs.Reaching.{walk-on}
use native.Mathlib.Omega.{arith}
use Rattle.clocks.proofs.place.Place.walk.Goals as goal

pub loop-i-init : goal.loop-i-init
unfolding walk_of
loop-i-init c = (omega arith, refl)

pub loop-i-preserved : goal.loop-i-preserved
loop-i-preserved c = (search rules, search walk-on)
