use mathlib.Core.Path.{◌≡◌}
use Rattle.basics.specs.Iterate.{iterate}
use Rattle.tally.specs.private.Pass.{turn_of}
use Rattle.tally.proofs.pass.Pass.columns.Given as goal

abbrev pub invariant-loop : goal.invariant-loop
invariant-loop l = l.p ≡ iterate (turn_of l.r) l.counter l.initial.p
