-- The loop's invariant: the bytes passed so far are laid.
use mathlib.Core.Path.{◌≡◌}
use lib.ListN.{length, take}
use Rattle.basics.specs.Lay.{laid_at}
use Rattle.basics.proofs.lay.lay.Given as goal

abbrev pub invariant-loop-i : goal.invariant-loop-i
invariant-loop-i l = (length l.dst ≡ length l.initial.dst) × (l.dst ≡ laid_at l.initial.dst l.at (take l.i l.src))
