use Prim.Native.Nat.{◌-◌}
use Rattle.frames.specs.Places.{frame_times}
use Rattle.cases.proofs.Length.{Counted}
use Rattle.cases.proofs.frame_length.Given as goal

abbrev pub invariant-loop-c : goal.invariant-loop-c
invariant-loop-c l = Counted l.start l.c l.t

abbrev pub decreases-loop-c : goal.decreases-loop-c
decreases-loop-c l = frame_times l.start.regs - l.t
