use native.Mathlib.Omega.{arith}
use Rattle.cases.proofs.Length.{counted-more, before, over}
use Rattle.cases.proofs.frame_length.Goals as goal

pub loop-c-smaller : goal.loop-c-smaller
loop-c-smaller c =
    omega (arith, before _ _ _ c.loop-c.invariant c.loop-c-test.true)

pub loop-c-preserved : goal.loop-c-preserved
loop-c-preserved c =
    counted-more _ _ _ c.loop-c.invariant _ c.loop-c-test.true c.clock-c-in-loop-c.ensures

pub returns : goal.returns
returns c =
    rw c.set-start.ensures at (over _ _ _ c.loop-c.invariant c.loop-c-test.false)
