use lib.ListN.{length}
use Rattle.replay.proofs.Replaying.{Reached}
use Rattle.replay.proofs.run.replay.Given as goal

abbrev pub invariant-loop-sent : goal.invariant-loop-sent
invariant-loop-sent l = Reached l.fn.batch l.initial.out l.initial.bench l.out l.bench l.rest l.answers

abbrev pub decreases-loop-sent : goal.decreases-loop-sent
decreases-loop-sent l = length l.rest
