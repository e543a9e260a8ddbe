use borrow.Author.Rules.{rules}
use Rattle.batch.proofs.Ran.{ran}
use Rattle.batch.proofs.fresh.replay_fresh.Goals as goal

pub returns : goal.returns
returns c =
    let a = c.args in
    let t = ran a.batch.now a.out.now (search rules) c.replay.ensures.answer c.replay.ensures.output in
    record { answer = t.0; output = t.1.0; batch = t.1.1.0; bounds = t.1.1.1 }
