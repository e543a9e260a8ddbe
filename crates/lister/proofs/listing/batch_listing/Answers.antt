use Prim.Native.Nat.{ℕ}
use lib.ListN.{replicate, length-replicate}
use Rattle.batch.specs.Fresh.{most_output}
use Rattle.lister.proofs.Listed.{lists}
use Rattle.lister.proofs.listing.batch_listing.Goals as goal

pub returns : goal.returns
returns c =
    let r = c.replay_fresh-replayed.ensures in
    lists c.args.batch.now (replicate most_output 0) (length-replicate {A = ℕ} most_output 0) c.requires r.answer r.output c.add_answers.ensures.put
    (rw c.from.ensures at c.put_end.ensures)
