use Rattle.text.proofs.Holding.{put-writes, still-holds}
use Rattle.text.proofs.owned.Text.put.Goals as goal

pub invariant_of-self : goal.invariant_of-self
invariant_of-self g c =
    let put = c.put-self-inside.ensures in
    still-holds c.self.invariant _ put.place put.laid

pub returns-clause-put : goal.returns-clause-put
returns-clause-put g c =
    let put = c.put-self-inside.ensures in
    put-writes c.self.invariant _ c.self.view_is put.place put.laid
