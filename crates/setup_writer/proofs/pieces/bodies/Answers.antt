use Rattle.basics.proofs.Laying.{then-writes}
use Rattle.setup_writer.proofs.pieces.bodies.Goals as goal

pub returns : goal.returns
returns c =
    then-writes (rw c.slice_of.ensures.is at c.bytes-second.ensures)
    (then-writes (rw (c.slice_of-2.ensures.is, c.pair-control.ensures) at c.bytes-third.ensures) c.bytes.ensures)
