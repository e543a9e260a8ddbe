use Rattle.basics.proofs.Laying.{then-writes}
use Rattle.setup_writer.proofs.pieces.contents.Goals as goal

pub returns : goal.returns
returns c =
    then-writes (rw c.count.ensures.is at c.put-first.ensures.next)
    (then-writes (rw (c.registers_at.ensures.is, c.slice_of.ensures.is) at c.entry-second.ensures)
    (then-writes (rw (c.control_at.ensures.is, c.slice_of-2.ensures.is, c.pair-control.ensures) at c.entry-third.ensures)
    (rw c.batch_at.ensures.is at c.entry.ensures)))
