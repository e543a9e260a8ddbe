use Rattle.rooms_text.specs.Rooms.{counts_of}
use Rattle.rooms_text.proofs.rooms.counts.Goals as goal

pub returns : goal.returns
unfolding counts_of
returns c = rw (c.low-2.ensures, c.high-2.ensures, c.low.ensures, c.high.ensures)
