use Rattle.rooms_text.proofs.Shown.{least}
use Rattle.rooms_text.proofs.rooms.room_of.Goals as goal

pub returns-clause-is : goal.returns-clause-is
returns-clause-is c = least c.args.hi c.args.lo c.min.result (rw (c.from.ensures, c.word.ensures) at c.min.ensures)
