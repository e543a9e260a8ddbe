use Rattle.basics.proofs.Laying.{writes_nothing}
use Rattle.setup_writer.proofs.pieces.bytes.Goals as goal

pub returns-in-None : goal.returns-in-None
returns-in-None c = rw c.in-None.is writes_nothing
