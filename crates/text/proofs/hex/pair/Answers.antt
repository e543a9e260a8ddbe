use Rattle.text.specs.Hex.{pair_of}
use Rattle.text.proofs.hex.pair.Goals as goal

pub returns : goal.returns
unfolding pair_of
returns c = rw (c.digit.ensures, c.digit-2.ensures)
