use Rattle.setup_reader.specs.Read.{places_in}
use Rattle.setup_reader.proofs.contents.Contents.places.Goals as goal

pub returns : goal.returns
unfolding places_in
returns c = rw (c.find.ensures, c.find-2.ensures, c.find-3.ensures)
