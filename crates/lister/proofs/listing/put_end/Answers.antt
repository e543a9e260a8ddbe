use Rattle.text.proofs.Adding.{adds}
use Rattle.lister.proofs.listing.put_end.Goals as goal

pub returns : goal.returns
returns c = adds _ _ _ c.put.ensures.put
