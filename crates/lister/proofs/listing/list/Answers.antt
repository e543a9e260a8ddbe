use native.Mathlib.Omega.{arith}
use borrow.Author.Tests.{lt-ltb, le-ltb}
use Rattle.basics.specs.Choice.{when◌then◌else◌}
use Rattle.batch.specs.Fresh.{most_bytes}
use Rattle.text.proofs.Adding.{adds, whole}
use Rattle.lister.specs.Listing.{listing_of}
use Rattle.lister.proofs.listing.list.Goals as goal

pub returns-then-input-gt-INPUT-clause-text : goal.returns-then-input-gt-INPUT-clause-text
unfolding listing_of when◌then◌else◌
returns-then-input-gt-INPUT-clause-text c =
    rw (lt-ltb most_bytes _ c.if-input-gt-INPUT.true) (whole c.new-text.ensures (adds _ _ _ c.put.ensures.put) (omega arith))

pub returns-clause-text : goal.returns-clause-text
unfolding listing_of when◌then◌else◌
returns-clause-text c = rw (le-ltb most_bytes _ c.if-input-gt-INPUT.false) c.batch_listing.ensures
