use Rattle.clocks.proofs.Reaching.{reached-none, reached-lines}
use Rattle.clocks.proofs.place.Place.skip_lines.Goals as goal

pub returns-then-remaining-times : goal.returns-then-remaining-times
returns-then-remaining-times c = search reached-none

pub returns-else-remaining-times : goal.returns-else-remaining-times
returns-else-remaining-times c = search reached-lines
