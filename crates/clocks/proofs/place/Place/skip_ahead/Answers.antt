use Rattle.clocks.proofs.Reaching.{reached-none}
use Rattle.clocks.proofs.place.Place.skip_ahead.Goals as goal

pub returns-then-self-r : goal.returns-then-self-r
returns-then-self-r c = search reached-none
