use native.Mathlib.Omega.{arith}
use Rattle.clocks.proofs.Reaching.{reached-columns}
use Rattle.clocks.proofs.place.Place.skip_columns.Goals as goal

pub returns : goal.returns
returns c = reached-columns _ _ _ _ _ _ c.clear-room.ensures (omega arith) (omega arith) c.columns_on.ensures
