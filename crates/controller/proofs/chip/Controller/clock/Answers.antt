use Rattle.controller.proofs.Clocking.{clocking}
use Rattle.controller.proofs.chip.Controller.clock.Goals as goal

pub returns-then-n-eq0 : goal.returns-then-n-eq0
returns-then-n-eq0 c = search clocking

pub returns-else-n-eq0 : goal.returns-else-n-eq0
returns-else-n-eq0 c = search clocking
