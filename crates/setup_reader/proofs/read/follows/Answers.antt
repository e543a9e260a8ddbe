use mathlib.Core.Path.{◌∙◌}
use Rattle.setup_reader.proofs.Ranks.{in_order}
use Rattle.setup_reader.proofs.read.follows.Goals as goal

pub returns : goal.returns
returns c = c.lt.ensures ∙ in_order c.args.last c.args.kind
