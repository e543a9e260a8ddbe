use mathlib.Core.Path.{◌∙◌}
use Rattle.line.proofs.Calling.{closed-close, open-close}
use Rattle.line.proofs.calls.Line.close.Goals as goal

pub returns-then-self : goal.returns-then-self
returns-then-self c = c.unmoved.ensures ∙ closed-close c.args.self c.if-self.true

pub returns : goal.returns
returns c =
    rw c.ending.ensures at c.unmoved-2.ensures ∙ open-close c.args.self c.if-self.false
