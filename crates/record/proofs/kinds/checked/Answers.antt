use Rattle.record.proofs.Lines.{by-fields}
use Rattle.record.proofs.kinds.checked.Goals as goal

pub returns : goal.returns
returns c = by-fields _ _ (rw c.then_some.ensures at c.ok_or.ensures.value)
