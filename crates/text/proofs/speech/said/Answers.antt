use mathlib.Core.Path.{refl}
use Rattle.basics.proofs.Cases.{if_yes, if_no}
use Rattle.text.specs.Speech.{said_of}
use Rattle.text.proofs.speech.said.Goals as goal

pub returns-then-wanted-clause-much : goal.returns-then-wanted-clause-much
unfolding said_of
returns-then-wanted-clause-much c = if_yes _ _ _ _ c.if-wanted.true refl

pub returns-else-wanted-clause-much : goal.returns-else-wanted-clause-much
unfolding said_of
returns-else-wanted-clause-much c = if_no _ _ _ _ c.if-wanted.false refl
