use mathlib.Core.Path.{refl}
use native.Mathlib.Omega.{arith}
use borrow.Author.Tests.{lt-ltb, le-ltb}
use Rattle.basics.proofs.Cases.{if_yes, if_no}
use Rattle.text.specs.Hex.{digit_of}
use Rattle.text.proofs.hex.digit.Goals as goal

pub returns-in-0-to-9 : goal.returns-in-0-to-9
unfolding digit_of
returns-in-0-to-9 c = if_yes _ _ _ _ (lt-ltb c.args.n 10 (omega arith)) refl

pub returns-in_default : goal.returns-in_default
unfolding digit_of
returns-in_default c = if_no _ _ _ _ (le-ltb c.args.n 10 (omega arith)) refl
