-- The text in what a turn is told. Assumes nothing.
use mathlib.Core.Path.{refl}
use mathlib.Core.List.{List}
use Prim.Native.Nat.{ℕ}
use Rattle.line.specs.declared.calls.Line.{Line}
use Rattle.serial_text.specs.Turn.{told_of, TextTold}

-- it is that of the answers to the cut
pub text-told : (l : Line) (cut : List ℕ) → TextTold l cut
unfolding told_of
text-told l cut = refl
