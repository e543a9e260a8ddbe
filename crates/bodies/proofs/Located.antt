-- The locator's refusals are answered with a zero body. Assumes nothing.
use Prim.Native.Nat.{ℕ}
use mathlib.Core.Path.{◌≡◌, refl}
use Rattle.std.specs.Prelude.{Result, Ok, Err}
use Rattle.answer.specs.Answer.{plain_of}
use Rattle.locator.specs.Locate.{refusal_of}
use Rattle.locator.specs.declared.cells.Cell.{Cell}
use Rattle.locator.specs.declared.answer.Unlocated.{Unlocated}
use Rattle.bodies.specs.Bodies.{located_body_of, located_answer_of}

pub located-refused : (kind : ℕ) (l : Result Cell Unlocated) → (refusal_of l ≡ 0 → ⊥) → located_answer_of kind l ≡ plain_of kind (refusal_of l)
unfolding located_body_of
located-refused kind (Ok cell) h = absurd (h refl)
located-refused kind (Err why) h = refl
