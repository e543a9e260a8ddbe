-- What is seen together is alike part by part. Assumes nothing.
use mathlib.Core.Path.{◌≡◌, ap₂}
use Rattle.one_answer.specs.OneAnswer.{◌beside◌}

infixr 20 ◌and◌
pub ◌and◌ : {A B : Type 0} {a b : A} {c d : B} → a ≡ b → c ≡ d → a beside c ≡ b beside d
◌and◌ {A} {B} h k = ap₂ (λ (x : A) (y : B). x beside y) h k
