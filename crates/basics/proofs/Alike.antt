-- What is due to two is alike, and lists are alike part by part. Assumes nothing.
use Prim.Native.Nat.{ℕ}
use mathlib.Core.List.{List, ◌∷◌}
use mathlib.Core.Path.{◌≡◌, ap₂, sym, ◌∙◌}

-- two results of which each is what is due are equal
pub one_answer : {A : Type 0} {due first second : A} → first ≡ due → second ≡ due → first ≡ second
one_answer h k = h ∙ sym k

-- two tables are equal row by row, and the contents of several buffers one by one
infixr 20 ◌then◌
pub ◌then◌ : {a b : List ℕ} {l m : List (List ℕ)} → a ≡ b → l ≡ m → a ∷ l ≡ b ∷ m
◌then◌ h k = ap₂ (λ (x : List ℕ) (n : List (List ℕ)). x ∷ n) h k
