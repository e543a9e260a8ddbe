-- One answer: what it means that the statement of a public function leaves no choice (document 01, "What the statements have to say"). P is
-- the function's whole contract as the checker reads it; κs and a are the lifetimes and the arguments, x and y two results, and s and t what
-- the parameters hold after each.
use Rattle.std.specs.Prelude.{◌≡◌}

-- Two calls that meet the contract are seen alike. What a caller sees of a call is said by `seen`: the result, or the bytes and the place of
-- a part of his own slice; and what each lent buffer or struct holds afterwards.
abbrev pub OneAnswer : {K : Type 0} {D R S A : K → Type 0} → ((κs : K) → D κs → R κs → S κs → Type 0) → (seen : (κs : K) → R κs → S κs → A κs) → Type 0
OneAnswer {K} {D} {R} {S} P seen = (κs : K) (a : D κs) (x y : R κs) (s t : S κs) → P κs a x s → P κs a y t → seen κs x s ≡ seen κs y t

-- two things that are both seen
infixr 20 ◌beside◌
abbrev pub ◌beside◌ : {A B : Type 0} → A → B → A × B
x beside y = (x, y)
