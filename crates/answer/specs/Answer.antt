-- An answer's eight bytes (document 01, "Records and what comes back").
use Rattle.std.specs.Prelude.{ℕ, List, [], ◌∷◌, get_or}
use Rattle.answer.specs.declared.Answer.{Answer}

-- the first six bytes of a list; one that the list lacks is zero, and one past the sixth is left out
abbrev pub six_of : List ℕ → List ℕ
six_of l = get_or l 0 0 ∷ get_or l 1 0 ∷ get_or l 2 0 ∷ get_or l 3 0 ∷ get_or l 4 0 ∷ get_or l 5 0 ∷ []

-- an answer by its kind, its refusal number and the body bytes that are named, the first of the six first; one that is not named is zero,
-- and one past the sixth would be left out
abbrev pub answered_of : ℕ → ℕ → List ℕ → Answer
answered_of kind refusal body = record { kind = kind; refusal = refusal; body = six_of body }

-- a record that was done: refusal number 0
abbrev pub done_of : ℕ → List ℕ → Answer
done_of kind body = answered_of kind 0 body

-- a zero body: a refusal's answer, and that of a kind for which no body byte is named
abbrev pub plain_of : ℕ → ℕ → Answer
plain_of kind refusal = answered_of kind refusal []

-- the order of the bytes: kind, refusal number, body
abbrev pub bytes_of : Answer → List ℕ
bytes_of a = a.kind ∷ a.refusal ∷ six_of a.body
