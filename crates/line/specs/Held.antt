-- The bytes of an unfinished record that a line holds between calls (document 02, W3: three at the most).
use Rattle.std.specs.Prelude.{ℕ, List, [], ◌∷◌}
use Rattle.line.specs.declared.ending.CallEnding.{CallEnding}
use Rattle.line.specs.declared.ending.CallEnding.TheVariants.{Done, CutShort}
use Rattle.line.specs.declared.held.Held.{Held}
use Rattle.line.specs.declared.held.Held.TheVariants.{Nothing, One, Two, Three}

-- these bytes, in the order in which they came
abbrev pub held_of : Held → List ℕ
held_of Nothing = []
held_of (One a) = a ∷ []
held_of (Two a b) = a ∷ b ∷ []
held_of (Three a b c) = a ∷ b ∷ c ∷ []

-- Bytes, held. Decision: of more than three, which no call leaves to be held, the first three are.
unfoldable pub holding_of : List ℕ → Held
holding_of [] = Nothing
holding_of (a ∷ []) = One a
holding_of (a ∷ b ∷ []) = Two a b
holding_of (a ∷ b ∷ c ∷ more) = Three a b c

-- how a line closes: cut short, with 3, where a record was begun and never became whole, else done, with 0
abbrev pub closing_ending : Held → CallEnding
closing_ending Nothing = Done
closing_ending (One a) = CutShort
closing_ending (Two a b) = CutShort
closing_ending (Three a b c) = CutShort
