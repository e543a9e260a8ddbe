-- Bytes laid at a place of a buffer (document 01, "Records and what comes back" and "What the statements have to say"). What every
-- writer does to the buffer lent to it is said by these definitions.
use Rattle.std.specs.Prelude.{ℕ, ◌+◌, ◌≤◌, Bool, List, ◌++◌, ◌≡◌, leb, length, take, drop}
use Rattle.basics.specs.Choice.{when◌then◌else◌}

-- t with w in place of what stood from p on, as many as w has; all before and after as it was
unfoldable pub laid_at : List ℕ → ℕ → List ℕ → List ℕ
laid_at t p w = take p t ++ w ++ drop (p + length w) t

-- whether w has room in t from p on
abbrev pub room_at : List ℕ → ℕ → List ℕ → Bool
room_at t p w = leb (p + length w) (length t)

-- Decision: what has no room whole is not laid at all, so a buffer never holds the first part of an answer
abbrev pub put_at : List ℕ → ℕ → List ℕ → List ℕ
put_at t p w = when room_at t p w then laid_at t p w else t

-- The place behind w, laid from p on. Decision: where w has no room it is p itself. So a writer that follows needs no test of its own, and
-- whoever lays at least one byte sees by the place whether it was laid.
abbrev pub behind_of : List ℕ → ℕ → List ℕ → ℕ
behind_of t p w = when room_at t p w then p + length w else p

-- What a writer tells the next one: u is t with w laid from p on, and behind it is q.
pub record Laid (t u : List ℕ) (p q : ℕ) (w : List ℕ) : Type 0 where
  pub place : q ≡ p + length w
  pub within : q ≤ length t
  pub holds : u ≡ laid_at t p w

-- a writer of w: where w has room from p on, it is laid there. Of a buffer that is too short this says nothing.
abbrev pub Writes : List ℕ → List ℕ → ℕ → ℕ → List ℕ → Type 0
Writes t u p q w = p + length w ≤ length t → Laid t u p q w
