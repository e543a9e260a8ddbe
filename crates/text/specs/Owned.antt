-- Texts that grow at their end, in a room that does not grow (document 01, "Records and what comes back").
use Rattle.std.specs.Prelude.{ℕ, ◌+◌, ◌-◌, ◌≤◌, ◌≡◌, Bool, List, ◌++◌, leb, length, take, replicate}
use Rattle.basics.specs.Choice.{when◌then◌else◌}

-- whether w has room behind t, in so much room for both
abbrev pub fits : ℕ → List ℕ → List ℕ → Bool
fits room t w = leb (length t + length w) room

-- Decision: what has no room whole is not put at all, so a text never ends with the first part of an answer.
abbrev pub appended : ℕ → List ℕ → List ℕ → List ℕ
appended room t w = when fits room t w then t ++ w else t

-- How a text stands in its room: some bytes are used, and behind them zeros fill it. So a text is known by those that are used.
pub record Holds (room : ℕ) (bytes : List ℕ) (used : ℕ) : Type 0 where
  pub within : used ≤ room
  pub count : length (take used bytes) ≡ used
  pub filled : take used bytes ++ replicate (room - length (take used bytes)) 0 ≡ bytes
