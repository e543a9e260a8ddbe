-- Fetches in a run (document 01, "The multiplexer", what a fetch adds to). Until B0..B3 stand at 15 a fetch adds one to the address
-- and does nothing else, so k of them add k.
use Rattle.std.specs.Prelude.{ℕ, ◌+◌, ◌%◌, ◌≤◌}

-- k fetches from address b on, of those that remain: none of them is made at 15, where B3 would fall
pub record Run (b remaining k : ℕ) : Type 0 where
  pub within : k ≤ remaining
  pub low : b % 16 + k ≤ 15
