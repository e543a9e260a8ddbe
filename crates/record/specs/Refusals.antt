-- Each refusal number comes in its own case and in no other (document 01, "Records and what comes back", the table of refusals).
-- proofs/Refusals.antt shows it of every record.
use Rattle.std.specs.Prelude.{ℕ, ◌<◌, ◌≤◌, ◌≡◌, true, false, ◌↔◌, ◌⊎◌}
use Rattle.record.specs.Decode.{allowed_of, decode_of, number_of}

-- the last kind of the table
abbrev pub last_kind : ℕ
last_kind = 9

-- the kinds that the table lacks
abbrev pub UnknownKind : ℕ → Type 0
UnknownKind kind = (kind ≡ 0) ⊎ (last_kind < kind)

-- and those that it has
abbrev pub KnownKind : ℕ → Type 0
KnownKind kind = (1 ≤ kind) × (kind ≤ last_kind)

-- none, 1 and 2: each exactly in its case
pub record Refusals (kind hi lo value : ℕ) : Type 0 where
  pub none : (number_of (decode_of kind hi lo value) ≡ 0) ↔ (allowed_of kind hi lo value ≡ true)
  pub one : (number_of (decode_of kind hi lo value) ≡ 1) ↔ UnknownKind kind
  pub two : (number_of (decode_of kind hi lo value) ≡ 2) ↔ (KnownKind kind × (allowed_of kind hi lo value ≡ false))
