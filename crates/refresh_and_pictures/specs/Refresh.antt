-- Refresh reaches every row of the memory (document 01, "The multiplexer", its last sentence): what a run of records is, and which rows
-- it refreshes by its own answers.
use Prim.{Unit}
use Rattle.std.specs.Prelude.{ℕ, zero, suc, ◌+◌, ◌%◌, ◌<◌, ◌≤◌, Bool, false, ◌≡◌}
use mathlib.Core.List.{List, [], ◌∷◌, ◌++◌, Memᴰ}
use Rattle.basics.specs.Bits.{num}
use Rattle.control.specs.Names.{r1_of}
use Rattle.multiplexer.specs.Chip.{bus_of, fetches_of, levels_of}
use Rattle.multiplexer.specs.Edge.{is_fall}
use Rattle.multiplexer.specs.declared.chip.Multiplexer.{Multiplexer}

-- the multiplexer's records, all but its reset
pub data Event : Type 0 where
  bus : ℕ → Bool → Event
  fetches : ℕ → Event
  levels : Bool → Bool → Event

-- the multiplexer after a record
unfoldable pub after : Event → Multiplexer → Multiplexer
after (bus a read) m = (bus_of m a read).multiplexer
after (fetches n) m = fetches_of m n
after (levels hs da0) m = (levels_of m hs da0).multiplexer

-- so many rows from the first on; row 127 is followed by row 0
unfoldable pub rows_from : ℕ → ℕ → List ℕ
rows_from first zero = []
rows_from first (suc count) = first % 128 ∷ rows_from (suc first) count

-- the rows that a record's answer says are refreshed
unfoldable pub refreshes : Event → Multiplexer → List ℕ
refreshes (bus a read) m = []
refreshes (fetches n) m = []
refreshes (levels hs da0) m = rows_from (levels_of m hs da0).rows.first (levels_of m hs da0).rows.count

-- 1 where a record's answer tells a fall of HS, else 0
unfoldable pub falls : Event → Multiplexer → ℕ
falls (bus a read) m = 0
falls (fetches n) m = 0
falls (levels hs da0) m = num (is_fall (levels_of m hs da0).edge)

-- over a run of records: all rows refreshed
unfoldable pub visited : List Event → Multiplexer → List ℕ
visited [] m = []
visited (e ∷ es) m = refreshes e m ++ visited es (after e m)

-- all falls
unfoldable pub all_falls : List Event → Multiplexer → ℕ
all_falls [] m = 0
all_falls (e ∷ es) m = falls e m + all_falls es (after e m)

-- R1 clear before each record
unfoldable pub R1Clear : List Event → Multiplexer → Type 0
R1Clear [] m = Unit {0}
R1Clear (e ∷ es) m = (r1_of m.control ≡ false) × R1Clear es (after e m)

-- From any multiplexer, any run of records with sixteen falls of HS or more, no reset, and R1 clear throughout, visits each of the 128
-- rows. proofs/AllRows.antt shows it.
abbrev pub SixteenFallsVisitAllRows : Type 0
SixteenFallsVisitAllRows =
    (es : List Event) (m : Multiplexer) → R1Clear es m → 16 ≤ all_falls es m → (row : ℕ) → row < 128 → Memᴰ row (visited es m)

-- the multiplexer after a run of records
unfoldable pub after_all : List Event → Multiplexer → Multiplexer
after_all [] m = m
after_all (e ∷ es) m = after_all es (after e m)

-- The refresh counter keeps to its seven bits, whatever records come. So from the fresh multiplexer on every row told is a row.
abbrev pub CounterKeepsItsWidth : Type 0
CounterKeepsItsWidth = (es : List Event) (m : Multiplexer) → m.refresh < 128 → (after_all es m).refresh < 128
