-- What four bytes mean: the table of kinds of document 01, "Records and what comes back", a line for each kind.
use Rattle.std.specs.Prelude.{ℕ, suc, Bool, false, ◌&&◌, List, [], ◌∷◌, eqb, leb, Result, Ok, Err}
use Rattle.basics.specs.Bits.{word_of}
use Rattle.basics.specs.Choice.{when◌then◌else◌}
use Rattle.record.specs.declared.event.Event.{Event}
use Rattle.record.specs.declared.event.Event.TheVariants.{Write, Read, Clocks, Strike, Reset, Cycle, Fetches, Levels, Locate}
use Rattle.record.specs.declared.kinds.Refusal.{Refusal}
use Rattle.record.specs.declared.kinds.Refusal.TheVariants.{Kind, Field}

-- what the table says of one kind: whether it allows the record's fields, and the event that it names
pub record Line : Type 0 where
  pub fields : Bool
  pub event : Event

-- the same, in the order that the table is written in
abbrev pub line : Bool → Event → Line
line fields event = record { fields = fields; event = event }

-- The table, its lines being those of kinds 1, 2 and on. The record's last byte is `value`.
abbrev pub table_of : ℕ → ℕ → ℕ → List Line
table_of hi lo value =
    line (eqb hi 0 && leb lo 1) (Write (eqb lo 1) value)
    ∷ line (eqb hi 0 && leb lo 1 && eqb value 0) (Read (eqb lo 1))
    ∷ line (eqb value 0) (Clocks (word_of hi lo))
    ∷ line (eqb hi 0 && eqb lo 0 && eqb value 0) Strike
    ∷ line (eqb hi 0 && leb lo 1 && eqb value 0) (Reset (eqb lo 1))
    ∷ line (leb value 1) (Cycle (word_of hi lo) (eqb value 1))
    ∷ line (eqb value 0) (Fetches (word_of hi lo))
    ∷ line (eqb hi 0 && leb lo 1 && leb value 1) (Levels (eqb lo 1) (eqb value 1))
    ∷ line (eqb hi 0 && eqb lo 0 && eqb value 0) Locate
    ∷ []

-- what the lines from kind k on say of a kind, or what is said of one that they lack
unfoldable pub looked_up : {A : Type 0} → (Line → A) → A → ℕ → List Line → ℕ → A
looked_up says lacks k [] kind = lacks
looked_up says lacks k (l ∷ lines) kind = when eqb kind k then says l else looked_up says lacks (suc k) lines kind

-- whether a record's fields are allowed. A kind that the table lacks allows none.
unfoldable pub allowed_of : ℕ → ℕ → ℕ → ℕ → Bool
allowed_of kind hi lo value = looked_up (λ l. l.fields) false 1 (table_of hi lo value) kind

-- an event, if its fields are allowed
unfoldable pub checked_of : Bool → Event → Result Event Refusal
checked_of fields event = when fields then Ok event else Err Field

-- a record: its kind is looked at first, then its fields
unfoldable pub decode_of : ℕ → ℕ → ℕ → ℕ → Result Event Refusal
decode_of kind hi lo value = looked_up (λ l. checked_of l.fields l.event) (Err Kind) 1 (table_of hi lo value) kind

-- the number that the table of refusals gives to each case: 0 where the record is known, 1 for its kind, 2 for a field
abbrev pub number_of : Result Event Refusal → ℕ
number_of (Ok event) = 0
number_of (Err Kind) = 1
number_of (Err Field) = 2
