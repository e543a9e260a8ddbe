-- The lines of the table that a controller alone can meet, the records that read, reset the controller and locate, and the two cases of a
-- checked event. Assumes nothing.
use Prim.Native.Nat.{ℕ}
use mathlib.Core.Path.{◌≡◌, refl}
use mathlib.Core.Bool.{Bool, true, false, ◌&&◌}
use Rattle.std.specs.Prelude.{Result, Ok, Err, ok_or}
use Rattle.std.specs.Bool.{then_some}
use lib.Dec.{eqb, leb}
use Rattle.basics.specs.Bits.{num, word_of}
use Rattle.basics.specs.Choice.{when◌then◌else◌}
use Rattle.record.specs.Decode.{looked_up, checked_of, decode_of}
use Rattle.record.specs.declared.event.Event.{Event}
use Rattle.record.specs.declared.event.Event.TheVariants.{Write, Read, Clocks, Strike, Reset, Locate}
use Rattle.record.specs.declared.kinds.Refusal.{Refusal}
use Rattle.record.specs.declared.kinds.Refusal.TheVariants.{Field}

-- what is there if the fields are allowed, or the refusal of a field
pub by-fields : {r : Result Event Refusal} (fields : Bool) (e : Event) → r ≡ ok_or (then_some fields e) Field → r ≡ checked_of fields e
unfolding checked_of when◌then◌else◌
by-fields true e h = h
by-fields false e h = h

module _ (hi lo value : ℕ) where
  pub write-line : decode_of 1 hi lo value ≡ checked_of (eqb hi 0 && leb lo 1) (Write (eqb lo 1) value)
  unfolding decode_of looked_up when◌then◌else◌
  write-line = refl

  pub clocks-line : decode_of 3 hi lo value ≡ checked_of (eqb value 0) (Clocks (word_of hi lo))
  unfolding decode_of looked_up when◌then◌else◌
  clocks-line = refl

  pub strike-line : decode_of 4 hi lo value ≡ checked_of (eqb hi 0 && eqb lo 0 && eqb value 0) Strike
  unfolding decode_of looked_up when◌then◌else◌
  strike-line = refl

-- a read has its RS in lo and zero fields else
pub read-record : (rs : Bool) → decode_of 2 0 (num rs) 0 ≡ Ok (Read rs)
unfolding decode_of looked_up checked_of when◌then◌else◌
read-record true = refl
read-record false = refl

-- what holds of the event and of its refusal holds of it checked
pub checked-either : (P : Result Event Refusal → Type 0) (fields : Bool) (e : Event) → P (Ok e) → P (Err Field) → P (checked_of fields e)
unfolding checked_of when◌then◌else◌
checked-either P true e p q = p
checked-either P false e p q = q

-- the controller's reset, and a locate
pub reset-record : decode_of 5 0 0 0 ≡ Ok (Reset false)
unfolding decode_of looked_up checked_of when◌then◌else◌
reset-record = refl

pub locate-record : decode_of 9 0 0 0 ≡ Ok Locate
unfolding decode_of looked_up checked_of when◌then◌else◌
locate-record = refl
