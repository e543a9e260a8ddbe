-- What holds of every record's answer (document 01, "Records and what comes back", the table of refusals). proofs/Refusals.antt shows it.
use Rattle.std.specs.Prelude.{ℕ, ◌≡◌, Ok, Err}
use Rattle.answer.specs.Answer.{plain_of}
use Rattle.locator.specs.Locate.{refusal_of, locate_of}
use Rattle.record.specs.Decode.{decode_of, number_of}
use Rattle.record.specs.declared.event.Event.{Event}
use Rattle.record.specs.declared.event.Event.TheVariants.{Write, Read, Clocks, Strike, Reset, Cycle, Fetches, Levels, Locate}
use Rattle.record.specs.declared.kinds.Refusal.{Refusal}
use Rattle.bench.specs.Step.{step_of}
use Rattle.bench.specs.declared.step.Bench.{Bench}

-- the refusal number that a record is answered with
abbrev pub told_number : Bench → ℕ → ℕ → ℕ → ℕ → ℕ
told_number b kind hi lo value = (step_of b kind hi lo value).answer.refusal

-- The refusal of an event on a bench: 5 to 8 by the locator's answer for one that locates; all others are done.
abbrev pub event_refusal_of : Bench → Event → ℕ
event_refusal_of b (Write rs value) = 0
event_refusal_of b (Read rs) = 0
event_refusal_of b (Clocks n) = 0
event_refusal_of b Strike = 0
event_refusal_of b (Reset multiplexer) = 0
event_refusal_of b (Cycle address read) = 0
event_refusal_of b (Fetches n) = 0
event_refusal_of b (Levels hs da0) = 0
event_refusal_of b Locate = refusal_of (locate_of b.controller)

-- every record on every bench
pub record Refusals (b : Bench) (kind hi lo value : ℕ) : Type 0 where
  -- whatever its number, a refusal leaves both chips as they were
  pub still : (told_number b kind hi lo value ≡ 0 → ⊥) → (step_of b kind hi lo value).bench ≡ b
  -- and has a zero body
  pub body : (told_number b kind hi lo value ≡ 0 → ⊥) → (step_of b kind hi lo value).answer ≡ plain_of kind (told_number b kind hi lo value)
  -- refused or done, the answer begins with the kind byte as it came
  pub first : (step_of b kind hi lo value).answer.kind ≡ kind
  -- 1 and 2 for a record that is no event, the two cases being those that `Refusals` of the crate `record` tells apart
  pub decoded : (r : Refusal) → decode_of kind hi lo value ≡ Err r → told_number b kind hi lo value ≡ number_of (Err r)
  -- and for one that is, the number of its event on this bench; 0 is done
  pub known : (e : Event) → decode_of kind hi lo value ≡ Ok e → told_number b kind hi lo value ≡ event_refusal_of b e
