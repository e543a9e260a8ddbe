-- What a record does to the controller, as calls on it (document 01, "Records and what comes back", the table of kinds).
use Rattle.std.specs.Prelude.{ℕ, true, false, List, [], ◌∷◌, ◌≡◌, Result, Ok, Err}
use Rattle.frames.specs.Calls.{Call, write, read, clock, strike, reset, after_calls}
use Rattle.record.specs.Decode.{decode_of}
use Rattle.record.specs.declared.event.Event.{Event}
use Rattle.record.specs.declared.kinds.Refusal.{Refusal}
use Rattle.record.specs.declared.event.Event.TheVariants.{Write, Read, Clocks, Strike, Reset, Cycle, Fetches, Levels, Locate}
use Rattle.bench.specs.Step.{step_of}
use Rattle.bench.specs.declared.step.Bench.{Bench}

-- The calls that a decoded record makes: one for an event of the controller; none for an event of the multiplexer, for a locate, which only
-- asks, and for a record that is refused.
abbrev pub calls_of : Result Event Refusal → List Call
calls_of (Ok (Write rs value)) = write rs value ∷ []
calls_of (Ok (Read rs)) = read rs ∷ []
calls_of (Ok (Clocks n)) = clock n ∷ []
calls_of (Ok Strike) = strike ∷ []
calls_of (Ok (Reset true)) = []
calls_of (Ok (Reset false)) = reset ∷ []
calls_of (Ok (Cycle address reads)) = []
calls_of (Ok (Fetches n)) = []
calls_of (Ok (Levels hs da0)) = []
calls_of (Ok Locate) = []
calls_of (Err r) = []

-- On every bench a record leaves the controller as these calls leave it. proofs/Calling.antt shows it.
abbrev pub ByCalls : Type 0
ByCalls = (b : Bench) (kind hi lo value : ℕ) → (step_of b kind hi lo value).bench.controller ≡ after_calls (calls_of (decode_of kind hi lo value)) b.controller
