-- `ByCalls` of specs/Calls.antt holds of every record. Assumes nothing.
use Prim.Native.Nat.{ℕ}
use mathlib.Core.Path.{◌≡◌, ap, ◌∙◌}
use mathlib.Core.Bool.{true, false}
use Rattle.std.specs.Prelude.{Result, Ok, Err}
use Rattle.controller.specs.declared.chip.Controller.{Controller}
use Rattle.frames.specs.Calls.{after_call, after_calls}
use Rattle.record.specs.Decode.{decode_of}
use Rattle.record.specs.declared.event.Event.{Event}
use Rattle.record.specs.declared.kinds.Refusal.{Refusal}
use Rattle.record.specs.declared.event.Event.TheVariants.{Write, Read, Clocks, Strike, Reset, Cycle, Fetches, Levels, Locate}
use Rattle.alone.proofs.Done.{write-called, read-called, clocks-called, strike-called, reset-called}
use Rattle.bench.specs.Step.{on_decoded}
use Rattle.bench.specs.declared.step.Bench.{Bench}
use Rattle.bench.specs.declared.step.Stepped.{Stepped}
use Rattle.bench.proofs.Steps.{decoded-first, on-refused, on-write, on_read, on-clocks, on-strike, on-controller-reset, multiplexer-reset-aside, cycle-aside, fetches-aside, levels-aside, on-locate}
use Rattle.every_record.specs.Calls.{calls_of, ByCalls}

-- the controller that a step leaves
abbrev left : Stepped → Controller
left s = s.bench.controller

by-decoded : (b : Bench) (kind : ℕ) (d : Result Event Refusal) → left (on_decoded b kind d) ≡ after_calls (calls_of d) b.controller
unfolding after_calls after_call
by-decoded b kind (Err r) = ap left (on-refused b kind r)
by-decoded b kind (Ok (Write rs value)) = ap left (on-write b kind rs value) ∙ write-called b.controller kind rs value
by-decoded b kind (Ok (Read rs)) = ap left (on_read b kind rs) ∙ read-called b.controller kind rs
by-decoded b kind (Ok (Clocks n)) = ap left (on-clocks b kind n) ∙ clocks-called b.controller kind n
by-decoded b kind (Ok Strike) = ap left (on-strike b kind) ∙ strike-called b.controller kind
by-decoded b kind (Ok (Reset true)) = multiplexer-reset-aside b kind
by-decoded b kind (Ok (Reset false)) = ap left (on-controller-reset b kind) ∙ reset-called b.controller kind
by-decoded b kind (Ok (Cycle address read)) = cycle-aside b kind address read
by-decoded b kind (Ok (Fetches n)) = fetches-aside b kind n
by-decoded b kind (Ok (Levels hs da0)) = levels-aside b kind hs da0
by-decoded b kind (Ok Locate) = ap left (on-locate b kind)

pub by-calls : ByCalls
by-calls b kind hi lo value = ap left (decoded-first b kind hi lo value) ∙ by-decoded b kind (decode_of kind hi lo value)
