-- Records of kinds 1, 3 and 4 do on a controller alone what they do on the bench. Assumes nothing.
use Prim.Native.Nat.{ℕ}
use mathlib.Core.Path.{◌≡◌, sym, ap, ◌∙◌}
use mathlib.Core.Bool.{Bool}
use Rattle.std.specs.Prelude.{Result, Ok, Err}
use Rattle.record.specs.Decode.{checked_of, decode_of}
use Rattle.record.specs.declared.event.Event.{Event}
use Rattle.record.specs.declared.kinds.Refusal.{Refusal}
use Rattle.record.specs.declared.kinds.Refusal.TheVariants.{Field}
use Rattle.record.proofs.Lines.{write-line, clocks-line, strike-line, checked-either}
use Rattle.alone.specs.Records as records
use Rattle.alone.proofs.Steps as alone
use Rattle.bench.specs.Step.{with_controller, on_decoded, step_of}
use Rattle.bench.specs.declared.step.Bench.{Bench}
use Rattle.bench.proofs.Steps as bench
use Rattle.every_record.specs.Alone.{AsOnTheBench}

module _ (b : Bench) where
  -- a decoded record does the same on both
  abbrev Same : ℕ → Result Event Refusal → Type 0
  Same kind d = on_decoded b kind d ≡ with_controller b (records.on_decoded b.controller kind d)

  -- a record whose event does so does it, whatever its fields are
  same : (kind hi lo value : ℕ) (fields : Bool) (e : Event) → decode_of kind hi lo value ≡ checked_of fields e → Same kind (Ok e)
      → step_of b kind hi lo value ≡ with_controller b (records.alone_of kind b.controller hi lo value)
  same kind hi lo value fields e line h =
      let refused : Same kind (Err Field) = bench.on-refused b kind Field ∙ sym (ap (with_controller b) (alone.on-refused b.controller kind Field)) in
      bench.decoded-first b kind hi lo value
      ∙ rw line (checked-either (Same kind) fields e h refused)
      ∙ sym (ap (with_controller b) (alone.decoded-first b.controller kind hi lo value))

  pub as-on-the-bench : (hi lo value : ℕ) → AsOnTheBench b hi lo value
  as-on-the-bench hi lo value =
      let c = b.controller in
      record {
        write = same 1 hi lo value _ _ (write-line hi lo value) (bench.on-write b 1 _ _ ∙ sym (ap (with_controller b) (alone.on-write c 1 _ _)));
        clock = same 3 hi lo value _ _ (clocks-line hi lo value) (bench.on-clocks b 3 _ ∙ sym (ap (with_controller b) (alone.on-clocks c 3 _)));
        strike = same 4 hi lo value _ _ (strike-line hi lo value) (bench.on-strike b 4 ∙ sym (ap (with_controller b) (alone.on-strike c 4)));
      }
