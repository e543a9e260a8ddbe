-- `Refusals` of specs/Refusals.antt holds of every record. Assumes nothing.
use Prim.Native.Nat.{ℕ}
use mathlib.Core.Path.{◌≡◌, refl, sym, ap, ◌∙◌}
use mathlib.Core.Bool.{true, false}
use Rattle.std.specs.Prelude.{Result, Ok, Err}
use Rattle.answer.specs.Answer.{plain_of}
use Rattle.answer.specs.declared.Answer.{Answer}
use Rattle.answer.proofs.Done.{Done}
use Rattle.locator.specs.Locate.{refusal_of, locate_of}
use Rattle.locator.specs.declared.cells.Cell.{Cell}
use Rattle.locator.specs.declared.answer.Unlocated.{Unlocated}
use Rattle.record.specs.Decode.{decode_of, number_of}
use Rattle.record.specs.declared.event.Event.{Event}
use Rattle.record.specs.declared.kinds.Refusal.{Refusal}
use Rattle.record.specs.declared.event.Event.TheVariants.{Write, Read, Clocks, Strike, Reset, Cycle, Fetches, Levels, Locate}
use Rattle.bodies.specs.Bodies.{located_answer_of}
use Rattle.bodies.proofs.Located.{located-refused}
use Rattle.alone.proofs.Done.{write_done, read_done, clocks-done, strike-done, reset-done}
use Rattle.bench.specs.Step.{on_decoded, step_of}
use Rattle.bench.proofs.Steps.{decoded-first, on-refused, on-write, on_read, on-clocks, on-strike, on-controller-reset, multiplexer-reset-done, cycle-done, fetches-done, levels-done, on-locate}
use Rattle.bench.specs.declared.step.Bench.{Bench}
use Rattle.bench.specs.declared.step.Stepped.{Stepped}
use Rattle.every_record.specs.Refusals.{event_refusal_of, Refusals}

-- the refusal number of a decoded record
abbrev number_due : Bench → Result Event Refusal → ℕ
number_due b (Ok e) = event_refusal_of b e
number_due b (Err r) = number_of (Err r)

module _ (b : Bench) (kind : ℕ) where
  -- what a step has to give where a number is due
  record Due (number : ℕ) (s : Stepped) : Type 0 where
    pub first : s.answer.kind ≡ kind
    pub told : s.answer.refusal ≡ number
    pub still : (number ≡ 0 → ⊥) → s ≡ record { bench = b; answer = plain_of kind number }

  done : (s : Stepped) → Done kind s.answer → Due 0 s
  done s k = record { first = k.0; told = k.1; still = λ h. absurd (h refl) }

  refused : (number : ℕ) → Due number (record { bench = b; answer = plain_of kind number })
  refused number = record { first = refl; told = refl; still = λ h. refl }

  located : (l : Result Cell Unlocated) → Due (refusal_of l) (record { bench = b; answer = located_answer_of kind l })
  located l =
      record { first = refl; told = refl; still = λ h. ap (λ (a : Answer). record { bench = b; answer = a }) (located-refused kind l h) }

  outcome : (d : Result Event Refusal) → Due (number_due b d) (on_decoded b kind d)
  outcome (Err r) = rw (on-refused b kind r) (refused _)
  outcome (Ok (Write rs value)) = rw (on-write b kind rs value) (done _ (write_done b.controller kind rs value))
  outcome (Ok (Read rs)) = rw (on_read b kind rs) (done _ (read_done b.controller kind rs))
  outcome (Ok (Clocks n)) = rw (on-clocks b kind n) (done _ (clocks-done b.controller kind n))
  outcome (Ok Strike) = rw (on-strike b kind) (done _ (strike-done b.controller kind))
  outcome (Ok (Reset true)) = done _ (multiplexer-reset-done b kind)
  outcome (Ok (Reset false)) = rw (on-controller-reset b kind) (done _ (reset-done b.controller kind))
  outcome (Ok (Cycle address read)) = done _ (cycle-done b kind address read)
  outcome (Ok (Fetches n)) = done _ (fetches-done b kind n)
  outcome (Ok (Levels hs da0)) = done _ (levels-done b kind hs da0)
  outcome (Ok Locate) = rw (on-locate b kind) (located (locate_of b.controller))

pub refusals : (b : Bench) (kind hi lo value : ℕ) → Refusals b kind hi lo value
refusals b kind hi lo value =
    let d = decode_of kind hi lo value in
    let o : Due b kind (number_due b d) (step_of b kind hi lo value) = rw (decoded-first b kind hi lo value) (outcome b kind d) in
    let due : ((step_of b kind hi lo value).answer.refusal ≡ 0 → ⊥) → number_due b d ≡ 0 → ⊥ = λ h z. h (o.told ∙ z) in
    record {
      still = λ h. ap (λ (s : Stepped). s.bench) (o.still (due h));
      body = λ h. ap (λ (s : Stepped). s.answer) (o.still (due h)) ∙ ap (plain_of kind) (sym o.told);
      first = o.first;
      decoded = λ r q. o.told ∙ ap (number_due b) q;
      known = λ e q. o.told ∙ ap (number_due b) q;
    }
