-- `Demand3OffTheLine` of specs/Demand.antt. Assumes nothing.
use Prim.Native.Nat.{ℕ, ◌+◌, ◌-◌, ◌*◌}
use mathlib.Core.List.{List, [], ◌∷◌, ◌++◌, map, append_assoc}
use mathlib.Core.Path.{◌≡◌, refl, sym, ap, ◌∙◌}
use native.Mathlib.Omega.{arith}
use lib.ListN.{length, length-append}
use Rattle.answer.specs.declared.Answer.{Answer}
use Rattle.bodies.specs.Bodies.{located_body_of, located_answer_of}
use Rattle.bench.specs.Step.{on_decoded}
use Rattle.bench.specs.declared.step.Bench.{Bench}
use Rattle.bench.specs.declared.step.Stepped.{Stepped}
use Rattle.bench.proofs.Steps.{decoded-first, on-locate}
use Rattle.controller.specs.Chip.{reset_of}
use Rattle.controller.specs.declared.chip.Controller.{Controller}
use Rattle.frames.specs.Calls.{Call, after_call, after_calls, clocks, reads, after_wait, Act, waits, strikes, after_act, after_acts}
use Rattle.answer.specs.Answer.{done_of, plain_of}
use Rattle.bodies.proofs.Located.{located-refused}
use Rattle.locator.specs.Cells.{cell_at}
use Rattle.locator.specs.Locate.{refusal_of, cell_of, locate_of}
use Rattle.std.specs.Prelude.{Result}
use Rattle.locator.specs.declared.cells.Cell.{Cell}
use Rattle.locator.specs.declared.answer.Unlocated.{Unlocated}
use Rattle.demand.specs.Demand.{Demand3}
use Rattle.demand.proofs.Demand.{demand3-reached}
use Rattle.record.specs.Decode.{decode_of}
use Rattle.record.proofs.Lines.{locate-record, reset-record}
use Rattle.batch.specs.Fresh.{fresh_bench}
use Rattle.replay.specs.Run.{Run, run_of}
use Rattle.every_record.specs.Calls.{calls_of}
use Rattle.every_record.proofs.Calling.{by-calls}
use Rattle.line.specs.Line.{fresh_line}
use Rattle.line.specs.declared.calls.Line.{Line}
use Rattle.every_line.specs.Records.{Sent, sent_of, stepped}
use Rattle.every_line.specs.Cuts.{Brought}
use Rattle.every_line.specs.Demand.{controller_calls, as_call, reset_record, locate_record, controller_after, Answer3, LocatedOff, Demand3OffTheLine}
use Rattle.every_line.proofs.Records.{bench_after, answers_to, length-answers, run-sent}
use Rattle.every_line.proofs.Cuts.{wide}

calls-append : (l m : List Call) (c : Controller) → after_calls (l ++ m) c ≡ after_calls m (after_calls l c)
unfolding after_calls
calls-append [] m c = refl
calls-append (a ∷ l) m c = calls-append l m (after_call a c)

-- acts, as calls
acts-called : (l : List Act) (c : Controller) → after_calls (map as_call l) c ≡ after_acts l c
unfolding after_calls after_call after_acts after_act after_wait
acts-called [] c = refl
acts-called (waits (clocks n) ∷ l) c = acts-called l _
acts-called (waits (reads rs) ∷ l) c = acts-called l _
acts-called (strikes ∷ l) c = acts-called l _

-- the controller after records is the one after their calls
sent-called : (l : List Sent) (b : Bench) → (bench_after b l).controller ≡ after_calls (controller_calls l) b.controller
unfolding bench_after controller_calls after_calls
sent-called [] b = refl
sent-called (r ∷ l) b =
    sent-called l (stepped b r).bench
    ∙ ap (after_calls (controller_calls l)) (by-calls b r.kind r.hi r.lo r.value)
    ∙ sym (calls-append (calls_of (decode_of r.kind r.hi r.lo r.value)) (controller_calls l) b.controller)

-- what a locate answers on a bench
located : (b : Bench) → (stepped b locate_record).answer ≡ located_answer_of 9 (locate_of b.controller)
located b =
    ap (λ (s : Stepped). s.answer) (decoded-first b 9 0 0 0)
    ∙ ap (λ d. (on_decoded b 9 d).answer) locate-record
    ∙ ap (λ (s : Stepped). s.answer) (on-locate b 9)

-- records one after the other
sent-append : (l m : List Sent) → sent_of (l ++ m) ≡ sent_of l ++ sent_of m
unfolding sent_of
sent-append [] m = refl
sent-append (r ∷ l) m = ap (λ (x : List ℕ). r.kind ∷ r.hi ∷ r.lo ∷ r.value ∷ x) (sent-append l m)

answers-append : (l m : List Sent) (b : Bench) → answers_to b (l ++ m) ≡ answers_to b l ++ answers_to (bench_after b l) m
unfolding answers_to bench_after
answers-append [] m b = refl
answers-append (r ∷ l) m b = ap (λ (x : List Answer). (stepped b r).answer ∷ x) (answers-append l m (stepped b r).bench)

calls-in-append : (l m : List Sent) → controller_calls (l ++ m) ≡ controller_calls l ++ controller_calls m
unfolding controller_calls
calls-in-append [] m = refl
calls-in-append (r ∷ l) m =
    let own = calls_of (decode_of r.kind r.hi r.lo r.value) in
    ap (λ (x : List Call). own ++ x) (calls-in-append l m) ∙ sym (append_assoc own (controller_calls l) (controller_calls m))

-- what the locator found, as an answer: a refusal by its number, a cell by its row and column
refused-answer : (l : Result Cell Unlocated) (n : ℕ) → refusal_of l ≡ n → (n ≡ 0 → ⊥) → located_answer_of 9 l ≡ plain_of 9 n
refused-answer l n e some = located-refused 9 l (λ z. some (sym e ∙ z)) ∙ ap (plain_of 9) e

found-answer : (l : Result Cell Unlocated) (row column : ℕ) → (refusal_of l ≡ 0) × (cell_of l ≡ cell_at row column) → located_answer_of 9 l ≡ done_of 9 (row ∷ column ∷ [])
unfolding located_body_of
found-answer l row column h = rw (h.0, h.1)

module _ (c : Controller) (d : Demand3 c) (acts : List Act) where
  abbrev found : List Act → Result Cell Unlocated
  found l = locate_of (after_acts l (reset_of c))

  answer3 : Answer3 c acts (located_answer_of 9 (found acts))
  answer3 =
      record {
        last-strike = d.last-strike acts;
        unstruck = λ more e. refused-answer (found acts) 5 (rw e (d.unstruck more)) (λ z. absurd (omega (arith, z)));
        named = λ before more e p r. found-answer (found acts) _ _ (rw e (d.named before more p r));
        shared = λ before more e p x v. refused-answer (found acts) 8 (rw e (d.shared before more p x v)) (λ z. absurd (omega (arith, z)));
        fitting = λ before more e p z. d.fitting before more p (rw (sym e) (ap (λ (a : Answer). a.refusal) z));
        unshared = λ h one before more e p z. d.unshared h one before more p (rw (sym e) (ap (λ (a : Answer). a.refusal) z));
        outside = λ before more e p. refused-answer (found acts) 6 (rw e (d.outside before more p)) (λ z. absurd (omega (arith, z)));
      }

module _ (first quiet : List Sent) (acts : List Act) (only : controller_calls quiet ≡ map as_call acts) where
  abbrev early : List Sent
  early = first ++ (reset_record ∷ quiet)

  -- the controller when the locate is asked
  asked : (bench_after fresh_bench early).controller ≡ after_acts acts (reset_of (controller_after first))
  unfolding controller_calls after_calls after_call
  asked =
      sent-called early fresh_bench
      ∙ ap (λ (l : List Call). after_calls l fresh_bench.controller) (calls-in-append first (reset_record ∷ quiet))
      ∙ calls-append (controller_calls first) (controller_calls (reset_record ∷ quiet)) fresh_bench.controller
      ∙ rw (reset-record, only) (acts-called acts (reset_of (controller_after first)))

  module _ (more : List ℕ) (answers : List Answer) (last : Line)
      (d : Brought fresh_line (sent_of (first ++ (reset_record ∷ (quiet ++ (locate_record ∷ [])))) ++ more) answers last) where
    -- in a room that holds the answers of all calls, and those that are looked for
    abbrev room : ℕ
    room = 8 * length answers + 8 * length (early ++ (locate_record ∷ []))

    pub off-the-line : LocatedOff first quiet acts answers
    unfolding answers_to
    off-the-line =
        let all = early ++ (locate_record ∷ []) in
        let same : first ++ (reset_record ∷ (quiet ++ (locate_record ∷ []))) ≡ all = sym (append_assoc first (reset_record ∷ quiet) (locate_record ∷ [])) in
        let b = bench_after fresh_bench early in
        let run = rw same at (wide d refl room (omega arith)) in
        let parts = run-sent all more room fresh_bench (omega arith) in
        let rest = (run_of more (room - 8 * length all) (bench_after fresh_bench all)).answers in
        let order : answers ≡ answers_to fresh_bench all ++ rest = ap (λ (r : Run). r.answers) (sym run ∙ parts) in
        record {
          before = answers_to fresh_bench early;
          answer = located_answer_of 9 (locate_of (after_acts acts (reset_of (controller_after first))));
          behind = rest;
          order = order ∙ ap (λ (l : List Answer). l ++ rest) (answers-append early (locate_record ∷ []) fresh_bench)
              ∙ append_assoc (answers_to fresh_bench early) ((stepped b locate_record).answer ∷ []) rest
              ∙ rw (located b, asked);
          number = length-answers fresh_bench early ∙ length-append first (reset_record ∷ quiet);
          demand = answer3 (controller_after first) (demand3-reached (controller_calls first)) acts;
          frames = (demand3-reached (controller_calls first)).frames;
        }

pub demand3-off-the-line : Demand3OffTheLine
demand3-off-the-line first quiet acts more answers last only d = off-the-line first quiet acts only more answers last d
