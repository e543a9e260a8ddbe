-- The records that a run takes, each of them refused or done; and runs over records that have room. Assumes nothing.
use Prim.Native.Nat.{ℕ, suc, ◌+◌, ◌-◌, ◌*◌, ◌≤◌, ◌<◌}
use mathlib.Core.List.{List, [], ◌∷◌, ◌++◌}
use mathlib.Core.Logic.{⊎_elim}
use mathlib.Core.Path.{◌≡◌, refl, ap, ◌∙◌}
use native.Mathlib.Nat.{eq-zero-or-pos}
use native.Mathlib.Omega.{arith}
use lib.ListN.{length, take}
use lib.Seq.{take-append-add}
use Rattle.basics.proofs.Tests.{lt-or-ge}
use Rattle.answer.specs.declared.Answer.{Answer}
use Rattle.bench.specs.declared.step.Bench.{Bench}
use Rattle.replay.specs.declared.ending.Ending.{Ending}
use Rattle.replay.specs.declared.ending.Ending.TheVariants.{Empty, CutShort, NoRoom}
use Rattle.replay.specs.Run.{Run, onto, run_of}
use Rattle.replay.proofs.Runs.{onto-none, onto-onto, run_none, run_short, run-full, run_more}
use Rattle.every_record.proofs.Refusals.{refusals}
use Rattle.every_line.specs.Records.{Sent, sent_of, stepped, Answered, none, refused, done}

-- what a run took, as records
pub record Took (batch : List ℕ) (b : Bench) (r : Run) : Type 0 where
  pub records : List Sent
  pub bytes : take r.taken batch ≡ sent_of records
  pub answered : Answered b records r.answers r.bench

nothing : (batch : List ℕ) (room : ℕ) (b : Bench) (ending : Ending) → run_of batch room b ≡ record { bench = b; ending = ending; taken = 0; answers = [] }
    → Took batch b (run_of batch room b)
unfolding sent_of
nothing batch room b ending e = rw e (record { records = []; bytes = refl; answered = none b })

-- one record more in front: refused or done, by its number
in-front : (b : Bench) (r : Sent) (l : List Sent) (answers : List Answer) (last : Bench) → Answered (stepped b r).bench l answers last
    → Answered b (r ∷ l) ((stepped b r).answer ∷ answers) last
in-front b r l answers last d =
    let told = refusals b r.kind r.hi r.lo r.value in
    let number = (stepped b r).answer.refusal in
    ⊎_elim
    (λ (z : number ≡ 0). done b r l answers last z d)
    (λ (p : 0 < number).
    let some : number ≡ 0 → ⊥ = λ z. absurd (omega arith) in
    rw (told.body some) (refused b r l answers last number some (told.body some) (rw (told.still some) at d)))
    (eq-zero-or-pos number)

pub took : (batch : List ℕ) (room : ℕ) (b : Bench) → Took batch b (run_of batch room b)
unfolding sent_of
took [] room b = nothing [] room b Empty (run_none room b)
took (x ∷ []) room b = nothing (x ∷ []) room b CutShort (run_short (x ∷ []) room b (omega arith) (omega arith))
took (x ∷ y ∷ []) room b = nothing (x ∷ y ∷ []) room b CutShort (run_short (x ∷ y ∷ []) room b (omega arith) (omega arith))
took (x ∷ y ∷ z ∷ []) room b = nothing (x ∷ y ∷ z ∷ []) room b CutShort (run_short (x ∷ y ∷ z ∷ []) room b (omega arith) (omega arith))
took (kind ∷ hi ∷ lo ∷ value ∷ rest) room b =
    ⊎_elim
    (λ (g : room < 8). nothing (kind ∷ hi ∷ lo ∷ value ∷ rest) room b NoRoom (run-full kind hi lo value rest room b g))
    (λ (g : 8 ≤ room).
    let sent : Sent = record { kind = kind; hi = hi; lo = lo; value = value } in
    let s = stepped b sent in
    let r = run_of rest (room - 8) s.bench in
    let t = took rest (room - 8) s.bench in
    rw (run_more kind hi lo value rest room b g)
    (record {
      records = sent ∷ t.records;
      bytes = take-append-add (kind ∷ hi ∷ lo ∷ value ∷ []) rest r.taken ∙ ap (λ (l : List ℕ). kind ∷ hi ∷ lo ∷ value ∷ l) t.bytes;
      answered = in-front b sent t.records r.answers r.bench t.answered;
    }))
    (lt-or-ge room 8)

-- the bench after records, and their answers
unfoldable pub bench_after : Bench → List Sent → Bench
bench_after b [] = b
bench_after b (r ∷ l) = bench_after (stepped b r).bench l

unfoldable pub answers_to : Bench → List Sent → List Answer
answers_to b [] = []
answers_to b (r ∷ l) = (stepped b r).answer ∷ answers_to (stepped b r).bench l

pub length-answers : (b : Bench) (l : List Sent) → length (answers_to b l) ≡ length l
unfolding answers_to
length-answers b [] = refl
length-answers b (r ∷ l) = ap suc (length-answers (stepped b r).bench l)

-- records with room for all their answers, and any bytes behind them
pub run-sent : (l : List Sent) (more : List ℕ) (room : ℕ) (b : Bench) → 8 * length l ≤ room
    → run_of (sent_of l ++ more) room b ≡ onto (4 * length l) (answers_to b l) (run_of more (room - 8 * length l) (bench_after b l))
unfolding sent_of answers_to bench_after
run-sent [] more room b h = ap (λ (k : ℕ). run_of more k b) (omega arith) ∙ onto-none (run_of more (room - 0) b)
run-sent (r ∷ l) more room b h =
    let s = stepped b r in
    let rest = run_of more (room - 8 - 8 * length l) (bench_after s.bench l) in
    let free : room - 8 - 8 * length l ≡ room - 8 * suc (length l) = omega arith in
    let count : 4 + 4 * length l ≡ 4 * suc (length l) = omega arith in
    run_more r.kind r.hi r.lo r.value (sent_of l ++ more) room b (omega arith)
    ∙ ap (onto 4 (s.answer ∷ [])) (run-sent l more (room - 8) s.bench (omega arith))
    ∙ onto-onto 4 (4 * length l) (s.answer ∷ []) (answers_to s.bench l) rest
    ∙ rw (free, count)
