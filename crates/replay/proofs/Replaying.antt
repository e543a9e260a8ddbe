-- The loop of `replay`, a record at a time: how it starts, what a turn adds, and what each end gives. Assumes nothing.
use Prim.Native.Nat.{ℕ, ◌+◌, ◌-◌, ◌*◌, ◌≤◌, ◌<◌}
use mathlib.Core.Path.{◌≡◌, refl, sym, ap, ◌∙◌}
use mathlib.Core.List.{List, [], ◌∷◌, ◌++◌, append-nil}
use native.Mathlib.Nat.{add-zero}
use native.Mathlib.Omega.{arith}
use lib.ListN.{length, get_or, take, drop, length-append, length-drop}
use Rattle.basics.specs.Lay.{laid_at, put_at}
use Rattle.basics.proofs.Parts.{drop-next}
use Rattle.basics.proofs.Laying.{laid_none, laid-put, length-laid}
use Rattle.answer.specs.Answer.{bytes_of}
use Rattle.answer.specs.declared.Answer.{Answer}
use Rattle.record.specs.Sent.{record_of}
use Rattle.record.specs.declared.sent.Record.{Record}
use Rattle.bench.specs.Step.{step_of}
use Rattle.bench.specs.declared.step.Bench.{Bench}
use Rattle.bench.specs.declared.step.Stepped.{Stepped}
use Rattle.replay.specs.Run.{stop, onto, after, run_of, written_of, returned_of, ended_of}
use Rattle.replay.specs.declared.ending.Ending.{Ending}
use Rattle.replay.specs.declared.ending.Ending.TheVariants.{Empty, CutShort, NoRoom}
use Rattle.replay.specs.declared.run.Replayed.{Replayed}
use Rattle.replay.proofs.Runs.{onto-none, onto-onto, run_none, run_short, run-full, run_more}

-- a list of no length
nil-of-length : (l : List ℕ) → length l ≡ 0 → l ≡ []
nil-of-length [] h = refl
nil-of-length (x ∷ l) h = absurd (omega arith)

-- eight bytes for each answer; the first answer, and one answer more
pub length-written : (l : List Answer) → length (written_of l) ≡ 8 * length l
unfolding written_of
length-written [] = refl
length-written (a ∷ l) = omega (arith, length-written l)

pub written-first : (a : Answer) (l : List Answer) → written_of (a ∷ l) ≡ bytes_of a ++ written_of l
unfolding written_of
written-first a l = refl

written_next : (l : List Answer) (a : Answer) → written_of (l ++ (a ∷ [])) ≡ written_of l ++ bytes_of a
unfolding written_of
written_next [] a = append-nil (bytes_of a)
written_next (x ∷ l) a = ap (λ (w : List ℕ). bytes_of x ++ w) (written_next l a)

-- the four bytes of a record, from a place on
pub record-at : (l : List ℕ) (i : ℕ) → i + 4 ≤ length l → drop i l ≡ get_or l i 0 ∷ get_or l (i + 1) 0 ∷ get_or l (i + 2) 0 ∷ get_or l (i + 3) 0 ∷ drop (i + 4) l
record-at l i h =
    rw (
      drop-next l i (i + 1) (omega arith) (omega arith),
      drop-next l (i + 1) (i + 2) (omega arith) (omega arith),
      drop-next l (i + 2) (i + 3) (omega arith) (omega arith),
      drop-next l (i + 3) (i + 4) (omega arith) (omega arith),
    )

-- a list by its first four bytes, which are a record's, and the rest
four : (l f : List ℕ) → f ≡ take 4 l → 4 ≤ length l
    → l ≡ (record_of f).kind ∷ (record_of f).hi ∷ (record_of f).lo ∷ (record_of f).value ∷ drop 4 l
four [] f e h = absurd (omega arith)
four (x ∷ []) f e h = absurd (omega arith)
four (x ∷ y ∷ []) f e h = absurd (omega arith)
four (x ∷ y ∷ z ∷ []) f e h = absurd (omega arith)
four (w ∷ x ∷ y ∷ z ∷ l) f e h = rw e

-- what the loop has reached: at these chips, with so much of the batch left and so many answers written
pub record Reached (batch out₀ : List ℕ) (b₀ : Bench) (out : List ℕ) (b : Bench) (rest : List ℕ) (answers : ℕ) : Type 0 where
  pub within : 4 * answers + length rest ≡ length batch
  pub room : 8 * answers ≤ length out₀
  pub same : length out ≡ length out₀
  pub given : List Answer
  pub count : answers ≡ length given
  pub holds : out ≡ laid_at out₀ 0 (written_of given)
  pub run : run_of batch (length out₀) b₀ ≡ onto (4 * answers) given (run_of rest (length out₀ - 8 * answers) b)

pub start : (batch out : List ℕ) (b : Bench) → Reached batch out b out b batch 0
unfolding written_of
start batch out b =
    record {
      within = omega arith;
      room = omega arith;
      same = refl;
      given = [];
      count = refl;
      holds = sym (laid_none out 0);
      run = ap (λ (k : ℕ). run_of batch k b) (omega arith) ∙ onto-none (run_of batch (length out - 0) b);
    }

-- what the call has to give
abbrev Given : List ℕ → List ℕ → Bench → List ℕ → Replayed → Type 0
Given batch out₀ b₀ out r =
    (r ≡ returned_of (run_of batch (length out₀) b₀)) × (out ≡ laid_at out₀ 0 (written_of (run_of batch (length out₀) b₀).answers))

module _ {batch out₀ : List ℕ} {b₀ : Bench} {out : List ℕ} {b : Bench} {rest : List ℕ} {answers : ℕ} (h : Reached batch out₀ b₀ out b rest answers) where
  ends : (e : Ending) → run_of rest (length out₀ - 8 * answers) b ≡ stop b e → Given batch out₀ b₀ out (ended_of b e (4 * answers) answers)
  ends e q = (
    rw (h.run, q, h.count) (simp (add-zero, append-nil)),
    rw (h.run, q) (simp append-nil h.holds),
  )

  pub ends-empty : length rest ≡ 0 → Given batch out₀ b₀ out (ended_of b Empty (4 * answers) answers)
  ends-empty g = ends Empty (rw (nil-of-length rest g) (run_none (length out₀ - 8 * answers) b))

  pub ends-short : 0 < length rest → length rest < 4 → Given batch out₀ b₀ out (ended_of b CutShort (4 * answers) answers)
  ends-short g k = ends CutShort (run_short rest (length out₀ - 8 * answers) b g k)

  module _ (f : List ℕ) (first : f ≡ take 4 rest) (long : 4 ≤ length rest) where
    pub ends-full : length out₀ - 8 * answers < 8 → Given batch out₀ b₀ out (ended_of b NoRoom (4 * answers) answers)
    ends-full k =
        ends NoRoom
        (ap (λ (l : List ℕ). run_of l (length out₀ - 8 * answers) b) (four rest f first long)
        ∙ run-full _ _ _ _ (drop 4 rest) (length out₀ - 8 * answers) b k)

    pub more : 8 ≤ length out₀ - 8 * answers
        → (q : Record) → q ≡ record_of f
        → (s : Stepped) → s ≡ step_of b q.kind q.hi q.lo q.value
        → (o : List ℕ) → o ≡ put_at out (8 * answers) (bytes_of s.answer)
        → (behind : List ℕ) → behind ≡ drop 4 rest
        → Reached batch out₀ b₀ o s.bench behind (answers + 1)
    more r q t s e o w behind past =
        let l = h.given in
        let a = s.answer in
        let place : 8 * answers ≡ 0 + length (written_of l) = omega (arith, length-written l, h.count) in
        let laid : o ≡ laid_at out₀ 0 (written_of (l ++ (a ∷ []))) =
        w ∙ rw (h.holds, written_next l a) (laid-put out₀ 0 (written_of l) (bytes_of a) (8 * answers) place (omega arith)) in
        let took : step_of b (record_of f).kind (record_of f).hi (record_of f).lo (record_of f).value ≡ s = sym (e ∙ ap (λ (p : Record). step_of b p.kind p.hi p.lo p.value) t) in
        let turn : run_of rest (length out₀ - 8 * answers) b ≡ after s (run_of behind (length out₀ - 8 * answers - 8)) =
        ap (λ (x : List ℕ). run_of x (length out₀ - 8 * answers) b) (four rest f first long)
        ∙ run_more _ _ _ _ (drop 4 rest) (length out₀ - 8 * answers) b r
        ∙ rw (took, past) in
        let left : length out₀ - 8 * answers - 8 ≡ length out₀ - 8 * (answers + 1) = omega arith in
        let taken : 4 * answers + 4 ≡ 4 * (answers + 1) = omega arith in
        record {
          within = rw past (simp length-drop (omega (arith, h.within)));
          room = omega arith;
          same = ap length laid ∙ length-laid out₀ 0 (written_of (l ++ (a ∷ []))) (simp (length-written, length-append) (omega (arith, h.count)));
          given = l ++ (a ∷ []);
          count = simp length-append (omega (arith, h.count));
          holds = laid;
          run = h.run
              ∙ ap (onto (4 * answers) l) turn
              ∙ rw (← left, ← taken) (onto-onto (4 * answers) 4 l (a ∷ []) (run_of behind (length out₀ - 8 * answers - 8) s.bench));
        }
