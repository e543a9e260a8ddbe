-- A cut with a record that becomes whole and has room: that record by itself, and then the rest of the cut. Assumes nothing.
use Prim.Native.Nat.{ℕ, suc, ◌+◌, ◌-◌, ◌*◌, ◌≤◌}
use mathlib.Core.Path.{◌≡◌, refl, sym, ap, ◌∙◌}
use mathlib.Core.List.{List, [], ◌∷◌, ◌++◌, append_assoc, append-nil}
use native.Mathlib.Omega.{arith}
use lib.ListN.{length, take, drop, get_or, length-append, length-drop, drop_of_length-le}
use lib.Seq.{drop-nil, drop-drop, drop-append-add, take_at, drop_at, take_all}
use Rattle.basics.specs.Lay.{laid_at}
use Rattle.basics.proofs.Laying.{laid-front}
use Rattle.answer.specs.declared.Answer.{Answer}
use Rattle.bench.specs.Step.{step_of}
use Rattle.bench.specs.declared.step.Bench.{Bench}
use Rattle.bench.specs.declared.step.Stepped.{Stepped}
use Rattle.replay.specs.Run.{Run, onto, after, run_of, written_of}
use Rattle.replay.specs.declared.ending.Ending.TheVariants.{Empty}
use Rattle.replay.proofs.Runs.{run_none, run_more}
use Rattle.replay.proofs.Replaying.{length-written, record-at}
use Rattle.line.specs.Held.{held_of}
use Rattle.line.specs.Line.{Outcome, open_of, empty_of, run_over, waits_of, full_of, outcome_of, called_of, accept_of, accepted_of}
use Rattle.line.specs.private.Calls.{first_record}
use Rattle.line.specs.declared.held.Held.{Held}
use Rattle.line.specs.declared.calls.Called.{Called}
use Rattle.line.proofs.Holding.{held-most}
use Rattle.line.proofs.Calling.{Does, does, full-outcome, waits-outcome, by-ending}
use Rattle.line.proofs.Accepting.{accept-within}

-- what comes first, k bytes of the cut and one answer, and then a further call
abbrev more_of : ℕ → Answer → Outcome → Outcome
more_of k a o = record { line = o.line; ending = o.ending; taken = k + o.taken; answers = a ∷ o.answers }

-- the step of a record by its bytes
abbrev stepped_of : Bench → List ℕ → Stepped
stepped_of b l = step_of b (get_or l 0 0) (get_or l 1 0) (get_or l 2 0) (get_or l 3 0)

module _ (b : Bench) (h : Held) (cut : List ℕ) (room k : ℕ) (lacks : k + length (held_of h) ≡ 4) (has : k ≤ length cut) (free : 8 ≤ room) where
  abbrev all : List ℕ
  all = held_of h ++ cut

  abbrev s : Stepped
  s = stepped_of b all

  -- the first record by itself
  pub alone : run_of (first_record all) room b ≡ record { bench = s.bench; ending = Empty; taken = 4; answers = s.answer ∷ [] }
  alone = run_more (get_or all 0 0) (get_or all 1 0) (get_or all 2 0) (get_or all 3 0) [] room b free ∙ ap (onto 4 (s.answer ∷ [])) (run_none (room - 8) s.bench)

  past : drop (0 + 4) all ≡ drop k cut
  past =
      let e : 0 + 4 ≡ length (held_of h) + k = omega arith in
      ap (λ (n : ℕ). drop n all) e ∙ drop-append-add (held_of h) cut k

  far : (t : ℕ) → drop (4 + t) all ≡ drop t (drop k cut)
  far t = sym (drop-drop t 4 all) ∙ ap (λ (x : List ℕ). drop t x) past

  read_more : run_over (open_of b h) cut room ≡ after s (run_of (drop k cut) (room - 8))
  read_more =
      let long : 0 + 4 ≤ length all = simp length-append (omega arith) in
      ap (λ (x : List ℕ). run_of x room b) (record-at all 0 long)
      ∙ run_more _ _ _ _ (drop (0 + 4) all) room b free
      ∙ ap (λ (x : List ℕ). after s (run_of x (room - 8))) past

  more-outcome : outcome_of (open_of b h) cut room ≡ more_of k s.answer (outcome_of (empty_of s.bench) (drop k cut) (room - 8))
  more-outcome =
      let l = open_of b h in
      let m = empty_of s.bench in
      let rest = drop k cut in
      let r = run_of rest (room - 8) s.bench in
      by-ending rest (room - 8) s.bench (outcome_of l cut room ≡ more_of k s.answer (outcome_of m rest (room - 8)))
      (λ e.
      let none : drop (4 + r.taken) (held_of h) ≡ [] = drop_of_length-le (held_of h) {i = 4 + r.taken} (omega (arith, held-most h)) in
      let took : (4 + r.taken) - length (held_of h) ≡ k + (r.taken - 0) = omega arith in
      full-outcome l cut room refl (ap (λ (x : Run). x.ending) read_more ∙ e)
      ∙ ap (λ (x : Run). full_of l x) read_more
      ∙ rw (full-outcome m rest (room - 8) refl e, none, drop-nil, took))
      (λ n.
      let took : length cut ≡ k + length rest = simp length-drop (omega arith) in
      waits-outcome l cut room refl (λ q. n (sym (ap (λ (x : Run). x.ending) read_more) ∙ q))
      ∙ ap (λ (x : Run). waits_of l cut x) read_more
      ∙ rw (waits-outcome m rest (room - 8) refl n, far r.taken, took))

-- what a call on the rest of a cut told, within that cut and its output
pub rest-within : (b : Bench) (rest out : List ℕ) (r : Called) (cut : List ℕ) (k : ℕ) → rest ≡ drop k cut → r ≡ accept_of (empty_of b) rest out
    → (r.taken ≤ length cut - k) × (8 * r.answers ≤ length out)
rest-within b rest out r cut k e q =
    let w = accept-within (empty_of b) rest out r q in
    let long : length rest ≡ length cut - k = rw e (length-drop k cut) in
    (omega (arith, w.0), w.1)

-- eight bytes laid at the front, and what then stands behind them
module _ (out p : List ℕ) (eight : length p ≡ 8) (free : 8 ≤ length out) (out₁ : List ℕ) (e : out₁ ≡ laid_at out 0 p) where
  front : out₁ ≡ p ++ drop 8 out
  front = e ∙ laid-front out p ∙ ap (λ (n : ℕ). p ++ drop n out) eight

  head : take 8 out₁ ≡ p
  head = rw front (take_at p (drop 8 out) 8 eight)

  tail : drop 8 out₁ ≡ drop 8 out
  tail = rw front (drop_at p (drop 8 out) 8 eight)

  mid : take (length out₁ - 8) (drop 8 out₁) ≡ drop 8 out
  mid = take_all (length out₁ - 8) (drop 8 out₁) (simp length-drop (omega arith)) ∙ tail

  behind : drop (length out₁ - 8) (drop 8 out₁) ≡ []
  behind = drop_of_length-le (drop 8 out₁) {i = length out₁ - 8} (simp length-drop (omega arith))

  both : (w : List ℕ) → take 8 out₁ ++ (laid_at (drop 8 out) 0 w ++ drop (length out₁ - 8) (drop 8 out₁)) ≡ laid_at out 0 (p ++ w)
  both w =
      let long : length (p ++ w) ≡ 8 + length w = simp length-append (omega arith) in
      rw (head, behind, append-nil, laid-front (drop 8 out) w, laid-front out (p ++ w), drop-drop (length w) 8 out, long)
      (sym (append_assoc p w (drop (8 + length w) out)))

-- one answer's bytes, and then those of more
written_both : (a : Answer) (l : List Answer) → written_of (a ∷ []) ++ written_of l ≡ written_of (a ∷ l)
unfolding written_of
written_both a l = refl

module _ (b : Bench) (h : Held) (cut out : List ℕ) (k : ℕ) (lacks : k + length (held_of h) ≡ 4) (has : k ≤ length cut) (free : 8 ≤ length out)
    (b₁ : Bench) (eb : b₁ ≡ (run_of (first_record (held_of h ++ cut)) (length out) b).bench)
    (out₁ : List ℕ) (eo : out₁ ≡ laid_at out 0 (written_of (run_of (first_record (held_of h ++ cut)) (length out) b).answers))
    (rest : List ℕ) (er : rest ≡ drop k cut) where
  pub more-does : (r : Called) (out₂ : List ℕ) → Does (empty_of b₁) rest (take (length out₁ - 8) (drop 8 out₁)) r out₂
      → Does (open_of b h) cut out (record { line = r.line; ending = r.ending; taken = k + r.taken; answers = 1 + r.answers })
      (take 8 out₁ ++ (out₂ ++ drop (length out₁ - 8) (drop 8 out₁)))
  unfolding accept_of accepted_of
  more-does r out₂ d =
      let s = stepped_of b (held_of h ++ cut) in
      let one = alone b h cut (length out) k lacks has free in
      let first : b₁ ≡ s.bench = eb ∙ ap (λ (x : Run). x.bench) one in
      let p = written_of (s.answer ∷ []) in
      let eight : length p ≡ 8 = length-written (s.answer ∷ []) in
      let laid : out₁ ≡ laid_at out 0 p = eo ∙ ap (λ (x : Run). laid_at out 0 (written_of x.answers)) one in
      let o = outcome_of (empty_of s.bench) (drop k cut) (length out - 8) in
      let room : length (drop 8 out) ≡ length out - 8 = length-drop 8 out in
      let told : r ≡ called_of o = rw (first, er, mid out p eight free out₁ laid, room) at d.0 in
      let wrote : out₂ ≡ laid_at (drop 8 out) 0 (written_of o.answers) = rw (first, er, mid out p eight free out₁ laid, room) at d.1 in
      let one_more : 1 + length o.answers ≡ suc (length o.answers) = omega arith in
      let q : record { line = r.line; ending = r.ending; taken = k + r.taken; answers = 1 + r.answers } ≡ called_of (more_of k s.answer o) =
      rw (told, one_more) in
      let joined : p ++ written_of o.answers ≡ written_of (s.answer ∷ o.answers) = written_both s.answer o.answers in
      rw q
      (does (open_of b h) cut out (more_of k s.answer o) (more-outcome b h cut (length out) k lacks has free)
      (take 8 out₁ ++ (out₂ ++ drop (length out₁ - 8) (drop 8 out₁)))
      (rw (wrote, ← joined) (both out p eight free out₁ laid (written_of o.answers))))
