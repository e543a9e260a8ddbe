-- `Together` of specs/Cuts.antt holds of every line. Assumes nothing.
use Prim.Native.Nat.{ℕ, ◌+◌, ◌-◌, ◌*◌, ◌≤◌}
use mathlib.Core.Bool.{false}
use mathlib.Core.List.{List, [], ◌∷◌, ◌++◌, append_assoc, append-nil}
use mathlib.Core.Path.{◌≡◌, refl, sym, ap, subst, ◌∙◌}
use native.Mathlib.Omega.{arith}
use lib.ListN.{length, drop, length-append, drop_of_length-le}
use Rattle.answer.specs.declared.Answer.{Answer}
use Rattle.bench.specs.declared.step.Bench.{Bench}
use Rattle.replay.specs.Ending.{ending_number}
use Rattle.replay.specs.declared.ending.Ending.{Ending}
use Rattle.replay.specs.declared.ending.Ending.TheVariants.{Empty, CutShort, NoRoom}
use Rattle.replay.specs.Run.{Run, stop, run_of}
use Rattle.replay.proofs.Runs.{run_none, run_short}
use Rattle.every_replay.proofs.Counts.{sound}
use Rattle.every_replay.proofs.Parts.{run_on}
use Rattle.line.specs.CallEnding.{call_ending_number}
use Rattle.line.specs.Held.{held_of, closing_ending}
use Rattle.line.specs.Line.{Outcome, run_over, outcome_of, closing_of}
use Rattle.line.specs.declared.held.Held.{Held}
use Rattle.line.specs.declared.held.Held.TheVariants.{Nothing, One, Two, Three}
use Rattle.line.specs.declared.calls.Line.{Line}
use Rattle.line.proofs.Calling.{full-outcome, waits-outcome, by-ending, closing-open}
use Rattle.every_line.specs.Cuts.{RoomFor, AsOneReplay, Cut, joined_of, last_of, answers_of, Roomy, Brought, done, call, Together}
use Rattle.every_line.proofs.Calls.{calls}

-- how a replay of what a line holds ends
abbrev pub held_ending : Held → Ending
held_ending Nothing = Empty
held_ending (One a) = CutShort
held_ending (Two a b) = CutShort
held_ending (Three a b c) = CutShort

-- closing tells that number
closing-number : (h : Held) → call_ending_number (closing_ending h) ≡ ending_number (held_ending h)
closing-number Nothing = refl
closing-number (One a) = refl
closing-number (Two a b) = refl
closing-number (Three a b c) = refl

-- all calls, and then closing, as a run
abbrev pub as_run : Line → List Answer → Run
as_run last answers =
    record { bench = (closing_of last).line.bench; ending = held_ending last.held; taken = 4 * length answers; answers = answers }

-- calls leave an open line open
last-open : {l : Line} {bytes : List ℕ} {answers : List Answer} {last : Line} → Brought l bytes answers last → l.closed ≡ false → last.closed ≡ false
last-open (done l) o = o
last-open (call l cut more own answers last d) o = last-open d (((calls l).sound cut own).still_open o)

-- a call has the answers of the run over its bytes, and leaves its chips
same-run : (l : Line) (cut : List ℕ) (room : ℕ) → l.closed ≡ false
    → ((outcome_of l cut room).answers ≡ (run_over l cut room).answers) × ((outcome_of l cut room).line.bench ≡ (run_over l cut room).bench)
same-run l cut room o =
    by-ending (held_of l.held ++ cut) room l.bench
    (((outcome_of l cut room).answers ≡ (run_over l cut room).answers) × ((outcome_of l cut room).line.bench ≡ (run_over l cut room).bench))
    (λ e. let q = full-outcome l cut room o e in (ap (λ (k : Outcome). k.answers) q, ap (λ (k : Outcome). k.line.bench) q))
    (λ n. let q = waits-outcome l cut room o n in (ap (λ (k : Outcome). k.answers) q, ap (λ (k : Outcome). k.line.bench) q))

-- what is held, replayed, is what closing tells of it
held-run : (h : Held) (room : ℕ) (b : Bench) → run_of (held_of h) room b ≡ stop b (held_ending h)
held-run Nothing room b = run_none room b
held-run (One x) room b = run_short (x ∷ []) room b (omega arith) (omega arith)
held-run (Two x y) room b = run_short (x ∷ y ∷ []) room b (omega arith) (omega arith)
held-run (Three x y z) room b = run_short (x ∷ y ∷ z ∷ []) room b (omega arith) (omega arith)

-- into any room that holds the answers of all calls
pub wide : {l : Line} {bytes : List ℕ} {answers : List Answer} {last : Line} → Brought l bytes answers last → l.closed ≡ false
    → (room : ℕ) → 8 * length answers ≤ room → run_of (held_of l.held ++ bytes) room l.bench ≡ as_run last answers
wide (done l) o room h = rw (append-nil, closing-open l o) (held-run l.held room l.bench)
wide (call l cut more own answers last d) o room h =
    let held = held_of l.held in
    let r = run_over l cut own in
    let k = outcome_of l cut own in
    let q = same-run l cut own o in
    let c = (calls l).sound cut own in
    let s = sound (held ++ cut) own l.bench in
    let left = room - 8 * length r.answers in
    let total : 8 * (length r.answers + length answers) ≤ room = simp length-append at (rw q.0 at h) in
    let rest : held_of k.line.held ++ drop k.taken cut ≡ drop r.taken (held ++ cut) =
    c.rest ∙ rw (q.0, s.taken) in
    let due : drop r.taken (held ++ cut) ++ more ≡ held_of k.line.held ++ (drop k.taken cut ++ more) =
    ap (λ (x : List ℕ). x ++ more) (sym rest) ∙ append_assoc (held_of k.line.held) (drop k.taken cut) more in
    let then : run_of (held_of k.line.held ++ (drop k.taken cut ++ more)) left k.line.bench ≡ as_run last answers =
    wide d (c.still_open o) left (omega arith) in
    let took : r.taken + 4 * length answers ≡ 4 * length (r.answers ++ answers) = simp length-append (omega (arith, s.taken)) in
    ap (λ (x : List ℕ). run_of x room l.bench) (sym (append_assoc held cut more))
    ∙ run_on (held ++ cut) more own room l.bench (omega arith)
    ∙ rw (due, ← q.1, then, q.0, took)

-- a run with room for all its answers does not end with 4
not_full : (bytes : List ℕ) (room : ℕ) (b : Bench) → RoomFor bytes room → (run_of bytes room b).ending ≡ NoRoom → ⊥
not_full bytes room b h e = let s = sound bytes room b in let f = s.full.0 (ap ending_number e) in absurd (omega (arith, f.0, f.1, s.taken))

pub brought : {l : Line} {bytes : List ℕ} {answers : List Answer} {last : Line} → Brought l bytes answers last → l.closed ≡ false
    → AsOneReplay l bytes answers last
brought {l} {bytes} {answers} {last} d o room h =
    let all = held_of l.held ++ bytes in
    let w = 8 * length answers + room in
    let big = wide d o w (omega arith) in
    let s = sound all w l.bench in
    let few : 8 * length answers ≤ room = let t = ap (λ (r : Run). r.answers) big in let m = rw t at s.taken in omega (arith, s.within, m) in
    let q = wide d o room few in
    record {
      answers-same = ap (λ (r : Run). r.answers) (sym q);
      chips-same = ap (λ (r : Run). r.bench) (sym q);
      number_same =
          ap (λ (k : Outcome). call_ending_number k.ending) (closing-open last (last-open d o))
          ∙ closing-number last.held
          ∙ ap (λ (r : Run). ending_number r.ending) (sym q);
    }

pub roomy : (l : Line) → l.closed ≡ false → (cut : List ℕ) (room : ℕ) → RoomFor (held_of l.held ++ cut) room
    → (call_ending_number (outcome_of l cut room).ending ≡ 0) × ((outcome_of l cut room).taken ≡ length cut)
roomy l o cut room h =
    rw (waits-outcome l cut room o (not_full (held_of l.held ++ cut) room l.bench h)) (refl, refl)

cuts-brought : (l : Line) → l.closed ≡ false → (cuts : List Cut) → Roomy l cuts → Brought l (joined_of cuts) (answers_of l cuts) (last_of l cuts)
unfolding joined_of answers_of last_of Roomy
cuts-brought l o [] h = done l
cuts-brought l o (c ∷ cuts) h =
    let k = outcome_of l c.bytes c.room in
    let none : drop k.taken c.bytes ≡ [] = drop_of_length-le c.bytes {i = k.taken} (omega (arith, (roomy l o c.bytes c.room h.0).1)) in
    let due : drop k.taken c.bytes ++ joined_of cuts ≡ joined_of cuts = ap (λ (x : List ℕ). x ++ joined_of cuts) none in
    let rest = cuts-brought k.line (((calls l).sound c.bytes c.room).still_open o) cuts h.1 in
    call l c.bytes (joined_of cuts) c.room (answers_of k.line cuts) (last_of k.line cuts)
    (subst (λ (x : List ℕ). Brought k.line x (answers_of k.line cuts) (last_of k.line cuts)) (sym due) rest)

pub together : (l : Line) → Together l
together l =
    record {
      cuts = λ o cuts h. brought (cuts-brought l o cuts h) o;
      brought = λ o bytes answers last d. brought d o;
      roomy = roomy l;
    }
