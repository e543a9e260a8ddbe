-- A call on a line by what it meets: a closed line, no whole record, no room, or a record and then the rest. Assumes nothing.
use Prim.Native.Nat.{ℕ, ◌+◌, ◌*◌, ◌≤◌, ◌<◌}
use mathlib.Core.Bool.{Bool, true, false}
use mathlib.Core.Path.{◌≡◌, refl, sym, ap, ◌∙◌}
use mathlib.Core.List.{List, [], ◌∷◌, ◌++◌}
use native.Mathlib.Nat.{sub-zero, zero-sub}
use native.Mathlib.Omega.{arith}
use lib.ListN.{length, drop, length-append}
use lib.Seq.{drop-nil}
use Rattle.basics.specs.Choice.{when◌then◌else◌}
use Rattle.basics.specs.Lay.{laid_at}
use Rattle.basics.proofs.Laying.{laid_none}
use Rattle.bench.specs.declared.step.Bench.{Bench}
use Rattle.replay.specs.Run.{Run, stop, run_of, written_of, returned_of}
use Rattle.replay.specs.declared.ending.Ending.{Ending}
use Rattle.replay.specs.declared.ending.Ending.TheVariants as run_ends
use Rattle.replay.specs.declared.run.Replayed.{Replayed}
use Rattle.replay.proofs.Runs.{run_none, run_short, run-full}
use Rattle.replay.proofs.Replaying.{record-at}
use Rattle.every_replay.proofs.Counts.{sound}
use Rattle.line.specs.Held.{held_of, holding_of, closing_ending}
use Rattle.line.specs.Line.{Outcome, open_of, empty_of, unmoved_of, run_over, waits_of, full_of, open_outcome_of, outcome_of, closing_of, called_of, accept_of, accepted_of, close_of}
use Rattle.line.specs.declared.ending.CallEnding.TheVariants.{Done, NoRoom, Closed}
use Rattle.line.specs.declared.held.Held.{Held}
use Rattle.line.specs.declared.calls.Line.{Line}
use Rattle.line.specs.declared.calls.Called.{Called}
use Rattle.line.proofs.Holding.{kept-held, kept-none}

-- what a cut has to return, and what it has to leave in the output
abbrev pub Does : Line → List ℕ → List ℕ → Called → List ℕ → Type 0
Does l cut out r out' = (r ≡ accept_of l cut out) × (out' ≡ accepted_of l cut out)

pub does : (l : Line) (cut out : List ℕ) (o : Outcome) → outcome_of l cut (length out) ≡ o → (out' : List ℕ) → out' ≡ laid_at out 0 (written_of o.answers)
    → Does l cut out (called_of o) out'
unfolding accept_of accepted_of
does l cut out o e out' w = (rw e, rw e w)

-- where nothing is answered, nothing is written
untouched : (out : List ℕ) → out ≡ laid_at out 0 (written_of [])
unfolding written_of
untouched out = sym (laid_none out 0)

pub is_open : (l : Line) → l.closed ≡ false → open_of l.bench l.held ≡ l
is_open l o = ap (λ (t : Bool). record { bench = l.bench; held = l.held; closed = t }) (sym o)

pub closed-outcome : (l : Line) → l.closed ≡ true → (cut : List ℕ) (room : ℕ) → outcome_of l cut room ≡ unmoved_of l Closed
unfolding outcome_of when◌then◌else◌
closed-outcome l h cut room = rw h

pub closed-does : (l : Line) (cut out : List ℕ) → l.closed ≡ true → Does l cut out (called_of (unmoved_of l Closed)) out
closed-does l cut out h = does l cut out (unmoved_of l Closed) (closed-outcome l h cut (length out)) out (untouched out)

-- less than a record is left where a run does not end for want of room
waits-by : (l : Line) (cut : List ℕ) (r : Run) (e : Ending) → (e ≡ run_ends.NoRoom → ⊥) → open_outcome_of l cut r e ≡ waits_of l cut r
waits-by l cut r run_ends.Empty n = refl
waits-by l cut r run_ends.CutShort n = refl
waits-by l cut r run_ends.NoRoom n = absurd (n refl)

-- an open line, by how the run over its bytes ends
module _ (l : Line) (cut : List ℕ) (room : ℕ) (o : l.closed ≡ false) where
  pub full-outcome : (run_over l cut room).ending ≡ run_ends.NoRoom → outcome_of l cut room ≡ full_of l (run_over l cut room)
  unfolding outcome_of when◌then◌else◌
  full-outcome e = rw (o, e)

  pub waits-outcome : ((run_over l cut room).ending ≡ run_ends.NoRoom → ⊥) → outcome_of l cut room ≡ waits_of l cut (run_over l cut room)
  unfolding outcome_of when◌then◌else◌
  waits-outcome n = rw o (waits-by l cut (run_over l cut room) (run_over l cut room).ending n)

-- a run ends for want of room, or it does not
either : (e : Ending) (P : Type 0) → (e ≡ run_ends.NoRoom → P) → ((e ≡ run_ends.NoRoom → ⊥) → P) → P
either run_ends.NoRoom P f g = f refl
either run_ends.Empty P f g = g (λ q. cc)
either run_ends.CutShort P f g = g (λ q. cc)

pub by-ending : (batch : List ℕ) (room : ℕ) (b : Bench) (P : Type 0) → ((run_of batch room b).ending ≡ run_ends.NoRoom → P) → (((run_of batch room b).ending ≡ run_ends.NoRoom → ⊥) → P) → P
by-ending batch room b P f g = either (run_of batch room b).ending P f g

-- a line that holds nothing, by what the replay of its cut gave
module _ (b : Bench) (cut out : List ℕ) (r : Replayed) (e : r ≡ returned_of (run_of cut (length out) b))
    (out' : List ℕ) (w : out' ≡ laid_at out 0 (written_of (run_of cut (length out) b).answers)) where
  abbrev left : Bench
  left = r.bench

  pub replayed-full : r.ending ≡ run_ends.NoRoom → Does (empty_of b) cut out (record { line = empty_of left; ending = NoRoom; taken = r.taken; answers = r.answers }) out'
  replayed-full h =
      let q : (run_of cut (length out) b).ending ≡ run_ends.NoRoom = rw e at h in
      rw e (does (empty_of b) cut out _ (full-outcome (empty_of b) cut (length out) refl q ∙ rw (drop-nil, kept-none, sub-zero)) out' w)

  pub replayed-waits : (r.ending ≡ run_ends.NoRoom → ⊥) → (h : Held) → h ≡ holding_of (drop r.taken cut)
      → Does (empty_of b) cut out (record { line = open_of left h; ending = Done; taken = length cut; answers = r.answers }) out'
  replayed-waits n h k = rw (k, e) (does (empty_of b) cut out _ (waits-outcome (empty_of b) cut (length out) refl (λ q. n (rw e q))) out' w)

-- fewer bytes than a record has
few : (x : List ℕ) (room : ℕ) (b : Bench) → length x < 4 → ((run_of x room b).ending ≡ run_ends.NoRoom → ⊥) × (run_of x room b ≡ stop b (run_of x room b).ending)
few [] room b h = rw (run_none room b) (λ q. cc, refl)
few (x ∷ l) room b h = rw (run_short (x ∷ l) room b (omega arith) h) (λ q. cc, refl)

module _ (l : Line) (cut out : List ℕ) (o : l.closed ≡ false) where
  pub waits-does : length (held_of l.held) + length cut < 4 → (h : Held) → h ≡ holding_of (held_of l.held ++ cut)
      → Does l cut out (record { line = open_of l.bench h; ending = Done; taken = length cut; answers = 0 }) out
  waits-does g h k =
      let f = few (held_of l.held ++ cut) (length out) l.bench (simp length-append (omega arith)) in
      rw k (does l cut out _ (waits-outcome l cut (length out) o f.0 ∙ ap (λ (r : Run). waits_of l cut r) f.1) out (untouched out))

  pub full-does : 4 ≤ length (held_of l.held) + length cut → length out < 8 → Does l cut out (called_of (unmoved_of l NoRoom)) out
  full-does g h =
      let all = held_of l.held ++ cut in
      let long : 0 + 4 ≤ length all = simp length-append (omega arith) in
      let run : run_over l cut (length out) ≡ stop l.bench run_ends.NoRoom =
      ap (λ (x : List ℕ). run_of x (length out) l.bench) (record-at all 0 long) ∙ run-full _ _ _ _ (drop (0 + 4) all) (length out) l.bench h in
      let same : full_of l (stop l.bench run_ends.NoRoom) ≡ unmoved_of l NoRoom =
      rw (kept-held l.held, zero-sub (length (held_of l.held))) (ap (λ (m : Line). unmoved_of m NoRoom) (is_open l o)) in
      does l cut out (unmoved_of l NoRoom) (full-outcome l cut (length out) o (ap (λ (r : Run). r.ending) run) ∙ ap (λ (r : Run). full_of l r) run ∙ same) out (untouched out)

-- closing, of a closed line and of an open one
pub closing-closed : (l : Line) → l.closed ≡ true → closing_of l ≡ unmoved_of l Closed
unfolding closing_of when◌then◌else◌
closing-closed l h = rw h

pub closing-open : (l : Line) → l.closed ≡ false
    → closing_of l ≡ unmoved_of (record { bench = l.bench; held = l.held; closed = true }) (closing_ending l.held)
unfolding closing_of when◌then◌else◌
closing-open l h = rw h

pub closed-close : (l : Line) → l.closed ≡ true → called_of (unmoved_of l Closed) ≡ close_of l
unfolding close_of
closed-close l h = ap called_of (sym (closing-closed l h))

pub open-close : (l : Line) → l.closed ≡ false
    → called_of (unmoved_of (record { bench = l.bench; held = l.held; closed = true }) (closing_ending l.held)) ≡ close_of l
unfolding close_of
open-close l h = ap called_of (sym (closing-open l h))

-- a call takes no more than its cut has, and answers no more than has room
within : (l : Line) (cut : List ℕ) (room : ℕ) (t : Bool) → l.closed ≡ t → ((outcome_of l cut room).taken ≤ length cut) × (8 * length (outcome_of l cut room).answers ≤ room)
within l cut room true e = rw (closed-outcome l e cut room) (omega arith, omega arith)
within l cut room false e =
    let all = held_of l.held ++ cut in
    let s = sound all room l.bench in
    let long : length all ≡ length (held_of l.held) + length cut = length-append (held_of l.held) cut in
    by-ending all room l.bench (((outcome_of l cut room).taken ≤ length cut) × (8 * length (outcome_of l cut room).answers ≤ room))
    (λ q. rw (full-outcome l cut room e q) (omega (arith, s.within), s.has_room))
    (λ n. rw (waits-outcome l cut room e n) (omega arith, s.has_room))

pub outcome-within : (l : Line) (cut : List ℕ) (room : ℕ) → ((outcome_of l cut room).taken ≤ length cut) × (8 * length (outcome_of l cut room).answers ≤ room)
outcome-within l cut room = within l cut room l.closed refl
