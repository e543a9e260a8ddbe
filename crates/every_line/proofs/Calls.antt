-- `Calls` of specs/Calls.antt holds of every line. Assumes nothing.
use Prim.Native.Nat.{ℕ, zero, suc, ◌+◌, ◌-◌, ◌*◌, ◌≤◌}
use mathlib.Core.Bool.{Bool, true, false, false≢true}
use mathlib.Core.List.{List, [], ◌∷◌, ◌++◌, append-nil}
use mathlib.Core.Logic.{◌↔◌, ⊎_elim, inl, inr}
use mathlib.Core.Path.{◌≡◌, refl, sym, ap, ◌∙◌}
use native.Mathlib.Nat.{sub-zero, zero-sub, suc-sub-suc}
use native.Mathlib.Omega.{arith}
use lib.ListN.{length, drop, length-append, length-drop}
use lib.Seq.{drop-nil, drop-length, take_at, drop_at}
use Rattle.basics.proofs.Laying.{laid_none, laid-front}
use Rattle.replay.specs.Ending.{ending_number}
use Rattle.replay.specs.declared.ending.Ending.{Ending}
use Rattle.replay.specs.declared.ending.Ending.TheVariants as run_ends
use Rattle.replay.specs.Run.{Run, written_of}
use Rattle.replay.proofs.Replaying.{length-written}
use Rattle.every_replay.proofs.Counts.{sound}
use Rattle.line.specs.CallEnding.{call_ending_number}
use Rattle.line.specs.Held.{held_of, closing_ending}
use Rattle.line.specs.Line.{Outcome, run_over, waits_of, full_of, outcome_of, accepted_of}
use Rattle.line.specs.declared.held.Held.{Held}
use Rattle.line.specs.declared.held.Held.TheVariants.{Nothing, One, Two, Three}
use Rattle.line.specs.declared.calls.Line.{Line}
use Rattle.line.proofs.Holding.{held-most, held_kept}
use Rattle.line.proofs.Calling.{closed-outcome, full-outcome, waits-outcome, by-ending, closing-open, closing-closed}
use Rattle.line.proofs.Accepting.{accepted-same}
use Rattle.every_line.specs.Calls.{SoundCall, Records, Output, Closes, Calls}
use Rattle.every_line.proofs.Records.{took}

-- what is left of two lists, one behind the other
pub drop-both : (l m : List ℕ) (t : ℕ) → drop t (l ++ m) ≡ drop t l ++ drop (t - length l) m
drop-both [] m t = rw (drop-nil, sub-zero)
drop-both (x ∷ l) m zero = rw zero-sub
drop-both (x ∷ l) m (suc t) = rw suc-sub-suc (drop-both l m t)

-- a run that ends with 4 has no room
no_room : (e : Ending) → ending_number e ≡ 4 → e ≡ run_ends.NoRoom
no_room run_ends.Empty h = absurd (omega arith)
no_room run_ends.CutShort h = absurd (omega arith)
no_room run_ends.NoRoom h = refl

-- a cut on an open line, by how the run over its bytes ends
module _ (l : Line) (cut : List ℕ) (room : ℕ) (o : l.closed ≡ false) where
  abbrev held : List ℕ
  held = held_of l.held

  abbrev r : Run
  r = run_over l cut room

  not-closed : {A : Type 0} → l.closed ≡ true → A
  not-closed q = absurd (false≢true (sym o ∙ q))

  long : length (held ++ cut) ≡ length held + length cut
  long = length-append held cut

  module _ (e : r.ending ≡ run_ends.NoRoom) where
    full-held : held_of (full_of l r).line.held ≡ drop (4 * length r.answers) held
    full-held =
        let s = sound (held ++ cut) room l.bench in
        held_kept (drop r.taken held) (simp length-drop (omega (arith, held-most l.held))) ∙ ap (λ (n : ℕ). drop n held) s.taken

    pub sound-full : SoundCall l cut room (full_of l r)
    sound-full =
        let s = sound (held ++ cut) room l.bench in
        let f = s.full.0 (ap ending_number e) in
        record {
          endings = inr (inl refl);
          closed = (λ q. absurd (omega (arith, q)), not-closed);
          unmoved = not-closed;
          full = λ _. (λ _. (omega (arith, f.0, s.taken, long), f.1), λ _. refl);
          full-takes = λ _. rw s.taken;
          full-keeps = λ _. full-held;
          all = λ q. absurd (omega (arith, q));
          still_open = λ _. refl;
          three = held-most (full_of l r).line.held;
          within = omega (arith, s.within, long);
          has_room = s.has_room;
          balance = rw full-held (simp length-drop (omega (arith, s.taken, held-most l.held, f.0)));
          rest = rw full-held (rw s.taken (sym (drop-both held cut (4 * length r.answers))));
        }

  module _ (n : r.ending ≡ run_ends.NoRoom → ⊥) where
    few-left : length (drop r.taken (held ++ cut)) ≤ 3
    few-left =
        let s = sound (held ++ cut) room l.bench in
        simp length-drop (⊎_elim (λ e. omega (arith, s.none.0 e)) (λ m. ⊎_elim (λ e. omega (arith, (s.short.0 e).1)) (λ e. absurd (n (no_room r.ending e))) m) s.endings)

    waits-held : held_of (waits_of l cut r).line.held ≡ drop (4 * length r.answers) (held ++ cut)
    waits-held =
        let s = sound (held ++ cut) room l.bench in
        held_kept (drop r.taken (held ++ cut)) few-left ∙ ap (λ (k : ℕ). drop k (held ++ cut)) s.taken

    pub sound-waits : SoundCall l cut room (waits_of l cut r)
    sound-waits =
        let s = sound (held ++ cut) room l.bench in
        record {
          endings = inl refl;
          closed = (λ q. absurd (omega (arith, q)), not-closed);
          unmoved = not-closed;
          full = λ _. (λ q. absurd (omega (arith, q)), λ f. absurd (n (no_room r.ending (s.full.1 (omega (arith, f.0, s.taken, long), f.1)))));
          full-takes = λ q. absurd (omega (arith, q));
          full-keeps = λ q. absurd (omega (arith, q));
          all = λ _. refl;
          still_open = λ _. refl;
          three = held-most (waits_of l cut r).line.held;
          within = omega arith;
          has_room = s.has_room;
          balance = rw waits-held (simp length-drop (omega (arith, s.taken, s.within, long)));
          rest = rw (waits-held, drop-length) (append-nil (drop (4 * length r.answers) (held ++ cut)));
        }

cut-sound : (l : Line) (cut : List ℕ) (room : ℕ) (t : Bool) → l.closed ≡ t → SoundCall l cut room (outcome_of l cut room)
cut-sound l cut room true e =
    rw (closed-outcome l e cut room)
    (record {
      endings = inr (inr refl);
      closed = (λ q. e, λ q. refl);
      unmoved = λ _. refl;
      full = λ o. absurd (false≢true (sym o ∙ e));
      full-takes = λ q. absurd (omega (arith, q));
      full-keeps = λ q. absurd (omega (arith, q));
      all = λ q. absurd (omega (arith, q));
      still_open = λ o. o;
      three = held-most l.held;
      within = omega arith;
      has_room = omega arith;
      balance = omega arith;
      rest = refl;
    })
cut-sound l cut room false o =
    by-ending (held_of l.held ++ cut) room l.bench (SoundCall l cut room (outcome_of l cut room))
    (λ e. rw (full-outcome l cut room o e) (sound-full l cut room o e))
    (λ n. rw (waits-outcome l cut room o n) (sound-waits l cut room o n))

cut-records : (l : Line) (cut : List ℕ) (room : ℕ) → l.closed ≡ false → Records l cut (outcome_of l cut room)
cut-records l cut room o =
    let all = held_of l.held ++ cut in
    let s = sound all room l.bench in
    let t = took all room l.bench in
    let bytes = rw s.taken at t.bytes in
    by-ending all room l.bench (Records l cut (outcome_of l cut room))
    (λ e. rw (full-outcome l cut room o e) (record { records = t.records; bytes = bytes; answered = t.answered }))
    (λ n. rw (waits-outcome l cut room o n) (record { records = t.records; bytes = bytes; answered = t.answered }))

-- closing, by what is held
numbers : (h : Held) → ((call_ending_number (closing_ending h) ≡ 0) ↔ (length (held_of h) ≡ 0)) × ((call_ending_number (closing_ending h) ≡ 3) ↔ ((1 ≤ length (held_of h)) × (length (held_of h) ≤ 3)))
numbers Nothing = ((λ q. refl, λ q. refl), (λ q. absurd (omega (arith, q)), λ q. absurd (omega (arith, q.0))))
numbers (One a) = ((λ q. absurd (omega (arith, q)), λ q. absurd (omega (arith, q))), (λ q. (omega arith, omega arith), λ q. refl))
numbers (Two a b) = ((λ q. absurd (omega (arith, q)), λ q. absurd (omega (arith, q))), (λ q. (omega arith, omega arith), λ q. refl))
numbers (Three a b c) = ((λ q. absurd (omega (arith, q)), λ q. absurd (omega (arith, q))), (λ q. (omega arith, omega arith), λ q. refl))

closes : (l : Line) (t : Bool) → l.closed ≡ t → Closes l
closes l true e =
    let q = closing-closed l e in
    record {
      closed = ap (λ (o : Outcome). o.line.closed) q ∙ e;
      chips = ap (λ (o : Outcome). o.line.bench) q;
      held = ap (λ (o : Outcome). o.line.held) q;
      nothing = (ap (λ (o : Outcome). o.taken) q, ap (λ (o : Outcome). o.answers) q);
      zero = λ o. absurd (false≢true (sym o ∙ e));
      three = λ o. absurd (false≢true (sym o ∙ e));
      again = λ _. q;
    }
closes l false e =
    let q = closing-open l e in
    record {
      closed = ap (λ (o : Outcome). o.line.closed) q;
      chips = ap (λ (o : Outcome). o.line.bench) q;
      held = ap (λ (o : Outcome). o.line.held) q;
      nothing = (ap (λ (o : Outcome). o.taken) q, ap (λ (o : Outcome). o.answers) q);
      zero = λ _. rw q (numbers l.held).0;
      three = λ _. rw q (numbers l.held).1;
      again = λ h. absurd (false≢true (sym e ∙ h));
    }

cut-output : (l : Line) (cut out : List ℕ) → Output l cut out (outcome_of l cut (length out))
unfolding accepted_of written_of
cut-output l cut out =
    let answers = (outcome_of l cut (length out)).answers in
    let long : length (written_of answers) ≡ 8 * length answers = length-written answers in
    let front : accepted_of l cut out ≡ written_of answers ++ drop (8 * length answers) out = laid-front out (written_of answers) ∙ ap (λ (n : ℕ). written_of answers ++ drop n out) long in
    record {
      same = accepted-same l cut out (accepted_of l cut out) refl;
      front = rw front (take_at (written_of answers) (drop (8 * length answers) out) (8 * length answers) long);
      past = rw front (drop_at (written_of answers) (drop (8 * length answers) out) (8 * length answers) long);
      untouched = λ c. rw (closed-outcome l c cut (length out)) (laid_none out 0);
    }

pub calls : (l : Line) → Calls l
calls l =
    record {
      sound = λ cut room. cut-sound l cut room l.closed refl;
      each = λ o cut room. cut-records l cut room o;
      output = cut-output l;
      closes = closes l l.closed refl;
    }
