-- A call made and shown. Assumes nothing.
use Prim.Native.Nat.{ℕ, ◌+◌, ◌-◌, ◌≤◌}
use mathlib.Core.List.{List, []}
use mathlib.Core.Path.{◌≡◌, sym, ap, ◌∙◌}
use native.Mathlib.Omega.{arith}
use lib.ListN.{length, take, drop, length-drop}
use lib.Seq.{length-take-le}
use Rattle.batch.specs.Fresh.{most_output}
use Rattle.line.specs.CallEnding.{call_ending_number}
use Rattle.line.specs.Line.{outcome_of, closing_of, accept_of, accepted_of, close_of}
use Rattle.line.specs.declared.calls.Line.{Line}
use Rattle.line.specs.declared.calls.Called.{Called}
use Rattle.line.proofs.Calling.{outcome-within}
use Rattle.line.proofs.Accepting.{closing-nothing}
use Rattle.rooms_text.specs.Rooms.{counts_of, given_text_of}
use Rattle.rooms_text.proofs.Shown.{length-counts, given-has-room}
use Rattle.text.specs.Lines.{lines_of}
use Rattle.text.specs.private.Adds.{Adds}
use Rattle.text.proofs.Adding.{then-adds}
use Rattle.text.proofs.Lining.{length-lines}
use Rattle.std.specs.Prelude.{Option, Some, None}
use Rattle.cuts_text.specs.declared.asked.Asked.{Asked}
use Rattle.cuts_text.specs.declared.made.Made.{Made}
use Rattle.cuts_text.specs.Asked.{call_head, first_of}
use Rattle.cuts_text.specs.Made.{close_text_of, cut_text_of, call_text_length, text_shown, made_by, made_of, text_by, call_text_of}
use Rattle.cuts_text.specs.private.Within.{shown_as}

-- a closing, by its counts
pub closes : (l : Line) {r : Called} {told t u : List ℕ} → r ≡ close_of l → told ≡ counts_of (call_ending_number r.ending) 0 0
    → Adds call_text_length t u (lines_of told) → (shown_as r.line 1 ≡ shown_as (closing_of l).line 1) × Adds call_text_length t u (close_text_of l)
unfolding close_of close_text_of
closes l {r} {told} {t} {u} e counts w =
    let n = closing-nothing l in
    let same : told ≡ counts_of (call_ending_number (closing_of l).ending) (closing_of l).taken (length (closing_of l).answers) = counts ∙ rw (e, n.0, n.1) in
    (rw e, rw same at w)

-- a cut, by its counts and its output
pub accepts : (l : Line) (cut out : List ℕ) {r : Called} {out' told t u s : List ℕ}
    → r ≡ accept_of l cut out → out' ≡ accepted_of l cut out → told ≡ counts_of (call_ending_number r.ending) r.taken r.answers
    → Adds call_text_length t u (lines_of told) → Adds call_text_length u s (lines_of out')
    → (shown_as r.line (call_head + length cut) ≡ shown_as (outcome_of l cut (length out)).line (call_head + length cut))
    × Adds call_text_length t s (cut_text_of l cut out)
unfolding accept_of accepted_of cut_text_of given_text_of
accepts l cut out {r} {out'} {told} {t} {u} {s} e w counts a b =
    (rw e, then-adds (rw (counts, e) at a) (rw w at b))

-- the text of either has room
pub close-has-room : (l : Line) → length (close_text_of l) ≤ call_text_length
unfolding close_text_of
close-has-room l =
    let c = counts_of (call_ending_number (closing_of l).ending) (closing_of l).taken (length (closing_of l).answers) in
    omega (arith, length-lines c, length-counts (call_ending_number (closing_of l).ending) (closing_of l).taken (length (closing_of l).answers))

pub cut-has-room : (l : Line) (cut out : List ℕ) → length out ≤ most_output → length (cut_text_of l cut out) ≤ call_text_length
unfolding cut_text_of
cut-has-room l cut out most =
    let o = outcome_of l cut (length out) in
    given-has-room (call_ending_number o.ending) o.taken o.answers out (outcome-within l cut (length out)).1 most

-- the bytes of a cut, behind its head
pub cut_bytes : (rest : List ℕ) (long : ℕ) → call_head + long ≤ length rest
    → (take (call_head + long - call_head) (drop call_head rest) ≡ take long (drop call_head rest)) × (length (take long (drop call_head rest)) ≡ long)
cut_bytes rest long h =
    let n : call_head + long - call_head ≡ long = omega arith in
    (ap (λ (k : ℕ). take k (drop call_head rest)) n, length-take-le long (drop call_head rest) (simp length-drop (omega arith)))

-- what is returned of the call that bytes begin with, if there is one
pub makes : (l : Line) (rest : List ℕ) {r : Option Asked} {m : Option Made} → r ≡ first_of rest → m ≡ made_by l rest r → m ≡ made_of l rest
unfolding made_of
makes l rest e h = h ∙ ap (made_by l rest) e

-- and what is shown of it
pub shows : (l : Line) (rest : List ℕ) (a : Asked) {r : Option Asked} {u : List ℕ} → r ≡ first_of rest → r ≡ Some a → u ≡ text_shown l rest a → u ≡ call_text_of l rest
unfolding call_text_of
shows l rest a e some h = h ∙ ap (text_by l rest) (sym some ∙ e)

pub shows-nothing : (l : Line) (rest : List ℕ) {r : Option Asked} {u : List ℕ} → r ≡ first_of rest → r ≡ None → u ≡ [] → u ≡ call_text_of l rest
unfolding call_text_of
shows-nothing l rest e none h = h ∙ ap (text_by l rest) (sym none ∙ e)
