-- The text of a cut, and of the end. Assumes nothing.
use Prim.Native.Nat.{ℕ, ◌*◌, ◌≤◌}
use mathlib.Core.List.{List, [], ◌++◌}
use mathlib.Core.Path.{◌≡◌, ap, ap₂, ◌∙◌}
use native.Mathlib.Omega.{arith}
use lib.ListN.{length, take, replicate, length-append, length-replicate}
use Rattle.text.specs.Lines.{per_line}
use Rattle.decimal.proofs.Digits.{length-decimal}
use Rattle.decimal.specs.Decimal.{most_digits}
use Rattle.answer_lines.specs.Marked.{with_lines}
use Rattle.answer_lines.proofs.Lined.{adds-lines, lines-answers}
use Rattle.replay.specs.Run.{written_of}
use Rattle.replay.proofs.Replaying.{length-written}
use Rattle.line.specs.CallEnding.{call_ending_number}
use Rattle.line.specs.Line.{outcome_of, closing_of, accept_of, accepted_of}
use Rattle.line.specs.declared.calls.Line.{Line}
use Rattle.line.specs.declared.calls.Called.{Called}
use Rattle.line.proofs.Calling.{outcome-within}
use Rattle.line.proofs.Accepting.{accept-within, accepted-same, accepted-front}
use Rattle.serial_text.specs.Turn.{most_turn_answers, turn_of, turn_text_of, turn_length, told_of}
use Rattle.serial_text.specs.Ending.{last_text_of, last_length}
use Rattle.serial_text.specs.declared.turn.Told.{Told}

-- the output as it is lent: zeros, with room for all answers
abbrev pub most_out : ℕ
most_out = per_line * most_turn_answers

abbrev pub lent : List ℕ
lent = replicate most_out 0

length-lent : length lent ≡ most_out
length-lent = length-replicate {A = ℕ} most_out 0

pub out_within : (l : Line) (cut : List ℕ) {r : Called} {out' : List ℕ} → r ≡ accept_of l cut lent → out' ≡ accepted_of l cut lent
    → (per_line * r.answers ≤ most_out) × (length out' ≡ most_out)
out_within l cut {r} {out'} e w = (rw length-lent at (accept-within l cut lent r e).1, accepted-same l cut lent out' w ∙ length-lent)

-- the answers that the call gave, on lines
pub told_text : (l : Line) (cut : List ℕ) {r : Called} {out' t u : List ℕ} → t ≡ [] → r ≡ accept_of l cut lent → out' ≡ accepted_of l cut lent
    → u ≡ with_lines turn_length t (take (per_line * r.answers) out') → u ≡ turn_text_of l cut
unfolding turn_text_of
told_text l cut {r} {out'} {t} {u} empty e w a =
    let answers = (turn_of l cut).answers in
    let bytes : length (written_of answers) ≡ 8 * length answers = length-written answers in
    let most = (outcome-within l cut most_out).1 in
    let same : outcome_of l cut (length lent) ≡ turn_of l cut = ap (outcome_of l cut) length-lent in
    let front : take (per_line * r.answers) out' ≡ written_of answers = rw same at (accepted-front l cut lent r e out' w) in
    adds-lines turn_length t (written_of answers) (rw front at a) (omega (arith, bytes, most, ap length empty))
    ∙ ap₂ (λ (x y : List ℕ). x ++ y) empty (lines-answers answers)

-- what the call gave, with that text
pub told : (l : Line) (cut : List ℕ) {r : Called} {u : List ℕ} → r ≡ accept_of l cut lent → u ≡ turn_text_of l cut
    → ◌≡◌ {A = Told} (record { line = r.line; ending = r.ending; taken = r.taken; text = u }) (told_of l cut)
unfolding accept_of told_of
told l cut e text =
    let same : outcome_of l cut (length lent) ≡ turn_of l cut = ap (outcome_of l cut) length-lent in
    rw (e, same, text)

-- the last line has room
pub last-has-room : (l : Line) → length (last_text_of l) ≤ last_length
unfolding last_text_of
last-has-room l = simp length-append (omega (arith, length-decimal most_digits (call_ending_number (closing_of l).ending)))
