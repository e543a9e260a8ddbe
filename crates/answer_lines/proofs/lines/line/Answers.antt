use mathlib.Core.Path.{◌≡◌, sym, ap, ◌∙◌}
use native.Mathlib.Omega.{arith}
use Rattle.text.proofs.Adding.{adds, then-adds, whole}
use Rattle.answer_lines.specs.Lines.{line_end_of}
use Rattle.answer_lines.specs.Marked.{marked_of}
use Rattle.answer_lines.proofs.Lined.{length_marked}
use Rattle.answer_lines.proofs.lines.line.Goals as goal
use Rattle.answer_lines.proofs.lines.line.Goals.{then-is_odd, else-is_odd}

pub returns : goal.returns
unfolding marked_of
returns c =
    let end : c.if-is_odd.end.now ≡ line_end_of c.is_odd.result =
    elim c.if-is_odd.branch [
      | then-is_odd w ↦ ap (λ b. b.now) w.end-is ∙ sym (ap line_end_of w.if-is_odd.true)
      | else-is_odd w ↦ ap (λ b. b.now) w.end-is ∙ sym (ap line_end_of w.if-is_odd.false)
    ] in
    let all = then-adds (adds _ _ _ c.put_hex.ensures.put) (adds _ _ _ (rw (end ∙ ap line_end_of c.is_odd.ensures) at c.put.ensures.put)) in
    whole c.new-line.ensures all (length_marked c.args.answer.now (omega arith))
