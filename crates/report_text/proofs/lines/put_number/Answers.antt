use mathlib.Core.Path.{ap}
use Rattle.text.proofs.Adding.{adds}
use Rattle.report_text.proofs.Telling.{ends-line, goes_on}
use Rattle.report_text.proofs.lines.put_number.Goals as goal
use Rattle.report_text.proofs.lines.put_number.Goals.{then-last, else-last}

pub returns : goal.returns
returns g c =
    let digits = adds _ _ _ c.add_decimal.ensures in
    let behind = adds _ _ _ c.put.ensures.put in
    elim c.if-last.branch [
      | then-last w ↦ ends-line _ _ digits w.if-last.true (ap (λ b. b.now) w.put-is) behind
      | else-last w ↦ goes_on _ _ digits w.if-last.false (ap (λ b. b.now) w.put-is) behind
    ]
