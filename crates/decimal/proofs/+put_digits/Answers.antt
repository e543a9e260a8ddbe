use Rattle.text.proofs.Adding.{adds}
use Rattle.decimal.proofs.Digits.{adds-none, adds_one, adds-last}
use Rattle.decimal.proofs.+put_digits.Goals as goal
use Rattle.decimal.proofs.+put_digits.Goals.{then-n-ge10, else-n-ge10}

pub returns-then-k-eq0 : goal.returns-then-k-eq0
returns-then-k-eq0 t c = adds-none _ _ c.if-k-eq0.true

pub returns : goal.returns
returns t c =
    let last = adds _ _ _ c.put.ensures.put in
    elim c.if-n-ge10.branch [
      | then-n-ge10 w ↦ adds-last _ _ c.if-k-eq0.false w.if-n-ge10.true c.last_digit.ensures (rw w.digits-is w.put_digits.ensures) last
      | else-n-ge10 w ↦ adds_one _ _ c.if-k-eq0.false w.if-n-ge10.false c.last_digit.ensures (rw w.digits-is at last)
    ]
