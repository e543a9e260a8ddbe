use native.Mathlib.Omega.{arith}
use Rattle.line.proofs.Accepting.{accept-within}
use Rattle.text.proofs.Adding.{adds}
use Rattle.cuts_text.proofs.Making.{accepts}
use Rattle.cuts_text.proofs.made.accepted.Goals as goal

pub overflow_cast-called : goal.overflow_cast-called
overflow_cast-called c =
    let w = accept-within _ _ _ c.accept-called.result c.accept-called.ensures.answer in
    omega (arith, w.0, c.requires.cut_len_bound)

pub overflow_cast-called-2 : goal.overflow_cast-called-2
overflow_cast-called-2 c =
    let w = accept-within _ _ _ c.accept-called.result c.accept-called.ensures.answer in
    omega (arith, w.1, c.requires.out_len_bound)

pub returns : goal.returns
returns c =
    let a = c.args in
    let t = accepts a.before a.cut.now a.out.now c.accept-called.ensures.answer c.accept-called.ensures.output (rw c.from-ending.ensures at c.counts-told.ensures)
    (adds _ _ _ c.put_lines.ensures.put) (adds _ _ _ c.put_lines-2.ensures.put) in
    record { made = t.0; text = t.1 }
