use mathlib.Core.Path.{sym}
use native.Mathlib.Omega.{arith}
use lib.Seq.{length-take-le}
use Rattle.serial_text.proofs.Telling.{out_within, told_text, told}
use Rattle.serial_text.proofs.turn.tell.Goals as goal

pub overflow_mul-out : goal.overflow_mul-out
overflow_mul-out c =
    omega (arith, (out_within _ _ c.accept-called.ensures.answer c.accept-called.ensures.output).0)

pub slice_bounds-out-end : goal.slice_bounds-out-end
slice_bounds-out-end c =
    let w = out_within _ _ c.accept-called.ensures.answer c.accept-called.ensures.output in
    omega (arith, w.0, w.1)

pub slice_bounds-add_answers-end : goal.slice_bounds-add_answers-end
slice_bounds-add_answers-end c =
    let w = out_within _ _ c.accept-called.ensures.answer c.accept-called.ensures.output in
    sym (length-take-le _ _ (omega (arith, w.0, w.1)))

pub returns-clause-text : goal.returns-clause-text
returns-clause-text c =
    told_text c.args.before c.args.cut.now c.new-text.ensures c.accept-called.ensures.answer c.accept-called.ensures.output c.add_answers.ensures.put

pub returns-clause-told : goal.returns-clause-told
returns-clause-told c = told c.args.before c.args.cut.now c.accept-called.ensures.answer (returns-clause-text c)
