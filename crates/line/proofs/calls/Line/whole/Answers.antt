use native.Mathlib.Omega.{arith}
use lib.ListN.{length-take, length-drop}
use Rattle.line.proofs.Completing.{rest-within, more-does}
use Rattle.line.proofs.calls.Line.whole.Goals as goal

pub overflow_add-result : goal.overflow_add-result
overflow_add-result c =
    let w = rest-within _ _ _ _ c.args.cut.now c.args.lacking c.unread_rest.ensures.bytes c.replayed-rest.ensures.answer in
    omega (arith, w.0, c.requires.lacking_in_bounds)

pub overflow_add-result-2 : goal.overflow_add-result-2
overflow_add-result-2 c =
    let w = rest-within _ _ _ _ c.args.cut.now c.args.lacking c.unread_rest.ensures.bytes c.replayed-rest.ensures.answer in
    omega (arith, simp (length-take, length-drop) at w.1)

pub returns : goal.returns
returns c =
    let a = c.args in
    let t =
    more-does a.self.bench a.self.held a.cut.now a.out.now a.lacking c.requires.held_value c.requires.lacking_in_bounds c.requires.in_bounds
    _ c.first-after.ensures.bench _ c.first-after.ensures.output _ c.unread_rest.ensures.bytes c.replayed-rest.result c.replayed-rest.new.out
    (c.replayed-rest.ensures.answer, c.replayed-rest.ensures.output) in
    record { answer = t.0; output = t.1 }
