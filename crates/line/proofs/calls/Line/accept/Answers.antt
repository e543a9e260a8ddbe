use mathlib.Core.Path.{◌≡◌, refl, ◌∙◌}
use native.Mathlib.Omega.{arith}
use mathlib.Core.Bool.{true, false}
use Rattle.line.proofs.Calling.{is_open, closed-does, waits-does, full-does}
use Rattle.line.proofs.calls.Line.accept.Goals as goal

pub returns-then-closed : goal.returns-then-closed
returns-then-closed c =
    let a = c.args in
    let closed : a.self.closed ≡ true = grind arith in
    let d = closed-does a.self a.cut.now a.out.now closed in
    record { answer = c.unmoved.ensures ∙ d.0; output = d.1; cut = refl }

pub returns-then-cut-lacking : goal.returns-then-cut-lacking
returns-then-cut-lacking c =
    let a = c.args in
    let unclosed : a.self.closed ≡ false = grind arith in
    let d = waits-does a.self a.cut.now a.out.now unclosed (omega arith) _ refl in
    record { answer = c.waiting.ensures ∙ d.0; output = d.1; cut = refl }

pub returns-then-out-lt-ANSWER : goal.returns-then-out-lt-ANSWER
returns-then-out-lt-ANSWER c =
    let a = c.args in
    let unclosed : a.self.closed ≡ false = grind arith in
    let d = full-does a.self a.cut.now a.out.now unclosed (omega arith) c.if-out-lt-ANSWER.true in
    record { answer = c.unmoved-then-out-lt-ANSWER.ensures ∙ d.0; output = d.1; cut = refl }

pub returns-else-out-lt-ANSWER : goal.returns-else-out-lt-ANSWER
returns-else-out-lt-ANSWER c =
    let unclosed : c.args.self.closed ≡ false = grind arith in
    let same = is_open c.args.self unclosed in
    record { answer = rw same at c.whole.ensures.answer; output = rw same at c.whole.ensures.output; cut = refl }
