use mathlib.Core.Path.{◌∙◌}
use native.Mathlib.Omega.{arith}
use borrow.Author.Rules.{rules}
use Rattle.text.proofs.Adding.{adds, turned, ended}
use Rattle.text.proofs.Lining.{rows-exact, rows-few}
use Rattle.answer_lines.specs.Marked.{marked_of}
use Rattle.answer_lines.proofs.Lined.{put-lines, put-none}
use Rattle.answer_lines.proofs.lines.add_answers.Goals as goal

pub returns-then-room_left-answers-clause-put : goal.returns-then-room_left-answers-clause-put
returns-then-room_left-answers-clause-put g c =
    put-none g.row.N c.args.text.now c.args.answers.now (omega (arith, c.room_left.ensures.full))

pub loop-answer-preserved : goal.loop-answer-preserved
loop-answer-preserved g c =
    let so_far = c.loop-answer.invariant in
    let steps = c.in-Some.ensures.steps in
    let chunk = rw so_far.2 at steps.1 in
    let line = adds _ _ _ (rw (c.as_slice.ensures.bytes ∙ c.line.ensures) at c.put.ensures.put) in
    (search rules, tt, steps.0 ∙ so_far.2, turned so_far.3 (rows-exact marked_of _ _ _ chunk.0 chunk.1) line)

pub returns-clause-put : goal.returns-clause-put
returns-clause-put g c =
    let so_far = c.loop-answer.invariant in
    let few = rw so_far.2 at c.in-None.ensures.steps.1.0 in
    put-lines g.row.N c.args.text.now c.args.answers.now (omega (arith, c.room_left.ensures.full)) (ended so_far.3 (rows-few marked_of _ few))
