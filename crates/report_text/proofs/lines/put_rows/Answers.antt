use mathlib.Core.Path.{◌∙◌}
use borrow.Author.Rules.{rules}
use Rattle.text.proofs.Adding.{turned, ended}
use Rattle.report_text.proofs.Telling.{lines-exact, lines_none}
use Rattle.report_text.proofs.lines.put_rows.Goals as goal

pub loop-numbers-preserved : goal.loop-numbers-preserved
loop-numbers-preserved g c =
    let so_far = c.loop-numbers.invariant in
    let steps = c.in-Some.ensures.steps in
    let chunk = rw so_far.2 at steps.1 in
    (search rules, tt, steps.0 ∙ so_far.2, turned so_far.3 (lines-exact _ _ _ chunk.0 chunk.1) c.put_line.ensures)

pub returns : goal.returns
returns g c =
    let so_far = c.loop-numbers.invariant in
    let few = rw so_far.2 at c.in-None.ensures.steps.1.0 in
    ended so_far.3 (lines_none _ few)
