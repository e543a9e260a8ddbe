use Prim.Native.Nat.{◌+◌, ◌*◌}
use mathlib.Core.Path.{◌∙◌}
use native.Mathlib.Omega.{arith}
use Rattle.basics.proofs.Laying.{writes_nothing}
use Rattle.text.specs.Lines.{per_line}
use Rattle.text.proofs.Lining.{rows_none, row-part, writes-row}
use Rattle.answer_lines.specs.Marked.{marked_of}
use Rattle.answer_lines.proofs.lines.lines.Goals as goal

pub loop-i-init : goal.loop-i-init
loop-i-init c = rw (rows_none marked_of _) writes_nothing

pub loop-i-preserved : goal.loop-i-preserved
loop-i-preserved c =
    let l = c.loop-i in
    let answers = c.args.answers.now in
    let part = row-part answers l.i (per_line * l.i + per_line) (omega arith) (omega arith) in
    writes-row marked_of l.i answers l.invariant (rw (c.as_slice.ensures.bytes ∙ c.line.ensures) at c.put-q.ensures.next) part
