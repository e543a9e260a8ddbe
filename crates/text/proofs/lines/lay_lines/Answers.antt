use native.Mathlib.Omega.{arith}
use Rattle.basics.proofs.Laying.{writes_nothing}
use Rattle.text.specs.Lines.{line_of, rows_of}
use Rattle.text.proofs.Lining.{row-part, writes-row}
use Rattle.text.proofs.lines.lay_lines.Goals as goal

pub loop-i-init : goal.loop-i-init
unfolding rows_of
loop-i-init c = writes_nothing

pub loop-i-preserved : goal.loop-i-preserved
loop-i-preserved c =
    let l = c.loop-i in
    let bytes = c.args.bytes.now in
    let part = row-part bytes l.i c.line_end-to.result (omega arith) c.line_end-to.ensures in
    writes-row line_of l.i bytes l.invariant c.line-q.ensures part
