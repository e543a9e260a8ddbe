use Rattle.basics.specs.Lay.{Writes}
use Rattle.text.specs.Lines.{rows_of}
use Rattle.answer_lines.specs.Marked.{marked_of}
use Rattle.answer_lines.proofs.lines.lines.Given as goal

abbrev pub invariant-loop-i : goal.invariant-loop-i
invariant-loop-i l = Writes l.initial.text l.text l.p l.q (rows_of marked_of l.i l.answers)
