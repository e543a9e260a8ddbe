use Rattle.basics.specs.Lay.{Writes}
use Rattle.text.specs.Lines.{line_of, rows_of}
use Rattle.text.proofs.lines.lay_lines.Given as goal

abbrev pub invariant-loop-i : goal.invariant-loop-i
invariant-loop-i l = Writes l.initial.dst l.dst l.at l.q (rows_of line_of l.i l.bytes)
