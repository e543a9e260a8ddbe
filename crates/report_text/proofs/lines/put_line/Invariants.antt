use Prim.Native.Nat.{◌-◌}
use mathlib.Core.List.{map}
use lib.ListN.{length}
use Rattle.basics.specs.Count.{count}
use Rattle.text.proofs.Adding.{SoFar}
use Rattle.report_text.specs.Lines.{joined, line_of}
use Rattle.report_text.proofs.Telling.{number_at}
use Rattle.report_text.proofs.lines.put_line.Given as goal

abbrev pub invariant-loop-i : goal.invariant-loop-i
invariant-loop-i g l = SoFar g.row.N l.initial.text l.text (joined (map (number_at l.numbers) (count l.i (length l.numbers - l.i)))) (line_of l.numbers)
