use Prim.Native.Nat.{◌/◌}
use mathlib.Core.Path.{◌≡◌}
use lib.ListN.{length}
use Rattle.std.specs.Slice.Iter.{chunks_exact_rest, chunks_exact_size}
use Rattle.report.specs.Report.{row}
use Rattle.text.proofs.Adding.{SoFar}
use Rattle.report_text.specs.Lines.{lines_of}
use Rattle.report_text.proofs.lines.put_rows.Given as goal

abbrev pub invariant-loop-numbers : goal.invariant-loop-numbers
invariant-loop-numbers g l =
    let left = chunks_exact_rest l.numbers-iterator in
    (goal.iterator-loop-numbers g).can_next l.numbers-iterator
    × (goal.iterator-loop-numbers g).is_finite l.numbers-iterator
    × (chunks_exact_size l.numbers-iterator ≡ row)
    × SoFar g.row.N l.initial.text l.text (lines_of left (length left / row)) (lines_of l.fn.places (length l.fn.places / row))
