use Prim.Native.Nat.{◌/◌}
use mathlib.Core.Path.{◌≡◌}
use lib.ListN.{length}
use Rattle.std.specs.Slice.Iter.{chunks_exact_rest, chunks_exact_size}
use Rattle.text.specs.Lines.{per_line, rows_of}
use Rattle.text.proofs.Adding.{SoFar}
use Rattle.answer_lines.specs.Marked.{marked_of}
use Rattle.answer_lines.proofs.lines.add_answers.Given as goal

abbrev pub invariant-loop-answer : goal.invariant-loop-answer
invariant-loop-answer g l =
    let left = chunks_exact_rest l.answer-iterator in
    (goal.iterator-loop-answer g).can_next l.answer-iterator
    × (goal.iterator-loop-answer g).is_finite l.answer-iterator
    × (chunks_exact_size l.answer-iterator ≡ per_line)
    × SoFar g.row.N l.initial.text l.text (rows_of marked_of (length left / per_line) left) (rows_of marked_of (length l.fn.answers / per_line) l.fn.answers)
