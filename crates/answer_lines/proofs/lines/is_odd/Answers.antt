use Rattle.answer_lines.specs.Lines.{odd_of}
use borrow.Author.Rules.{rules}
use Rattle.answer_lines.proofs.lines.is_odd.Goals as goal

pub returns : goal.returns
unfolding odd_of
returns c = search rules
