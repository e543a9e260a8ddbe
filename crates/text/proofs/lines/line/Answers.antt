use Rattle.basics.proofs.Laying.{then-writes}
use Rattle.text.specs.Lines.{line_of}
use Rattle.text.proofs.lines.line.Goals as goal

pub returns : goal.returns
unfolding line_of
returns c =
    then-writes c.put_hex-end.ensures.next c.put.ensures.next
