use native.Mathlib.Omega.{arith}
use Rattle.text.proofs.Adding.{begun, turned, ended}
use Rattle.report_text.proofs.Telling.{begin-numbers, numbers-first, numbers_none}
use Rattle.report_text.proofs.lines.put_line.Goals as goal

pub loop-i-init : goal.loop-i-init
loop-i-init g c = rw (begin-numbers c.args.numbers.now) begun

pub loop-i-preserved : goal.loop-i-preserved
loop-i-preserved g c = turned c.loop-i.invariant (numbers-first c.args.numbers.now c.loop-i.i (omega arith)) c.put_number.ensures

pub returns : goal.returns
returns g c = ended c.loop-i.invariant (numbers_none c.args.numbers.now c.loop-i.i (omega arith))
