use Prim.Native.Nat.{◌+◌, ◌*◌}
use mathlib.Core.Path.{◌∙◌}
use native.Mathlib.Omega.{arith}
use lib.ListN.{replicate}
use Rattle.report.specs.Report.{most, row}
use Rattle.report.proofs.Reporting.{done}
use Rattle.text.proofs.Adding.{adds, whole}
use Rattle.report_text.proofs.Telling.{given_number, refused-by-number, text-has-room, text-of-places, text-of-refusal}
use Rattle.report_text.proofs.whole.tell.Goals as goal

pub put_table-requires : goal.put_table-requires
put_table-requires c =
    let given = c.args.input.now in
    let d = done given (replicate (row * (most + 1)) 0) (given_number given _ c.report.ensures.said c.in-Ok.is) in
    omega (arith, d.room, c.report.auto.out)

pub returns-in-Ok-clause-text : goal.returns-in-Ok-clause-text
returns-in-Ok-clause-text c =
    let said = c.report.ensures in
    let given = c.args.input.now in
    let told = text-of-places given _ _ (given_number given _ said.said c.in-Ok.is) said.laid in
    whole c.new-text.ensures (rw told at c.put_table.ensures) (text-has-room given)

pub returns-in-Err-clause-text : goal.returns-in-Err-clause-text
returns-in-Err-clause-text c =
    let given = c.args.input.now in
    let out = replicate (row * (most + 1)) 0 in
    let refused = text-of-refusal given out (omega arith) (refused-by-number given out _ c.report.ensures.said c.in-Err.is) in
    whole c.new-text.ensures (adds _ _ _ c.put.ensures.put) (omega arith) ∙ refused
