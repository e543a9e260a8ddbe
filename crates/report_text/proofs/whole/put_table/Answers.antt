use mathlib.Core.Path.{ap}
use native.Mathlib.Omega.{arith}
use lib.ListN.{take}
use Rattle.report.specs.Report.{row}
use Rattle.text.proofs.Adding.{adds}
use Rattle.report_text.proofs.Telling.{adds-table}
use Rattle.report_text.proofs.whole.put_table.Goals as goal

pub returns : goal.returns
returns c =
    let a = c.args in
    let split = c.split_at.ensures in
    adds-table a.places.now a.n split.front (ap (take row) split.back) (omega arith) c.put_rows.ensures (adds _ _ _ c.put.ensures.put) c.put_line.ensures
