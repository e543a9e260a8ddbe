-- The loop's invariant: no more columns were met than there are, and the fit is that of those met so far.
use Rattle.std.proofs.Common.{◌≡◌, ◌-◌, ◌≤◌}
use Rattle.locator.specs.private.Search.{part_fit_of}
use Rattle.locator.proofs.row.Row.part_fit.Given as goal

abbrev pub invariant-loop-column : goal.invariant-loop-column
invariant-loop-column l =
    (l.column - l.from ≤ l.to - l.from) × (l.best ≡ part_fit_of l.self.registers.now l.self.latch l.self.number l.from (l.column - l.from))
