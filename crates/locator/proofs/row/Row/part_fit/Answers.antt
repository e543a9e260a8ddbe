use Rattle.std.proofs.Common.{◌≡◌, ◌-◌, sym, ap, ◌∙◌, ap₂, arith}
use Rattle.locator.specs.private.Search.{joined_of, part_fit_of}
use Rattle.locator.proofs.Fits.{no_more, one_more}
use Rattle.locator.proofs.row.Row.part_fit.Goals as goal

pub loop-column-init : goal.loop-column-init
loop-column-init c =
    let row = c.args.self in
    let none : c.args.from - c.args.from ≡ 0 = omega arith in
    (omega arith, sym (ap (part_fit_of row.registers.now row.latch row.number c.args.from) none ∙ no_more row.registers.now row.latch row.number c.args.from))

pub loop-column-preserved : goal.loop-column-preserved
loop-column-preserved c =
    let l = c.loop-column in
    let row = c.args.self in (
      omega arith,
      c.join-best.ensures
          ∙ ap₂ joined_of l.invariant.1 (rw (c.cell.ensures, c.cell_fits.ensures) at c.one_fit.ensures)
          ∙ sym (one_more row.registers.now row.latch row.number c.args.from l.column (omega arith)),
    )

pub returns : goal.returns
returns c =
    let l = c.loop-column in
    let row = c.args.self in
    let all : l.column - c.args.from ≡ c.args.to - c.args.from = omega arith in
    l.invariant.1 ∙ ap (part_fit_of row.registers.now row.latch row.number c.args.from) all
