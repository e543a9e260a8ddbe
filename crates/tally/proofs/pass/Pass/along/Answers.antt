use native.Mathlib.Omega.{arith}
use Rattle.tally.specs.private.Pass.{turn_of}
use Rattle.tally.proofs.Passing.{along-next, along-sync}
use Rattle.tally.proofs.pass.Pass.along.Goals as goal

pub returns : goal.returns
unfolding turn_of
returns c =
    let a = c.args in
    rw (
      along-next a.r a.self.scan c.requires.fact c.requires.column_bound,
      along-sync a.r _ a.self.sync c.arrive-arrived.result (λ e. omega arith) c.arrive-arrived.ensures,
      c.with-tally.ensures,
      c.changed.ensures.is,
      c.ma-2.ensures,
      c.ma.ensures,
      c.pins.ensures,
      c.at-here.ensures,
    )
