use Prim.Native.Nat.{◌+◌}
use mathlib.Core.Path.{◌≡◌, ap, ◌∙◌}
use native.Mathlib.Numerals.{add-one}
use native.Mathlib.Omega.{arith}
use Rattle.basics.specs.Iterate.{iterate}
use Rattle.basics.proofs.Iterating.{iterate-none}
use Rattle.tally.specs.private.Pass.{turn_of}
use Rattle.tally.specs.declared.pass.Pass.{Pass}
use Rattle.tally.proofs.Passing.{turns-most, turns_along, most-more}
use Rattle.tally.proofs.pass.Pass.columns.Goals as goal

pub loop-init : goal.loop-init
loop-init c = iterate-none (turn_of _) _

pub along-p-requires-clause-fact : goal.along-p-requires-clause-fact
along-p-requires-clause-fact c =
    let l = c.loop in
    let a = c.args in
    let column : l.p.scan.column ≡ a.self.scan.column + l.counter =
    ap (λ (p : Pass). p.scan.column) l.invariant
    ∙ turns_along a.r a.self l.counter (omega (arith, c.requires.k_bound)) (omega (arith, c.requires.k_bound_2)) in
    λ e. omega (arith, c.requires.k_bound)

pub along-p-requires-clause-column_bound : goal.along-p-requires-clause-column_bound
along-p-requires-clause-column_bound c =
    let l = c.loop in
    let a = c.args in
    let column : l.p.scan.column ≡ a.self.scan.column + l.counter =
    ap (λ (p : Pass). p.scan.column) l.invariant
    ∙ turns_along a.r a.self l.counter (omega (arith, c.requires.k_bound)) (omega (arith, c.requires.k_bound_2)) in
    omega (arith, c.requires.k_bound_2)

pub along-p-requires-clause-at_most : goal.along-p-requires-clause-at_most
along-p-requires-clause-at_most c =
    let l = c.loop in
    let a = c.args in
    rw l.invariant (most-more _ 4294967296 _ (omega (arith, c.requires.k_bound_2)) (turns-most a.r 4294963200 a.self c.requires.at_most l.counter))

pub loop-preserved : goal.loop-preserved
unfolding iterate
loop-preserved c = rw add-one (c.along-p.ensures ∙ ap (turn_of _) c.loop.invariant)
