use borrow.Author.Rules.{rules}
use Prim.Native.Nat.{◌+◌, ◌*◌}
use mathlib.Core.Path.{◌≡◌, ap, ◌∙◌}
use native.Mathlib.Omega.{arith}
use Rattle.basics.proofs.Iterating.{iterate-none}
use Rattle.frames.specs.Places.{frame_times}
use Rattle.tally.specs.Tally.{tallied_of, tally_of}
use Rattle.tally.specs.private.Pass.{turn_of}
use Rattle.tally.specs.declared.pass.Pass.{Pass}
use Rattle.tally.proofs.Passing.{passed-tally, passed-most, turns_more, turns-most, most-more}
use Rattle.tally.proofs.frame.count_frame.Goals as goal

pub loop-t-init : goal.loop-t-init
loop-t-init c = (search rules, iterate-none (turn_of _) _)

pub columns-requires-clause-at_most : goal.columns-requires-clause-at_most
columns-requires-clause-at_most c =
    let l = c.loop-t in
    let few = passed-most _ l.t c.begin-p.result l.p (ap (λ (p : Pass). p.tally) c.begin-p.ensures) l.invariant.1 in
    most-more (l.t * 14) 4294963200 _ (omega (arith, c.frame_times-n.ensures.most)) few

pub turn-p-requires : goal.turn-p-requires
turn-p-requires c =
    let l = c.loop-t in
    let k = c.columns_before-k in
    let few = passed-most _ l.t c.begin-p.result l.p (ap (λ (p : Pass). p.tally) c.begin-p.ensures) l.invariant.1 in
    rw c.columns.ensures
    (most-more (l.t * 14 + k.result * 14) 4294967296 _ (omega (arith, k.ensures.0, c.frame_times-n.ensures.most)) (turns-most _ (l.t * 14) l.p few k.result))

pub loop-t-preserved : goal.loop-t-preserved
loop-t-preserved c =
    let k = c.columns_before-k in
    let l = c.loop-t in
    (omega (arith, k.ensures.0), turns_more _ l.t k.result _ l.p _ _ l.invariant.1 c.columns.ensures c.turn-p.ensures)

pub returns-clause-is : goal.returns-clause-is
unfolding tally_of
returns-clause-is c =
    let l = c.loop-t in
    let chip = c.args.c in
    let all : l.t ≡ frame_times chip.regs = omega (arith, c.frame_times-n.ensures.is) in
    passed-tally chip l.t c.begin-p.result l.p c.begin-p.ensures l.invariant.1 ∙ ap (tallied_of chip) all

pub returns-clause-most : goal.returns-clause-most
returns-clause-most c =
    let l = c.loop-t in
    let few = passed-most _ l.t c.begin-p.result l.p (ap (λ (p : Pass). p.tally) c.begin-p.ensures) l.invariant.1 in
    most-more (l.t * 14) 235794944 _ (omega (arith, c.frame_times-n.ensures.most)) few
