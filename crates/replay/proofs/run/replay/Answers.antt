use mathlib.Core.Path.{refl, sym, ◌∙◌}
use native.Mathlib.Omega.{arith}
use Rattle.std.proofs.Common.{rules}
use borrow.Author.Tests.{eqb-true, eqb-false}
use lib.ListN.{length}
use Rattle.replay.specs.Run.{replay_of, output_of}
use Rattle.replay.proofs.Replaying.{start, more, ends-empty, ends-short, ends-full}
use Rattle.replay.proofs.run.replay.Goals as goal

pub loop-sent-init : goal.loop-sent-init
loop-sent-init c = start _ _ _

pub loop-sent-preserved : goal.loop-sent-preserved
loop-sent-preserved c =
    let sent = c.in-Some.ensures.cases in
    more c.loop-sent.invariant _ sent.0 (omega arith) (omega arith) _ c.from.ensures _ c.step-stepped.ensures _ c.write.ensures _ (search rules)

pub returns-then-out-answers-lt-ANSWER : goal.returns-then-out-answers-lt-ANSWER
unfolding replay_of output_of
returns-then-out-answers-lt-ANSWER c =
    let sent = c.in-Some.ensures.cases in
    let e = ends-full c.loop-sent.invariant _ sent.0 (omega arith) (omega arith) in
    record { answer = c.ended.ensures ∙ e.0; output = e.1; batch = refl }

pub returns-then-is_empty : goal.returns-then-is_empty
unfolding replay_of output_of
returns-then-is_empty c =
    let e = ends-empty c.loop-sent.invariant (eqb-true _ 0 (sym c.is_empty.ensures ∙ c.if-is_empty.true)) in
    record { answer = c.ended-then-is_empty.ensures ∙ e.0; output = e.1; batch = refl }

pub returns-else-is_empty : goal.returns-else-is_empty
unfolding replay_of output_of
returns-else-is_empty c =
    let some = eqb-false (length c.loop-sent.rest.now) 0 (sym c.is_empty.ensures ∙ c.if-is_empty.false) in
    let e = ends-short c.loop-sent.invariant (omega arith) c.in_default.ensures.cases in
    record { answer = c.ended-else-is_empty.ensures ∙ e.0; output = e.1; batch = refl }
