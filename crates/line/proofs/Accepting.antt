-- What callers go by: how far the numbers of `accept` go, where its answers stand in the output, and that closing answers nothing. Assumes nothing.
use Prim.Native.Nat.{ℕ, ◌*◌, ◌≤◌}
use mathlib.Core.List.{List, []}
use mathlib.Core.Path.{◌≡◌, refl, ap, ◌∙◌}
use native.Mathlib.Omega.{arith}
use lib.ListN.{length, take, drop}
use lib.Seq.{take_at}
use Rattle.basics.proofs.Cases.{if-both}
use Rattle.basics.proofs.Laying.{laid-front, length-laid}
use Rattle.replay.specs.Run.{written_of}
use Rattle.replay.proofs.Replaying.{length-written}
use Rattle.line.specs.Line.{Outcome, outcome_of, closing_of, accept_of, accepted_of}
use Rattle.line.specs.declared.calls.Line.{Line}
use Rattle.line.specs.declared.calls.Called.{Called}
use Rattle.line.proofs.Calling.{outcome-within}

module _ (l : Line) (cut out : List ℕ) where
  pub accept-within : (r : Called) → r ≡ accept_of l cut out → (r.taken ≤ length cut) × (8 * r.answers ≤ length out)
  unfolding accept_of
  accept-within r e = rw e (outcome-within l cut (length out))

  pub accepted-same : (out' : List ℕ) → out' ≡ accepted_of l cut out → length out' ≡ length out
  unfolding accepted_of
  accepted-same out' e =
      let answers = (outcome_of l cut (length out)).answers in
      ap length e ∙ length-laid out 0 (written_of answers) (omega (arith, length-written answers, (outcome-within l cut (length out)).1))

  pub accepted-front : (r : Called) → r ≡ accept_of l cut out → (out' : List ℕ) → out' ≡ accepted_of l cut out
      → take (8 * r.answers) out' ≡ written_of (outcome_of l cut (length out)).answers
  unfolding accept_of accepted_of
  accepted-front r e out' w =
      let answers = (outcome_of l cut (length out)).answers in
      rw (e, w, laid-front out (written_of answers))
      (take_at (written_of answers) (drop (length (written_of answers)) out) (8 * length answers) (length-written answers))

-- closing takes and answers nothing
pub closing-nothing : (l : Line) → ((closing_of l).taken ≡ 0) × ((closing_of l).answers ≡ [])
unfolding closing_of
closing-nothing l = if-both (λ (o : Outcome). (o.taken ≡ 0) × (o.answers ≡ [])) l.closed _ _ (λ yes. (refl, refl)) (λ no. (refl, refl))
