-- A turn of the pass is a character time of the controller with what is shown at it counted in; and how large the numbers can get.
-- Assumes nothing.
use Prim.Native.Nat.{ℕ, zero, suc, ◌+◌, ◌-◌, ◌*◌, ◌%◌, ◌<◌, ◌≤◌, max}
use mathlib.Core.Path.{◌≡◌, refl, ap, sym, ◌∙◌}
use mathlib.Core.List.{map-append}
use native.Mathlib.Nat.{max-le}
use native.Mathlib.Numerals.{add-one}
use native.Mathlib.Omega.{arith}
use lib.Bits.{xor_lt}
use lib.Dec.{ltb}
use lib.Count.{ones-le}
use Rattle.basics.specs.Bits.{num}
use Rattle.basics.specs.Count.{count}
use Rattle.basics.specs.Iterate.{iterate}
use Rattle.basics.proofs.Counting.{each_last}
use Rattle.basics.proofs.Iterating.{iterate-add}
use Rattle.basics.proofs.Words.{num-lt}
use Rattle.raster.specs.Registers.{reg}
use Rattle.raster.specs.Scan.{next_of}
use Rattle.raster.specs.Sync.{arrive_of}
use Rattle.raster.specs.declared.registers.Registers.{Registers}
use Rattle.raster.specs.declared.scan.Scan.{Scan}
use Rattle.raster.specs.declared.sync.Sync.{Sync}
use Rattle.raster.proofs.LineEnds.{next-along}
use Rattle.raster.proofs.Syncs.{vsync-stays, syncs, arrives}
use Rattle.facts.specs.Facts.{facts_of}
use Rattle.facts.proofs.Addresses.{ma-lt}
use Rattle.facts.proofs.Parts.{picture-fact, cursor-fact}
use Rattle.controller.specs.Chip.{step_of, clock_of}
use Rattle.controller.specs.Pins.{outputs_of}
use Rattle.controller.specs.declared.chip.Controller.{Controller}
use Rattle.controller.specs.declared.pins.Outputs.{Outputs}
use Rattle.controller.proofs.Keeping.{clock-regs}
use Rattle.controller.proofs.Times.{clock-none, clock-more, step-scan, step-sync, step_left, step-regs, shown-ma, shown-picture, shown-display, shown-cursor, shown-hsync, shown-vsync}
use Rattle.tally.specs.Sums.{sum, greatest}
use Rattle.tally.specs.Tally.{shown_of, changed_of, change_of, tallied_of, no_tally, AtMost}
use Rattle.tally.specs.private.Pass.{with_of, pins_of, pass_of, turn_of}
use Rattle.tally.specs.declared.tally.Tally.{Tally}
use Rattle.tally.specs.declared.pass.Pass.{Pass}
use Rattle.tally.proofs.Summing.{sum-last, greatest-last}

-- one character time counted in, by what is shown at it and the address behind it
abbrev counted : Tally → Outputs → ℕ → Tally
counted k o next = record {
  picture = k.picture + num o.picture;
  display = k.display + num o.display;
  cursor = k.cursor + num o.cursor;
  hsync = k.hsync + num o.hsync;
  vsync = k.vsync + num o.vsync;
  changed = k.changed + changed_of o.ma next;
  most = max k.most (changed_of o.ma next);
}

-- a turn is one of the controller's character times, with what it shows counted in
turn-steps : (c : Controller) (k : Tally) → turn_of c.regs (pass_of c k) ≡ pass_of (step_of c) (counted k (outputs_of c) (outputs_of (step_of c)).ma)
unfolding turn_of with_of pins_of
turn-steps c k =
    simp (picture-fact, cursor-fact, shown-ma, shown-picture, shown-display, shown-cursor, shown-hsync, shown-vsync, step-regs, step-scan, step-sync, step_left)

module _ (c : Controller) where
  tallied-none : no_tally ≡ tallied_of c 0
  unfolding tallied_of sum greatest count
  tallied-none = refl

  tallied-more : (t : ℕ) → counted (tallied_of c t) (shown_of c t) (shown_of c (suc t)).ma ≡ tallied_of c (t + 1)
  unfolding tallied_of change_of
  tallied-more t = simp (each_last, map-append, sum-last, greatest-last)

  -- a turn behind t others
  pass-more : (t : ℕ) → turn_of c.regs (pass_of (clock_of t c) (tallied_of c t)) ≡ pass_of (clock_of (t + 1) c) (tallied_of c (t + 1))
  unfolding shown_of
  pass-more t =
      let d = clock_of t c in
      let next : clock_of (suc t) c ≡ step_of d = ap (λ (n : ℕ). clock_of n c) (sym (add-one t)) ∙ clock-more t c in
      ap (λ (r : Registers). turn_of r (pass_of d (tallied_of c t))) (sym (clock-regs c t))
      ∙ turn-steps d (tallied_of c t)
      ∙ rw (← tallied-more t, clock-more t c, next)

  -- so t turns are t character times
  passed : (t : ℕ) → iterate (turn_of c.regs) t (pass_of c no_tally) ≡ pass_of (clock_of t c) (tallied_of c t)
  unfolding iterate
  passed zero = rw (clock-none c, tallied-none)
  passed (suc t) = ap (turn_of c.regs) (passed t) ∙ pass-more t ∙ ap (λ (n : ℕ). pass_of (clock_of n c) (tallied_of c n)) (add-one t)

  -- and what they have counted
  pub passed-tally : (t : ℕ) (p q : Pass) → p ≡ pass_of c no_tally → q ≡ iterate (turn_of c.regs) t p → q.tally ≡ tallied_of c t
  passed-tally t p q b e = ap (λ (x : Pass). x.tally) (e ∙ ap (iterate (turn_of c.regs) t) b ∙ passed t)

-- what is at most m is at most n
pub most-more : (m n : ℕ) (k : Tally) → m ≤ n → AtMost m k → AtMost n k
most-more m n k h x = record {
  picture = omega (arith, x.picture);
  display = omega (arith, x.display);
  cursor = omega (arith, x.cursor);
  hsync = omega (arith, x.hsync);
  vsync = omega (arith, x.vsync);
  changed = omega (arith, x.changed);
  most = omega (arith, x.most);
}

module _ (r : Registers) where
  -- how large the numbers get: a change has at most the fourteen lines of MA, and a pin counts once
  turn-most : (m : ℕ) (p : Pass) → AtMost m p.tally → AtMost (m + 14) (turn_of r p).tally
  unfolding turn_of with_of
  turn-most m p a =
      let lines = ones-le 14 _ (xor_lt 14 _ _ (ma-lt r p.scan) (ma-lt r (next_of r p.scan))) in
      let late = pins_of r p.left (facts_of r p.scan) in
      record {
        picture = omega (arith, a.picture, num-lt (facts_of r p.scan).picture);
        display = omega (arith, a.display, num-lt late.picture);
        cursor = omega (arith, a.cursor, num-lt late.cursor);
        hsync = omega (arith, a.hsync, num-lt (ltb 0 p.sync.hsync));
        vsync = omega (arith, a.vsync, num-lt (ltb 0 p.sync.vsync));
        changed = omega (arith, a.changed, lines);
        most = max-le (omega (arith, a.most)) (omega (arith, lines));
      }

  pub turns-most : (m : ℕ) (p : Pass) → AtMost m p.tally → (n : ℕ) → AtMost (m + n * 14) (iterate (turn_of r) n p).tally
  unfolding iterate
  turns-most m p a zero = most-more m (m + 0 * 14) p.tally (omega arith) a
  turns-most m p a (suc n) =
      most-more (m + n * 14 + 14) (m + suc n * 14) _ (omega arith) (turn-most (m + n * 14) (iterate (turn_of r) n p) (turns-most m p a n))

  -- from nothing counted on, fourteen for each
  pub passed-most : (t : ℕ) (p q : Pass) → p.tally ≡ no_tally → q ≡ iterate (turn_of r) t p → AtMost (t * 14) q.tally
  passed-most t p q b e =
      let none : AtMost 0 no_tally = record { picture = omega arith; display = omega arith; cursor = omega arith; hsync = omega arith; vsync = omega arith; changed = omega arith; most = omega arith } in
      rw e (most-more (0 + t * 14) (t * 14) _ (omega arith) (turns-most 0 p (rw b none) t))

  -- t turns, k more and another one
  pub turns_more : (t k : ℕ) (p p' q s : Pass) → p' ≡ iterate (turn_of r) t p → q ≡ iterate (turn_of r) k p' → s ≡ turn_of r q → s ≡ iterate (turn_of r) (t + (k + 1)) p
  unfolding iterate
  turns_more t k p p' q s ep eq es =
      let e : t + (k + 1) ≡ suc k + t = omega arith in
      rw (e, iterate-add) (es ∙ ap (turn_of r) (eq ∙ ap (iterate (turn_of r) k) ep))

  -- within a line the scan goes to the next column, and changes in nothing else
  pub along-next : (s : Scan) → (s.column ≡ reg r 0 → ⊥) → s.column < 255
      → next_of r s ≡ record { column = s.column + 1; line = s.line; row = s.row; base = s.base; start = s.start; field = s.field; adjusting = s.adjusting }
  along-next s n l = let e : (s.column + 1) % 256 ≡ s.column + 1 = omega arith in rw (← e) (next-along r s n)

  -- where VSYNC stays as it was
  pub along-sync : (s : Scan) (y z : Sync) → (s.column ≡ 0 → ⊥) → z ≡ arrive_of r s y → arrive_of r s y ≡ record { hsync = z.hsync; vsync = y.vsync }
  along-sync s y z n e =
      let both = arrives r s y refl (vsync-stays r s y.vsync n) in
      both ∙ ap (λ (h : ℕ). syncs h y.vsync) (sym (ap (λ (x : Sync). x.hsync) (e ∙ both)))

  -- so a turn goes one column along,
  turn_along : (p : Pass) → (p.scan.column ≡ reg r 0 → ⊥) → (turn_of r p).scan.column ≡ (p.scan.column + 1) % 256
  unfolding turn_of
  turn_along p n = ap (λ (s : Scan). s.column) (next-along r p.scan n)

  -- and n turns n columns
  pub turns_along : (p : Pass) (n : ℕ) → n ≤ reg r 0 - p.scan.column → p.scan.column + n < 256 → (iterate (turn_of r) n p).scan.column ≡ p.scan.column + n
  unfolding iterate
  turns_along p zero h w = omega arith
  turns_along p (suc n) h w =
      let q = iterate (turn_of r) n p in
      let before : q.scan.column ≡ p.scan.column + n = turns_along p n (omega arith) (omega arith) in
      turn_along q (λ e. omega arith) ∙ omega arith
