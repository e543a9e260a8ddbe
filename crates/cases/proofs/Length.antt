-- Counting character times until the field counts gives the frame's length. Assumes nothing.
use Prim.Native.Nat.{ℕ, suc, ◌+◌, ◌*◌, ◌/◌, ◌%◌, ◌<◌, ◌≤◌}
use mathlib.Core.Path.{◌≡◌, refl, ap, sym, ◌∙◌}
use mathlib.Core.List.{List, [], ◌∷◌}
use mathlib.Core.Logic.{⊎_elim}
use native.Mathlib.Nat.{zero-add, add_comm, div-eq_of_lt, div_self, mul-le-mul_left, mul-le-mul_right, le_trans}
use native.Mathlib.Omega.{arith}
use Rattle.basics.specs.Iterate.{iterate}
use Rattle.basics.proofs.Iterating.{iterate-add}
use Rattle.basics.proofs.Tests.{lt-or-ge}
use Rattle.raster.specs.Registers.{reg}
use Rattle.raster.specs.Scan.{next_of}
use Rattle.raster.specs.declared.scan.Scan.{Scan}
use Rattle.controller.specs.Chip.{arrived_of, reset_of, step_of, clock_of}
use Rattle.controller.specs.declared.chip.Controller.{Controller}
use Rattle.frames.specs.Calls.{clocks, waits, after_wait, after_act, after_acts, times_in, times_of}
use Rattle.frames.specs.Places.{frame_times}
use Rattle.frames.proofs.Placing.{narrow}
use Rattle.frames.proofs.Times.{some-times}
use Rattle.frames.proofs.Reached.{reached-within}
use Rattle.settled.specs.Cases.{writes_of, written_of, set_of}
use Rattle.settled.proofs.Table.{table}

-- a product of factors that keep within bounds
within : {a b c d : ℕ} → a ≤ c → b ≤ d → a * b ≤ c * d
within {a} {b} {c} {d} h k = le_trans (mul-le-mul_left a k) (mul-le-mul_right d h)

module _ (k : List ℕ) where
  -- the field after t character times
  field_at : (t : ℕ) → (clock_of t (set_of k)).scan.field ≡ (t / frame_times (set_of k).regs) % 32
  unfolding reset_of arrived_of after_wait after_act after_acts times_in times_of
  field_at t =
      ap (λ (s : Scan). s.field) ((table.frames k).times (waits (clocks t) ∷ []))
      ∙ ap (λ (n : ℕ). (iterate (next_of (set_of k).regs) n (set_of k).scan).field) (zero-add t)
      ∙ (table.frames k).fields t

  -- a frame has a character time at least
  some : 1 ≤ frame_times (set_of k).regs
  unfolding written_of reset_of arrived_of
  some = some-times (written_of k).regs (narrow (written_of k).regs (reached-within (writes_of k)).regs)

  -- and never more than the 256 x (128 x 32 + 31) of case c
  few : frame_times (set_of k).regs ≤ 1056512
  unfolding written_of reset_of arrived_of
  few =
      let w = narrow (written_of k).regs (reached-within (writes_of k)).regs in
      within {c = 256} {d = 4127} (omega (arith, w.r0)) (omega (arith, w.r5, within {a = reg (written_of k).regs 4 + 1} {b = reg (written_of k).regs 9 + 1} {c = 128} {d = 32} (omega (arith, w.r4)) (omega (arith, w.r9))))

  start-field : (set_of k).scan.field ≡ 0
  unfolding reset_of arrived_of
  start-field = refl

-- what the loop carries: it began with a case, so many times have gone, no more than a frame has, and the controller is there
pub record Counted (start c : Controller) (t : ℕ) : Type 0 where
  pub case : List ℕ
  pub set : start ≡ set_of case
  pub least : 1 ≤ t
  pub most : t ≤ frame_times start.regs
  pub there : c ≡ clock_of t start

-- it holds after the first character time
pub counted-one : (k : List ℕ) (start c : Controller) → start ≡ set_of k → c ≡ clock_of 1 start → Counted start c 1
counted-one k start c e q = record { case = k; set = e; least = omega arith; most = rw e (some k); there = q }

module _ (start c : Controller) (t : ℕ) (h : Counted start c t) where
  abbrev F : ℕ
  F = frame_times start.regs

  bounds : (1 ≤ F) × (F ≤ 1056512)
  bounds = rw h.set (some h.case, few h.case)

  here : c.scan.field ≡ (t / F) % 32
  here = ap (λ (d : Controller). d.scan.field) h.there ∙ rw h.set (field_at h.case t)

  from : start.scan.field ≡ 0
  from = ap (λ (d : Controller). d.scan.field) h.set ∙ start-field h.case

  -- while the field is that of the start the frame is not over
  pub before : c.scan.field ≡ start.scan.field → (suc t ≤ F) × (F ≤ 1056512)
  before e = (
    ⊎_elim (λ (l : t < F). l)
        (λ (l : F ≤ t).
        let q : t ≡ F = omega (arith, h.most) in
        let d : t / F ≡ 1 = ap (λ (n : ℕ). n / F) q ∙ div_self bounds.0 in
        let z : (t / F) % 32 ≡ 0 = sym here ∙ e ∙ from in
        absurd (omega (arith, d, z)))
        (lt-or-ge t F),
    bounds.1,
  )

  -- and when it is another, the frame is just over
  pub over : (c.scan.field ≡ start.scan.field → ⊥) → t ≡ F
  over n =
      ⊎_elim (λ (l : t < F). absurd (n (here ∙ rw (div-eq_of_lt l) (sym from)))) (λ (l : F ≤ t). omega (arith, h.most)) (lt-or-ge t F)

  -- the next turn
  pub counted-more : (d : Controller) → c.scan.field ≡ start.scan.field → d ≡ clock_of 1 c → Counted start d (t + 1)
  unfolding clock_of
  counted-more d e q = record {
    case = h.case;
    set = h.set;
    least = omega arith;
    most = omega (arith, before e);
    there = q ∙ ap (clock_of 1) h.there ∙ sym (iterate-add step_of 1 t start) ∙ ap (λ (n : ℕ). iterate step_of n start) (add_comm 1 t);
  }
