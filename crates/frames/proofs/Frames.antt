-- The frame theorem: clocks, reads and strikes move the scan by their character times alone, and the field counts the frames that have
-- begun. Assumes nothing.
use Prim.Native.Nat.{ℕ, zero, suc, ◌+◌, ◌*◌, ◌/◌, ◌%◌, ◌<◌, ◌≤◌}
use mathlib.Core.Path.{◌≡◌, refl, ap, ap₂, sym, ◌∙◌}
use mathlib.Core.Bool.{Bool}
use mathlib.Core.List.{List, [], ◌∷◌}
use mathlib.Core.Logic.{⊎_elim}
use native.Mathlib.Nat.{suc-mul, mod-lt, div-add-mod', div-eq_of_lt}
use native.Mathlib.Omega.{arith}
use lib.Dec.{eqb}
use lib.Arith.{digits_div, digits_mod}
use borrow.Author.Tests.{eq-eqb, ne_eqb}
use Rattle.basics.specs.Choice.{when◌then◌else◌}
use Rattle.basics.specs.Iterate.{iterate}
use Rattle.basics.proofs.Iterating.{iterate-add}
use Rattle.basics.proofs.Tests.{lt-or-ge}
use Rattle.raster.specs.Scan.{Move, top_of, next_of}
use Rattle.raster.specs.Widths.{RegistersWithin}
use Rattle.raster.specs.declared.registers.Registers.{Registers}
use Rattle.raster.specs.declared.scan.Scan.{Scan}
use Rattle.raster.proofs.LineEnds.{line-down, row-down, to-adjust, to-frame, adjust-down, adjust-frame, Step, in-line, at-end, step}
use Rattle.controller.specs.Chip.{reset_of}
use Rattle.controller.specs.declared.chip.Controller.{Controller}
use Rattle.controller.proofs.Keeping.{clock-regs, clock-scan, strike-regs, strike-scan, read-regs, read-scan, reset-regs, reset-scan}
use Rattle.frames.specs.Calls.{clocks, reads, Act, waits, strikes, after_wait, after_act, after_acts, times_in, times_of}
use Rattle.frames.specs.Places.{frame_times}
use Rattle.frames.specs.Frames.{begins_frame, begins_at, Frames}
use Rattle.frames.proofs.Placing.{Narrow, narrow, placed-top, placed-after}
use Rattle.frames.proofs.Times.{some-times, begins-when, begins-at}
use Rattle.frames.proofs.Places.{scan-at}

-- where the scan is n character times on from a controller with registers r, and those registers
abbrev Gone : Registers → Scan → ℕ → Controller → Type 0
Gone r s n c = (c.regs ≡ r) × (c.scan ≡ iterate (next_of r) n s)

-- an act moves the scan by its character times alone
act-scan : (a : Act) (c : Controller) → Gone c.regs c.scan (times_in a) (after_act a c)
unfolding after_act after_wait times_in iterate
act-scan (waits (clocks n)) c = (clock-regs c n, clock-scan c n)
act-scan (waits (reads rs)) c = (read-regs c rs, read-scan c rs)
act-scan strikes c = (strike-regs c, strike-scan c)

-- and so do any of them, one after the other
acts-scan : (l : List Act) (c : Controller) → Gone c.regs c.scan (times_of l) (after_acts l c)
unfolding after_acts times_of iterate
acts-scan [] c = (refl, refl)
acts-scan (a ∷ l) c =
    let q = act-scan a c in
    let p = acts-scan l (after_act a c) in (
      p.0 ∙ q.0,
      p.1 ∙ ap (λ (r : Registers). iterate (next_of r) (times_of l) (after_act a c).scan) q.0
          ∙ ap (iterate (next_of c.regs) (times_of l)) q.1
          ∙ sym (iterate-add (next_of c.regs) (times_of l) (times_in a) c.scan),
    )

-- the next number, by how many times f goes into it and what is left: one more is left, or f goes in once more
next-part : (t f : ℕ) → suc (t % f) < f → (suc t / f ≡ t / f) × (suc t % f ≡ suc (t % f))
next-part t f h =
    let e : suc t ≡ t / f * f + suc (t % f) = omega (arith, div-add-mod' t f) in
    (ap (λ (n : ℕ). n / f) e ∙ digits_div (t / f) h, ap (λ (n : ℕ). n % f) e ∙ digits_mod (t / f) h)

next-whole : (t f : ℕ) → 0 < f → f ≤ suc (t % f) → (suc t / f ≡ suc (t / f)) × (suc t % f ≡ 0)
next-whole t f z h =
    let e : suc t ≡ suc (t / f) * f + 0 = omega (arith, div-add-mod' t f, mod-lt t z, suc-mul (t / f) f) in
    (ap (λ (n : ℕ). n / f) e ∙ digits_div (suc (t / f)) z, ap (λ (n : ℕ). n % f) e ∙ digits_mod (suc (t / f)) z)

-- the field after a character time
step_field : {r : Registers} {s z : Scan} {m : Move} → Step r s m z → z.field ≡ (when begins_frame m then (s.field + 1) % 32 else s.field)
unfolding when◌then◌else◌
step_field (in-line h) = refl
step_field (at-end h (line-down a l)) = refl
step_field (at-end h (row-down a l w)) = refl
step_field (at-end h (to-adjust a l w z)) = refl
step_field (at-end h (to-frame a l w z)) = refl
step_field (at-end h (adjust-down a l)) = refl
step_field (at-end h (adjust-frame a l)) = refl

module _ (r : Registers) (w : Narrow r) where
  abbrev F : ℕ
  F = frame_times r

  -- the field one character time on: it counts where a frame begins
  field-on : (t : ℕ) → (iterate (next_of r) (suc t) (top_of r 0)).field
      ≡ (when eqb (suc t % F) 0 then ((iterate (next_of r) t (top_of r 0)).field + 1) % 32 else (iterate (next_of r) t (top_of r 0)).field)
  unfolding iterate begins_at
  field-on t =
      let s = iterate (next_of r) t (top_of r 0) in
      step_field (step r s) ∙ ap (λ (b : Bool). when b then (s.field + 1) % 32 else s.field) (begins-when r w 0 t)

  field-after : (t : ℕ) → (iterate (next_of r) t (top_of r 0)).field ≡ (t / F) % 32
  unfolding iterate when◌then◌else◌
  field-after zero = rw (div-eq_of_lt (some-times r w))
  field-after (suc t) =
      ⊎_elim
      (λ (h : suc (t % F) < F).
      let q = next-part t F h in
      field-on t ∙ rw (q.0, ne_eqb (suc t % F) 0 (omega (arith, q.1))) (field-after t))
      (λ (h : F ≤ suc (t % F)).
      let q = next-whole t F (some-times r w) h in
      field-on t ∙ rw (q.0, eq-eqb (suc t % F) 0 q.1, field-after t) (omega arith))
      (lt-or-ge (suc (t % F)) F)

pub frames : (c : Controller) → RegistersWithin c.regs → Frames c
frames c f =
    let r = c.regs in
    let w = narrow r f in
    let top = top_of r 0 in
    let gone : (l : List Act) → Gone r top (times_of l) (after_acts l (reset_of c)) =
    λ l. let g = acts-scan l (reset_of c) in
    (g.0 ∙ reset-regs c, g.1 ∙ ap₂ (λ (q : Registers) (s : Scan). iterate (next_of q) (times_of l) s) (reset-regs c) (reset-scan c)) in
    record {
      registers = λ l. (gone l).0;
      times = λ l. (gone l).1 ∙ ap (iterate (next_of r) (times_of l)) (sym (reset-scan c));
      begins = rw (reset-scan c) (begins-at r w 0);
      fields = rw (reset-scan c) (field-after r w);
      places = rw (reset-scan c) (scan-at r w (field-after r w));
      placed = λ l. rw (gone l).1 (placed-after r w top (placed-top r w 0) (times_of l));
    }
