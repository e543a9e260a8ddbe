-- When a frame begins. A place's number in its frame is a closed form, one character time adds one to it or starts it again at 0, so t
-- times after the top of a frame it is t mod F. Assumes nothing.
use Prim.Native.Nat.{ℕ, zero, suc, ◌+◌, ◌*◌, ◌%◌, ◌/◌, ◌<◌}
use mathlib.Core.Path.{◌≡◌, ap, sym, ◌∙◌}
use mathlib.Core.Bool.{Bool, true, false, false≢true}
use mathlib.Core.Logic.{◌↔◌}
use native.Mathlib.Nat.{mod-eq_of_lt, mod_self, zero-mod, suc-mod, zero-mul, div-add-mod', mul-mod_left, suc-mul, mul_comm}
use native.Mathlib.Omega.{arith}
use lib.Dec.{eqb}
use lib.Arith.{digits_lt}
use borrow.Author.Tests.{eqb-true, eq-eqb, ne_eqb}
use Rattle.basics.specs.Iterate.{iterate}
use Rattle.raster.specs.Registers.{reg}
use Rattle.raster.specs.Scan.{Move, top_of, move_of, next_of}
use Rattle.raster.specs.declared.registers.Registers.{Registers}
use Rattle.raster.specs.declared.scan.Scan.{Scan}
use Rattle.raster.proofs.LineEnds.{line-down, row-down, to-adjust, to-frame, adjust-down, adjust-frame, Step, in-line, at-end, step}
use Rattle.frames.specs.Places.{row_lines, frame_times, Region, Placed}
use Rattle.frames.specs.Frames.{begins_frame, begins_at}
use Rattle.frames.proofs.Placing.{Narrow, times-suc, placed-top, facts, placed-step, placed-after}

-- the number of a place's line in its frame, and of its character time
unfoldable pub line_no : Registers → (line row : ℕ) → Bool → ℕ
line_no r line row false = row * (reg r 9 + 1) + line
line_no r line row true = row_lines r + line

unfoldable pub time_no : Registers → Scan → ℕ
time_no r s = line_no r s.line s.row s.adjusting * (reg r 0 + 1) + s.column

unfoldable lines : Registers → ℕ
lines r = row_lines r + reg r 5

line-in : (r : Registers) (line row base : ℕ) (b : Bool) → Region r line row base b → line_no r line row b < lines r
unfolding line_no lines
line-in r line row base false q = omega (arith, digits_lt {q = row} {m = reg r 4 + 1} {r = line} {c = reg r 9 + 1} (omega arith) (omega arith))
line-in r line row base true q = omega arith

-- F, as lines times columns
times-lines : (r : Registers) → frame_times r ≡ lines r * (reg r 0 + 1)
unfolding lines
times-lines r = mul_comm (reg r 0 + 1) _

time-in : (r : Registers) (s : Scan) → Placed r s → time_no r s < frame_times r
unfolding time_no
time-in r s p = rw (times-lines r) (digits_lt (line-in r s.line s.row s.base s.adjusting p.region) (omega arith))

-- a frame has a character time at least
pub some-times : (r : Registers) → Narrow r → 0 < frame_times r
some-times r w = omega (arith, time-in r (top_of r 0) (placed-top r w 0))

-- the last character of a line, and the first of the next
carry : {a b n c : ℕ} → b ≡ suc a → c ≡ n → b * (n + 1) + 0 ≡ suc (a * (n + 1) + c)
carry {a} {b} {n} {c} e h = omega (arith, times-suc {a = a} {b = b} (n + 1) e)

-- what a move does to the number of the character time
Counts : Registers → Scan → Scan → Bool → Type 0
Counts r s z false = time_no r z ≡ suc (time_no r s)
Counts r s z true = (suc (time_no r s) ≡ frame_times r) × (time_no r z ≡ 0)

module _ (r : Registers) (w : Narrow r) (s : Scan) (p : Placed r s) where
  top-time : (f : ℕ) → time_no r (top_of r f) ≡ 0
  unfolding time_no line_no
  top-time f = omega arith

  -- the last character time of a frame
  last-time : suc (line_no r s.line s.row s.adjusting) ≡ lines r → s.column ≡ reg r 0 → suc (time_no r s) ≡ frame_times r
  unfolding time_no
  last-time e h = omega (arith, times-lines r, carry {b = lines r} (sym e) h)

  counts : {m : Move} {z : Scan} → Step r s m z → Counts r s z (begins_frame m)
  unfolding Counts time_no line_no lines
  counts (in-line h) = omega arith
  counts (at-end h (line-down a l)) = let q = facts r w s p false a in rw a (carry (omega arith) h)
  counts (at-end h (row-down a l k)) =
      let q = facts r w s p false a in
      rw a (carry (omega (arith, times-suc {a = s.row} {b = (s.row + 1) % 128} (reg r 9 + 1) (omega arith))) h)
  counts (at-end h (to-adjust a l k z)) = rw a (carry (omega (arith, times-suc {a = s.row} {b = reg r 4 + 1} (reg r 9 + 1) (omega arith))) h)
  counts (at-end h (to-frame a l k z)) =
      (last-time (rw a (omega (arith, times-suc {a = s.row} {b = reg r 4 + 1} (reg r 9 + 1) (omega arith)))) h, top-time ((s.field + 1) % 32))
  counts (at-end h (adjust-down a l)) = let q = facts r w s p true a in rw a (carry (omega arith) h)
  counts (at-end h (adjust-frame a l)) = let q = facts r w s p true a in (last-time (rw a (omega arith)) h, top-time ((s.field + 1) % 32))

  -- the number of the next character time, and whether a frame begins there
  arrives : (z : Scan) (b : Bool) → Counts r s z b → Placed r z
      → (time_no r z ≡ suc (time_no r s) % frame_times r) × (b ≡ eqb (suc (time_no r s) % frame_times r) 0)
  unfolding Counts
  arrives z false c n =
      let t : suc (time_no r s) % frame_times r ≡ suc (time_no r s) = mod-eq_of_lt (omega (arith, time-in r z n)) in
      (c ∙ sym t, sym (ne_eqb (suc (time_no r s) % frame_times r) 0 (omega arith)))
  arrives z true c n =
      let t : suc (time_no r s) % frame_times r ≡ 0 = ap (λ (x : ℕ). x % frame_times r) c.0 ∙ mod_self _ in
      (c.1 ∙ sym t, sym (eq-eqb _ _ t))

  step-time : (time_no r (next_of r s) ≡ suc (time_no r s) % frame_times r) × (begins_frame (move_of r s) ≡ eqb (suc (time_no r s) % frame_times r) 0)
  step-time = let y = step r s in arrives (next_of r s) (begins_frame (move_of r s)) (counts y) (placed-step r w s p y)

module _ (r : Registers) (w : Narrow r) (f : ℕ) where
  -- t character times after the top of a frame the scan stands at time t mod F of its frame
  pub time-after : (t : ℕ) → time_no r (iterate (next_of r) t (top_of r f)) ≡ t % frame_times r
  unfolding iterate
  time-after zero = top-time r w (top_of r f) (placed-top r w f) f ∙ sym (zero-mod (frame_times r))
  time-after (suc t) =
      (step-time r w (iterate (next_of r) t (top_of r f)) (placed-after r w (top_of r f) (placed-top r w f) t)).0
      ∙ ap (λ (x : ℕ). suc x % frame_times r) (time-after t)
      ∙ sym (suc-mod t (frame_times r))

  pub begins-when : (t : ℕ) → begins_at r (top_of r f) (suc t) ≡ eqb (suc t % frame_times r) 0
  unfolding begins_at
  begins-when t =
      (step-time r w (iterate (next_of r) t (top_of r f)) (placed-after r w (top_of r f) (placed-top r w f) t)).1
      ∙ ap (λ (x : ℕ). eqb (suc x % frame_times r) 0) (time-after t)
      ∙ ap (λ (x : ℕ). eqb x 0) (sym (suc-mod t (frame_times r)))

  -- the k-th new frame begins at k * F, and no frame begins at any other time
  pub begins-at : (t : ℕ) → (begins_at r (top_of r f) t ≡ true) ↔ ((k : ℕ) × (t ≡ suc k * frame_times r))
  unfolding begins_at
  begins-at zero = (
    λ e. absurd (false≢true e),
    λ k. absurd (omega (arith, suc-mul k.0 (frame_times r), some-times r w, k.1)),
  )
  begins-at (suc t) = (
    λ e. go (suc t / frame_times r) (omega (arith, div-add-mod' (suc t) (frame_times r), eqb-true (suc t % frame_times r) 0 (sym (begins-when t) ∙ e))),
    λ k. begins-when t ∙ eq-eqb _ _ (ap (λ (x : ℕ). x % frame_times r) k.1 ∙ mul-mod_left (suc k.0) (frame_times r)),
  )
    where
      go : (q : ℕ) → suc t ≡ q * frame_times r → (k : ℕ) × (suc t ≡ suc k * frame_times r)
      go zero e = absurd (omega (arith, zero-mul (frame_times r)))
      go (suc k) e = (k, e)
