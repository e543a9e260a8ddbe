-- Lines at once: m lines on within a row, none of them its last, are m times R0 + 1 character times. Assumes nothing.
use Prim.Native.Nat.{ℕ, zero, suc, ◌+◌, ◌*◌, ◌-◌, ◌%◌, ◌≤◌, ◌<◌}
use mathlib.Core.Path.{◌≡◌, refl, sym, ap, ap₂, ◌∙◌}
use mathlib.Core.Bool.{false}
use mathlib.Core.Logic.{⊎_elim}
use native.Mathlib.Omega.{arith}
use native.Mathlib.Nat.{suc-mul, zero-mul, eq-zero-or-pos, mul-le-mul}
use borrow.Author.Tests.{eq-eqb, ne_eqb, lt-ltb, le-ltb}
use Rattle.basics.specs.Choice.{when◌then◌else◌}
use Rattle.basics.specs.Iterate.{iterate}
use Rattle.basics.proofs.Iterating.{iterate-run, iterate-turns}
use Rattle.basics.proofs.Tests.{lt-or-ge}
use Rattle.raster.specs.Registers.{reg}
use Rattle.raster.specs.Scan.{next_of}
use Rattle.raster.specs.Sync.{hsync_of, arrive_of}
use Rattle.raster.proofs.LineEnds.{next_down}
use Rattle.raster.proofs.Syncs.{hsync-loads, hsync-falls, vsync-falls, arrives, syncs}
use Rattle.raster.specs.declared.registers.Registers.{Registers}
use Rattle.raster.specs.declared.scan.Scan.{Scan}
use Rattle.clocks.specs.declared.place.Place.{Place}
use Rattle.clocks.specs.Walk.{stepped_of}
use Rattle.clocks.specs.private.Skip.{Clear, Whole, hsync_columns, hsync_lines, at_column, at_line, columns_on, lines_on}
use Rattle.clocks.proofs.Columns.{ahead, passed, placed, stepped, columns-at-once}

-- HSYNC's closed form: no line, R2 past the line's end, R2 at its first column, R2 at another
module _ (r : Registers) (h : ℕ) where
  none : hsync_lines r 0 h ≡ h
  unfolding hsync_lines when◌then◌else◌
  none = refl

  unloaded : (m : ℕ) → reg r 0 < reg r 2 → hsync_lines r m h ≡ h - m * (reg r 0 + 1)
  unfolding hsync_lines when◌then◌else◌
  unloaded zero l = rw zero-mul (omega arith)
  unloaded (suc m) l = rw (ne_eqb (suc m) 0 (λ q. omega arith), lt-ltb (reg r 0) (reg r 2) l)

  at_first : (m : ℕ) → reg r 2 ≡ 0 → hsync_lines r (suc m) h ≡ reg r 3 % 16
  unfolding hsync_lines when◌then◌else◌
  at_first m e = rw (ne_eqb (suc m) 0 (λ q. omega arith), le-ltb (reg r 0) (reg r 2) (omega arith), eq-eqb (reg r 2) 0 e)

  at_other : (m : ℕ) → 0 < reg r 2 → reg r 2 ≤ reg r 0 → hsync_lines r (suc m) h ≡ reg r 3 % 16 - (reg r 0 - reg r 2) - 1
  unfolding hsync_lines when◌then◌else◌
  at_other m p l =
      rw (ne_eqb (suc m) 0 (λ q. omega arith), le-ltb (reg r 0) (reg r 2) l, ne_eqb (reg r 2) 0 (λ q. omega arith))

  -- a line more: its columns, and the arrival at the next
  arrives-on : (s : Scan) (m : ℕ) → s.column ≡ 0 → hsync_of r s (hsync_columns r s.column (reg r 0) (hsync_lines r m h)) ≡ hsync_lines r (suc m) h
  arrives-on s m e =
      ⊎_elim
      (λ (z : reg r 2 ≡ 0). hsync-loads r s _ (omega arith) ∙ sym (at_first m z))
      (λ (p : 0 < reg r 2).
      ⊎_elim
      (λ (l : reg r 0 < reg r 2).
      let a = ahead r s.column (hsync_lines r m h) (reg r 0) (omega arith) in
      let b = unloaded m l in
      let d = unloaded (suc m) l in
      let k : suc m * (reg r 0 + 1) ≡ m * (reg r 0 + 1) + (reg r 0 + 1) = rw suc-mul (omega arith) in
      hsync-falls r s _ (λ q. omega arith) ∙ omega arith)
      (λ (l : reg r 2 ≤ reg r 0).
      let a = passed r s.column (hsync_lines r m h) (reg r 0) (omega arith) (omega arith) in
      let b = at_other m p l in
      hsync-falls r s _ (λ q. omega arith) ∙ omega arith)
      (lt-or-ge (reg r 0) (reg r 2)))
      (eq-zero-or-pos (reg r 2))

module _ (r : Registers) (p : Place) (z : p.scan.column ≡ 0) (a : p.scan.adjusting ≡ false) where
  abbrev at : ℕ → ℕ
  at m = p.scan.line + m

  -- the last character of a line that is m lines on
  abbrev ending : ℕ → Place
  ending m = columns_on r (lines_on r p m) (reg r 0)

  next-line : (m : ℕ) → (at m ≡ reg r 9 → ⊥) → at m < 31 → next_of r (ending m).scan ≡ (lines_on r p (suc m)).scan
  unfolding columns_on lines_on
  next-line m n l =
      let w : (at m + 1) % 32 ≡ at (suc m) = omega arith in
      next_down r (ending m).scan (omega arith) a n
      ∙ ap (at_line (at_column p.scan 0)) w ∙ ap (λ (x : ℕ). at_line (at_column p.scan x) (at (suc m))) (sym z)

  syncs-on : (m : ℕ) → arrive_of r (lines_on r p (suc m)).scan (ending m).sync ≡ (lines_on r p (suc m)).sync
  unfolding columns_on lines_on
  syncs-on m =
      let s = (lines_on r p (suc m)).scan in
      let fallen : p.sync.vsync - m - 1 ≡ p.sync.vsync - suc m = omega arith in
      arrives r s (ending m).sync (arrives-on r p.sync.hsync s m z) (vsync-falls r s _ z a (λ q. omega arith) ∙ fallen)

  line_on : (m : ℕ) → (at m ≡ reg r 9 → ⊥) → at m < 31 → stepped_of r (ending m) ≡ lines_on r p (suc m)
  line_on m n l = stepped r (ending m) _ _ (next-line m n l) (syncs-on m)

  module _ (wide : reg r 0 ≤ 255) where
    in-line : (m : ℕ) → Clear 255 (reg r 0) (lines_on r p m).scan.column (reg r 0)
    unfolding lines_on
    in-line m = record { below = omega arith; clear = λ j l q. omega arith }

    one_line : (m : ℕ) → (at m ≡ reg r 9 → ⊥) → at m < 31 → iterate (stepped_of r) (suc (reg r 0)) (lines_on r p m) ≡ lines_on r p (suc m)
    unfolding iterate
    one_line m n l = ap (stepped_of r) (columns-at-once r (lines_on r p m) (reg r 0) (in-line m)) ∙ line_on m n l

no_line : (r : Registers) (p : Place) → lines_on r p 0 ≡ p
unfolding lines_on
no_line r p =
    let here : p.scan.line + 0 ≡ p.scan.line = omega arith in
    let still : p.sync.vsync - 0 ≡ p.sync.vsync = omega arith in
    ap (λ (x : ℕ). placed (at_line p.scan x) (syncs (hsync_lines r 0 p.sync.hsync) (p.sync.vsync - 0))) here
    ∙ ap (placed p.scan) (ap₂ syncs (none r p.sync.hsync) still)

-- m lines at once are m times R0 + 1 character times
pub lines-at-once : (r : Registers) (p : Place) (m : ℕ) → reg r 0 ≤ 255 → Whole r p m → iterate (stepped_of r) (m * (reg r 0 + 1)) p ≡ lines_on r p m
unfolding iterate
lines-at-once r p zero w k = rw zero-mul (sym (no_line r p))
lines-at-once r p (suc m) w k =
    let e : reg r 0 + 1 ≡ suc (reg r 0) = omega arith in
    let line : Place → Place = iterate (stepped_of r) (suc (reg r 0)) in
    rw (e, iterate-turns (stepped_of r) (λ (y : Place). Unit {0}) line (suc (reg r 0)) (λ y u. refl) (λ y u. tt) (suc m) p tt)
    (ap (iterate line (suc m)) (sym (no_line r p))
    ∙ iterate-run line (lines_on r p) (suc m)
    (λ j l. one_line r p (k.first (omega arith)) (k.plain (omega arith)) w j (k.lines.clear j l) (omega (arith, k.lines.below))))

pub line-times-lt : (m end : ℕ) → m < 256 → end < 256 → m * (end + 1) < 65536
line-times-lt m end p q = let l : m * (end + 1) ≤ 255 * 256 = mul-le-mul {n₂ = 255} {m₂ = 256} (omega arith) (omega arith) in omega arith

-- one less than what a callee gave
pub less_one : (z x y : ℕ) → z ≡ x - 1 → x ≡ y → z ≡ y - 1
less_one z x y e f = rw (← f) e
