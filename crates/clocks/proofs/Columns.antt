-- Columns at once: k columns on within a line are k character times. Assumes nothing.
use Prim.Native.Nat.{ℕ, suc, ◌+◌, ◌-◌, ◌%◌, ◌≤◌, ◌<◌}
use mathlib.Core.Path.{◌≡◌, refl, sym, ap, ◌∙◌}
use mathlib.Core.Logic.{⊎_elim}
use native.Mathlib.Omega.{arith}
use borrow.Author.Tests.{lt-ltb, le-ltb, le-leb, lt-leb}
use Rattle.basics.specs.Choice.{when◌then◌else◌}
use Rattle.basics.specs.Iterate.{iterate}
use Rattle.basics.proofs.Iterating.{iterate-run}
use Rattle.basics.proofs.Tests.{lt-or-ge}
use Rattle.raster.specs.Registers.{reg}
use Rattle.raster.specs.Scan.{next_of}
use Rattle.raster.specs.Sync.{hsync_of, arrive_of}
use Rattle.raster.proofs.LineEnds.{next-along}
use Rattle.raster.proofs.Syncs.{hsync-loads, hsync-falls, vsync-stays, arrives, syncs}
use Rattle.raster.specs.declared.registers.Registers.{Registers}
use Rattle.raster.specs.declared.scan.Scan.{Scan}
use Rattle.raster.specs.declared.sync.Sync.{Sync}
use Rattle.clocks.specs.declared.place.Place.{Place}
use Rattle.clocks.specs.Walk.{stepped_of}
use Rattle.clocks.specs.private.Skip.{Clear, hsync_columns, at_column, columns_on}

module _ (r : Registers) (c h : ℕ) where
  -- its closed form: R2 behind, R2 still ahead, R2 passed
  behind : (k : ℕ) → reg r 2 ≤ c → hsync_columns r c k h ≡ h - k
  unfolding hsync_columns when◌then◌else◌
  behind k q = rw (le-leb (reg r 2) c q)

  pub ahead : (k : ℕ) → c + k < reg r 2 → hsync_columns r c k h ≡ h - k
  unfolding hsync_columns when◌then◌else◌
  ahead k q = rw (lt-leb (reg r 2) c (omega arith), lt-ltb (c + k) (reg r 2) q)

  pub passed : (k : ℕ) → c < reg r 2 → reg r 2 ≤ c + k → hsync_columns r c k h ≡ reg r 3 % 16 - (c + k - reg r 2)
  unfolding hsync_columns when◌then◌else◌
  passed k p q = rw (lt-leb (reg r 2) c p, le-ltb (c + k) (reg r 2) q)

  none : hsync_columns r c 0 h ≡ h
  none =
      ⊎_elim
      (λ (p : c < reg r 2). let e = ahead 0 (omega arith) in omega arith)
      (λ (p : reg r 2 ≤ c). let e = behind 0 p in omega arith)
      (lt-or-ge c (reg r 2))

  -- one arrival more, at a column that does not load it
  falls-on : (k : ℕ) → (c + suc k ≡ reg r 2 → ⊥) → hsync_columns r c k h - 1 ≡ hsync_columns r c (suc k) h
  falls-on k n =
      ⊎_elim
      (λ (p : c < reg r 2).
      ⊎_elim
      (λ (q : c + k < reg r 2). let e = ahead k q in let f = ahead (suc k) (omega (arith, n)) in omega arith)
      (λ (q : reg r 2 ≤ c + k). let e = passed k p q in let f = passed (suc k) p (omega arith) in omega arith)
      (lt-or-ge (c + k) (reg r 2)))
      (λ (p : reg r 2 ≤ c). let e = behind k p in let f = behind (suc k) p in omega arith)
      (lt-or-ge c (reg r 2))

  -- and at any
  arrives-on : (s : Scan) (k : ℕ) → s.column ≡ c + suc k → hsync_of r s (hsync_columns r c k h) ≡ hsync_columns r c (suc k) h
  arrives-on s k e =
      ⊎_elim
      (λ (p : c + suc k < reg r 2). hsync-falls r s _ (λ q. omega arith) ∙ falls-on k (λ q. omega arith))
      (λ (p : reg r 2 ≤ c + suc k).
      ⊎_elim
      (λ (q : reg r 2 < c + suc k). hsync-falls r s _ (λ h. omega arith) ∙ falls-on k (λ h. omega arith))
      (λ (q : c + suc k ≤ reg r 2). let f = passed (suc k) (omega arith) p in hsync-loads r s _ (omega arith) ∙ omega arith)
      (lt-or-ge (reg r 2) (c + suc k)))
      (lt-or-ge (c + suc k) (reg r 2))

abbrev pub placed : Scan → Sync → Place
placed s y = record { scan = s; sync = y }

-- a step, by where it leads and what the arrival there does
pub stepped : (r : Registers) (p : Place) (s : Scan) (y : Sync) → next_of r p.scan ≡ s → arrive_of r s p.sync ≡ y
    → stepped_of r p ≡ placed s y
unfolding stepped_of
stepped r p s y e f = ap (λ (z : Scan). placed z (arrive_of r z p.sync)) e ∙ ap (placed s) f

module _ (r : Registers) (p : Place) where
  abbrev at : ℕ → ℕ
  at k = p.scan.column + k

  next-column : (k : ℕ) → (at k ≡ reg r 0 → ⊥) → at k < 255 → next_of r (at_column p.scan (at k)) ≡ at_column p.scan (at (suc k))
  next-column k n l =
      let w : (at k + 1) % 256 ≡ at (suc k) = omega arith in
      next-along r (at_column p.scan (at k)) n ∙ ap (at_column p.scan) w

  syncs-on : (k : ℕ) → arrive_of r (at_column p.scan (at (suc k))) (columns_on r p k).sync ≡ (columns_on r p (suc k)).sync
  unfolding columns_on
  syncs-on k =
      let s = at_column p.scan (at (suc k)) in
      arrives r s (columns_on r p k).sync (arrives-on r p.scan.column p.sync.hsync s k refl) (vsync-stays r s _ (λ q. omega arith))

  column-on : (k : ℕ) → (at k ≡ reg r 0 → ⊥) → at k < 255 → stepped_of r (columns_on r p k) ≡ columns_on r p (suc k)
  unfolding columns_on
  column-on k n l = stepped r (columns_on r p k) _ _ (next-column k n l) (syncs-on k)

  no-column : columns_on r p 0 ≡ p
  unfolding columns_on
  no-column =
      let here : at 0 ≡ p.scan.column = omega arith in
      let still = none r p.scan.column p.sync.hsync in
      ap (λ (x : ℕ). placed (at_column p.scan x) (syncs (hsync_columns r p.scan.column 0 p.sync.hsync) p.sync.vsync)) here
      ∙ ap (λ (x : ℕ). placed p.scan (syncs x p.sync.vsync)) still

  -- k columns at once are k character times
  pub columns-at-once : (k : ℕ) → Clear 255 (reg r 0) p.scan.column k → iterate (stepped_of r) k p ≡ columns_on r p k
  columns-at-once k z =
      ap (iterate (stepped_of r) k) (sym no-column)
      ∙ iterate-run (stepped_of r) (columns_on r p) k (λ j l. column-on j (z.clear j l) (omega (arith, z.below)))
