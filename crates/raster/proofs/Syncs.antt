-- What an arrival does to each sync count. Assumes nothing.
use Rattle.std.proofs.Common.{◌≡◌, ℕ, ◌-◌, ◌%◌, false, ap₂, eq-eqb, ne_eqb}
use Rattle.basics.specs.Choice.{when◌then◌else◌}
use Rattle.raster.specs.Registers.{reg}
use Rattle.raster.specs.Sync.{hsync_of, vsync_starts_of, vsync_of, arrive_of}
use Rattle.raster.specs.declared.registers.Registers.{Registers}
use Rattle.raster.specs.declared.scan.Scan.{Scan}
use Rattle.raster.specs.declared.sync.Sync.{Sync}

module _ (r : Registers) (s : Scan) (count : ℕ) where
  -- HSYNC at column R2, and at any other
  pub hsync-loads : s.column ≡ reg r 2 → hsync_of r s count ≡ reg r 3 % 16
  unfolding hsync_of when◌then◌else◌
  hsync-loads e = rw (eq-eqb s.column (reg r 2) e)

  pub hsync-falls : (s.column ≡ reg r 2 → ⊥) → hsync_of r s count ≡ count - 1
  unfolding hsync_of when◌then◌else◌
  hsync-falls n = rw (ne_eqb s.column (reg r 2) n)

  -- VSYNC within a line, and at the start of a line that is not its row's first
  pub vsync-stays : (s.column ≡ 0 → ⊥) → vsync_of r s count ≡ count
  unfolding vsync_of when◌then◌else◌
  vsync-stays n = rw (ne_eqb s.column 0 n)

  pub vsync-falls : s.column ≡ 0 → s.adjusting ≡ false → (s.line ≡ 0 → ⊥) → vsync_of r s count ≡ count - 1
  unfolding vsync_of vsync_starts_of when◌then◌else◌
  vsync-falls e a n = rw (eq-eqb s.column 0 e, a, ne_eqb s.line 0 n)

-- both counts, each by itself
abbrev pub syncs : ℕ → ℕ → Sync
syncs h v = record { hsync = h; vsync = v }

pub arrives : (r : Registers) (s : Scan) (y : Sync) {h v : ℕ} → hsync_of r s y.hsync ≡ h → vsync_of r s y.vsync ≡ v → arrive_of r s y ≡ syncs h v
unfolding arrive_of
arrives r s y e f = ap₂ syncs e f
