-- A character time keeps scan and sync counts within their widths. Assumes nothing.
use Rattle.std.proofs.Common.{ℕ, ◌<◌, ◌≤◌, arith}
use Rattle.basics.proofs.Cases.{if-both}
use Rattle.raster.specs.Registers.{start_of}
use Rattle.raster.specs.Scan.{Move, along, down, next_row, to_adjust, new_frame, top_of, moved_of, move_of, next_of}
use Rattle.raster.specs.Sync.{hsync_of, vsync_width_of, vsync_of, arrive_of}
use Rattle.raster.specs.Widths.{RegistersWithin, ScanWithin, SyncWithin}
use Rattle.raster.specs.declared.registers.Registers.{Registers}
use Rattle.raster.specs.declared.scan.Scan.{Scan}
use Rattle.raster.specs.declared.sync.Sync.{Sync}

module _ (r : Registers) (w : RegistersWithin r) where
  pub start-lt : start_of r < 16384
  start-lt = omega (arith, w.each 12 (omega arith), w.each 13 (omega arith))

  pub top_within : (field : ℕ) → field < 32 → ScanWithin (top_of r field)
  top_within field h = record {
    column = omega arith;
    line = omega arith;
    row = omega arith;
    base = start-lt;
    start = start-lt;
    field = h;
  }

  moved-within : (s : Scan) → ScanWithin s → (m : Move) → ScanWithin (moved_of r s m)
  unfolding moved_of
  moved-within s h along = record { column = omega arith; line = h.line; row = h.row; base = h.base; start = h.start; field = h.field }
  moved-within s h down = record { column = omega arith; line = omega arith; row = h.row; base = h.base; start = h.start; field = h.field }
  moved-within s h next_row = record { column = omega arith; line = omega arith; row = omega arith; base = omega arith; start = h.start; field = h.field }
  moved-within s h to_adjust = record { column = omega arith; line = omega arith; row = omega arith; base = omega arith; start = h.start; field = h.field }
  moved-within s h new_frame = top_within _ (omega arith)

  pub next-within : (s : Scan) → ScanWithin s → ScanWithin (next_of r s)
  unfolding next_of
  next-within s h = moved-within s h (move_of r s)

  width-within : vsync_width_of r ≤ 16
  unfolding vsync_width_of
  width-within = if-both (λ (n : ℕ). n ≤ 16) _ _ _ (λ _. omega arith) (λ _. omega (arith, w.each 3 (omega arith)))

  pub arrive-within : (s : Scan) (y : Sync) → SyncWithin y → SyncWithin (arrive_of r s y)
  unfolding arrive_of hsync_of vsync_of
  arrive-within s y h = record {
    hsync = if-both (λ (n : ℕ). n ≤ 15) _ _ _ (λ _. omega arith) (λ _. omega (arith, h.hsync));
    vsync =
        if-both (λ (n : ℕ). n ≤ 16) _ _ _
        (λ _. if-both (λ (n : ℕ). n ≤ 16) _ _ _ (λ _. width-within) (λ _. omega (arith, h.vsync)))
        (λ _. h.vsync);
  }
