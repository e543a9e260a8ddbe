-- Where the scan goes does not depend on the field that it counts. Assumes nothing.
use Rattle.std.proofs.Common.{◌≡◌, ℕ, refl}
use Rattle.basics.specs.Width.{counted_of}
use Rattle.basics.specs.declared.width.Width.TheVariants.{Five}
use Rattle.raster.specs.Scan.{Move, along, down, next_row, to_adjust, new_frame, line_end_of, move_of, moved_of, next_of}
use Rattle.raster.specs.declared.registers.Registers.{Registers}
use Rattle.raster.specs.declared.scan.Scan.{Scan}

-- a place in another field
abbrev pub in_field : ℕ → Scan → Scan
in_field f s = record {
  column = s.column;
  line = s.line;
  row = s.row;
  base = s.base;
  start = s.start;
  field = f;
  adjusting = s.adjusting;
}

module _ (r : Registers) (s : Scan) (f : ℕ) where
  moved-field : (m : Move) → (g : ℕ) × (moved_of r (in_field f s) m ≡ in_field g (moved_of r s m))
  unfolding moved_of
  moved-field along = (f, refl)
  moved-field down = (f, refl)
  moved-field next_row = (f, refl)
  moved-field to_adjust = (f, refl)
  moved-field new_frame = (counted_of Five f 1, refl)

  pub next_field : (g : ℕ) × (next_of r (in_field f s) ≡ in_field g (next_of r s))
  unfolding next_of move_of line_end_of
  next_field = moved-field (move_of r s)
