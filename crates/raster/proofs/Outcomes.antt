-- The end of a line by three outcomes, as the code takes it, in place of the definition's six. Assumes nothing.
use Rattle.std.proofs.Common.{◌≡◌, Bool, true, false, not, ◌&&◌, eqb, refl, sym, eq-eqb, ne_eqb}
use Rattle.basics.specs.Choice.{when◌then◌else◌}
use Rattle.raster.specs.Registers.{reg}
use Rattle.raster.specs.Scan.{Move, along, new_frame_of, row_of, down_of, along_of, moved_of, line_end_of, move_of, next_of}
use Rattle.raster.specs.private.Outcomes.{ends_frame_of}
use Rattle.raster.specs.declared.registers.Registers.{Registers}
use Rattle.raster.specs.declared.scan.Scan.{Scan}
use Rattle.raster.proofs.LineEnds.{LineEnd, line-down, row-down, to-adjust, to-frame, adjust-down, adjust-frame, line-end}

module _ (r : Registers) (s : Scan) where
  abbrev by_outcome : Scan
  by_outcome =
      when ends_frame_of r s (eqb s.line (reg r 9) && eqb s.row (reg r 4) && eqb (reg r 5) 0) then new_frame_of r s
      else (when not s.adjusting && eqb s.line (reg r 9) then row_of r s (eqb s.row (reg r 4)) else down_of s)

  outcome : {m : Move} {z : Scan} → LineEnd r s m z → by_outcome ≡ z
  unfolding ends_frame_of when◌then◌else◌
  outcome (line-down a l) = rw (a, ne_eqb _ _ l)
  outcome (row-down a l w) = rw (a, eq-eqb _ _ l, ne_eqb _ _ w)
  outcome (to-adjust a l w z) = rw (a, eq-eqb _ _ l, eq-eqb _ _ w, ne_eqb _ _ z)
  outcome (to-frame a l w z) = rw (a, eq-eqb _ _ l, eq-eqb _ _ w, eq-eqb _ _ z)
  outcome (adjust-down a l) = rw (a, ne_eqb _ _ l)
  outcome (adjust-frame a l) = rw (a, eq-eqb _ _ l)

  pub end_by_outcome : moved_of r s (line_end_of r s) ≡ by_outcome
  end_by_outcome = sym (outcome (line-end r s))

  pub next_by_move : next_of r s ≡ (when eqb s.column (reg r 0) then moved_of r s (line_end_of r s) else along_of s)
  unfolding when◌then◌else◌ next_of move_of moved_of
  next_by_move = of (eqb s.column (reg r 0)) where
    of : (t : Bool) → moved_of r s (when t then line_end_of r s else along) ≡ (when t then moved_of r s (line_end_of r s) else along_of s)
    of true = refl
    of false = refl
