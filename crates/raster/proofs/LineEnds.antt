-- Where a character time leads, with the reason as facts: the one case analysis of a line's end. Assumes nothing.
use Rattle.std.proofs.Common.{◌≡◌, Bool, true, false, eqb, sym, refl, ◌∙◌, true≢false, eqb-true}
use borrow.Author.Tests.{eqb-false}
use Rattle.basics.specs.Choice.{when◌then◌else◌}
use Rattle.basics.specs.Width.{counted_of}
use Rattle.basics.specs.declared.width.Width.TheVariants.{Five}
use Rattle.raster.specs.Registers.{reg}
use Rattle.raster.specs.Scan.{Move, along, down, next_row, to_adjust, new_frame, new_frame_of, along_of, down_of, row_of, moved_of, line_end_of, move_of, next_of}
use Rattle.raster.specs.declared.registers.Registers.{Registers}
use Rattle.raster.specs.declared.scan.Scan.{Scan}

-- the end of a line: the move, the place that it leads to, and why
pub data LineEnd (r : Registers) (s : Scan) : Move → Scan → Type 0 where
  line-down : s.adjusting ≡ false → (s.line ≡ reg r 9 → ⊥) → LineEnd r s down (down_of s)
  row-down : s.adjusting ≡ false → s.line ≡ reg r 9 → (s.row ≡ reg r 4 → ⊥) → LineEnd r s next_row (row_of r s false)
  to-adjust : s.adjusting ≡ false → s.line ≡ reg r 9 → s.row ≡ reg r 4 → (reg r 5 ≡ 0 → ⊥) → LineEnd r s to_adjust (row_of r s true)
  to-frame : s.adjusting ≡ false → s.line ≡ reg r 9 → s.row ≡ reg r 4 → reg r 5 ≡ 0 → LineEnd r s new_frame (new_frame_of r s)
  adjust-down : s.adjusting ≡ true → (counted_of Five s.line 1 ≡ reg r 5 → ⊥) → LineEnd r s down (down_of s)
  adjust-frame : s.adjusting ≡ true → counted_of Five s.line 1 ≡ reg r 5 → LineEnd r s new_frame (new_frame_of r s)

-- a character time anywhere
pub data Step (r : Registers) (s : Scan) : Move → Scan → Type 0 where
  in-line : (s.column ≡ reg r 0 → ⊥) → Step r s along (along_of s)
  at-end : {m : Move} {z : Scan} → s.column ≡ reg r 0 → LineEnd r s m z → Step r s m z

pub line-end : (r : Registers) (s : Scan) → LineEnd r s (line_end_of r s) (moved_of r s (line_end_of r s))
unfolding when◌then◌else◌ line_end_of moved_of
line-end r s = go s.adjusting refl (eqb (counted_of Five s.line 1) (reg r 5)) refl (eqb s.line (reg r 9)) refl (eqb s.row (reg r 4)) refl (eqb (reg r 5) 0) refl
  where
    go : (a : Bool) → s.adjusting ≡ a → (e : Bool) → eqb (counted_of Five s.line 1) (reg r 5) ≡ e
        → (l : Bool) → eqb s.line (reg r 9) ≡ l → (w : Bool) → eqb s.row (reg r 4) ≡ w → (z : Bool) → eqb (reg r 5) 0 ≡ z
        → (let m : Move = when a then (when e then new_frame else down) else (when l then (when w then (when z then new_frame else to_adjust) else next_row) else down) in
        LineEnd r s m (moved_of r s m))
    go true a true e l p w q z t = adjust-frame a (eqb-true _ _ e)
    go true a false e l p w q z t = adjust-down a (eqb-false _ _ e)
    go false a e f false l w q z t = line-down a (eqb-false _ _ l)
    go false a e f true l false w z t = row-down a (eqb-true _ _ l) (eqb-false _ _ w)
    go false a e f true l true w false z = to-adjust a (eqb-true _ _ l) (eqb-true _ _ w) (eqb-false _ _ z)
    go false a e f true l true w true z = to-frame a (eqb-true _ _ l) (eqb-true _ _ w) (eqb-true _ _ z)

pub step : (r : Registers) (s : Scan) → Step r s (move_of r s) (next_of r s)
unfolding when◌then◌else◌ next_of move_of moved_of
step r s = go (eqb s.column (reg r 0)) refl
  where
    go : (b : Bool) → eqb s.column (reg r 0) ≡ b → (let m : Move = when b then line_end_of r s else along in Step r s m (moved_of r s m))
    go true e = at-end (eqb-true _ _ e) (line-end r s)
    go false e = in-line (eqb-false _ _ e)

-- within a line the column counts on
pub next-along : (r : Registers) (s : Scan) → (s.column ≡ reg r 0 → ⊥) → next_of r s ≡ along_of s
next-along r s n = go (step r s)
  where
    go : {m : Move} {z : Scan} → Step r s m z → z ≡ along_of s
    go (in-line h) = refl
    go (at-end e l) = absurd (n e)

-- a line that is not its row's last is followed by the next line of that row
pub next_down : (r : Registers) (s : Scan) → s.column ≡ reg r 0 → s.adjusting ≡ false → (s.line ≡ reg r 9 → ⊥) → next_of r s ≡ down_of s
next_down r s e a n = go (step r s)
  where
    go : {m : Move} {z : Scan} → Step r s m z → z ≡ down_of s
    go (in-line h) = absurd (h e)
    go (at-end _ (line-down _ _)) = refl
    go (at-end _ (row-down _ l _)) = absurd (n l)
    go (at-end _ (to-adjust _ l _ _)) = absurd (n l)
    go (at-end _ (to-frame _ l _ _)) = absurd (n l)
    go (at-end _ (adjust-down _ _)) = refl
    go (at-end _ (adjust-frame b _)) = absurd (true≢false (sym b ∙ a))
