-- Laws of rows and of their totals. Assumes nothing.
use Prim.Native.Nat.{ℕ, zero, suc, ◌+◌, ◌*◌, ◌<◌, ◌≤◌}
use mathlib.Core.Path.{◌≡◌, refl, ap, sym, ◌∙◌}
use mathlib.Core.List.{List, [], ◌∷◌, ◌++◌, map-append, append_assoc, append-nil}
use native.Mathlib.Omega.{arith}
use lib.ListN.{length, get_or, length-append}
use lib.Seq.{get_or-append-add}
use Rattle.tally.specs.Tally.{no_tally, AtMost}
use Rattle.tally.specs.declared.tally.Tally.{Tally}
use Rattle.tally.proofs.Summing.{sum-last, greatest-last}
use Rattle.report.specs.Report.{row, row_of, places_of, totals_of}
use Rattle.report.specs.private.Joined.{joined_of}

pub length-row : (k : Tally) → length (row_of k) ≡ row
unfolding row_of
length-row k = refl

pub row_long : (k : Tally) → length (row_of k) ≡ row
row_long = length-row

-- one row more, behind the others
pub places-last : (l : List Tally) (k : Tally) → places_of (l ++ (k ∷ [])) ≡ places_of l ++ row_of k
unfolding places_of
places-last [] k = append-nil (row_of k)
places-last (j ∷ l) k = ap (λ (m : List ℕ). row_of j ++ m) (places-last l k) ∙ sym (append_assoc (row_of j) (places_of l) (row_of k))

pub length-places : (l : List Tally) → length (places_of l) ≡ row * length l
unfolding places_of
length-places [] = refl
length-places (k ∷ l) = simp (length-append, length-row) (omega (arith, length-places l))

-- the first place of the k-th row
pub first-of-row : (l : List Tally) (k : ℕ) → k < length l → get_or (places_of l) (row * k) 0 ≡ (get_or l k no_tally).picture
unfolding places_of row_of
first-of-row [] k h = absurd (omega arith)
first-of-row (j ∷ l) zero h = refl
first-of-row (j ∷ l) (suc k) h =
    let e : row * suc k ≡ length (row_of j) + row * k = omega arith in
    rw e (get_or-append-add (row_of j) (places_of l) (row * k) 0 ∙ first-of-row l k (omega arith))

pub totals-last : (l : List Tally) (k : Tally) → totals_of (l ++ (k ∷ [])) ≡ joined_of (totals_of l) k
unfolding totals_of joined_of
totals-last l k = simp (map-append, sum-last, greatest-last)

-- two rows are together at most the sum
pub joined-most : (a b n : ℕ) (total one : Tally) → AtMost a total → AtMost b one → a + b ≤ n → AtMost n (joined_of total one)
unfolding joined_of
joined-most a b n total one x y h = record {
  picture = omega (arith, x.picture, y.picture);
  display = omega (arith, x.display, y.display);
  cursor = omega (arith, x.cursor, y.cursor);
  hsync = omega (arith, x.hsync, y.hsync);
  vsync = omega (arith, x.vsync, y.vsync);
  changed = omega (arith, x.changed, y.changed);
  most = omega (arith, x.most, y.most);
}
