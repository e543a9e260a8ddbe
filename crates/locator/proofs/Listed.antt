-- The list of cells has just the picture's cells, each once; so of those that pass any test, the fit tells one from several.
-- Assumes nothing.
use Rattle.std.proofs.Common.{◌≡◌, ℕ, zero, suc, ◌+◌, ◌*◌, ◌<◌, ◌≤◌, Bool, true, false, List, [], ◌∷◌, ◌++◌, map, sym, refl, ap, ◌∙◌, ⊎_elim, eq-or-lt_of_le, arith, Ok, Err}
use mathlib.Core.List.Memᴰ
use mathlib.Core.List.{Memᴰ}
use Rattle.basics.specs.Choice.{when◌then◌else◌}
use Rattle.basics.specs.Count.{count}
use Rattle.raster.specs.Registers.{reg}
use Rattle.raster.specs.declared.registers.Registers.{Registers}
use Rattle.basics.proofs.Counting.{mem-count, count-mem}
use Rattle.locator.specs.Cells.{IsCell, columns_of, rows_of, cell_at, row_cells, cells_from, cells_of, fits_of, keep, the_fit, fit_of}
use Rattle.locator.specs.Locate.{refusal_of, named_of}
use Rattle.locator.specs.declared.answer.Unlocated.TheVariants.{Several}
use Rattle.locator.specs.declared.cells.Cell.{Cell}
use Rattle.locator.specs.declared.fit.Fit.TheVariants.{One, Many}

-- membership in a kept list
module _ {A : Type 0} (f : A → Bool) where
  later : (b : Bool) (a : A) {x : A} {k : List A} → Memᴰ x k → Memᴰ x (when b then a ∷ k else k)
  unfolding when◌then◌else◌
  later true a m = Memᴰ.tail m
  later false a m = m

  mem-keep : (x : A) (l : List A) → Memᴰ x l → f x ≡ true → Memᴰ x (keep f l)
  unfolding when◌then◌else◌ keep
  mem-keep x [] m e = absurd (Memᴰ.not-nil m)
  mem-keep x (a ∷ l) m e =
      ⊎_elim (λ (p : x ≡ a). rw (ap f (sym p) ∙ e) (Memᴰ.head p)) (λ p. later (f a) a (mem-keep x l p e)) (Memᴰ.cases_cons m)

  kept : (x a : A) (k l : List A) (b : Bool) → f a ≡ b → (Memᴰ x k → Memᴰ x l × (f x ≡ true))
      → Memᴰ x (when b then a ∷ k else k) → Memᴰ x (a ∷ l) × (f x ≡ true)
  unfolding when◌then◌else◌
  kept x a k l true e h m =
      ⊎_elim (λ (p : x ≡ a). (Memᴰ.head p, ap f p ∙ e)) (λ p. (Memᴰ.tail (h p).0, (h p).1)) (Memᴰ.cases_cons m)
  kept x a k l false e h m = (Memᴰ.tail (h m).0, (h m).1)

  keep-mem : (x : A) (l : List A) → Memᴰ x (keep f l) → Memᴰ x l × (f x ≡ true)
  unfolding keep
  keep-mem x [] m = absurd (Memᴰ.not-nil m)
  keep-mem x (a ∷ l) m = kept x a (keep f l) l (f a) refl (keep-mem x l) m

-- the cells of the list are the cells of the picture
mem-from : (r : Registers) (c : Cell) (a n : ℕ) → a ≤ c.row → c.row < a + n → Memᴰ c.column (count 0 (columns_of r)) → Memᴰ c (cells_from r a n)
unfolding cells_from
mem-from r c a zero h k m = absurd (omega arith)
mem-from r c a (suc n) h k m =
    ⊎_elim
    (λ (e : a ≡ c.row). Memᴰ.append_left (cells_from r (suc a) n) (Memᴰ.cast (ap (λ (x : ℕ). cell_at x c.column) (sym e)) (Memᴰ.map (cell_at a) m)))
    (λ (l : a < c.row). Memᴰ.append_right (row_cells r a) (mem-from r c (suc a) n l (omega arith) m))
    (eq-or-lt_of_le h)

from-mem : (r : Registers) (c : Cell) (a n : ℕ) → Memᴰ c (cells_from r a n) → (a ≤ c.row) × (c.row < a + n) × Memᴰ c.column (count 0 (columns_of r))
unfolding cells_from
from-mem r c a zero m = absurd (Memᴰ.not-nil m)
from-mem r c a (suc n) m =
    ⊎_elim
    (λ p.
    let q = Memᴰ.of_map (cell_at a) (count 0 (columns_of r)) p in
    let e : a ≡ c.row = ap (λ (d : Cell). d.row) q.2 in
    (omega arith, omega arith, Memᴰ.cast (ap (λ (d : Cell). d.column) (sym q.2)) q.1))
    (λ p. let q = from-mem r c (suc a) n p in (omega arith, omega arith, q.2))
    (Memᴰ.append_cases (row_cells r a) m)

mem-cells : (r : Registers) (c : Cell) → IsCell r c → Memᴰ c (cells_of r)
mem-cells r c i = mem-from r c 0 (rows_of r) (omega arith) (omega arith) (mem-count c.column 0 (columns_of r) (omega arith) (omega arith))

cells-mem : (r : Registers) (c : Cell) → Memᴰ c (cells_of r) → IsCell r c
cells-mem r c m =
    let p = from-mem r c 0 (rows_of r) m in
    let q = count-mem c.column 0 (columns_of r) p.2 in
    omega arith

-- a list of cells in the order of rows and columns, each once: from lo up to below hi
place : Cell → ℕ
place c = c.row * 256 + c.column

Rising : ℕ → List Cell → ℕ → Type 0
Rising lo [] hi = lo ≤ hi
Rising lo (c ∷ l) hi = (lo ≤ place c) × Rising (suc (place c)) l hi

rising-from : (lo lo' hi : ℕ) (l : List Cell) → lo ≤ lo' → Rising lo' l hi → Rising lo l hi
unfolding Rising
rising-from lo lo' hi [] h q = omega arith
rising-from lo lo' hi (c ∷ l) h q = (omega arith, q.1)

rising-append : (lo mid hi : ℕ) (l m : List Cell) → Rising lo l mid → Rising mid m hi → Rising lo (l ++ m) hi
unfolding Rising
rising-append lo mid hi [] m p q = rising-from lo mid hi m p q
rising-append lo mid hi (c ∷ l) m p q = (p.0, rising-append (suc (place c)) mid hi l m p.1 q)

rising-keep : (f : Cell → Bool) (lo hi : ℕ) (l : List Cell) → Rising lo l hi → Rising lo (keep f l) hi
unfolding when◌then◌else◌ keep Rising
rising-keep f lo hi [] q = q
rising-keep f lo hi (c ∷ l) q = go (f c) (rising-keep f (suc (place c)) hi l q.1)
  where
    go : (b : Bool) → Rising (suc (place c)) (keep f l) hi → Rising lo (when b then c ∷ keep f l else keep f l) hi
    go true k = (q.0, k)
    go false k = rising-from lo (suc (place c)) hi (keep f l) (omega arith) k

rising-row : (row a n lo hi : ℕ) → lo ≤ row * 256 + a → row * 256 + 256 ≤ hi → a + n ≤ 256 → Rising lo (map (cell_at row) (count a n)) hi
unfolding count Rising place
rising-row row a zero lo hi p q h = omega arith
rising-row row a (suc n) lo hi p q h = (p, rising-row row (suc a) n (suc (row * 256 + a)) hi (omega arith) q (omega arith))

rising-cells : (r : Registers) → columns_of r ≤ 256 → (a n lo hi : ℕ) → lo ≤ a * 256 → (a + n) * 256 ≤ hi → Rising lo (cells_from r a n) hi
unfolding cells_from Rising
rising-cells r h a zero lo hi p q = omega arith
rising-cells r h a (suc n) lo hi p q =
    rising-append lo (a * 256 + 256) hi (row_cells r a) (cells_from r (suc a) n)
    (rising-row a 0 (columns_of r) lo (a * 256 + 256) (omega arith) (omega arith) (omega arith))
    (rising-cells r h (suc a) n (a * 256 + 256) hi (omega arith) (omega arith))

-- of any list in order: one cell where all are equal to one of it, several where two differ
one-named : (c : Cell) (l : List Cell) (lo hi : ℕ) → Rising lo l hi → Memᴰ c l → ((d : Cell) → Memᴰ d l → d ≡ c) → the_fit l ≡ One c
unfolding Rising the_fit
one-named c [] lo hi q m u = absurd (Memᴰ.not-nil m)
one-named c (d ∷ []) lo hi q m u = ap One (u d (Memᴰ.head refl))
one-named c (d ∷ e ∷ l) lo hi q m u =
    let p : place d ≡ place e = ap place (u d (Memᴰ.head refl) ∙ sym (u e (Memᴰ.tail (Memᴰ.head refl)))) in
    absurd (omega arith)

two-several : (c d : Cell) (l : List Cell) → Memᴰ c l → Memᴰ d l → (d ≡ c → ⊥) → the_fit l ≡ Many
unfolding the_fit
two-several c d [] m n u = absurd (Memᴰ.not-nil m)
two-several c d (e ∷ []) m n u = absurd (u (Memᴰ.eq_of_singleton n ∙ sym (Memᴰ.eq_of_singleton m)))
two-several c d (e ∷ f ∷ l) m n u = refl

-- and never none where one is in it
not-nowhere : (c : Cell) (l : List Cell) → Memᴰ c l → refusal_of (named_of (the_fit l)) ≡ 7 → ⊥
unfolding the_fit named_of
not-nowhere c [] m e = Memᴰ.not-nil m
not-nowhere c (d ∷ []) m e = omega arith
not-nowhere c (d ∷ f ∷ l) m e = omega arith

-- Of the cells that fit a latch: the one where no other does, several where another does. The proofs hold for any test, so that a change of
-- what fits changes nothing here.
module _ (r : Registers) (narrow : reg r 0 < 256) (latch : ℕ) (c : Cell) (i : IsCell r c) (e : fits_of r latch c ≡ true) where
  abbrev f : Cell → Bool
  f = fits_of r latch

  pub found : ((d : Cell) → IsCell r d → fits_of r latch d ≡ true → d ≡ c) → named_of (fit_of r latch) ≡ Ok c
  unfolding fit_of named_of
  found u = ap named_of
      (one-named c (keep f (cells_of r)) 0 (rows_of r * 256)
      (rising-keep f 0 (rows_of r * 256) (cells_of r) (rising-cells r (omega arith) 0 (rows_of r) 0 (rows_of r * 256) (omega arith) (omega arith)))
      (mem-keep f c (cells_of r) (mem-cells r c i) e)
      (λ d m. let q = keep-mem f d (cells_of r) m in u d (cells-mem r d q.0) q.1))

  pub several : (d : Cell) → IsCell r d → fits_of r latch d ≡ true → (d ≡ c → ⊥) → named_of (fit_of r latch) ≡ Err Several
  unfolding fit_of named_of
  several d j k n =
      ap named_of (two-several c d (keep f (cells_of r)) (mem-keep f c (cells_of r) (mem-cells r c i) e) (mem-keep f d (cells_of r) (mem-cells r d j) k) n)

  pub somewhere : refusal_of (named_of (fit_of r latch)) ≡ 7 → ⊥
  unfolding fit_of
  somewhere = not-nowhere c (keep f (cells_of r)) (mem-keep f c (cells_of r) (mem-cells r c i) e)
