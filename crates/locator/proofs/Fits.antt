-- The fit of a list of cells, taken apart as the code meets them: row by row, part by part of a row, and in a part the one column that
-- can fit, or one column after the other. Assumes nothing.
use Rattle.std.proofs.Common.{◌≡◌, ℕ, zero, suc, ◌+◌, ◌-◌, ◌<◌, ◌≤◌, Bool, true, false, List, [], ◌∷◌, ◌++◌, map, sym, refl, ap, ◌∙◌, append_assoc, append-nil, add-zero, add-suc, suc-add, zero-add, add-one, arith}
use mathlib.Core.List.{map-append}
use Rattle.basics.specs.Choice.{when◌then◌else◌}
use Rattle.basics.specs.Count.{count}
use Rattle.basics.proofs.Counting.{count-append}
use Rattle.raster.specs.declared.registers.Registers.{Registers}
use Rattle.locator.specs.Cells.{cell_at, row_cells, cells_from, fits_of, keep, the_fit}
use Rattle.locator.specs.private.Search.{joined_of, one_fit_of, part_fit_of, row_fit_of}
use Rattle.locator.specs.declared.cells.Cell.{Cell}
use Rattle.locator.specs.declared.fit.Fit.{Fit}
use Rattle.locator.specs.declared.fit.Fit.TheVariants.{Free, One, Many}

keep_append : {A : Type 0} (f : A → Bool) (l m : List A) → keep f (l ++ m) ≡ keep f l ++ keep f m
unfolding when◌then◌else◌ keep
keep_append f [] m = refl
keep_append f (a ∷ l) m = go (f a) (keep_append f l m)
  where
    go : (b : Bool) → keep f (l ++ m) ≡ keep f l ++ keep f m → (when b then a ∷ keep f (l ++ m) else keep f (l ++ m)) ≡ (when b then a ∷ keep f l else keep f l) ++ keep f m
    go true e = ap (λ (k : List _). a ∷ k) e
    go false e = e

fit_append : (l m : List Cell) → the_fit (l ++ m) ≡ joined_of (the_fit l) (the_fit m)
unfolding the_fit joined_of
fit_append [] m = refl
fit_append (c ∷ []) [] = refl
fit_append (c ∷ []) (d ∷ []) = refl
fit_append (c ∷ []) (d ∷ e ∷ m) = refl
fit_append (c ∷ d ∷ l) m = refl

joined_free : (f : Fit) → joined_of f Free ≡ f
unfolding joined_of
joined_free Free = refl
joined_free (One c) = refl
joined_free Many = refl

-- of the cells that a test keeps, in two lists one after the other
fit-joined : (f : Cell → Bool) (l m : List Cell) → the_fit (keep f (l ++ m)) ≡ joined_of (the_fit (keep f l)) (the_fit (keep f m))
fit-joined f l m = ap the_fit (keep_append f l m) ∙ fit_append (keep f l) (keep f m)

-- in two parts of a row
pub parts-joined : (r : Registers) (latch row a m n : ℕ) → part_fit_of r latch row a (m + n) ≡ joined_of (part_fit_of r latch row a m) (part_fit_of r latch row (a + m) n)
unfolding part_fit_of
parts-joined r latch row a m n =
    ap (λ (l : List Cell). the_fit (keep (fits_of r latch) l)) (ap (map (cell_at row)) (count-append a m n) ∙ map-append (cell_at row) (count a m) (count (a + m) n))
    ∙ fit-joined (fits_of r latch) (map (cell_at row) (count a m)) (map (cell_at row) (count (a + m) n))

cells-last : (r : Registers) (a n : ℕ) → cells_from r a (suc n) ≡ cells_from r a n ++ row_cells r (a + n)
unfolding cells_from
cells-last r a zero = append-nil (row_cells r a) ∙ ap (row_cells r) (sym (add-zero a))
cells-last r a (suc n) =
    ap (λ (l : List Cell). row_cells r a ++ l) (cells-last r (suc a) n)
    ∙ sym (append_assoc (row_cells r a) (cells_from r (suc a) n) (row_cells r (suc a + n)))
    ∙ ap (λ (x : ℕ). row_cells r a ++ cells_from r (suc a) n ++ row_cells r x) (suc-add a n ∙ sym (add-suc a n))

-- in the first n rows, and in one more
pub rows_more : (r : Registers) (latch n : ℕ)
    → the_fit (keep (fits_of r latch) (cells_from r 0 (n + 1))) ≡ joined_of (the_fit (keep (fits_of r latch) (cells_from r 0 n))) (row_fit_of r latch n)
unfolding row_fit_of part_fit_of
rows_more r latch n =
    ap (λ (x : ℕ). the_fit (keep (fits_of r latch) (cells_from r 0 x))) (add-one n)
    ∙ ap (λ (l : List Cell). the_fit (keep (fits_of r latch) l)) (cells-last r 0 n ∙ ap (λ (x : ℕ). cells_from r 0 n ++ row_cells r x) (zero-add n))
    ∙ fit-joined (fits_of r latch) (cells_from r 0 n) (row_cells r n)

keep-skip : (f : Cell → Bool) (c : Cell) (l : List Cell) → (f c ≡ true → ⊥) → keep f (c ∷ l) ≡ keep f l
unfolding when◌then◌else◌ keep
keep-skip f c l h = go (f c) refl
  where
    go : (b : Bool) → f c ≡ b → (when b then c ∷ keep f l else keep f l) ≡ keep f l
    go true e = absurd (h e)
    go false e = refl

kept-one : (b : Bool) (c : Cell) → the_fit (when b then c ∷ [] else []) ≡ (when b then One c else Free)
unfolding when◌then◌else◌ the_fit
kept-one true c = refl
kept-one false c = refl

-- a part of a row of which only one column can fit, in parts again: the columns before it, that column, and those behind it
module _ (r : Registers) (latch row : ℕ) where
  none_kept : (a n : ℕ) → ((x : ℕ) → a ≤ x → x < a + n → fits_of r latch (cell_at row x) ≡ true → ⊥) → keep (fits_of r latch) (map (cell_at row) (count a n)) ≡ []
  unfolding count keep
  none_kept a zero h = refl
  none_kept a (suc n) h =
      keep-skip (fits_of r latch) (cell_at row a) (map (cell_at row) (count (suc a) n)) (h a (omega arith) (omega arith))
      ∙ none_kept (suc a) n (λ x p q. h x (omega arith) (omega arith))

  no-column : (a n : ℕ) → ((x : ℕ) → a ≤ x → x < a + n → fits_of r latch (cell_at row x) ≡ true → ⊥) → part_fit_of r latch row a n ≡ Free
  unfolding part_fit_of the_fit
  no-column a n h = ap the_fit (none_kept a n h)

  one-column : (k : ℕ) → part_fit_of r latch row k 1 ≡ one_fit_of (fits_of r latch (cell_at row k)) (cell_at row k)
  unfolding part_fit_of count keep one_fit_of
  one-column k = kept-one (fits_of r latch (cell_at row k)) (cell_at row k)

  pub only-inside : (k n : ℕ) → k < n → ((x : ℕ) → x < n → fits_of r latch (cell_at row x) ≡ true → x ≡ k)
      → part_fit_of r latch row 0 n ≡ one_fit_of (fits_of r latch (cell_at row k)) (cell_at row k)
  unfolding joined_of
  only-inside k n p h =
      let behind = n - (k + 1) in
      let all : n ≡ k + (1 + behind) = omega arith in
      let before : part_fit_of r latch row 0 k ≡ Free = no-column 0 k (λ x u v w. let y = h x (omega arith) w in omega arith) in
      let after : part_fit_of r latch row (k + 1) behind ≡ Free = no-column (k + 1) behind (λ x u v w. let y = h x (omega arith) w in omega arith) in
      ap (part_fit_of r latch row 0) all
      ∙ parts-joined r latch row 0 k (1 + behind)
      ∙ ap (λ (f : Fit). joined_of f (part_fit_of r latch row (0 + k) (1 + behind))) before
      ∙ ap (λ (x : ℕ). part_fit_of r latch row x (1 + behind)) (zero-add k)
      ∙ parts-joined r latch row k 1 behind
      ∙ ap (joined_of (part_fit_of r latch row k 1)) after
      ∙ joined_free (part_fit_of r latch row k 1)
      ∙ one-column k

  pub only-outside : (k n : ℕ) → n ≤ k → ((x : ℕ) → x < n → fits_of r latch (cell_at row x) ≡ true → x ≡ k) → part_fit_of r latch row 0 n ≡ Free
  only-outside k n p h = no-column 0 n (λ x u v w. let y = h x (omega arith) w in omega arith)

  -- the columns from a on, as a loop over them meets them
  pub no_more : (a : ℕ) → part_fit_of r latch row a 0 ≡ Free
  no_more a = no-column a 0 (λ x u v w. omega arith)

  pub one_more : (a x : ℕ) → a ≤ x
      → part_fit_of r latch row a (x + 1 - a) ≡ joined_of (part_fit_of r latch row a (x - a)) (one_fit_of (fits_of r latch (cell_at row x)) (cell_at row x))
  one_more a x h =
      let n : x + 1 - a ≡ (x - a) + 1 = omega arith in
      let here : a + (x - a) ≡ x = omega arith in
      ap (part_fit_of r latch row a) n
      ∙ parts-joined r latch row a (x - a) 1
      ∙ ap (joined_of (part_fit_of r latch row a (x - a))) (ap (λ (y : ℕ). part_fit_of r latch row y 1) here ∙ one-column x)

  -- a row's first n columns by the first m of them and the rest
  pub split-row : (m n : ℕ) → m ≤ n → joined_of (part_fit_of r latch row 0 m) (part_fit_of r latch row m (n - m)) ≡ part_fit_of r latch row 0 n
  split-row m n h =
      let all : m + (n - m) ≡ n = omega arith in
      ap (λ (x : ℕ). joined_of (part_fit_of r latch row 0 m) (part_fit_of r latch row x (n - m))) (sym (zero-add m))
      ∙ sym (parts-joined r latch row 0 m (n - m))
      ∙ ap (part_fit_of r latch row 0) all

  -- by the first m alone, where none of the rest fits
  pub front-alone : (m n : ℕ) → m ≤ n → ((x : ℕ) → m ≤ x → x < n → fits_of r latch (cell_at row x) ≡ true → ⊥) → part_fit_of r latch row 0 m ≡ part_fit_of r latch row 0 n
  front-alone m n h f =
      sym (joined_free (part_fit_of r latch row 0 m))
      ∙ ap (joined_of (part_fit_of r latch row 0 m)) (sym (no-column m (n - m) (λ x u v. f x u (omega arith))))
      ∙ split-row m n h
