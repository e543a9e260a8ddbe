-- Laws of the lines of a report. Assumes nothing.
use Prim.Native.Nat.{ℕ, zero, suc, ◌+◌, ◌-◌, ◌*◌, ◌/◌, ◌<◌, ◌≤◌}
use mathlib.Core.Path.{◌≡◌, refl, ap, ap₂, sym, ◌∙◌}
use mathlib.Core.Bool.{Bool, true, false}
use mathlib.Core.List.{List, [], ◌∷◌, ◌++◌, map}
use native.Mathlib.Nat.{suc-mul}
use native.Mathlib.Omega.{arith}
use lib.Dec.{eqb}
use lib.ListN.{length, get_or, take, drop, length-append, length-take, length-drop, take-append-drop}
use lib.Seq.{take-append-le, drop-append-le, take_at, drop_at, drop-drop, length-take-le}
use Rattle.basics.specs.Choice.{when◌then◌else◌}
use Rattle.basics.specs.Count.{count}
use Rattle.basics.proofs.Cases.{if-both}
use Rattle.basics.proofs.Counting.{each_same, length-count}
use Rattle.basics.proofs.Laying.{laid-front}
use Rattle.decimal.specs.Decimal.{most_digits, decimal_of}
use Rattle.text.specs.Lines.{newline}
use Rattle.text.specs.private.Adds.{Adds}
use Rattle.text.proofs.Adding.{then-adds}
use Rattle.decimal.proofs.Digits.{length-decimal}
use Rattle.report.specs.Report.{most, row, settings_in, report_of, are_settings, number_of as outcome_number, outcome_of, refusal_of, reported_of}
use Rattle.report.specs.declared.settings.Refusal.{Refusal}
use Rattle.report.specs.declared.settings.Refusal.TheVariants.{Settings, Places}
use Rattle.std.specs.Prelude.{Result, Ok, Err}
use Rattle.report.proofs.Reporting.{settings-few, done, not-settings, length-report}
use Rattle.report_text.specs.Lines.{space, joined, number_of, line_of, row_at, lines_of}
use Rattle.report_text.specs.Text.{total_word, refused_text, table_of, report_text_of, text_length}

-- a number of a line, with what stands behind it
abbrev pub number_at : List ℕ → ℕ → List ℕ
number_at numbers i = number_of (get_or numbers i 0) (eqb (i + 1) (length numbers))

-- what a loop over them takes first, and that nothing is left at its end
joined-first : (f : ℕ → List ℕ) (i n : ℕ) → joined (map f (count i (suc n))) ≡ f i ++ joined (map f (count (suc i) n))
unfolding joined count
joined-first f i n = refl

joined_none : (f : ℕ → List ℕ) (i : ℕ) → joined (map f (count i 0)) ≡ []
unfolding joined count
joined_none f i = refl

pub numbers-first : (numbers : List ℕ) (i : ℕ) → i < length numbers
    → joined (map (number_at numbers) (count i (length numbers - i))) ≡ number_at numbers i ++ joined (map (number_at numbers) (count (i + 1) (length numbers - (i + 1))))
numbers-first numbers i h =
    let some : length numbers - i ≡ suc (length numbers - (i + 1)) = omega arith in
    let next : suc i ≡ i + 1 = omega arith in
    ap (λ (n : ℕ). joined (map (number_at numbers) (count i n))) some
    ∙ joined-first (number_at numbers) i (length numbers - (i + 1))
    ∙ ap (λ (k : ℕ). number_at numbers i ++ joined (map (number_at numbers) (count k (length numbers - (i + 1))))) next

pub numbers_none : (numbers : List ℕ) (i : ℕ) → length numbers ≤ i → joined (map (number_at numbers) (count i (length numbers - i))) ≡ []
numbers_none numbers i h =
    let none : length numbers - i ≡ 0 = omega arith in
    ap (λ (n : ℕ). joined (map (number_at numbers) (count i n))) none ∙ joined_none (number_at numbers) i

pub begin-numbers : (numbers : List ℕ) → joined (map (number_at numbers) (count 0 (length numbers - 0))) ≡ line_of numbers
unfolding line_of
begin-numbers numbers = let all : length numbers - 0 ≡ length numbers = omega arith in ap (λ (n : ℕ). joined (map (number_at numbers) (count 0 n))) all

-- rows, the first before the others
shift : (f : ℕ → List ℕ) (a n : ℕ) → map f (count (suc a) n) ≡ map (λ (k : ℕ). f (suc k)) (count a n)
unfolding count
shift f a zero = refl
shift f a (suc n) = ap (λ (l : List (List ℕ)). f (suc a) ∷ l) (shift f (suc a) n)

lines-first : (places : List ℕ) (n : ℕ) → lines_of places (suc n) ≡ line_of (take row places) ++ lines_of (drop row places) n
unfolding lines_of
lines-first places n =
    let f : ℕ → List ℕ = λ k. line_of (row_at places k) in
    let next = each_same (λ (k : ℕ). f (suc k)) (λ (k : ℕ). line_of (row_at (drop row places) k)) n
    (λ k l. let far : row * suc k ≡ row + row * k = omega arith in ap (λ (w : List ℕ). line_of (take row w)) (ap (λ (m : ℕ). drop m places) far ∙ sym (drop-drop (row * k) row places))) in
    joined-first f 0 n ∙ ap (λ (l : List (List ℕ)). f 0 ++ joined l) (shift f 0 n ∙ next)

pub lines_none : (places : List ℕ) → length places < row → lines_of places (length places / row) ≡ []
unfolding lines_of
lines_none places h =
    let none : length places / row ≡ 0 = omega arith in
    ap (λ (n : ℕ). joined (map (λ (k : ℕ). line_of (row_at places k)) (count 0 n))) none ∙ joined_none (λ (k : ℕ). line_of (row_at places k)) 0

pub lines-exact : (places chunk rest : List ℕ) → places ≡ chunk ++ rest → length chunk ≡ row
    → lines_of places (length places / row) ≡ line_of chunk ++ lines_of rest (length rest / row)
lines-exact places chunk rest e h =
    let long : length places ≡ length chunk + length rest = ap length e ∙ length-append chunk rest in
    let some : length places / row ≡ suc (length rest / row) = omega arith in
    ap₂ lines_of e some
    ∙ lines-first (chunk ++ rest) (length rest / row)
    ∙ ap₂ (λ (a b : List ℕ). line_of a ++ lines_of b (length rest / row)) (take_at chunk rest row h) (drop_at chunk rest row h)

-- the rows of a report are its own, whatever stands behind it
row_same : (w z : List ℕ) (k : ℕ) → row * k + row ≤ length w → row_at (w ++ z) k ≡ row_at w k
row_same w z k h =
    ap (take row) (drop-append-le (row * k) w z (omega arith))
    ∙ take-append-le row (drop (row * k) w) z (omega (arith, length-drop (row * k) w))

lines_same : (w z : List ℕ) (n : ℕ) → row * n ≤ length w → lines_of (w ++ z) n ≡ lines_of w n
unfolding lines_of
lines_same w z n h =
    ap joined (each_same (λ (k : ℕ). line_of (row_at (w ++ z) k)) (λ (k : ℕ). line_of (row_at w k)) n (λ k l. ap line_of (row_same w z k (omega arith))))

lines_front : (places : List ℕ) (n : ℕ) → row * n ≤ length places → lines_of (take (row * n) places) n ≡ lines_of places n
lines_front places n h =
    sym (lines_same (take (row * n) places) (drop (row * n) places) n (omega (arith, length-take-le (row * n) places h)))
    ∙ ap (λ (l : List ℕ). lines_of l n) (take-append-drop (row * n) places)

-- a number and what stands behind it
module _ {room : ℕ} {t u s w : List ℕ} (n : ℕ) (last : Bool) (a : Adds room t u (decimal_of n)) where
  pub ends-line : last ≡ true → w ≡ newline → Adds room u s w → Adds room t s (number_of n last)
  unfolding number_of when◌then◌else◌
  ends-line e q b = rw e (then-adds a (rw q at b))

  pub goes_on : last ≡ false → w ≡ space → Adds room u s w → Adds room t s (number_of n last)
  unfolding number_of when◌then◌else◌
  goes_on e q b = rw e (then-adds a (rw q at b))

-- rows, the word and the totals
pub adds-table : {room : ℕ} {t u v s rows part : List ℕ} (places : List ℕ) (n : ℕ) → rows ≡ take (row * n) places → part ≡ row_at places n
    → row * n ≤ length places → Adds room t u (lines_of rows (length rows / row)) → Adds room u v total_word → Adds room v s (line_of part)
    → Adds room t s (table_of places n)
unfolding table_of
adds-table {rows = rows} places n q e h a b d =
    let long : length rows ≡ row * n = ap length q ∙ length-take-le (row * n) places h in
    let all : length rows / row ≡ n = omega arith in
    let same : lines_of rows (length rows / row) ≡ lines_of places n =
    ap (lines_of rows) all ∙ ap (λ (l : List ℕ). lines_of l n) q ∙ lines_front places n h in
    rw (← e, ← same) (then-adds (then-adds a b) d)

-- texts of at most m bytes each
joined-most : (f : ℕ → List ℕ) (m : ℕ) → ((i : ℕ) → length (f i) ≤ m) → (l : List ℕ) → length (joined (map f l)) ≤ length l * m
unfolding joined
joined-most f m h [] = omega arith
joined-most f m h (i ∷ l) = simp length-append (omega (arith, suc-mul (length l) m, h i, joined-most f m h l))

number-most : (n : ℕ) (last : Bool) → length (number_of n last) ≤ most_digits + 1
unfolding number_of
number-most n last =
    let end : length (when last then newline else space) ≤ 1 = if-both (λ (w : List ℕ). length w ≤ 1) last newline space (λ _. omega arith) (λ _. omega arith) in
    simp length-append (omega (arith, length-decimal most_digits n))

line-most : (numbers : List ℕ) → length (line_of numbers) ≤ length numbers * (most_digits + 1)
unfolding line_of
line-most numbers =
    let at : ℕ → List ℕ = λ i. number_of (get_or numbers i 0) (eqb (i + 1) (length numbers)) in
    rw (length-count 0 (length numbers)) at (joined-most at (most_digits + 1) (λ i. number-most _ _) (count 0 (length numbers)))

row-most : (places : List ℕ) (k : ℕ) → length (line_of (row_at places k)) ≤ row * (most_digits + 1)
row-most places k = omega (arith, line-most (row_at places k), length-take row (drop (row * k) places))

table-most : (places : List ℕ) (n : ℕ) → n ≤ most → length (table_of places n) ≤ text_length
unfolding table_of lines_of
table-most places n h =
    let all = rw (length-count 0 n) at (joined-most (λ (k : ℕ). line_of (row_at places k)) (row * (most_digits + 1)) (row-most places) (count 0 n)) in
    simp length-append (omega (arith, all, row-most places n))

-- every text has room
pub text-has-room : (given : List ℕ) → length (report_text_of given) ≤ text_length
unfolding report_text_of
text-has-room given =
    if-both (λ (l : List ℕ). length l ≤ text_length) (are_settings (length given)) (table_of (report_of given) (settings_in given)) refused_text
    (λ e. table-most (report_of given) (settings_in given) (settings-few (length given) e))
    (λ _. omega arith)

table_same : (w z : List ℕ) (n : ℕ) → row * (n + 1) ≤ length w → table_of (w ++ z) n ≡ table_of w n
unfolding table_of
table_same w z n h =
    ap₂ (λ (a b : List ℕ). a ++ total_word ++ b) (lines_same w z n (omega arith)) (ap line_of (row_same w z n (omega arith)))

-- how a report ended, and the number of that
pub given_number : (given out : List ℕ) {r : Result (Unit {0}) Refusal} {u : Unit {0}} → r ≡ outcome_of given out → r ≡ Ok u → refusal_of given out ≡ 0
unfolding refusal_of
given_number given out e h = ap outcome_number (sym e ∙ h)

refused_number : (why : Refusal) → outcome_number (Err why) ≡ 0 → ⊥
refused_number Settings h = absurd (omega (arith, h))
refused_number Places h = absurd (omega (arith, h))

pub refused-by-number : (given out : List ℕ) {r : Result (Unit {0}) Refusal} (why : Refusal) → r ≡ outcome_of given out → r ≡ Err why → refusal_of given out ≡ 0 → ⊥
unfolding refusal_of
refused-by-number given out why e h z = refused_number why (ap outcome_number (sym h ∙ e) ∙ z)

-- so the places that a report is laid at the front of make its text
pub text-of-places : (given out places : List ℕ) → refusal_of given out ≡ 0 → places ≡ reported_of given out
    → table_of places (settings_in given) ≡ report_text_of given
unfolding report_text_of when◌then◌else◌
text-of-places given out places z e =
    let d = done given out z in
    rw d.settings
    (ap (λ (l : List ℕ). table_of l (settings_in given)) (e ∙ d.laid ∙ laid-front out (report_of given))
    ∙ table_same (report_of given) (drop (length (report_of given)) out) (settings_in given) (omega (arith, length-report given)))

pub text-of-refusal : (given out : List ℕ) → row * (most + 1) ≤ length out → (refusal_of given out ≡ 0 → ⊥) → refused_text ≡ report_text_of given
unfolding report_text_of when◌then◌else◌
text-of-refusal given out h n = rw (not-settings given out h n)
