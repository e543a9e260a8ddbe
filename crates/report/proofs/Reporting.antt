-- The report as its loop and its call lay it. Assumes nothing.
use Prim.Native.Nat.{ℕ, ◌+◌, ◌-◌, ◌*◌, ◌/◌, ◌%◌, ◌<◌, ◌≤◌}
use mathlib.Core.Path.{◌≡◌, refl, ap, sym, ◌∙◌}
use mathlib.Core.Bool.{Bool, true, false, ◌&&◌, and-eq-true_iff}
use mathlib.Core.List.{List, ◌++◌}
use native.Mathlib.Omega.{arith}
use lib.Dec.{eqb, ltb, leb}
use lib.ListN.{length, get_or, take, drop, length-append, length-drop, get_or-append}
use lib.Seq.{take-append_seam, drop-append_seam, drop-drop}
use borrow.Author.Tests.{lt-ltb, le-ltb, ltb-false, leb-true}
use Rattle.std.specs.Prelude.{Result, Ok, Err}
use Rattle.basics.specs.Choice.{when◌then◌else◌}
use Rattle.basics.specs.Count.{count}
use Rattle.basics.specs.Lay.{laid_at}
use Rattle.basics.proofs.Counting.{each_last, length-each, each_at}
use Rattle.basics.proofs.Laying.{laid_none, laid-laid, laid-front, length-laid}
use Rattle.setting.specs.Setting.{bytes, started_of}
use Rattle.controller.specs.declared.chip.Controller.{Controller}
use Rattle.tally.specs.Sums.{sum, greatest}
use Rattle.tally.specs.Tally.{tally_of, no_tally, AtMost}
use Rattle.tally.specs.declared.tally.Tally.{Tally}
use Rattle.report.specs.Report.{most, row, row_of, places_of, totals_of, setting_at, tally_at, tallies_of, settings_in, report_of, needed, are_settings, number_of, outcome_of, refusal_of, reported_of}
use Rattle.report.specs.declared.settings.Refusal.{Refusal}
use Rattle.report.specs.declared.settings.Refusal.TheVariants.{Settings, Places}
use Rattle.report.specs.private.Joined.{joined_of}
use Rattle.report.proofs.Totals.{length-row, places-last, length-places, first-of-row, totals-last, joined-most}

-- What the loop has come to after k settings: their rows are laid, the totals are theirs, and since no row is above 235,794,944 (fourteen
-- times the longest frame of any bytes) the totals of 64 are far from 2^64.
pub record Laying (given out₀ : List ℕ) (k : ℕ) (out : List ℕ) (total : Tally) : Type 0 where
  pub long : length out ≡ length out₀
  pub rows : out ≡ laid_at out₀ 0 (places_of (tallies_of given k))
  pub totals : total ≡ totals_of (tallies_of given k)
  pub small : AtMost (k * 235794944) total

-- Where the chunks stand after n of them: what is left of the settings, and the number of the next.
pub record Chunked (given : List ℕ) (n count size : ℕ) (rest : List ℕ) : Type 0 where
  pub next : count ≡ n
  pub each : size ≡ bytes
  pub left : rest ≡ drop (bytes * n) given

-- the front of two lists, and what stands behind it
chunk-parts : (m : ℕ) (x behind : List ℕ) → length x ≡ m → (take m (x ++ behind) ≡ x) × (drop m (x ++ behind) ≡ behind)
chunk-parts m x behind w = (rw (← w) (take-append_seam x behind), rw (← w) (drop-append_seam x behind))

-- the next chunk is the next setting
pub record Chunk (given x behind : List ℕ) (n : ℕ) : Type 0 where
  pub here : x ≡ setting_at given n
  pub left : behind ≡ drop (bytes * (n + 1)) given
  pub among : n < settings_in given

pub chunk-next : (given rest x behind : List ℕ) (n : ℕ) → rest ≡ drop (bytes * n) given → rest ≡ x ++ behind → length x ≡ bytes → Chunk given x behind n
chunk-next given rest x behind n l e w =
    let parts = chunk-parts bytes x behind w in
    let same : x ++ behind ≡ drop (bytes * n) given = sym e ∙ l in
    let on : bytes * n + bytes ≡ bytes * (n + 1) = omega arith in
    let long : length x + length behind ≡ length given - bytes * n = sym (length-append x behind) ∙ ap length same ∙ length-drop (bytes * n) given in
    record {
      here = sym parts.0 ∙ ap (take bytes) same;
      left = sym parts.1 ∙ ap (drop bytes) same ∙ drop-drop bytes (bytes * n) given ∙ ap (λ (k : ℕ). drop k given) on;
      among = omega arith;
    }

-- what is counted of it
pub chunk-tally : (given x : List ℕ) (n : ℕ) (c : Controller) (one : Tally) → x ≡ setting_at given n → c ≡ started_of x → one ≡ tally_of c → one ≡ tally_at given n
unfolding tally_at
chunk-tally given x n c one e s t = t ∙ ap tally_of (s ∙ ap started_of e)

length-first : (given : List ℕ) (k : ℕ) → length (places_of (tallies_of given k)) ≡ row * k
length-first given k = length-places (tallies_of given k) ∙ ap (λ (n : ℕ). row * n) (length-each (tally_at given) k)

module _ (given out₀ : List ℕ) where
  pub laying-none : (total : Tally) → total ≡ no_tally → Laying given out₀ 0 out₀ total
  unfolding totals_of places_of sum greatest count
  laying-none total e = record {
    long = refl;
    rows = sym (laid_none out₀ 0);
    totals = e;
    small = rw e (record { picture = omega arith; display = omega arith; cursor = omega arith; hsync = omega arith; vsync = omega arith; changed = omega arith; most = omega arith });
  }

  pub laying-more : (k : ℕ) (out next : List ℕ) (total one sum : Tally) → Laying given out₀ k out total → row * k + row ≤ length out₀
      → one ≡ tally_at given k → AtMost 235794944 one → next ≡ laid_at out (row * k) (row_of one) → sum ≡ joined_of total one → Laying given out₀ (k + 1) next sum
  laying-more k out next total one sum x h er sr en es =
      let fits : row * k + length (row_of one) ≤ length out₀ = omega (arith, length-row one) in
      let more : laid_at out (row * k) (row_of one) ≡ laid_at out₀ 0 (places_of (tallies_of given k) ++ row_of one) =
      ap (λ (l : List ℕ). laid_at l (row * k) (row_of one)) x.rows
      ∙ laid-laid out₀ 0 (places_of (tallies_of given k)) (row_of one) (row * k) (omega (arith, length-first given k)) fits in
      record {
        long = ap length en ∙ length-laid out (row * k) (row_of one) (omega (arith, x.long)) ∙ x.long;
        rows = en ∙ more ∙ rw (each_last (tally_at given) k, places-last, er);
        totals = es ∙ rw (each_last (tally_at given) k, totals-last, er, x.totals);
        small = rw es (joined-most (k * 235794944) 235794944 ((k + 1) * 235794944) total one x.small sr (omega arith));
      }

  -- the three ways in which the call ends
  pub ended-settings : are_settings (length given) ≡ false → (Err Settings ≡ outcome_of given out₀) × ((out₀ ≡ reported_of given out₀) × (given ≡ given))
  unfolding outcome_of reported_of when◌then◌else◌
  ended-settings w = (rw w, (rw w, refl))

  pub ended-places : are_settings (length given) ≡ true → length out₀ < needed given
      → (Err Places ≡ outcome_of given out₀) × ((out₀ ≡ reported_of given out₀) × (given ≡ given))
  unfolding outcome_of reported_of when◌then◌else◌
  ended-places w h = let q : ltb (length out₀) (needed given) ≡ true = lt-ltb _ _ h in (rw (w, q), (rw (w, q), refl))

  pub ended-well : (mid out : List ℕ) (total : Tally) → are_settings (length given) ≡ true → needed given ≤ length out₀
      → mid ≡ laid_at out₀ 0 (places_of (tallies_of given (settings_in given))) → total ≡ totals_of (tallies_of given (settings_in given))
      → out ≡ laid_at mid (row * settings_in given) (row_of total)
      → (Ok tt ≡ outcome_of given out₀) × ((out ≡ reported_of given out₀) × (given ≡ given))
  unfolding outcome_of reported_of report_of when◌then◌else◌
  ended-well mid out total w h em et eo =
      let q : ltb (length out₀) (needed given) ≡ false = le-ltb _ _ h in
      let n = settings_in given in
      let both : laid_at mid (row * n) (row_of total) ≡ laid_at out₀ 0 (places_of (tallies_of given n) ++ row_of (totals_of (tallies_of given n))) =
      rw (em, et)
      (laid-laid out₀ 0 (places_of (tallies_of given n)) (row_of (totals_of (tallies_of given n))) (row * n) (omega (arith, length-first given n))
      (omega (arith, length-row (totals_of (tallies_of given n))))) in
      (rw (w, q), (rw (w, q) (eo ∙ both), refl))

-- no more settings than a report takes
pub settings-few : (n : ℕ) → are_settings n ≡ true → n / bytes ≤ most
unfolding are_settings
settings-few n w =
    let q = (and-eq-true_iff (ltb 0 n && leb n (most * bytes)) (eqb (n % bytes) 0)).0 w in
    omega (arith, leb-true n (most * bytes) ((and-eq-true_iff (ltb 0 n) (leb n (most * bytes))).0 q.0).1)

-- the number of an outcome is the number of how the call ends
pub numbered : (given out : List ℕ) (r : Result (Unit {0}) Refusal) → r ≡ outcome_of given out → number_of r ≡ refusal_of given out
unfolding refusal_of
numbered given out r e = ap number_of e

-- what an answer of 0 says: the bytes are settings, there was room, and the report is laid
pub record Done (given out : List ℕ) : Type 0 where
  pub settings : are_settings (length given) ≡ true
  pub room : needed given ≤ length out
  pub laid : reported_of given out ≡ laid_at out 0 (report_of given)

pub done : (given out : List ℕ) → refusal_of given out ≡ 0 → Done given out
unfolding refusal_of outcome_of reported_of when◌then◌else◌
done given out = go (are_settings (length given)) refl (ltb (length out) (needed given)) refl
  where
    go : (b : Bool) → are_settings (length given) ≡ b → (f : Bool) → ltb (length out) (needed given) ≡ f
        → number_of (when b then (when f then Err Places else Ok tt) else Err Settings) ≡ 0
        → Done given out
    go true e false f z = record { settings = e; room = ltb-false _ _ f; laid = rw (e, f) }
    go true e true f z = absurd (omega arith)
    go false e f g z = absurd (omega arith)

-- and any other where there are places enough for every report: they are not
pub not-settings : (given out : List ℕ) → row * (most + 1) ≤ length out → (refusal_of given out ≡ 0 → ⊥) → are_settings (length given) ≡ false
unfolding refusal_of outcome_of when◌then◌else◌
not-settings given out h n = go (are_settings (length given)) refl
  where
    go : (b : Bool) → are_settings (length given) ≡ b → are_settings (length given) ≡ false
    go false e = e
    go true e =
        let few = settings-few (length given) e in
        absurd (n (rw (e, le-ltb (length out) (needed given) (omega arith))))

pub length-report : (given : List ℕ) → length (report_of given) ≡ needed given
unfolding report_of
length-report given =
    simp (length-append, length-row, length-first given) (omega arith)

-- the first place of a setting's row has its picture total
pub first-place : (given out : List ℕ) → refusal_of given out ≡ 0 → (k : ℕ) → k < settings_in given
    → get_or (reported_of given out) (row * k) 0 ≡ (tally_of (started_of (setting_at given k))).picture
unfolding report_of tally_at
first-place given out z k h =
    let l = tallies_of given (settings_in given) in
    let long : length l ≡ settings_in given = length-each (tally_at given) (settings_in given) in
    ap (λ (places : List ℕ). get_or places (row * k) 0) ((done given out z).laid ∙ laid-front out (report_of given))
    ∙ get_or-append (report_of given) (drop (length (report_of given)) out) 0 (row * k) (omega (arith, length-report given))
    ∙ get_or-append (places_of l) (row_of (totals_of l)) 0 (row * k) (omega (arith, length-first given (settings_in given)))
    ∙ first-of-row l k (omega arith)
    ∙ ap (λ (j : Tally). j.picture) (each_at (tally_at given) no_tally (settings_in given) k h)
