-- The report on a batch of settings (document 02, W1): a row of seven places for each, then a row of totals, and the two refusals.
use Rattle.std.specs.Prelude.{ℕ, ◌+◌, ◌*◌, ◌/◌, ◌%◌, Bool, ◌&&◌, List, [], ◌∷◌, ◌++◌, map, eqb, ltb, leb, length, take, drop, Result, Ok, Err}
use Rattle.basics.specs.Choice.{when◌then◌else◌}
use Rattle.basics.specs.Count.{count}
use Rattle.basics.specs.Lay.{laid_at}
use Rattle.setting.specs.Setting.{bytes, started_of}
use Rattle.tally.specs.Sums.{sum, greatest}
use Rattle.tally.specs.Tally.{tally_of}
use Rattle.tally.specs.declared.tally.Tally.{Tally}
use Rattle.report.specs.declared.settings.Refusal.{Refusal}
use Rattle.report.specs.declared.settings.Refusal.TheVariants.{Settings, Places}

-- the most settings of a report
abbrev pub most : ℕ
most = 64

-- the places of a row
abbrev pub row : ℕ
row = 7

-- a row: picture, display enable, cursor, HSYNC, VSYNC, the address lines that changed, and the largest single change
unfoldable pub row_of : Tally → List ℕ
row_of k = k.picture ∷ k.display ∷ k.cursor ∷ k.hsync ∷ k.vsync ∷ k.changed ∷ k.most ∷ []

-- rows one after the other, place by place
unfoldable pub places_of : List Tally → List ℕ
places_of [] = []
places_of (k ∷ l) = row_of k ++ places_of l

-- the last row: six columns added up, and the greatest of the seventh
unfoldable pub totals_of : List Tally → Tally
totals_of l = record {
  picture = sum (map (λ (k : Tally). k.picture) l);
  display = sum (map (λ (k : Tally). k.display) l);
  cursor = sum (map (λ (k : Tally). k.cursor) l);
  hsync = sum (map (λ (k : Tally). k.hsync) l);
  vsync = sum (map (λ (k : Tally). k.vsync) l);
  changed = sum (map (λ (k : Tally). k.changed) l);
  most = greatest (map (λ (k : Tally). k.most) l);
}

-- the bytes of the k-th setting, counted from 0
abbrev pub setting_at : List ℕ → ℕ → List ℕ
setting_at given k = take bytes (drop (bytes * k) given)

-- what the first frame after a reset does with it
unfoldable pub tally_at : List ℕ → ℕ → Tally
tally_at given k = tally_of (started_of (setting_at given k))

-- those of the first n settings
abbrev pub tallies_of : List ℕ → ℕ → List Tally
tallies_of given n = map (tally_at given) (count 0 n)

-- how many whole settings the bytes hold
abbrev pub settings_in : List ℕ → ℕ
settings_in given = length given / bytes

-- the whole report
unfoldable pub report_of : List ℕ → List ℕ
report_of given =
    places_of (tallies_of given (settings_in given)) ++ row_of (totals_of (tallies_of given (settings_in given)))

-- the places that it needs: a row for each setting, and one more
abbrev pub needed : List ℕ → ℕ
needed given = row * (settings_in given + 1)

-- 1 to 64 whole settings, by the number of bytes
unfoldable pub are_settings : ℕ → Bool
are_settings n = ltb 0 n && leb n (most * bytes) && eqb (n % bytes) 0

-- How the call ends. What the bytes are is looked at first: refused where they are not such settings; then where there are too few places;
-- else the report is given.
unfoldable pub outcome_of : List ℕ → List ℕ → Result (Unit {0}) Refusal
outcome_of given out = when are_settings (length given) then (when ltb (length out) (needed given) then Err Places else Ok tt) else Err Settings

-- the number that each outcome has: 0 where the report is given, 10 for bytes that are no settings, 11 for too few places
abbrev pub number_of : Result (Unit {0}) Refusal → ℕ
number_of (Ok given) = 0
number_of (Err Settings) = 10
number_of (Err Places) = 11

-- the number of how the call ends
unfoldable pub refusal_of : List ℕ → List ℕ → ℕ
refusal_of given out = number_of (outcome_of given out)

-- The places afterwards: the report from the first on, and after it as they were. A refusal leaves every one as it was.
unfoldable pub reported_of : List ℕ → List ℕ → List ℕ
reported_of given out =
    when are_settings (length given) then (when ltb (length out) (needed given) then out else laid_at out 0 (report_of given)) else out
