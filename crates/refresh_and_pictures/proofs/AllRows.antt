-- Sixteen falls of HS visit all 128 rows, and the refresh counter keeps to its width. Assumes nothing.
use Prim.Native.Nat.{ℕ, zero, suc, ◌+◌, ◌-◌, ◌*◌, ◌%◌, ◌<◌, ◌≤◌}
use mathlib.Core.Bool.{Bool, true, false}
use mathlib.Core.List.Memᴰ
use mathlib.Core.List.{List, [], ◌∷◌, ◌++◌, Memᴰ}
use mathlib.Core.Logic.{◌⊎◌, inl, inr, ⊎_elim}
use mathlib.Core.Path.{◌≡◌, refl, ap, sym}
use native.Mathlib.Omega.{arith}
use native.Mathlib.Nat.{mod-lt}
use lib.Dec.{lit<}
use Rattle.basics.specs.Bits.{num}
use Rattle.basics.specs.Choice.{when◌then◌else◌}
use Rattle.basics.proofs.Cases.{if-both}
use Rattle.basics.proofs.Tests.{lt-or-ge}
use Rattle.control.specs.Names.{r1_of}
use Rattle.control.specs.declared.bits.Control.{Control}
use Rattle.multiplexer.specs.Chip.{bus_of, fetches_of, levels_of}
use Rattle.multiplexer.specs.Edge.{is_fall, edge_of}
use Rattle.multiplexer.specs.Refresh.{eight_from, idle_at, refresh_of}
use Rattle.std.specs.Prelude.{Option}
use Rattle.multiplexer.specs.declared.edge.Edge.{Edge}
use Rattle.multiplexer.specs.declared.chip.Multiplexer.{Multiplexer}
use Rattle.multiplexer.specs.declared.refresh.Refresh.{Refresh}
use Rattle.refresh_and_pictures.specs.Refresh.{Event, bus, fetches, levels, after, rows_from, refreshes, falls, visited, all_falls, R1Clear, SixteenFallsVisitAllRows, after_all, CounterKeepsItsWidth}

-- ---- one record, with R1 clear: HS falls and eight rows are refreshed, or the counter rests

record Rests (e : Event) (m : Multiplexer) : Type 0 where
  none : falls e m ≡ 0
  kept : (after e m).refresh ≡ m.refresh

record Falls (e : Event) (m : Multiplexer) : Type 0 where
  one : falls e m ≡ 1
  moved : (after e m).refresh ≡ (m.refresh + 8) % 128
  eight : refreshes e m ≡ rows_from m.refresh 8

refresh-at : (c : Control) (edge : Option Edge) (counter : ℕ) (t : Bool) → r1_of c ≡ false → is_fall edge ≡ t → refresh_of c edge counter ≡ (when t then eight_from counter else idle_at counter)
unfolding refresh_of when◌then◌else◌
refresh-at c edge counter t r e = rw (r, e)

level : (hs da0 t : Bool) (m : Multiplexer) → r1_of m.control ≡ false → is_fall (edge_of m.hs hs da0) ≡ t → Rests (levels hs da0) m ⊎ Falls (levels hs da0) m
unfolding falls after refreshes levels_of when◌then◌else◌
level hs da0 true m r e =
    let q : refresh_of m.control (edge_of m.hs hs da0) m.refresh ≡ eight_from m.refresh = refresh-at _ _ _ true r e in
    inr (record { one = ap num e; moved = ap (λ (f : Refresh). f.counter) q; eight = ap (λ (f : Refresh). rows_from f.rows.first f.rows.count) q })
level hs da0 false m r e =
    let q : refresh_of m.control (edge_of m.hs hs da0) m.refresh ≡ idle_at m.refresh = refresh-at _ _ _ false r e in
    inl (record { none = ap num e; kept = ap (λ (f : Refresh). f.counter) q })

step : (e : Event) (m : Multiplexer) → r1_of m.control ≡ false → Rests e m ⊎ Falls e m
unfolding falls after bus_of fetches_of
step (bus a read) m r = inl (record { none = refl; kept = refl })
step (fetches n) m r = inl (record { none = refl; kept = refl })
step (levels hs da0) m r = level hs da0 _ m r refl

-- ---- a run of records

in_rows : (first count j : ℕ) → j < count → Memᴰ ((first + j) % 128) (rows_from first count)
unfolding rows_from
in_rows first zero j h = let z : ⊥ = omega arith in absurd z
in_rows first (suc count) zero h = Memᴰ.head {x = first % 128} (omega arith)
in_rows first (suc count) (suc j) h =
    Memᴰ.tail (Memᴰ.cast (omega arith) (in_rows (suc first) count j (omega arith)))

-- A record before a run whose rows are known, and a row j rows on from the counter before that record.
module _ (e : Event) (es : List Event) (m : Multiplexer)
    (rest : (k : ℕ) → k < 8 * all_falls es (after e m) → Memᴰ (((after e m).refresh + k) % 128) (visited es (after e m)))
    (j : ℕ) (h : j < 8 * (falls e m + all_falls es (after e m))) where
  -- where the counter rests, the row is the run's
  past-rest : Rests e m → Memᴰ ((m.refresh + j) % 128) (refreshes e m ++ visited es (after e m))
  past-rest i =
      Memᴰ.append_right (refreshes e m)
      (Memᴰ.cast (ap (λ (n : ℕ). (n + j) % 128) (sym i.kept)) (rest j (omega (arith, i.none))))

  -- where HS falls, it is one of the eight rows, or eight rows less far in the run
  past-fall : Falls e m → Memᴰ ((m.refresh + j) % 128) (refreshes e m ++ visited es (after e m))
  past-fall f =
      ⊎_elim
      (λ (l : j < 8). Memᴰ.append_left {s = refreshes e m} (visited es (after e m)) (rw f.eight (in_rows m.refresh 8 j l)))
      (λ (l : 8 ≤ j). Memᴰ.append_right (refreshes e m) (Memᴰ.cast (omega (arith, f.moved)) (rest (j - 8) (omega (arith, f.one)))))
      (lt-or-ge j 8)

-- so k falls visit the 8 k rows from the counter on
reached : (es : List Event) (m : Multiplexer) → R1Clear es m → (j : ℕ) → j < 8 * all_falls es m → Memᴰ ((m.refresh + j) % 128) (visited es m)
unfolding visited all_falls R1Clear
reached [] m c j h = let z : ⊥ = omega arith in absurd z
reached (e ∷ es) m c j h =
    ⊎_elim (past-rest e es m (reached es (after e m) c.1) j h) (past-fall e es m (reached es (after e m) c.1) j h) (step e m c.0)

pub all-rows : SixteenFallsVisitAllRows
all-rows es m c h row l =
    Memᴰ.cast (omega arith) (reached es m c ((row + 128 - m.refresh % 128) % 128) (omega arith))

-- ---- the counter's width

counter-lt : (c : Control) (edge : Option Edge) (counter : ℕ) → counter < 128 → (refresh_of c edge counter).counter < 128
unfolding refresh_of
counter-lt c edge counter h =
    let P : Refresh → Type 0 = λ (f : Refresh). f.counter < 128 in
    if-both P _ _ _ (λ _. h) (λ _. if-both P _ _ _ (λ _. mod-lt (counter + 8) (lit< tt)) (λ _. h))

width-step : (e : Event) (m : Multiplexer) → m.refresh < 128 → (after e m).refresh < 128
unfolding after bus_of fetches_of levels_of
width-step (bus a read) m h = h
width-step (fetches n) m h = h
width-step (levels hs da0) m h = counter-lt m.control (edge_of m.hs hs da0) m.refresh h

pub keeps-its-width : CounterKeepsItsWidth
unfolding after_all
keeps-its-width [] m h = h
keeps-its-width (e ∷ es) m h = keeps-its-width es (after e m) (width-step e m h)
