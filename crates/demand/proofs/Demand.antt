-- Demand 3, proved. Assumes nothing.
use Prim.Native.Nat.{ℕ, ◌+◌, ◌<◌, ◌≤◌}
use mathlib.Core.Path.{◌≡◌, refl, ap, ap₂, sym, ◌∙◌}
use mathlib.Core.Bool.{Bool, true, false}
use mathlib.Core.List.{List, [], ◌∷◌, ◌++◌, map}
use mathlib.Core.Logic.{◌⊎◌, inl, inr, ⊎_elim}
use native.Mathlib.Omega.{arith}
use Rattle.std.specs.Prelude.{Ok, Err}
use Rattle.raster.specs.Registers.{reg}
use Rattle.raster.specs.Widths.{RegistersWithin}
use Rattle.raster.specs.declared.registers.Registers.{Registers}
use Rattle.raster.specs.declared.scan.Scan.{Scan}
use Rattle.facts.specs.Facts.{picture_of, latch_of}
use Rattle.facts.proofs.Addresses.{in-picture}
use Rattle.controller.specs.Chip.{fresh_of, reset_of, clock_of, with_pen, strike_of}
use Rattle.pen.specs.Pen.{emptied_of, holds_of, newest_of}
use Rattle.controller.specs.Chip.{strike_at}
use Rattle.controller.specs.Reads.{read_of}
use Rattle.controller.specs.declared.chip.Controller.{Controller}
use Rattle.controller.proofs.Keeping.{clock-regs, clock-pen, strike-regs, strike-pen, reset-pen}
use Rattle.pen.proofs.Pens.{none-holds, struck-holds, struck-newest, emptied-holds, emptied-newest}
use Rattle.controller.proofs.ReadingLaws.{after_read}
use Rattle.frames.specs.Calls.{after_calls, Wait, Act, waits, strikes, after_acts}
use Rattle.frames.specs.Places.{Region}
use Rattle.frames.proofs.Acting.{acts-append, strike-first, waits-keep}
use Rattle.frames.proofs.Frames.{frames}
use Rattle.frames.proofs.Reached.{reached-within}
use Rattle.locator.specs.Cells.{IsCell, cell_at, fits_of, fit_of}
use Rattle.locator.specs.Locate.{refusal_of, cell_of, named_of, strike_found_of, locate_of}
use Rattle.locator.specs.declared.cells.Cell.{Cell}
use Rattle.locator.specs.declared.answer.Unlocated.TheVariants.{Unstruck, Outside, Several}
use Rattle.locator.proofs.Columns.{same_address}
use Rattle.locator.proofs.Listed.{found, several, somewhere}
use Rattle.locator.proofs.Locating.{locate-alike, locate-none, locate-newest, found_inside, found-outside, picture-cell, own-fits, same-or-other}
use Rattle.demand.specs.Demand.{struck_at, answer_to, Rival, OneCellEach, Demand3, Demand3Reached}

-- clocks and reads leave what the locator goes by: the registers, and of the pen all but L
clock-answer : (n : ℕ) (c : Controller) → locate_of (clock_of n c) ≡ locate_of c
clock-answer n c =
    locate-alike (clock_of n c) c (clock-regs c n) (ap holds_of (clock-pen c n)) (ap newest_of (clock-pen c n))

read_answer : (rs : Bool) (c : Controller) → locate_of (read_of c rs).controller ≡ locate_of c
read_answer rs c =
    after_read (λ (d : Controller). locate_of d ≡ locate_of c) c refl
    (locate-alike (with_pen (emptied_of c.pen) c) c refl (emptied-holds c.pen) (emptied-newest c.pen)) rs

after-waits : (more : List Wait) (c : Controller) → locate_of (after_acts (map waits more) c) ≡ locate_of c
after-waits more c =
    waits-keep (λ (d : Controller). locate_of d ≡ locate_of c) (λ n d e. clock-answer n d ∙ e) (λ rs d e. read_answer rs d ∙ e) more c refl

-- a list of acts has no strike, or a last one
split-last : (l : List Act)
    → ((more : List Wait) × (l ≡ map waits more)) ⊎ ((before : List Act) × (more : List Wait) × (l ≡ before ++ strikes ∷ map waits more))
split-last [] = inl ([], refl)
split-last (waits w ∷ l) =
    ⊎_elim (λ q. inl (w ∷ q.0, ap (λ (k : List Act). waits w ∷ k) q.1)) (λ q. inr (waits w ∷ q.0, q.1, ap (λ (k : List Act). waits w ∷ k) q.2))
    (split-last l)
split-last (strikes ∷ l) =
    ⊎_elim (λ q. inr ([], q.0, ap (λ (k : List Act). strikes ∷ k) q.1)) (λ q. inr (strikes ∷ q.0, q.1, ap (λ (k : List Act). strikes ∷ k) q.2))
    (split-last l)

-- the answer that a strike itself brings
strike-answer : (c : Controller) → locate_of (strike_of c) ≡ strike_found_of c.regs (strike_at c.regs c.scan)
strike-answer c =
    locate-newest (strike_of c) (ap holds_of (strike-pen c) ∙ struck-holds c.pen _)
    ∙ ap₂ strike_found_of (strike-regs c) (ap newest_of (strike-pen c) ∙ struck-newest c.pen _)

module _ (c : Controller) (w : RegistersWithin c.regs) where
  abbrev r : Registers
  r = c.regs

  narrow : reg r 0 < 256
  narrow = w.each 0 (omega arith)

  module _ (before : List Act) (more : List Wait) where
    abbrev s : Scan
    s = struck_at c before

    abbrev cell : Cell
    cell = cell_at s.row s.column

    -- the answer for a last strike, by its place
    struck : answer_to c before more ≡ strike_found_of r (strike_at r s)
    struck =
        let b = after_acts before (reset_of c) in
        ap locate_of (acts-append before (strikes ∷ map waits more) (reset_of c) ∙ strike-first (map waits more) b)
        ∙ after-waits more (strike_of b)
        ∙ strike-answer b
        ∙ ap (λ (q : Registers). strike_found_of q (strike_at q b.scan)) ((frames c w).registers before)

    struck-outside : picture_of r s ≡ false → answer_to c before more ≡ Err Outside
    struck-outside e = struck ∙ found-outside r (strike_at r s) e

    module _ (e : picture_of r s ≡ true) where
      struck-inside : answer_to c before more ≡ named_of (fit_of r (latch_of r s))
      struck-inside = struck ∙ found_inside r (strike_at r s) e

      region : Region r s.line s.row s.base false
      region = rw (in-picture r s e).running at ((frames c w).placed before).region

      is-cell : IsCell r cell
      is-cell = picture-cell r s e region.1 ((frames c w).placed before).column

      fits : fits_of r (latch_of r s) cell ≡ true
      fits = own-fits r s (in-picture r s e).running region.0 ((frames c w).placed before).start region.2

      named-alone : ((d : Cell) → Rival c s d → ⊥) → answer_to c before more ≡ Ok cell
      named-alone u =
          struck-inside ∙ found r narrow (latch_of r s) cell is-cell fits
          (λ d j k. ⊎_elim (λ (q : d ≡ cell). q) (λ n. absurd (u d (record { cell = j; fits = k; other = n }))) (same-or-other d cell))

      rivalled : (d : Cell) → Rival c s d → answer_to c before more ≡ Err Several
      rivalled d v = struck-inside ∙ several r narrow (latch_of r s) cell is-cell fits d v.cell v.fits v.other

      never-7 : refusal_of (answer_to c before more) ≡ 7 → ⊥
      never-7 z = somewhere r narrow (latch_of r s) cell is-cell fits (sym (ap refusal_of struck-inside) ∙ z)

      -- where the picture ends before the line's last two characters, a rival has the struck cell's address
      no_rival : reg r 1 + 1 ≤ reg r 0 → OneCellEach r → (d : Cell) → Rival c s d → ⊥
      no_rival h one d v =
          v.other
          (one d cell v.cell is-cell
          (same_address r (latch_of r s) d cell (omega (arith, v.cell.column<)) (omega (arith, is-cell.column<)) narrow v.fits fits))

      never-8 : reg r 1 + 1 ≤ reg r 0 → OneCellEach r → refusal_of (answer_to c before more) ≡ 8 → ⊥
      never-8 h one z = let q : ◌≡◌ {A = ℕ} 0 8 = sym (ap refusal_of (named-alone (no_rival h one))) ∙ z in omega arith

  unstruck : (more : List Wait) → locate_of (after_acts (map waits more) (reset_of c)) ≡ Err Unstruck
  unstruck more = after-waits more (reset_of c) ∙ locate-none (reset_of c) (ap holds_of (reset-pen c) ∙ none-holds)

  pub demand3 : Demand3 c
  demand3 = record {
    frames = frames c w;
    last-strike = split-last;
    unstruck = λ more. ap refusal_of (unstruck more);
    named = λ before more e u. let q = named-alone before more e u in (ap refusal_of q, ap cell_of q);
    shared = λ before more e d v. ap refusal_of (rivalled before more e d v);
    fitting = λ before more e. never-7 before more e;
    unshared = λ h one before more e. never-8 before more e h one;
    outside = λ before more e. ap refusal_of (struck-outside before more e);
  }

pub demand3-reached : Demand3Reached
demand3-reached l = demand3 (after_calls l fresh_of) (reached-within l).regs
