-- Demand 3 promises nothing empty: each of its premises is met, by a settled case or in its setting, which register writes lead to from
-- power-on.
use Rattle.std.specs.Prelude.{ℕ, suc, ◌+◌, ◌≤◌, ◌≡◌, true, false, List, [], ◌∷◌}
use Rattle.raster.specs.Registers.{reg}
use Rattle.facts.specs.Facts.{picture_of, latch_of}
use Rattle.controller.specs.Chip.{fresh_of, reset_of, write_of}
use Rattle.pen.specs.Pen.{unread_of}
use Rattle.controller.specs.Writes.{kept_of}
use Rattle.controller.specs.declared.chip.Controller.{Controller}
use Rattle.frames.specs.Calls.{Call, after_calls, clocks, reads, Act, waits, strikes, after_acts}
use Rattle.locator.specs.Cells.{IsCell, cell_at, fits_of}
use Rattle.locator.specs.declared.cells.Cell.{Cell}
use Rattle.demand.specs.Demand.{struck_at, Rival, OneCellEach}
use Rattle.settled.specs.Cases.{put, written_of, in_a, in_tall}

-- setting A, and the tall picture with R1 130, as written
abbrev pub A : Controller
A = written_of (in_a 0 0)

abbrev pub Tall : Controller
Tall = written_of (in_tall 130 0)

-- so many clocks
abbrev pub waited : ℕ → List Act
waited n = waits (clocks n) ∷ []

-- setting A with R16 named, so that a read with RS 1 reads the latch; after a strike, and after a strike and that read
abbrev pub struck : Controller
struck = after_acts (strikes ∷ []) (reset_of (write_of A false 16))

abbrev pub struck_and_read : Controller
struck_and_read = after_acts (strikes ∷ waits (reads true) ∷ []) (reset_of (write_of A false 16))

-- numbers written to the registers from the k-th on, one after the other
abbrev pub writes_from : ℕ → List ℕ → List Call
writes_from k [] = []
writes_from k (v ∷ l) = put k v (writes_from (suc k) l)

-- and what each of those registers keeps of its number
abbrev pub kept_from : ℕ → List ℕ → List ℕ
kept_from k [] = []
kept_from k (v ∷ l) = kept_of k v ∷ kept_from (suc k) l

-- Every premise of demand 3, met.
pub record Premises : Type 0 where
  -- case d: a strike in the picture that no other cell rivals
  pub inside : picture_of A.regs (struck_at A (waited 1)) ≡ true
  pub alone : (d : Cell) → Rival A (struck_at A (waited 1)) d → ⊥
  -- after 7 clocks: one outside it, at the end of the first row, and a cell that fits its latch, the one of case d
  pub outside : picture_of A.regs (struck_at A (waited 7)) ≡ false
  pub cell : IsCell A.regs (cell_at 0 1)
  pub shares : fits_of A.regs (latch_of A.regs (struck_at A (waited 7))) (cell_at 0 1) ≡ true
  -- case i: one in the picture that another cell rivals
  pub inside_too : picture_of Tall.regs (struck_at Tall []) ≡ true
  pub rival : Rival Tall (struck_at Tall []) (cell_at 126 4)
  -- setting A: R1 at most R0 - 1, and no two cells of one address
  pub short : reg A.regs 1 + 1 ≤ reg A.regs 0
  pub one_each : OneCellEach A.regs
  -- a read that changes something: L, which the strike set
  pub full : unread_of struck.pen ≡ true
  pub emptied : unread_of struck_and_read.pen ≡ false
  -- every setting can be reached: sixteen numbers written are held, each cut to its register's width
  pub settings : (v0 v1 v2 v3 v4 v5 v6 v7 v8 v9 v10 v11 v12 v13 v14 v15 : ℕ)
      → (let l = v0 ∷ v1 ∷ v2 ∷ v3 ∷ v4 ∷ v5 ∷ v6 ∷ v7 ∷ v8 ∷ v9 ∷ v10 ∷ v11 ∷ v12 ∷ v13 ∷ v14 ∷ v15 ∷ [] in
      (after_calls (writes_from 0 l) fresh_of).regs.held ≡ kept_from 0 l)
