-- Demand 3 over the joined records (document 02, W3): records off the line that reset the controller, then clock it, read it and fire the
-- pen, then locate, in whatever cuts they came. proofs/Demand.antt shows it.
use Rattle.std.specs.Prelude.{ℕ, suc, ◌+◌, ◌≤◌, true, false, List, [], ◌∷◌, ◌++◌, map, ◌⊎◌, ◌≡◌, length}
use Rattle.answer.specs.declared.Answer.{Answer}
use Rattle.answer.specs.Answer.{done_of, plain_of}
use Rattle.raster.specs.Registers.{reg}
use Rattle.facts.specs.Facts.{picture_of}
use Rattle.controller.specs.Chip.{fresh_of}
use Rattle.controller.specs.declared.chip.Controller.{Controller}
use Rattle.frames.specs.Calls.{Call, read, clock, strike, after_calls, Wait, clocks, reads, Act, waits, strikes}
use Rattle.frames.specs.Frames.{Frames}
use Rattle.locator.specs.declared.cells.Cell.{Cell}
use Rattle.demand.specs.Demand.{struck_at, Rival, OneCellEach}
use Rattle.record.specs.Decode.{decode_of}
use Rattle.every_record.specs.Calls.{calls_of}
use Rattle.line.specs.Line.{fresh_line}
use Rattle.line.specs.declared.calls.Line.{Line}
use Rattle.every_line.specs.Records.{Sent, sent_of}
use Rattle.every_line.specs.Cuts.{Brought}

-- the calls on the controller that records make, one record after the other
unfoldable pub controller_calls : List Sent → List Call
controller_calls [] = []
controller_calls (r ∷ l) = calls_of (decode_of r.kind r.hi r.lo r.value) ++ controller_calls l

-- an act of demand 3 as a call
abbrev pub as_call : Act → Call
as_call (waits (clocks n)) = clock n
as_call (waits (reads rs)) = read rs
as_call strikes = strike

-- the controller's reset and a locate, as records
abbrev pub reset_record : Sent
reset_record = record { kind = 5; hi = 0; lo = 0; value = 0 }

abbrev pub locate_record : Sent
locate_record = record { kind = 9; hi = 0; lo = 0; value = 0 }

-- the controller after the first records off a fresh line
abbrev pub controller_after : List Sent → Controller
controller_after first = after_calls (controller_calls first) fresh_of

-- The answer to a locate, as demand 3 has it, by the acts between the reset and the locate: sentence by sentence.
pub record Answer3 (c : Controller) (acts : List Act) (answer : Answer) : Type 0 where
  -- these acts hold no strike, or a last one that only clocks and reads follow
  pub last-strike : ((more : List Wait) × (acts ≡ map waits more)) ⊎ ((before : List Act) × (more : List Wait) × (acts ≡ before ++ strikes ∷ map waits more))
  -- no strike: refused with 5
  pub unstruck : (more : List Wait) → acts ≡ map waits more → answer ≡ plain_of 9 5
  -- the last strike in the picture, and no other picture cell would leave its latch: done, with that very row and column
  pub named : (before : List Act) (more : List Wait) → acts ≡ before ++ strikes ∷ map waits more
      → picture_of c.regs (struck_at c before) ≡ true → ((d : Cell) → Rival c (struck_at c before) d → ⊥)
      → answer ≡ done_of 9 ((struck_at c before).row ∷ (struck_at c before).column ∷ [])
  -- in the picture, and another picture cell would: refused with 8
  pub shared : (before : List Act) (more : List Wait) → acts ≡ before ++ strikes ∷ map waits more
      → picture_of c.regs (struck_at c before) ≡ true → (d : Cell) → Rival c (struck_at c before) d → answer ≡ plain_of 9 8
  -- in the picture: not refused with 7
  pub fitting : (before : List Act) (more : List Wait) → acts ≡ before ++ strikes ∷ map waits more
      → picture_of c.regs (struck_at c before) ≡ true → (answer ≡ plain_of 9 7 → ⊥)
  -- in the picture, R1 at most R0 - 1, and no two cells of one address: not refused with 8 (request W5)
  pub unshared : reg c.regs 1 + 1 ≤ reg c.regs 0 → OneCellEach c.regs
      → (before : List Act) (more : List Wait) → acts ≡ before ++ strikes ∷ map waits more
      → picture_of c.regs (struck_at c before) ≡ true → (answer ≡ plain_of 9 8 → ⊥)
  -- outside the picture: refused with 6, though a cell may fit what was latched
  pub outside : (before : List Act) (more : List Wait) → acts ≡ before ++ strikes ∷ map waits more
      → picture_of c.regs (struck_at c before) ≡ false → answer ≡ plain_of 9 6

-- Some records, a reset, records that make no calls but those of acts (others may stand between them: for the multiplexer, refused, or
-- locates), a locate, and any bytes behind it, brought to a fresh line in any cuts and rooms. The answer to the locate stands among the
-- answers where its record stands among the records, and is the one that demand 3 speaks of.
pub record LocatedOff (first quiet : List Sent) (acts : List Act) (answers : List Answer) : Type 0 where
  pub before : List Answer
  pub answer : Answer
  pub behind : List Answer
  pub order : answers ≡ before ++ (answer ∷ behind)
  pub number : length before ≡ length first + suc (length quiet)
  pub demand : Answer3 (controller_after first) acts answer
  -- and frames begin, from that reset on, when demand 3 says
  pub frames : Frames (controller_after first)

abbrev pub Demand3OffTheLine : Type 0
Demand3OffTheLine =
    (first quiet : List Sent) (acts : List Act) (more : List ℕ) (answers : List Answer) (last : Line)
    → controller_calls quiet ≡ map as_call acts
    → Brought fresh_line (sent_of (first ++ (reset_record ∷ (quiet ++ (locate_record ∷ [])))) ++ more) answers last
    → LocatedOff first quiet acts answers
