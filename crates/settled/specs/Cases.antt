-- The settled cases as one table: registers written, a reset, clocks, a strike or none, and what is seen then. Cases a to j are those of
-- document 01, "Settled cases", with the latch of e as request W5 has it; k to z are of that request.
use Rattle.std.specs.Prelude.{ℕ, ◌≡◌, List, [], ◌∷◌, ◌++◌, map, true, false, eqb, get_or}
use Rattle.basics.specs.Choice.{when◌then◌else◌}
use Rattle.basics.specs.Bits.{num}
use Rattle.controller.specs.Chip.{fresh_of, reset_of, clock_of, strike_of}
use Rattle.pen.specs.Pen.{newest_of}
use Rattle.controller.specs.Pins.{outputs_of}
use Rattle.controller.specs.declared.chip.Controller.{Controller}
use Rattle.frames.specs.Calls.{Call, write, after_calls}
use Rattle.frames.specs.Frames.{Frames}
use Rattle.frames.specs.Places.{frame_times}
use Rattle.locator.specs.Locate.{refusal_of, cell_of, locate_of}

-- A case is eleven numbers: what is written to R0, R1, R4, R5, R6, R8, R9, R12 and R13 (all others stay 0), how many clocks, and 1 for a
-- strike.
abbrev pub at : List ℕ → ℕ → ℕ
at k i = get_or k i 0

-- register n named, and v written to it
abbrev pub put : ℕ → ℕ → List Call → List Call
put n v more = write false n ∷ write true v ∷ more

-- a case's writes
abbrev pub writes_of : List ℕ → List Call
writes_of k =
    put 0 (at k 0) (put 1 (at k 1) (put 4 (at k 2) (put 5 (at k 3) (put 6 (at k 4) (put 8 (at k 5) (put 9 (at k 6) (put 12 (at k 7) (put 13 (at k 8) []))))))))

-- the controller that they make of the fresh one
unfoldable pub written_of : List ℕ → Controller
written_of k = after_calls (writes_of k) fresh_of

-- the case begins with a reset
abbrev pub set_of : List ℕ → Controller
set_of k = reset_of (written_of k)

-- and comes to this controller, by its clocks and its strike
unfoldable pub reached_of : List ℕ → Controller → Controller
reached_of k c = when eqb (at k 10) 1 then strike_of (clock_of (at k 9) c) else clock_of (at k 9) c

-- what is looked at: the picture fact, adjusting, MA, the latch, and the locator's refusal, row and column
unfoldable pub looked_of : Controller → List ℕ
looked_of c =
    num (outputs_of c).picture ∷ num c.scan.adjusting ∷ (outputs_of c).ma ∷ (newest_of c.pen).latch
    ∷ refusal_of (locate_of c) ∷ (cell_of (locate_of c)).row ∷ (cell_of (locate_of c)).column ∷ []

-- what is seen of a case: its frame's length in character times, and then that
unfoldable pub seen_of : List ℕ → List ℕ
seen_of k = frame_times (set_of k).regs ∷ looked_of (reached_of k (set_of k))

-- setting A, with so many clocks, and 1 for a strike
abbrev pub in_a : ℕ → ℕ → List ℕ
in_a clocks strike = 3 ∷ 2 ∷ 1 ∷ 1 ∷ 2 ∷ 0 ∷ 1 ∷ 0 ∷ 0 ∷ clocks ∷ strike ∷ []

-- the tall picture of h, i and j, by its R1, with so many clocks and a strike
abbrev pub in_tall : ℕ → ℕ → List ℕ
in_tall r1 clocks = 255 ∷ r1 ∷ 127 ∷ 0 ∷ 127 ∷ 0 ∷ 0 ∷ 0 ∷ 0 ∷ clocks ∷ 1 ∷ []

-- a picture up to the line's last character: lines of four, all of them shown, three rows, and addresses from 100 on; by its R5, R6 and
-- R9, with so many clocks and a strike
abbrev pub in_full : ℕ → ℕ → ℕ → ℕ → List ℕ
in_full r5 r6 r9 clocks = 3 ∷ 4 ∷ 2 ∷ r5 ∷ r6 ∷ 0 ∷ r9 ∷ 0 ∷ 100 ∷ clocks ∷ 1 ∷ []

-- a to j, in order
abbrev pub of_document : List (List ℕ)
of_document =
    in_a 0 0
    ∷ (0 ∷ 0 ∷ 0 ∷ 0 ∷ 0 ∷ 0 ∷ 0 ∷ 0 ∷ 0 ∷ 0 ∷ 0 ∷ [])
    ∷ (255 ∷ 0 ∷ 127 ∷ 31 ∷ 0 ∷ 0 ∷ 31 ∷ 0 ∷ 0 ∷ 0 ∷ 0 ∷ [])
    ∷ in_a 1 1
    ∷ in_a 2 1
    ∷ in_a 8 1
    ∷ in_a 16 0
    ∷ in_tall 129 0
    ∷ in_tall 130 0
    ∷ in_tall 130 126
    ∷ []

-- k to z, in order. The last two columns of a full picture: on a middle line (k, l), on a row's last line (m, n), on the last line of the
-- last row with adjust lines after it (o, p) and with a new frame after it (q, r), and with a row below the picture after it (s, t). Lines
-- of one character and of two (u, v), rows of one line (w), row and column addressing where the high part wraps (x) and the low byte (y),
-- and a picture one column too wide for what demand 3 says of 8 (z). In o, p and s to v the cell fits by one of its lines alone; in m, n
-- and q another cell fits, through the end of its own line.
abbrev pub of_request : List (List ℕ)
of_request =
    in_full 2 3 2 6
    ∷ in_full 2 3 2 7
    ∷ in_full 2 3 2 10
    ∷ in_full 2 3 2 11
    ∷ in_full 2 3 2 34
    ∷ in_full 2 3 2 35
    ∷ in_full 0 3 2 34
    ∷ in_full 0 3 0 11
    ∷ in_full 0 2 2 22
    ∷ in_full 0 2 2 23
    ∷ (0 ∷ 1 ∷ 2 ∷ 1 ∷ 3 ∷ 0 ∷ 3 ∷ 0 ∷ 0 ∷ 10 ∷ 1 ∷ [])
    ∷ (1 ∷ 2 ∷ 1 ∷ 1 ∷ 2 ∷ 0 ∷ 1 ∷ 0 ∷ 0 ∷ 6 ∷ 1 ∷ [])
    ∷ in_full 0 3 0 2
    ∷ (3 ∷ 4 ∷ 2 ∷ 0 ∷ 3 ∷ 4 ∷ 0 ∷ 63 ∷ 100 ∷ 2 ∷ 1 ∷ [])
    ∷ (9 ∷ 5 ∷ 1 ∷ 0 ∷ 2 ∷ 4 ∷ 0 ∷ 0 ∷ 254 ∷ 1 ∷ 1 ∷ [])
    ∷ (2 ∷ 2 ∷ 1 ∷ 0 ∷ 2 ∷ 0 ∷ 1 ∷ 0 ∷ 0 ∷ 0 ∷ 1 ∷ [])
    ∷ []

-- all of them
abbrev pub cases : List (List ℕ)
cases = of_document ++ of_request

-- frame, picture, adjusting, MA, latch, refusal, row, column
abbrev pub settled : List (List ℕ)
settled =
    (20 ∷ 1 ∷ 0 ∷ 0 ∷ 0 ∷ 5 ∷ 0 ∷ 0 ∷ [])
    ∷ (1 ∷ 0 ∷ 0 ∷ 0 ∷ 0 ∷ 5 ∷ 0 ∷ 0 ∷ [])
    ∷ (1056512 ∷ 0 ∷ 0 ∷ 0 ∷ 0 ∷ 5 ∷ 0 ∷ 0 ∷ [])
    ∷ (20 ∷ 1 ∷ 0 ∷ 1 ∷ 3 ∷ 0 ∷ 0 ∷ 1 ∷ [])
    ∷ (20 ∷ 0 ∷ 0 ∷ 2 ∷ 0 ∷ 6 ∷ 0 ∷ 0 ∷ [])
    ∷ (20 ∷ 1 ∷ 0 ∷ 2 ∷ 4 ∷ 0 ∷ 1 ∷ 0 ∷ [])
    ∷ (20 ∷ 0 ∷ 1 ∷ 4 ∷ 0 ∷ 5 ∷ 0 ∷ 0 ∷ [])
    ∷ (32768 ∷ 1 ∷ 0 ∷ 0 ∷ 2 ∷ 0 ∷ 0 ∷ 0 ∷ [])
    ∷ (32768 ∷ 1 ∷ 0 ∷ 0 ∷ 2 ∷ 8 ∷ 0 ∷ 0 ∷ [])
    ∷ (32768 ∷ 1 ∷ 0 ∷ 126 ∷ 128 ∷ 0 ∷ 0 ∷ 126 ∷ [])
    ∷ (44 ∷ 1 ∷ 0 ∷ 102 ∷ 100 ∷ 0 ∷ 0 ∷ 2 ∷ [])
    ∷ (44 ∷ 1 ∷ 0 ∷ 103 ∷ 101 ∷ 0 ∷ 0 ∷ 3 ∷ [])
    ∷ (44 ∷ 1 ∷ 0 ∷ 102 ∷ 104 ∷ 8 ∷ 0 ∷ 0 ∷ [])
    ∷ (44 ∷ 1 ∷ 0 ∷ 103 ∷ 105 ∷ 8 ∷ 0 ∷ 0 ∷ [])
    ∷ (44 ∷ 1 ∷ 0 ∷ 110 ∷ 112 ∷ 0 ∷ 2 ∷ 2 ∷ [])
    ∷ (44 ∷ 1 ∷ 0 ∷ 111 ∷ 113 ∷ 0 ∷ 2 ∷ 3 ∷ [])
    ∷ (36 ∷ 1 ∷ 0 ∷ 110 ∷ 100 ∷ 8 ∷ 0 ∷ 0 ∷ [])
    ∷ (12 ∷ 1 ∷ 0 ∷ 111 ∷ 101 ∷ 0 ∷ 2 ∷ 3 ∷ [])
    ∷ (36 ∷ 1 ∷ 0 ∷ 106 ∷ 108 ∷ 0 ∷ 1 ∷ 2 ∷ [])
    ∷ (36 ∷ 1 ∷ 0 ∷ 107 ∷ 109 ∷ 0 ∷ 1 ∷ 3 ∷ [])
    ∷ (13 ∷ 1 ∷ 0 ∷ 2 ∷ 3 ∷ 0 ∷ 2 ∷ 0 ∷ [])
    ∷ (10 ∷ 1 ∷ 0 ∷ 2 ∷ 4 ∷ 0 ∷ 1 ∷ 0 ∷ [])
    ∷ (12 ∷ 1 ∷ 0 ∷ 102 ∷ 104 ∷ 0 ∷ 0 ∷ 2 ∷ [])
    ∷ (12 ∷ 1 ∷ 0 ∷ 16230 ∷ 100 ∷ 0 ∷ 0 ∷ 2 ∷ [])
    ∷ (20 ∷ 1 ∷ 0 ∷ 255 ∷ 1 ∷ 0 ∷ 0 ∷ 1 ∷ [])
    ∷ (12 ∷ 1 ∷ 0 ∷ 0 ∷ 2 ∷ 8 ∷ 0 ∷ 0 ∷ [])
    ∷ []

-- What the cases show is what was settled. And the lengths among it are those that the scan keeps to: after a reset with any
-- such numbers written, new frames begin at the multiples of that length and at no other time.
pub record Settled : Type 0 where
  pub table : map seen_of cases ≡ settled
  pub frames : (k : List ℕ) → Frames (written_of k)
