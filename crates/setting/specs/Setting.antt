-- A setting and the controller that it starts (document 02, W1, which says what a setting is in every request).
use Rattle.std.specs.Prelude.{ℕ, Bool, true, ◌&&◌, List, [], ◌∷◌, map, eqb, get_or}
use Rattle.basics.specs.Count.{count}
use Rattle.raster.specs.declared.registers.Registers.{Registers}
use Rattle.controller.specs.Chip.{arrived_of}
use Rattle.controller.specs.Writes.{kept_of}
use Rattle.controller.specs.declared.chip.Controller.{Controller}

-- a byte for each of R0 to R15
abbrev pub bytes : ℕ
bytes = 16

-- What the registers keep of their bytes, each its low bits, as after a write. Decision: a byte that is missing counts as 0, and one
-- after the sixteenth does not count.
unfoldable pub cut_of : List ℕ → List ℕ
cut_of given = map (λ (k : ℕ). kept_of k (get_or given k 0)) (count 0 bytes)

-- The registers of a setting. Decision: the address register names R15, as it does when R0 to R15 have been written in this order.
unfoldable pub setting_of : List ℕ → Registers
setting_of given = record { held = cut_of given; named = 15 }

-- the controller that it starts: reset, with these registers
unfoldable pub started_of : List ℕ → Controller
started_of given = arrived_of (setting_of given)

-- whether each of these registers keeps its whole byte
unfoldable pub keep_all : List ℕ → List ℕ → Bool
keep_all given [] = true
keep_all given (k ∷ ks) = eqb (kept_of k (get_or given k 0)) (get_or given k 0) && keep_all given ks

-- A setting without a forbidden bit: the bits that a register lacks are zero in its byte (document 02, W6).
abbrev pub clean_of : List ℕ → Bool
clean_of given = keep_all given (count 0 bytes)
