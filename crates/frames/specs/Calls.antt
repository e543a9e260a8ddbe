-- Runs of calls (demand 3; document 01, "Controller registers" and "One character time"). The theorems on the controller speak of these.
use Rattle.std.specs.Prelude.{ℕ, ◌+◌, Bool, List, [], ◌∷◌}
use Rattle.controller.specs.Chip.{reset_of, write_of, clock_of, strike_of}
use Rattle.controller.specs.Reads.{read_of}
use Rattle.controller.specs.declared.chip.Controller.{Controller}

-- everything that can be done to a controller
pub data Call : Type 0 where
  write : Bool → ℕ → Call
  read : Bool → Call
  clock : ℕ → Call
  strike : Call
  reset : Call

-- the controller after one of them
unfoldable pub after_call : Call → Controller → Controller
after_call (write rs v) c = write_of c rs v
after_call (read rs) c = (read_of c rs).controller
after_call (clock n) c = clock_of n c
after_call strike c = strike_of c
after_call reset c = reset_of c

-- one call after the other, the first of the list first
unfoldable pub after_calls : List Call → Controller → Controller
after_calls [] c = c
after_calls (a ∷ l) c = after_calls l (after_call a c)

-- what moves neither a register nor the pen's strike: character clocks, and reads with RS 0 or 1 (a read of R16 or R17 clears L, no more)
pub data Wait : Type 0 where
  clocks : ℕ → Wait
  reads : Bool → Wait

-- what demand 3 allows between a reset and a locate: such waits and pen strikes, in any order. No register is written.
pub data Act : Type 0 where
  waits : Wait → Act
  strikes : Act

-- the controller after a wait
unfoldable pub after_wait : Wait → Controller → Controller
after_wait (clocks n) c = clock_of n c
after_wait (reads rs) c = (read_of c rs).controller

-- the controller after one act
unfoldable pub after_act : Act → Controller → Controller
after_act (waits w) c = after_wait w c
after_act strikes c = strike_of c

-- one after the other, the first of the list first
unfoldable pub after_acts : List Act → Controller → Controller
after_acts [] c = c
after_acts (a ∷ l) c = after_acts l (after_act a c)

-- the character times of an act
unfoldable pub times_in : Act → ℕ
times_in (waits (clocks n)) = n
times_in (waits (reads rs)) = 0
times_in strikes = 0

-- how many character times a list of them holds
unfoldable pub times_of : List Act → ℕ
times_of [] = 0
times_of (a ∷ l) = times_of l + times_in a
