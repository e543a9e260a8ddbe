-- What each event that is for the controller does to it, and what is answered (document 01, "Records and what comes back"). No other chip
-- has a part in it. The kind byte comes with the record and goes into the answer.
use Rattle.std.specs.Prelude.{ℕ, Bool}
use Rattle.answer.specs.Answer.{done_of, plain_of}
use Rattle.answer.specs.declared.Answer.{Answer}
use Rattle.controller.specs.Bytes.{time_bytes_of}
use Rattle.controller.specs.Chip.{reset_of, write_of, clock_of, strike_of}
use Rattle.controller.specs.Pins.{outputs_of}
use Rattle.controller.specs.Reads.{read_of}
use Rattle.controller.specs.declared.chip.Controller.{Controller}
use Rattle.pen.specs.Pen.{newest_of}
use Rattle.alone.specs.Bodies.{read_body_of, strike_body_of}
use Rattle.alone.specs.declared.events.Told.{Told}

-- the controller after an event, and its answer
abbrev pub told : Controller → Answer → Told
told c answer = record { controller = c; answer = answer }

-- a write, by RS: kind 1 has a zero body
unfoldable pub on_write : Controller → ℕ → Bool → ℕ → Told
on_write c kind rs value = told (write_of c rs value) (plain_of kind 0)

-- kind 2: the reading, and the controller after it
unfoldable pub on_read : Controller → ℕ → Bool → Told
on_read c kind rs = told (read_of c rs).controller (done_of kind (read_body_of (read_of c rs)))

-- kind 3: the outputs of the character time reached. Decision: n of 0 is allowed and tells the outputs as they are.
unfoldable pub on_clocks : Controller → ℕ → ℕ → Told
on_clocks c kind n = told (clock_of n c) (done_of kind (time_bytes_of (outputs_of (clock_of n c))))

-- kind 4: what the strike latched
unfoldable pub on_strike : Controller → ℕ → Told
on_strike c kind = told (strike_of c) (done_of kind (strike_body_of (newest_of (strike_of c).pen)))

-- kind 5 for the controller: a zero body
unfoldable pub on_reset : Controller → ℕ → Told
on_reset c kind = told (reset_of c) (plain_of kind 0)
