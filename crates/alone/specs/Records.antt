-- Whole records on a controller that stands alone (document 01, kinds 1, 3 and 4 of the table of kinds). That they do the same on the
-- bench is said, and shown, in the crate `every_record`.
use Rattle.std.specs.Prelude.{ℕ, Result, Ok, Err}
use Rattle.basics.specs.Choice.{when◌then◌else◌}
use Rattle.answer.specs.Answer.{plain_of}
use Rattle.controller.specs.declared.chip.Controller.{Controller}
use Rattle.record.specs.Decode.{decode_of, number_of}
use Rattle.record.specs.declared.event.Event.{Event}
use Rattle.record.specs.declared.event.Event.TheVariants.{Write, Read, Clocks, Strike, Reset, Cycle, Fetches, Levels, Locate}
use Rattle.record.specs.declared.kinds.Refusal.{Refusal}
use Rattle.alone.specs.Events.{told, on_write, on_read, on_clocks, on_strike, on_reset}
use Rattle.alone.specs.declared.events.Told.{Told}

-- An event that is for another chip, which no record of the three kinds is. Decision: the controller stays as it is, with a zero body.
abbrev pub idle : Controller → ℕ → Told
idle c kind = told c (plain_of kind 0)

-- a known event, as far as it is the controller's
unfoldable pub on_event : Controller → ℕ → Event → Told
on_event c kind (Write rs value) = on_write c kind rs value
on_event c kind (Read rs) = on_read c kind rs
on_event c kind (Clocks n) = on_clocks c kind n
on_event c kind Strike = on_strike c kind
on_event c kind (Reset multiplexer) = when multiplexer then idle c kind else on_reset c kind
on_event c kind (Cycle address read) = idle c kind
on_event c kind (Fetches n) = idle c kind
on_event c kind (Levels hs da0) = idle c kind
on_event c kind Locate = idle c kind

-- a decoded record: its event is done; or it is refused, with its number and a zero body, and the controller does not change
unfoldable pub on_decoded : Controller → ℕ → Result Event Refusal → Told
on_decoded c kind (Ok event) = on_event c kind event
on_decoded c kind (Err refusal) = told c (plain_of kind (number_of (Err refusal)))

-- a record: decoded before the controller sees it
unfoldable pub alone_of : ℕ → Controller → ℕ → ℕ → ℕ → Told
alone_of kind c hi lo value = on_decoded c kind (decode_of kind hi lo value)

-- a record of kind 1, of kind 3 and of kind 4
abbrev pub write_record_of : Controller → ℕ → ℕ → ℕ → Told
write_record_of c hi lo value = alone_of 1 c hi lo value

abbrev pub clock_record_of : Controller → ℕ → ℕ → ℕ → Told
clock_record_of c hi lo value = alone_of 3 c hi lo value

abbrev pub strike_record_of : Controller → ℕ → ℕ → ℕ → Told
strike_record_of c hi lo value = alone_of 4 c hi lo value
