-- What a record does to the two chips, and what is answered (document 01, "Records and what comes back"). Neither chip sees
-- the other: each event goes to one of them, and the other stays as it is.
use Rattle.std.specs.Prelude.{ℕ, Bool, Result, Ok, Err}
use Rattle.basics.specs.Choice.{when◌then◌else◌}
use Rattle.answer.specs.Answer.{done_of, plain_of}
use Rattle.answer.specs.declared.Answer.{Answer}
use Rattle.locator.specs.Locate.{locate_of}
use Rattle.multiplexer.specs.Chip.{fresh_of, bus_of, fetches_of, shown_of, levels_of}
use Rattle.multiplexer.specs.declared.chip.Multiplexer.{Multiplexer}
use Rattle.record.specs.Decode.{decode_of, number_of}
use Rattle.record.specs.declared.event.Event.{Event}
use Rattle.record.specs.declared.event.Event.TheVariants.{Write, Read, Clocks, Strike, Reset, Cycle, Fetches, Levels, Locate}
use Rattle.record.specs.declared.kinds.Refusal.{Refusal}
use Rattle.alone.specs.Events as alone
use Rattle.alone.specs.declared.events.Told.{Told}
use Rattle.bodies.specs.Bodies.{bus_body_of, shown_body_of, levels_body_of, located_answer_of}
use Rattle.bodies.specs.Told.{told_cycle_of, told_levels_of}
use Rattle.bench.specs.declared.step.Bench.{Bench}
use Rattle.bench.specs.declared.step.Stepped.{Stepped}

-- the bench with the controller that one of its events leaves, and what that event answers
abbrev pub with_controller : Bench → Told → Stepped
with_controller b t = record { bench = record { controller = t.controller; multiplexer = b.multiplexer }; answer = t.answer }

-- the bench with another multiplexer, and an answer
abbrev pub with_multiplexer : Bench → Multiplexer → Answer → Stepped
with_multiplexer b m a = record { bench = record { controller = b.controller; multiplexer = m }; answer = a }

-- kind 5: the one chip or the other
unfoldable pub on_reset : Bench → ℕ → Bool → Stepped
on_reset b kind multiplexer =
    when multiplexer then with_multiplexer b fresh_of (plain_of kind 0)
    else with_controller b (alone.on_reset b.controller kind)

-- kind 6: the cycle as it was judged, and the multiplexer after its write
unfoldable pub on_cycle : Bench → ℕ → ℕ → Bool → Stepped
on_cycle b kind address read =
    with_multiplexer b (bus_of b.multiplexer address read).multiplexer
    (done_of kind (bus_body_of (told_cycle_of (bus_of b.multiplexer address read).cycle)))

-- kind 7: what the display shows after its fetches
unfoldable pub on_fetches : Bench → ℕ → ℕ → Stepped
on_fetches b kind n =
    with_multiplexer b (fetches_of b.multiplexer n) (done_of kind (shown_body_of (shown_of (fetches_of b.multiplexer n))))

-- kind 8: the edge that the levels made, and the refresh at it
unfoldable pub on_levels : Bench → ℕ → Bool → Bool → Stepped
on_levels b kind hs da0 =
    with_multiplexer b (levels_of b.multiplexer hs da0).multiplexer
    (done_of kind (levels_body_of (told_levels_of (levels_of b.multiplexer hs da0))))

-- kind 9: it asks, and moves neither chip
unfoldable pub on_locate : Bench → ℕ → Stepped
on_locate b kind = record { bench = b; answer = located_answer_of kind (locate_of b.controller) }

-- a known event, on the one chip that it is for
unfoldable pub on_event : Bench → ℕ → Event → Stepped
on_event b kind (Write rs value) = with_controller b (alone.on_write b.controller kind rs value)
on_event b kind (Read rs) = with_controller b (alone.on_read b.controller kind rs)
on_event b kind (Clocks n) = with_controller b (alone.on_clocks b.controller kind n)
on_event b kind Strike = with_controller b (alone.on_strike b.controller kind)
on_event b kind (Reset multiplexer) = on_reset b kind multiplexer
on_event b kind (Cycle address read) = on_cycle b kind address read
on_event b kind (Fetches n) = on_fetches b kind n
on_event b kind (Levels hs da0) = on_levels b kind hs da0
on_event b kind Locate = on_locate b kind

-- A decoded record: its event is done; or it is refused, with its number and a zero body, and neither chip changes.
-- Decision: the answer's first byte is the kind byte as it came, of an unknown kind too.
unfoldable pub on_decoded : Bench → ℕ → Result Event Refusal → Stepped
on_decoded b kind (Ok event) = on_event b kind event
on_decoded b kind (Err refusal) = record { bench = b; answer = plain_of kind (number_of (Err refusal)) }

-- a record: decoded before either chip sees it
unfoldable pub step_of : Bench → ℕ → ℕ → ℕ → ℕ → Stepped
step_of b kind hi lo value = on_decoded b kind (decode_of kind hi lo value)
