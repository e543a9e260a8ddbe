-- Every promise of docs/PROMISES.md, restated with its whole type and without a premise of its own making, and the proof that it cites.
-- A proof that assumes what it shows, or shows less, does not fit here. Assumes nothing.
use Prim.Native.Nat.{ℕ}
use mathlib.Core.Path.{◌≡◌}
use mathlib.Core.Bool.{true}
use mathlib.Core.List.{List}
use lib.ListN.{length}
use Rattle.basics.specs.Lay.{laid_at}
use Rattle.controller.specs.Chip.{fresh_of, reset_of, write_of, clock_of, strike_of}
use Rattle.controller.specs.Pins.{outputs_of}
use Rattle.controller.specs.Reads.{read_of}
use Rattle.frames.specs.Calls.{Call, after_calls}
use Rattle.controller.specs.Widths.{Within}
use Rattle.controller.specs.Writes.{kept_of}
use Rattle.frames.proofs.Reached.{reached-within}
use Rattle.locator.specs.Locate.{locate_of}
use Rattle.demand.specs.Demand.{Demand3Reached}
use Rattle.demand.specs.Latches.{EveryStrike}
use Rattle.demand.proofs.Demand.{demand3-reached}
use Rattle.demand.proofs.Latches.{every-strike}
use Rattle.control.specs.Write.{is_control_of, OneBitWritten}
use Rattle.control.specs.declared.bits.Control.{Control}
use Rattle.control.proofs.Written.{one-bit-written}
use Rattle.multiplexer.specs.Chip.{bus_of, fetches_of, levels_of}
use Rattle.refresh_and_pictures.specs.Refresh.{SixteenFallsVisitAllRows, CounterKeepsItsWidth}
use Rattle.refresh_and_pictures.specs.Picture.{Pictures}
use Rattle.refresh_and_pictures.proofs.AllRows.{all-rows, keeps-its-width}
use Rattle.refresh_and_pictures.proofs.Pictures.{pictures}
use Rattle.record.specs.Decode.{decode_of}
use Rattle.record.specs.Refusals.{Refusals as RecordRefusals}
use Rattle.record.proofs.Refusals.{refusals as record-refusals}
use Rattle.bench.specs.Step.{step_of}
use Rattle.bench.specs.declared.step.Bench.{Bench}
use Rattle.alone.specs.Records.{write_record_of, clock_record_of, strike_record_of}
use Rattle.every_record.specs.Refusals.{Refusals as BenchRefusals}
use Rattle.every_record.specs.Alone.{AsOnTheBench}
use Rattle.every_record.specs.Calls.{ByCalls}
use Rattle.every_record.specs.Reads.{Reads}
use Rattle.every_record.proofs.Refusals.{refusals as bench-refusals}
use Rattle.every_record.proofs.OnTheBench.{as-on-the-bench}
use Rattle.every_record.proofs.Reading.{reads}
use Rattle.every_record.proofs.Calling.{by-calls}
use Rattle.replay.specs.Run.{run_of, replay_of, output_of}
use Rattle.replay.specs.Rest.{rest_of, rest_at}
use Rattle.every_replay.specs.Runs.{Sound, Runs}
use Rattle.every_replay.proofs.Counts.{sound}
use Rattle.every_replay.proofs.Parts.{runs}
use Rattle.text.specs.Speech.{said_of}
use Rattle.lister.specs.Listing.{listing_of}
use Rattle.rooms_text.specs.Rooms.{room_text_of}
use Rattle.setting.specs.Setting.{setting_of, started_of}
use Rattle.setting.specs.Writes.{ByWrites}
use Rattle.setting.proofs.Writes.{by-writes}
use Rattle.tally.specs.Tally.{tally_of}
use Rattle.report.specs.Report.{outcome_of, refusal_of, reported_of}
use Rattle.picture_total.specs.Picture.{Counted, Reported}
use Rattle.picture_total.proofs.Picture.{counted, reported}
use Rattle.decimal.specs.Decimal.{Digits}
use Rattle.decimal.proofs.Reading.{digits}
use Rattle.report_text.specs.Text.{report_text_of}
use Rattle.line.specs.Line.{fresh_line, accept_of, accepted_of, close_of}
use Rattle.line.specs.declared.calls.Line.{Line}
use Rattle.every_line.specs.Calls.{Calls}
use Rattle.every_line.specs.Cuts.{Together}
use Rattle.every_line.specs.Demand.{Demand3OffTheLine}
use Rattle.every_line.proofs.Calls.{calls}
use Rattle.every_line.proofs.Cuts.{together}
use Rattle.every_line.proofs.Demand.{demand3-off-the-line}
use Rattle.serial_text.specs.Turn.{told_of, turn_text_of, TextTold}
use Rattle.serial_text.proofs.Said.{text-told}
use Rattle.serial_text.specs.Ending.{last_text_of}
use Rattle.serial_listing.specs.Printed.{PrintsTheListing}
use Rattle.serial_listing.proofs.Printed.{prints}
use Rattle.cuts_text.specs.Asked.{is_list_of}
use Rattle.cuts_text.specs.Made.{call_text_of, made_of}
use Rattle.call_lists.specs.Lists.{Shows}
use Rattle.call_lists.proofs.Lists.{shows}
use Rattle.settled.specs.Cases.{Settled}
use Rattle.settled.specs.Premises.{Premises}
use Rattle.settled.proofs.Table.{table}
use Rattle.settled.proofs.Premises.{premises}
use Rattle.record.proofs.decode.Reads as of-record-decode
use Rattle.replay.proofs.replay.Reads as of-replay-replay
use Rattle.replay.proofs.unread_rest.Reads as of-replay-unread_rest
use Rattle.lister.proofs.list.Reads as of-lister-list
use Rattle.rooms_text.proofs.room.Reads as of-rooms_text-room
use Rattle.text.proofs.said.Reads as of-text-said
use Rattle.bench.proofs.step.Bench.step.Reads as of-bench-step
use Rattle.alone.proofs.write.Reads as of-alone-write
use Rattle.alone.proofs.clock.Reads as of-alone-clock
use Rattle.alone.proofs.strike.Reads as of-alone-strike
use Rattle.controller.proofs.chip.Controller.clock.Reads as of-controller-clock
use Rattle.controller.proofs.chip.Controller.fresh.Reads as of-controller-fresh
use Rattle.controller.proofs.chip.Controller.outputs.Reads as of-controller-outputs
use Rattle.controller.proofs.chip.Controller.read.Reads as of-controller-read
use Rattle.controller.proofs.chip.Controller.reset.Reads as of-controller-reset
use Rattle.controller.proofs.chip.Controller.strike.Reads as of-controller-strike
use Rattle.controller.proofs.chip.Controller.write.Reads as of-controller-write
use Rattle.controller.proofs.kept.Reads as of-controller-kept
use Rattle.multiplexer.proofs.chip.Multiplexer.bus.Reads as of-multiplexer-bus
use Rattle.multiplexer.proofs.chip.Multiplexer.fetches.Reads as of-multiplexer-fetches
use Rattle.multiplexer.proofs.chip.Multiplexer.levels.Reads as of-multiplexer-levels
use Rattle.locator.proofs.locate.Reads as of-locator-locate
use Rattle.setting.proofs.registers.Reads as of-setting-registers
use Rattle.setting.proofs.start.Reads as of-setting-start
use Rattle.tally.proofs.count_frame.Reads as of-tally-count_frame
use Rattle.report.proofs.report.Reads as of-report-report
use Rattle.exports.proofs.settings_report.Reads as of-exports-settings_report
use Rattle.report_text.proofs.tell.Reads as of-report_text-tell
use Rattle.line.proofs.calls.Line.fresh.Reads as of-line-fresh
use Rattle.line.proofs.calls.Line.accept.Reads as of-line-accept
use Rattle.line.proofs.calls.Line.close.Reads as of-line-close
use Rattle.serial_text.proofs.tell.Reads as of-serial_text-tell
use Rattle.serial_text.proofs.tell_end.Reads as of-serial_text-tell_end
use Rattle.cuts_text.proofs.is_list.Reads as of-cuts_text-is_list
use Rattle.cuts_text.proofs.make.Reads as of-cuts_text-make
use Rattle.promises.specs.States.{States}

-- ---- demand 1

pub record-decoded : States of-record-decode.Post (λ κs a r s. r ≡ decode_of a.0.kind a.0.hi a.0.lo a.0.value)
record-decoded κs a r s p = p

pub record-refused : (kind hi lo value : ℕ) → RecordRefusals kind hi lo value
record-refused = record-refusals

pub refused-unmoved : (b : Bench) (kind hi lo value : ℕ) → BenchRefusals b kind hi lo value
refused-unmoved = bench-refusals

pub replay-answer : States of-replay-replay.Post (λ κs a r s. r ≡ replay_of a.0.now a.1.0.now a.1.1.0)
replay-answer κs a r s p = p.0

pub replay-ends : (batch : List ℕ) (room : ℕ) (b : Bench) → Sound batch room (run_of batch room b)
replay-ends = sound

pub replay-output : States of-replay-replay.Post (λ κs a r s. (s.1.0.now ≡ output_of a.0.now a.1.0.now a.1.1.0) × (s.0.now ≡ a.0.now))
replay-output κs a r s p = p.1

pub replay-parts : (b : Bench) (room : ℕ) → Runs b room
replay-parts = runs

pub rest-bytes : States of-replay-unread_rest.Post (λ κs a r s. r.now ≡ rest_of a.0.now a.1.0)
rest-bytes κs a r s p = p.0

pub rest-place : States of-replay-unread_rest.Post (λ κs a r s. r.ref_ptr ≡ rest_at a.0.ref_ptr a.0.now a.1.0)
rest-place κs a r s p = p.1.0

pub listing-text : States of-lister-list.Post (λ κs a r s. r ≡ listing_of a.0.now)
listing-text κs a r s p = p.1.0

pub room-text : States of-rooms_text-room.Post (λ κs a r s. r ≡ room_text_of a.0.now)
room-text κs a r s p = p.1.0

pub text-said : States of-text-said.Post (λ κs a r s. r.now ≡ said_of a.0 a.1.0.now)
text-said κs a r s p = p.0

-- ---- demand 2

pub record-stepped : States of-bench-step.Post (λ κs a r s. r ≡ step_of a.0 a.1.0.kind a.1.0.hi a.1.0.lo a.1.0.value)
record-stepped κs a r s p = p

pub written-alone : States of-alone-write.Post (λ κs a r s. r ≡ write_record_of a.0 a.1.0 a.1.1.0 a.1.1.1.0)
written-alone κs a r s p = p

pub clocked-alone : States of-alone-clock.Post (λ κs a r s. r ≡ clock_record_of a.0 a.1.0 a.1.1.0 a.1.1.1.0)
clocked-alone κs a r s p = p

pub struck-alone : States of-alone-strike.Post (λ κs a r s. r ≡ strike_record_of a.0 a.1.0 a.1.1.0 a.1.1.1.0)
struck-alone κs a r s p = p

pub alone-as-on-the-bench : (b : Bench) (hi lo value : ℕ) → AsOnTheBench b hi lo value
alone-as-on-the-bench = as-on-the-bench

pub clocks-counted : States of-controller-clock.Post (λ κs a r s. r ≡ clock_of a.1.0 a.0)
clocks-counted κs a r s p = p

pub outputs-shown : States of-controller-outputs.Post (λ κs a r s. r ≡ outputs_of a.0)
outputs-shown κs a r s p = p

pub register-written : States of-controller-write.Post (λ κs a r s. r ≡ write_of a.0 a.1.0 a.1.1.0)
register-written κs a r s p = p

pub register-kept : States of-controller-kept.Post (λ κs a r s. r ≡ kept_of a.0 a.1.0)
register-kept κs a r s p = p

pub register-read : States of-controller-read.Post (λ κs a r s. r ≡ read_of a.0 a.1.0)
register-read κs a r s p = p

pub pen-struck : States of-controller-strike.Post (λ κs a r s. r ≡ strike_of a.0)
pen-struck κs a r s p = p

pub controller-reset : States of-controller-reset.Post (λ κs a r s. r ≡ reset_of a.0)
controller-reset κs a r s p = p

pub power-on : States of-controller-fresh.Post (λ κs a r s. r ≡ fresh_of)
power-on κs a r s p = p

pub widths-kept : (l : List Call) → Within (after_calls l fresh_of)
widths-kept = reached-within

pub bus-cycle : States of-multiplexer-bus.Post (λ κs a r s. r ≡ bus_of a.0 a.1.0 a.1.1.0)
bus-cycle κs a r s p = p

pub display-fetches : States of-multiplexer-fetches.Post (λ κs a r s. r ≡ fetches_of a.0 a.1.0)
display-fetches κs a r s p = p

pub sync-levels : States of-multiplexer-levels.Post (λ κs a r s. r ≡ levels_of a.0 a.1.0 a.1.1.0)
sync-levels κs a r s p = p

pub one_bit : (c : Control) (a : ℕ) → is_control_of a ≡ true → OneBitWritten c a
one_bit = one-bit-written

pub every-row-refreshed : SixteenFallsVisitAllRows
every-row-refreshed = all-rows

pub refresh-counter-kept : CounterKeepsItsWidth
refresh-counter-kept = keeps-its-width

pub pictures-walked : Pictures
pictures-walked = pictures

-- ---- demand 3

pub demand-three : Demand3Reached
demand-three = demand3-reached

pub strike-located : States of-locator-locate.Post (λ κs a r s. r ≡ locate_of a.0)
strike-located κs a r s p = p

pub strike-latches : EveryStrike
strike-latches = every-strike

pub cases-settled : Settled
cases-settled = table

pub premises-met : Premises
premises-met = premises

-- ---- what a frame does, counted

pub setting-cut : States of-setting-registers.Post (λ κs a r s. (r ≡ setting_of a.0.now) × (s.0.now ≡ a.0.now))
setting-cut κs a r s p = p

pub setting-started : States of-setting-start.Post (λ κs a r s. (r ≡ started_of a.0.now) × (s.0.now ≡ a.0.now))
setting-started κs a r s p = p

pub setting-by-writes : (given : List ℕ) → ByWrites given
setting-by-writes = by-writes

pub frame-counted : States of-tally-count_frame.Post (λ κs a r s. r ≡ tally_of a.0)
frame-counted κs a r s p = p.0

pub picture-counted : (given : List ℕ) → Counted given
picture-counted = counted

pub report-said : States of-report-report.Post (λ κs a r s. r ≡ outcome_of a.0.now a.1.0.now)
report-said κs a r s p = p.0

pub report-numbered : States of-exports-settings_report.Post (λ κs a r s. r ≡ refusal_of a.0.now a.1.0.now)
report-numbered κs a r s p = p.0

pub report-laid : States of-report-report.Post (λ κs a r s. (s.1.0.now ≡ reported_of a.0.now a.1.0.now) × (s.0.now ≡ a.0.now))
report-laid κs a r s p = p.1

pub report-pictures : (given out : List ℕ) → Reported given out
report-pictures = reported

pub decimal-digits : (n : ℕ) → Digits n
decimal-digits = digits

pub report-text : States of-report_text-tell.Post (λ κs a r s. r ≡ report_text_of a.0.now)
report-text κs a r s p = p.1.0

-- ---- which reads are driven

pub reads-driven : (b : Bench) → Reads b
reads-driven = reads

-- ---- records off the serial line

pub records-call : ByCalls
records-call = by-calls

pub line-fresh : States of-line-fresh.Post (λ κs a r s. r ≡ fresh_line)
line-fresh κs a r s p = p

pub line-accepts : States of-line-accept.Post (λ κs a r s. r ≡ accept_of a.0 a.1.0.now a.1.1.0.now)
line-accepts κs a r s p = p.0

pub line-output : States of-line-accept.Post (λ κs a r s. (s.1.1.0.now ≡ accepted_of a.0 a.1.0.now a.1.1.0.now) × (s.1.0.now ≡ a.1.0.now))
line-output κs a r s p = p.1

pub line-closes : States of-line-close.Post (λ κs a r s. r ≡ close_of a.0)
line-closes κs a r s p = p

pub line-calls : (l : Line) → Calls l
line-calls = calls

pub cuts-together : (l : Line) → Together l
cuts-together = together

pub demand-three-off-the-line : Demand3OffTheLine
demand-three-off-the-line = demand3-off-the-line

pub serial-told : States of-serial_text-tell.Post (λ κs a r s. r ≡ told_of a.0 a.1.0.now)
serial-told κs a r s p = p.1.0

pub serial-text : States of-serial_text-tell.Post (λ κs a r s. r.text ≡ turn_text_of a.0 a.1.0.now)
serial-text κs a r s p = p.1.1.0

pub serial-told-text : (l : Line) (cut : List ℕ) → TextTold l cut
serial-told-text = text-told

pub serial-end : States of-serial_text-tell_end.Post (λ κs a r s. r ≡ last_text_of a.0)
serial-end κs a r s p = p.1

pub serial-printed : PrintsTheListing
serial-printed = prints

pub cuts-listed : States of-cuts_text-is_list.Post (λ κs a r s. r ≡ is_list_of a.0.now)
cuts-listed κs a r s p = p.0

pub cuts-made : States of-cuts_text-make.Post (λ κs a r s. r ≡ made_of a.0 a.1.0.now)
cuts-made κs a r s p = p.1.0

pub cuts-text : States of-cuts_text-make.Post (λ κs a r s. s.1.1.0.now ≡ call_text_of a.0 a.1.0.now)
cuts-text κs a r s p = p.1.1.0

pub cuts-shown : (input : List ℕ) → Shows input
cuts-shown = shows
