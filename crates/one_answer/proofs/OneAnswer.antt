-- One answer: a law for every public function, over its real contract (`Post`, which Rattle makes of the source's clauses), with all that
-- a caller sees of a call. `tools/check-contracts --write` writes this file from the signatures, and tools/check-contracts holds it to them.
-- Assumes nothing.
use Rattle.one_answer.specs.OneAnswer.{OneAnswer, ◌beside◌}
use Rattle.std.specs.Prelude.{ℕ}
use mir.Val.{Fits}
use mir.Syntax.{w64}
use Rattle.basics.proofs.Alike.{one_answer}
use Rattle.one_answer.proofs.Alike.{◌and◌}
use Rattle.basics.proofs.number.Reads as BasicsNumber
use Rattle.basics.proofs.flag.Reads as BasicsFlag
use Rattle.basics.proofs.word.Reads as BasicsWord
use Rattle.basics.proofs.high.Reads as BasicsHigh
use Rattle.basics.proofs.low.Reads as BasicsLow
use Rattle.basics.proofs.has_room.Reads as BasicsHasRoom
use Rattle.basics.proofs.put.Reads as BasicsPut
use Rattle.basics.proofs.width.Width.counted.Reads as BasicsCounted
use Rattle.raster.proofs.registers.Registers.start.Reads as RasterStart
use Rattle.raster.proofs.registers.Registers.by_rows.Reads as RasterByRows
use Rattle.raster.proofs.registers.Registers.display_delayed.Reads as RasterDisplayDelayed
use Rattle.raster.proofs.registers.Registers.cursor_delayed.Reads as RasterCursorDelayed
use Rattle.raster.proofs.scan.Scan.top.Reads as RasterTop
use Rattle.raster.proofs.scan.Scan.next.Reads as RasterNext
use Rattle.raster.proofs.sync.Sync.arrive.Reads as RasterArrive
use Rattle.facts.proofs.facts.Facts.at.Reads as FactsAt
use Rattle.facts.proofs.picture.Reads as FactsPicture
use Rattle.facts.proofs.ma.Reads as FactsMa
use Rattle.facts.proofs.latch.Reads as FactsLatch
use Rattle.facts.proofs.cursor.Reads as FactsCursor
use Rattle.pen.proofs.pen.Pen.none.Reads as PenNone
use Rattle.pen.proofs.pen.Pen.struck.Reads as PenStruck
use Rattle.pen.proofs.pen.Pen.emptied.Reads as PenEmptied
use Rattle.pen.proofs.pen.Pen.holds.Reads as PenHolds
use Rattle.pen.proofs.pen.Pen.newest.Reads as PenNewest
use Rattle.pen.proofs.pen.Pen.unread.Reads as PenUnread
use Rattle.clocks.proofs.place.Place.walk.Reads as ClocksWalk
use Rattle.controller.proofs.pins.Outputs.bytes.Reads as ControllerBytes
use Rattle.controller.proofs.chip.Controller.fresh.Reads as ControllerFresh
use Rattle.controller.proofs.chip.Controller.reset.Reads as ControllerReset
use Rattle.controller.proofs.chip.Controller.write.Reads as ControllerWrite
use Rattle.controller.proofs.chip.Controller.clock.Reads as ControllerClock
use Rattle.controller.proofs.chip.Controller.strike.Reads as ControllerStrike
use Rattle.controller.proofs.pin.Reads as ControllerPin
use Rattle.controller.proofs.chip.Controller.outputs.Reads as ControllerOutputs
use Rattle.controller.proofs.chip.Controller.read.Reads as ControllerRead
use Rattle.controller.proofs.kept.Reads as ControllerKept
use Rattle.locator.proofs.answer.U8FromUnlocated.from.Reads as LocatorFrom
use Rattle.locator.proofs.locate.Reads as LocatorLocate
use Rattle.setting.proofs.is_clean.Reads as SettingIsClean
use Rattle.setting.proofs.registers.Reads as SettingRegisters
use Rattle.setting.proofs.start.Reads as SettingStart
use Rattle.tally.proofs.count_frame.Reads as TallyCountFrame
use Rattle.tally.proofs.tally.Tally.none.Reads as TallyNone
use Rattle.report.proofs.settings.U8FromRefusal.from.Reads as ReportFrom
use Rattle.report.proofs.report.Reads as ReportReport
use Rattle.control.proofs.bits.Control.clear.Reads as ControlClear
use Rattle.control.proofs.bits.Control.mode.Reads as ControlMode
use Rattle.control.proofs.bits.Control.f.Reads as ControlF
use Rattle.control.proofs.bits.Control.p.Reads as ControlP
use Rattle.control.proofs.bits.Control.r0.Reads as ControlR0
use Rattle.control.proofs.bits.Control.r1.Reads as ControlR1
use Rattle.control.proofs.bits.Control.m0.Reads as ControlM0
use Rattle.control.proofs.bits.Control.m1.Reads as ControlM1
use Rattle.control.proofs.bits.Control.ty.Reads as ControlTy
use Rattle.control.proofs.is_control_write.Reads as ControlIsControlWrite
use Rattle.control.proofs.bits.Control.written.Reads as ControlWritten
use Rattle.control.proofs.bits.Control.after.Reads as ControlAfter
use Rattle.display.proofs.counter.Display.start.Reads as DisplayStart
use Rattle.display.proofs.counter.Display.fetches.Reads as DisplayFetches
use Rattle.display.proofs.counter.Display.fall.Reads as DisplayFall
use Rattle.display.proofs.counter.Display.preload.Reads as DisplayPreload
use Rattle.display.proofs.counter.Display.with_b0.Reads as DisplayWithB0
use Rattle.display.proofs.modes.Mode.numbered.Reads as DisplayNumbered
use Rattle.multiplexer.proofs.bus.Cycle.flags.Reads as MultiplexerFlags
use Rattle.multiplexer.proofs.bus.Cycle.told_cell.Reads as MultiplexerToldCell
use Rattle.multiplexer.proofs.chip.Multiplexer.fresh.Reads as MultiplexerFresh
use Rattle.multiplexer.proofs.chip.Multiplexer.reset.Reads as MultiplexerReset
use Rattle.multiplexer.proofs.chip.Multiplexer.bus.Reads as MultiplexerBus
use Rattle.multiplexer.proofs.chip.Multiplexer.fetches.Reads as MultiplexerFetches
use Rattle.multiplexer.proofs.chip.Multiplexer.shown.Reads as MultiplexerShown
use Rattle.multiplexer.proofs.chip.Multiplexer.levels.Reads as MultiplexerLevels
use Rattle.multiplexer.proofs.edge.U8FromEdge.from.Reads as MultiplexerFrom
use Rattle.record.proofs.kinds.U8FromRefusal.from.Reads as RecordU8FromRefusalFrom
use Rattle.record.proofs.number.Reads as RecordNumber
use Rattle.record.proofs.decode.Reads as RecordDecode
use Rattle.record.proofs.sent.RecordFromArrayU84.from.Reads as RecordRecordFromArrayU84From
use Rattle.answer.proofs.Answer.done.Reads as AnswerDone
use Rattle.answer.proofs.Answer.plain.Reads as AnswerPlain
use Rattle.answer.proofs.Answer.bytes.Reads as AnswerBytes
use Rattle.alone.proofs.on_write.Reads as AloneOnWrite
use Rattle.alone.proofs.on_read.Reads as AloneOnRead
use Rattle.alone.proofs.on_clocks.Reads as AloneOnClocks
use Rattle.alone.proofs.on_strike.Reads as AloneOnStrike
use Rattle.alone.proofs.on_reset.Reads as AloneOnReset
use Rattle.alone.proofs.write.Reads as AloneWrite
use Rattle.alone.proofs.clock.Reads as AloneClock
use Rattle.alone.proofs.strike.Reads as AloneStrike
use Rattle.text.proofs.put_hex.Reads as TextPutHex
use Rattle.text.proofs.put_lines.Reads as TextPutLines
use Rattle.text.proofs.owned.Text.new.Reads as TextNew
use Rattle.text.proofs.owned.Text.of.Reads as TextOf
use Rattle.text.proofs.owned.Text.room_left.Reads as TextRoomLeft
use Rattle.text.proofs.owned.Text.put.Reads as TextPut
use Rattle.text.proofs.owned.Text.put_hex.Reads as TextTextPutHex
use Rattle.text.proofs.owned.Text.put_lines.Reads as TextTextPutLines
use Rattle.text.proofs.owned.Text.clear.Reads as TextClear
use Rattle.text.proofs.owned.TextAsSliceU8.as_slice.Reads as TextAsSlice
use Rattle.text.proofs.said.Reads as TextSaid
use Rattle.decimal.proofs.put_decimal.Reads as DecimalPutDecimal
use Rattle.decimal.proofs.add_decimal.Reads as DecimalAddDecimal
use Rattle.bodies.proofs.bus_answer.Reads as BodiesBusAnswer
use Rattle.bodies.proofs.shown_answer.Reads as BodiesShownAnswer
use Rattle.bodies.proofs.levels_answer.Reads as BodiesLevelsAnswer
use Rattle.bodies.proofs.located_answer.Reads as BodiesLocatedAnswer
use Rattle.bodies.proofs.told.ToldCycleFromCycle.from.Reads as BodiesToldCycleFromCycleFrom
use Rattle.bodies.proofs.told.ToldLevelsFromLevelled.from.Reads as BodiesToldLevelsFromLevelledFrom
use Rattle.bench.proofs.step.Bench.fresh.Reads as BenchFresh
use Rattle.bench.proofs.step.Bench.step.Reads as BenchStep
use Rattle.replay.proofs.ending.U8FromEnding.from.Reads as ReplayFrom
use Rattle.replay.proofs.unread_rest.Reads as ReplayUnreadRest
use Rattle.replay.proofs.replay.Reads as ReplayReplay
use Rattle.batch.proofs.replay_fresh.Reads as BatchReplayFresh
use Rattle.answer_lines.proofs.put_answers.Reads as AnswerLinesPutAnswers
use Rattle.answer_lines.proofs.add_answers.Reads as AnswerLinesAddAnswers
use Rattle.lister.proofs.list.Reads as ListerList
use Rattle.rooms_text.proofs.room_of.Reads as RoomsTextRoomOf
use Rattle.rooms_text.proofs.counts.Reads as RoomsTextCounts
use Rattle.rooms_text.proofs.room.Reads as RoomsTextRoom
use Rattle.report_text.proofs.tell.Reads as ReportTextTell
use Rattle.line.proofs.calls.Line.fresh.Reads as LineFresh
use Rattle.line.proofs.calls.Line.accept.Reads as LineAccept
use Rattle.line.proofs.calls.Line.close.Reads as LineClose
use Rattle.line.proofs.ending.U8FromCallEnding.from.Reads as LineFrom
use Rattle.serial_text.proofs.tell_end.Reads as SerialTextTellEnd
use Rattle.serial_text.proofs.space.Reads as SerialTextSpace
use Rattle.serial_text.proofs.tell.Reads as SerialTextTell
use Rattle.cuts_text.proofs.refusal.Reads as CutsTextRefusal
use Rattle.cuts_text.proofs.is_list.Reads as CutsTextIsList
use Rattle.cuts_text.proofs.make.Reads as CutsTextMake
use Rattle.setup_file.proofs.kind.U8FromKind.from.Reads as SetupFileU8FromKindFrom
use Rattle.setup_file.proofs.kind.KindTryFromU8.try_from.Reads as SetupFileTryFrom
use Rattle.setup_file.proofs.refusal.U8FromRefusal.from.Reads as SetupFileU8FromRefusalFrom
use Rattle.setup_reader.proofs.part.Reads as SetupReaderPart
use Rattle.setup_reader.proofs.open.Reads as SetupReaderOpen
use Rattle.setup_writer.proofs.write.Reads as SetupWriterWrite
use Rattle.exports.proofs.controller_fresh.Reads as ExportsControllerFresh
use Rattle.exports.proofs.controller_reset.Reads as ExportsControllerReset
use Rattle.exports.proofs.controller_write.Reads as ExportsControllerWrite
use Rattle.exports.proofs.controller_read.Reads as ExportsControllerRead
use Rattle.exports.proofs.controller_outputs.Reads as ExportsControllerOutputs
use Rattle.exports.proofs.controller_clock.Reads as ExportsControllerClock
use Rattle.exports.proofs.controller_strike.Reads as ExportsControllerStrike
use Rattle.exports.proofs.controller_newest.Reads as ExportsControllerNewest
use Rattle.exports.proofs.controller_locate.Reads as ExportsControllerLocate
use Rattle.exports.proofs.display_fetches.Reads as ExportsDisplayFetches
use Rattle.exports.proofs.settings_report.Reads as ExportsSettingsReport

pub basics-number : OneAnswer BasicsNumber.Post (λ κs r s. r)
basics-number κs a x y s t p q = one_answer p q

pub basics-flag : OneAnswer BasicsFlag.Post (λ κs r s. r)
basics-flag κs a x y s t p q = one_answer p.0 q.0

pub basics-word : OneAnswer BasicsWord.Post (λ κs r s. r)
basics-word κs a x y s t p q = one_answer p q

pub basics-high : OneAnswer BasicsHigh.Post (λ κs r s. r)
basics-high κs a x y s t p q = one_answer p q

pub basics-low : OneAnswer BasicsLow.Post (λ κs r s. r)
basics-low κs a x y s t p q = one_answer p q

pub basics-has-room : OneAnswer BasicsHasRoom.Post (λ κs r s. r)
basics-has-room κs a x y s t p q = one_answer p q

pub basics-put : OneAnswer BasicsPut.Post (λ κs r s. r beside s.0.now beside s.1.1.0.now)
basics-put κs a x y s t p q = one_answer p.0 q.0 and one_answer p.1.0 q.1.0 and one_answer p.1.1.0 q.1.1.0

pub basics-counted : OneAnswer BasicsCounted.Post (λ κs r s. r)
basics-counted κs a x y s t p q = one_answer p q

pub raster-start : OneAnswer RasterStart.Post (λ κs r s. r)
raster-start κs a x y s t p q = one_answer p q

pub raster-by-rows : OneAnswer RasterByRows.Post (λ κs r s. r)
raster-by-rows κs a x y s t p q = one_answer p q

pub raster-display-delayed : OneAnswer RasterDisplayDelayed.Post (λ κs r s. r)
raster-display-delayed κs a x y s t p q = one_answer p q

pub raster-cursor-delayed : OneAnswer RasterCursorDelayed.Post (λ κs r s. r)
raster-cursor-delayed κs a x y s t p q = one_answer p q

pub raster-top : OneAnswer RasterTop.Post (λ κs r s. r)
raster-top κs a x y s t p q = one_answer p q

pub raster-next : OneAnswer RasterNext.Post (λ κs r s. r)
raster-next κs a x y s t p q = one_answer p q

pub raster-arrive : OneAnswer RasterArrive.Post (λ κs r s. r)
raster-arrive κs a x y s t p q = one_answer p q

pub facts-at : OneAnswer FactsAt.Post (λ κs r s. r)
facts-at κs a x y s t p q = one_answer p q

pub facts-picture : OneAnswer FactsPicture.Post (λ κs r s. r)
facts-picture κs a x y s t p q = one_answer p q

pub facts-ma : OneAnswer FactsMa.Post (λ κs r s. r)
facts-ma κs a x y s t p q = one_answer p q

pub facts-latch : OneAnswer FactsLatch.Post (λ κs r s. r)
facts-latch κs a x y s t p q = one_answer p q

pub facts-cursor : OneAnswer FactsCursor.Post (λ κs r s. r)
facts-cursor κs a x y s t p q = one_answer p q

pub pen-none : OneAnswer PenNone.Post (λ κs r s. r)
pen-none κs a x y s t p q = one_answer p q

pub pen-struck : OneAnswer PenStruck.Post (λ κs r s. r)
pen-struck κs a x y s t p q = one_answer p q

pub pen-emptied : OneAnswer PenEmptied.Post (λ κs r s. r)
pen-emptied κs a x y s t p q = one_answer p q

pub pen-holds : OneAnswer PenHolds.Post (λ κs r s. r)
pen-holds κs a x y s t p q = one_answer p q

pub pen-newest : OneAnswer PenNewest.Post (λ κs r s. r)
pen-newest κs a x y s t p q = one_answer p q

pub pen-unread : OneAnswer PenUnread.Post (λ κs r s. r)
pen-unread κs a x y s t p q = one_answer p q

pub clocks-walk : OneAnswer ClocksWalk.Post (λ κs r s. r)
clocks-walk κs a x y s t p q = one_answer p q

pub controller-bytes : OneAnswer ControllerBytes.Post (λ κs r s. r)
controller-bytes κs a x y s t p q = one_answer p q

pub controller-fresh : OneAnswer ControllerFresh.Post (λ κs r s. r)
controller-fresh κs a x y s t p q = one_answer p q

pub controller-reset : OneAnswer ControllerReset.Post (λ κs r s. r)
controller-reset κs a x y s t p q = one_answer p q

pub controller-write : OneAnswer ControllerWrite.Post (λ κs r s. r)
controller-write κs a x y s t p q = one_answer p q

pub controller-clock : OneAnswer ControllerClock.Post (λ κs r s. r)
controller-clock κs a x y s t p q = one_answer p q

pub controller-strike : OneAnswer ControllerStrike.Post (λ κs r s. r)
controller-strike κs a x y s t p q = one_answer p q

pub controller-pin : OneAnswer ControllerPin.Post (λ κs r s. r)
controller-pin κs a x y s t p q = one_answer p q

pub controller-outputs : OneAnswer ControllerOutputs.Post (λ κs r s. r)
controller-outputs κs a x y s t p q = one_answer p q

pub controller-read : OneAnswer ControllerRead.Post (λ κs r s. r)
controller-read κs a x y s t p q = one_answer p q

pub controller-kept : OneAnswer ControllerKept.Post (λ κs r s. r)
controller-kept κs a x y s t p q = one_answer p q

pub locator-from : OneAnswer LocatorFrom.Post (λ κs r s. r)
locator-from κs a x y s t p q = one_answer p q

pub locator-locate : OneAnswer LocatorLocate.Post (λ κs r s. r)
locator-locate κs a x y s t p q = one_answer p q

pub setting-is-clean : OneAnswer SettingIsClean.Post (λ κs r s. r beside s.0.now)
setting-is-clean κs a x y s t p q = one_answer p.0 q.0 and one_answer p.1 q.1

pub setting-registers : OneAnswer SettingRegisters.Post (λ κs r s. r beside s.0.now)
setting-registers κs a x y s t p q = one_answer p.0 q.0 and one_answer p.1 q.1

pub setting-start : OneAnswer SettingStart.Post (λ κs r s. r beside s.0.now)
setting-start κs a x y s t p q = one_answer p.0 q.0 and one_answer p.1 q.1

pub tally-count-frame : OneAnswer TallyCountFrame.Post (λ κs r s. r)
tally-count-frame κs a x y s t p q = one_answer p.0 q.0

pub tally-none : OneAnswer TallyNone.Post (λ κs r s. r)
tally-none κs a x y s t p q = one_answer p q

pub report-from : OneAnswer ReportFrom.Post (λ κs r s. r)
report-from κs a x y s t p q = one_answer p q

pub report-report : OneAnswer ReportReport.Post (λ κs r s. r beside s.1.0.now beside s.0.now)
report-report κs a x y s t p q = one_answer p.0 q.0 and one_answer p.1.0 q.1.0 and one_answer p.1.1 q.1.1

pub control-clear : OneAnswer ControlClear.Post (λ κs r s. r)
control-clear κs a x y s t p q = one_answer p q

pub control-mode : OneAnswer ControlMode.Post (λ κs r s. r)
control-mode κs a x y s t p q = one_answer p q

pub control-f : OneAnswer ControlF.Post (λ κs r s. r)
control-f κs a x y s t p q = one_answer p q

pub control-p : OneAnswer ControlP.Post (λ κs r s. r)
control-p κs a x y s t p q = one_answer p q

pub control-r0 : OneAnswer ControlR0.Post (λ κs r s. r)
control-r0 κs a x y s t p q = one_answer p q

pub control-r1 : OneAnswer ControlR1.Post (λ κs r s. r)
control-r1 κs a x y s t p q = one_answer p q

pub control-m0 : OneAnswer ControlM0.Post (λ κs r s. r)
control-m0 κs a x y s t p q = one_answer p q

pub control-m1 : OneAnswer ControlM1.Post (λ κs r s. r)
control-m1 κs a x y s t p q = one_answer p q

pub control-ty : OneAnswer ControlTy.Post (λ κs r s. r)
control-ty κs a x y s t p q = one_answer p q

pub control-is-control-write : OneAnswer ControlIsControlWrite.Post (λ κs r s. r)
control-is-control-write κs a x y s t p q = one_answer p q

pub control-written : OneAnswer ControlWritten.Post (λ κs r s. r)
control-written κs a x y s t p q = one_answer p q

pub control-after : OneAnswer ControlAfter.Post (λ κs r s. r)
control-after κs a x y s t p q = one_answer p q

pub display-start : OneAnswer DisplayStart.Post (λ κs r s. r)
display-start κs a x y s t p q = one_answer p q

pub display-fetches : OneAnswer DisplayFetches.Post (λ κs r s. r)
display-fetches κs a x y s t p q = one_answer p q

pub display-fall : OneAnswer DisplayFall.Post (λ κs r s. r)
display-fall κs a x y s t p q = one_answer p q

pub display-preload : OneAnswer DisplayPreload.Post (λ κs r s. r)
display-preload κs a x y s t p q = one_answer p q

pub display-with-b0 : OneAnswer DisplayWithB0.Post (λ κs r s. r)
display-with-b0 κs a x y s t p q = one_answer p q

pub display-numbered : OneAnswer DisplayNumbered.Post (λ κs r s. r)
display-numbered κs a x y s t p q = one_answer p q

pub multiplexer-flags : OneAnswer MultiplexerFlags.Post (λ κs r s. r)
multiplexer-flags κs a x y s t p q = one_answer p q

pub multiplexer-told-cell : OneAnswer MultiplexerToldCell.Post (λ κs r s. r)
multiplexer-told-cell κs a x y s t p q = one_answer p q

pub multiplexer-fresh : OneAnswer MultiplexerFresh.Post (λ κs r s. r)
multiplexer-fresh κs a x y s t p q = one_answer p q

pub multiplexer-reset : OneAnswer MultiplexerReset.Post (λ κs r s. r)
multiplexer-reset κs a x y s t p q = one_answer p q

pub multiplexer-bus : OneAnswer MultiplexerBus.Post (λ κs r s. r)
multiplexer-bus κs a x y s t p q = one_answer p q

pub multiplexer-fetches : OneAnswer MultiplexerFetches.Post (λ κs r s. r)
multiplexer-fetches κs a x y s t p q = one_answer p q

pub multiplexer-shown : OneAnswer MultiplexerShown.Post (λ κs r s. r)
multiplexer-shown κs a x y s t p q = one_answer p q

pub multiplexer-levels : OneAnswer MultiplexerLevels.Post (λ κs r s. r)
multiplexer-levels κs a x y s t p q = one_answer p q

pub multiplexer-from : OneAnswer MultiplexerFrom.Post (λ κs r s. r)
multiplexer-from κs a x y s t p q = one_answer p q

pub record-U8FromRefusal-from : OneAnswer RecordU8FromRefusalFrom.Post (λ κs r s. r)
record-U8FromRefusal-from κs a x y s t p q = one_answer p q

pub record-number : OneAnswer RecordNumber.Post (λ κs r s. r)
record-number κs a x y s t p q = one_answer p q

pub record-decode : OneAnswer RecordDecode.Post (λ κs r s. r)
record-decode κs a x y s t p q = one_answer p q

pub record-RecordFromArrayU84-from : OneAnswer RecordRecordFromArrayU84From.Post (λ κs r s. r)
record-RecordFromArrayU84-from κs a x y s t p q = one_answer p q

pub answer-done : OneAnswer AnswerDone.Post (λ κs r s. r)
answer-done κs a x y s t p q = one_answer p q

pub answer-plain : OneAnswer AnswerPlain.Post (λ κs r s. r)
answer-plain κs a x y s t p q = one_answer p q

pub answer-bytes : OneAnswer AnswerBytes.Post (λ κs r s. r)
answer-bytes κs a x y s t p q = one_answer p q

pub alone-on-write : OneAnswer AloneOnWrite.Post (λ κs r s. r)
alone-on-write κs a x y s t p q = one_answer p q

pub alone-on-read : OneAnswer AloneOnRead.Post (λ κs r s. r)
alone-on-read κs a x y s t p q = one_answer p q

pub alone-on-clocks : OneAnswer AloneOnClocks.Post (λ κs r s. r)
alone-on-clocks κs a x y s t p q = one_answer p q

pub alone-on-strike : OneAnswer AloneOnStrike.Post (λ κs r s. r)
alone-on-strike κs a x y s t p q = one_answer p q

pub alone-on-reset : OneAnswer AloneOnReset.Post (λ κs r s. r)
alone-on-reset κs a x y s t p q = one_answer p q

pub alone-write : OneAnswer AloneWrite.Post (λ κs r s. r)
alone-write κs a x y s t p q = one_answer p q

pub alone-clock : OneAnswer AloneClock.Post (λ κs r s. r)
alone-clock κs a x y s t p q = one_answer p q

pub alone-strike : OneAnswer AloneStrike.Post (λ κs r s. r)
alone-strike κs a x y s t p q = one_answer p q

pub text-put-hex : OneAnswer TextPutHex.Post (λ κs r s. r beside s.0.now beside s.1.1.0.now)
text-put-hex κs a x y s t p q = one_answer p.0 q.0 and one_answer p.1.0 q.1.0 and one_answer p.1.1.0 q.1.1.0

pub text-put-lines : OneAnswer TextPutLines.Post (λ κs r s. r beside s.0.now beside s.1.1.0.now)
text-put-lines κs a x y s t p q = one_answer p.0 q.0 and one_answer p.1.0 q.1.0 and one_answer p.1.1.0 q.1.1.0

pub text-new : (N : ℕ) (fits-N : Fits w64 N) → OneAnswer (TextNew.Post N fits-N) (λ κs r s. r)
text-new N fits-N κs a x y s t p q = one_answer p q

pub text-of : (N : ℕ) (fits-N : Fits w64 N) → OneAnswer (TextOf.Post N fits-N) (λ κs r s. r beside s.0.now)
text-of N fits-N κs a x y s t p q = one_answer p.0 q.0 and one_answer p.1 q.1

pub text-room-left : (N : ℕ) (fits-N : Fits w64 N) → OneAnswer (TextRoomLeft.Post N fits-N) (λ κs r s. r beside s.0.now)
text-room-left N fits-N κs a x y s t p q = one_answer p.0 q.0 and one_answer p.1.1 q.1.1

pub text-put : (N : ℕ) (fits-N : Fits w64 N) → OneAnswer (TextPut.Post N fits-N) (λ κs r s. s.0.now beside s.1.0.now)
text-put N fits-N κs a x y s t p q = one_answer p.0 q.0 and one_answer p.1 q.1

pub text-Text-put-hex : (N : ℕ) (fits-N : Fits w64 N) → OneAnswer (TextTextPutHex.Post N fits-N) (λ κs r s. s.0.now beside s.1.0.now)
text-Text-put-hex N fits-N κs a x y s t p q = one_answer p.0 q.0 and one_answer p.1 q.1

pub text-Text-put-lines : (N : ℕ) (fits-N : Fits w64 N) → OneAnswer (TextTextPutLines.Post N fits-N) (λ κs r s. s.0.now beside s.1.0.now)
text-Text-put-lines N fits-N κs a x y s t p q = one_answer p.0 q.0 and one_answer p.1 q.1

pub text-clear : (N : ℕ) (fits-N : Fits w64 N) → OneAnswer (TextClear.Post N fits-N) (λ κs r s. s.0.now)
text-clear N fits-N κs a x y s t p q = one_answer p q

pub text-as-slice : (N : ℕ) (fits-N : Fits w64 N) → OneAnswer (TextAsSlice.Post N fits-N) (λ κs r s. r.now beside r.ref_ptr beside s.0.now)
text-as-slice N fits-N κs a x y s t p q = one_answer p.0 q.0 and one_answer p.1.0 q.1.0 and one_answer p.1.1 q.1.1

pub text-said : OneAnswer TextSaid.Post (λ κs r s. r.now beside r.ref_ptr beside s.1.0.now)
text-said κs a x y s t p q = one_answer p.0 q.0 and one_answer p.1.0 q.1.0 and one_answer p.1.1 q.1.1

pub decimal-put-decimal : OneAnswer DecimalPutDecimal.Post (λ κs r s. r beside s.0.now)
decimal-put-decimal κs a x y s t p q = one_answer p.0 q.0 and one_answer p.1.0 q.1.0

pub decimal-add-decimal : (N : ℕ) (fits-N : Fits w64 N) → OneAnswer (DecimalAddDecimal.Post N fits-N) (λ κs r s. s.0.now)
decimal-add-decimal N fits-N κs a x y s t p q = one_answer p q

pub bodies-bus-answer : OneAnswer BodiesBusAnswer.Post (λ κs r s. r)
bodies-bus-answer κs a x y s t p q = one_answer p q

pub bodies-shown-answer : OneAnswer BodiesShownAnswer.Post (λ κs r s. r)
bodies-shown-answer κs a x y s t p q = one_answer p q

pub bodies-levels-answer : OneAnswer BodiesLevelsAnswer.Post (λ κs r s. r)
bodies-levels-answer κs a x y s t p q = one_answer p q

pub bodies-located-answer : OneAnswer BodiesLocatedAnswer.Post (λ κs r s. r)
bodies-located-answer κs a x y s t p q = one_answer p q

pub bodies-ToldCycleFromCycle-from : OneAnswer BodiesToldCycleFromCycleFrom.Post (λ κs r s. r)
bodies-ToldCycleFromCycle-from κs a x y s t p q = one_answer p q

pub bodies-ToldLevelsFromLevelled-from : OneAnswer BodiesToldLevelsFromLevelledFrom.Post (λ κs r s. r)
bodies-ToldLevelsFromLevelled-from κs a x y s t p q = one_answer p q

pub bench-fresh : OneAnswer BenchFresh.Post (λ κs r s. r)
bench-fresh κs a x y s t p q = one_answer p q

pub bench-step : OneAnswer BenchStep.Post (λ κs r s. r)
bench-step κs a x y s t p q = one_answer p q

pub replay-from : OneAnswer ReplayFrom.Post (λ κs r s. r)
replay-from κs a x y s t p q = one_answer p q

pub replay-unread-rest : OneAnswer ReplayUnreadRest.Post (λ κs r s. r.now beside r.ref_ptr beside s.0.now)
replay-unread-rest κs a x y s t p q = one_answer p.0 q.0 and one_answer p.1.0 q.1.0 and one_answer p.1.1 q.1.1

pub replay-replay : OneAnswer ReplayReplay.Post (λ κs r s. r beside s.1.0.now beside s.0.now)
replay-replay κs a x y s t p q = one_answer p.0 q.0 and one_answer p.1.0 q.1.0 and one_answer p.1.1 q.1.1

pub batch-replay-fresh : OneAnswer BatchReplayFresh.Post (λ κs r s. r beside s.1.0.now beside s.0.now)
batch-replay-fresh κs a x y s t p q = one_answer p.0 q.0 and one_answer p.1.0 q.1.0 and one_answer p.1.1.0 q.1.1.0

pub answer-lines-put-answers : OneAnswer AnswerLinesPutAnswers.Post (λ κs r s. r beside s.0.now beside s.1.1.0.now)
answer-lines-put-answers κs a x y s t p q = one_answer p.0 q.0 and one_answer p.1.0 q.1.0 and one_answer p.1.1.0 q.1.1.0

pub answer-lines-add-answers : (N : ℕ) (fits-N : Fits w64 N) → OneAnswer (AnswerLinesAddAnswers.Post N fits-N) (λ κs r s. s.0.now beside s.1.0.now)
answer-lines-add-answers N fits-N κs a x y s t p q = one_answer p.0 q.0 and one_answer p.1 q.1

pub lister-list : OneAnswer ListerList.Post (λ κs r s. r beside s.0.now)
lister-list κs a x y s t p q = one_answer p.1.0 q.1.0 and one_answer p.1.1 q.1.1

pub rooms-text-room-of : OneAnswer RoomsTextRoomOf.Post (λ κs r s. r)
rooms-text-room-of κs a x y s t p q = one_answer p.0 q.0

pub rooms-text-counts : OneAnswer RoomsTextCounts.Post (λ κs r s. r)
rooms-text-counts κs a x y s t p q = one_answer p q

pub rooms-text-room : OneAnswer RoomsTextRoom.Post (λ κs r s. r beside s.0.now)
rooms-text-room κs a x y s t p q = one_answer p.1.0 q.1.0 and one_answer p.1.1 q.1.1

pub report-text-tell : OneAnswer ReportTextTell.Post (λ κs r s. r beside s.0.now)
report-text-tell κs a x y s t p q = one_answer p.1.0 q.1.0 and one_answer p.1.1 q.1.1

pub line-fresh : OneAnswer LineFresh.Post (λ κs r s. r)
line-fresh κs a x y s t p q = one_answer p q

pub line-accept : OneAnswer LineAccept.Post (λ κs r s. r beside s.1.1.0.now beside s.1.0.now)
line-accept κs a x y s t p q = one_answer p.0 q.0 and one_answer p.1.0 q.1.0 and one_answer p.1.1 q.1.1

pub line-close : OneAnswer LineClose.Post (λ κs r s. r)
line-close κs a x y s t p q = one_answer p q

pub line-from : OneAnswer LineFrom.Post (λ κs r s. r)
line-from κs a x y s t p q = one_answer p q

pub serial-text-tell-end : OneAnswer SerialTextTellEnd.Post (λ κs r s. r)
serial-text-tell-end κs a x y s t p q = one_answer p.1 q.1

pub serial-text-space : OneAnswer SerialTextSpace.Post (λ κs r s. r)
serial-text-space κs a x y s t p q = one_answer p q

pub serial-text-tell : OneAnswer SerialTextTell.Post (λ κs r s. r beside s.1.0.now)
serial-text-tell κs a x y s t p q = one_answer p.1.0 q.1.0 and one_answer p.1.1.1 q.1.1.1

pub cuts-text-refusal : OneAnswer CutsTextRefusal.Post (λ κs r s. r)
cuts-text-refusal κs a x y s t p q = one_answer p q

pub cuts-text-is-list : OneAnswer CutsTextIsList.Post (λ κs r s. r beside s.0.now)
cuts-text-is-list κs a x y s t p q = one_answer p.0 q.0 and one_answer p.1 q.1

pub cuts-text-make : OneAnswer CutsTextMake.Post (λ κs r s. r beside s.1.1.0.now beside s.1.0.now)
cuts-text-make κs a x y s t p q = one_answer p.1.0 q.1.0 and one_answer p.1.1.0 q.1.1.0 and one_answer p.1.1.1.0 q.1.1.1.0

pub setup-file-U8FromKind-from : OneAnswer SetupFileU8FromKindFrom.Post (λ κs r s. r)
setup-file-U8FromKind-from κs a x y s t p q = one_answer p q

pub setup-file-try-from : OneAnswer SetupFileTryFrom.Post (λ κs r s. r)
setup-file-try-from κs a x y s t p q = one_answer p q

pub setup-file-U8FromRefusal-from : OneAnswer SetupFileU8FromRefusalFrom.Post (λ κs r s. r)
setup-file-U8FromRefusal-from κs a x y s t p q = one_answer p q

pub setup-reader-part : OneAnswer SetupReaderPart.Post (λ κs r s. r.now beside r.ref_ptr beside s.0.now)
setup-reader-part κs a x y s t p q = one_answer p.0 q.0 and one_answer p.1.0 q.1.0 and one_answer p.1.1 q.1.1

pub setup-reader-open : OneAnswer SetupReaderOpen.Post (λ κs r s. r beside s.0.now)
setup-reader-open κs a x y s t p q = one_answer p.0 q.0 and one_answer p.1 q.1

pub setup-writer-write : OneAnswer SetupWriterWrite.Post (λ κs r s. r beside s.0.now beside s.1.0.now)
setup-writer-write κs a x y s t p q = one_answer p.0 q.0 and one_answer p.1.0 q.1.0 and one_answer p.1.1 q.1.1

pub exports-controller-fresh : OneAnswer ExportsControllerFresh.Post (λ κs r s. r)
exports-controller-fresh κs a x y s t p q = one_answer p q

pub exports-controller-reset : OneAnswer ExportsControllerReset.Post (λ κs r s. r)
exports-controller-reset κs a x y s t p q = one_answer p q

pub exports-controller-write : OneAnswer ExportsControllerWrite.Post (λ κs r s. r)
exports-controller-write κs a x y s t p q = one_answer p q

pub exports-controller-read : OneAnswer ExportsControllerRead.Post (λ κs r s. r)
exports-controller-read κs a x y s t p q = one_answer p q

pub exports-controller-outputs : OneAnswer ExportsControllerOutputs.Post (λ κs r s. r)
exports-controller-outputs κs a x y s t p q = one_answer p q

pub exports-controller-clock : OneAnswer ExportsControllerClock.Post (λ κs r s. r)
exports-controller-clock κs a x y s t p q = one_answer p q

pub exports-controller-strike : OneAnswer ExportsControllerStrike.Post (λ κs r s. r)
exports-controller-strike κs a x y s t p q = one_answer p q

pub exports-controller-newest : OneAnswer ExportsControllerNewest.Post (λ κs r s. r)
exports-controller-newest κs a x y s t p q = one_answer p q

pub exports-controller-locate : OneAnswer ExportsControllerLocate.Post (λ κs r s. r)
exports-controller-locate κs a x y s t p q = one_answer p q

pub exports-display-fetches : OneAnswer ExportsDisplayFetches.Post (λ κs r s. r)
exports-display-fetches κs a x y s t p q = one_answer p q

pub exports-settings-report : OneAnswer ExportsSettingsReport.Post (λ κs r s. r beside s.1.0.now beside s.0.now)
exports-settings-report κs a x y s t p q = one_answer p.0 q.0 and one_answer p.1.0 q.1.0 and one_answer p.1.1 q.1.1
