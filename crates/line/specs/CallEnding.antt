-- How a call on a line ends, by number (document 01, the table of refusals; document 02, W3).
use Rattle.std.specs.Prelude.{ℕ}
use Rattle.line.specs.declared.ending.CallEnding.{CallEnding}
use Rattle.line.specs.declared.ending.CallEnding.TheVariants.{Done, CutShort, NoRoom, Closed}

-- 0 where the call did all, 3 for a record that was begun and never became whole, 4 where an answer has no room, 12 on a closed line
abbrev pub call_ending_number : CallEnding → ℕ
call_ending_number Done = 0
call_ending_number CutShort = 3
call_ending_number NoRoom = 4
call_ending_number Closed = 12
