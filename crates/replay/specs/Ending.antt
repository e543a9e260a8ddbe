-- Why a replay ended, by number (document 01, "Records and what comes back", the table of refusals).
use Rattle.std.specs.Prelude.{ℕ}
use Rattle.replay.specs.declared.ending.Ending.{Ending}
use Rattle.replay.specs.declared.ending.Ending.TheVariants.{Empty, CutShort, NoRoom}

-- 0 where the batch is empty, 3 where one to three bytes of it are left, 4 where the next answer has no room
abbrev pub ending_number : Ending → ℕ
ending_number Empty = 0
ending_number CutShort = 3
ending_number NoRoom = 4
