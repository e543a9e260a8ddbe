use Rattle.std.proofs.Common.{◌≡◌, None}
use Rattle.setup_reader.specs.Judged.{rising_of}
use Rattle.setup_reader.specs.Entries.{entries_at}
use Rattle.setup_reader.proofs.Walking.{left}
use Rattle.setup_reader.proofs.contents.Contents.rising.Given as goal

abbrev pub invariant-loop-i : goal.invariant-loop-i
invariant-loop-i l =
    rising_of None (entries_at l.self.file.now 0 l.self.entries) ≡ rising_of l.last (left l.self.file.now l.self.entries l.i)
