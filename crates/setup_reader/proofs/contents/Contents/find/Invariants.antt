use Rattle.std.proofs.Common.{◌≡◌}
use Rattle.setup_file.specs.Setup.{kind_of}
use Rattle.setup_reader.specs.Read.{place_in}
use Rattle.setup_reader.specs.Entries.{entries_at}
use Rattle.setup_reader.proofs.Walking.{left}
use Rattle.setup_reader.proofs.contents.Contents.find.Given as goal

abbrev pub invariant-loop-i : goal.invariant-loop-i
invariant-loop-i l =
    place_in (kind_of l.kind) (entries_at l.self.file.now 0 l.self.entries) ≡ place_in (kind_of l.kind) (left l.self.file.now l.self.entries l.i)
