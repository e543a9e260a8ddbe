use Rattle.std.proofs.Common.{◌≡◌, ◌≤◌, ◌*◌, ◌+◌, length}
use Rattle.setup_file.specs.File.{contents_length}
use Rattle.setup_reader.specs.Judged.{placed_of}
use Rattle.setup_reader.specs.Entries.{entries_at}
use Rattle.setup_reader.proofs.Walking.{left}
use Rattle.setup_reader.proofs.contents.Contents.placed.Given as goal

abbrev pub invariant-loop-i : goal.invariant-loop-i
invariant-loop-i l = record {
  near : l.at ≤ 65536 * (l.i + 1);
  same :
      placed_of (contents_length l.self.entries) (entries_at l.self.file.now 0 l.self.entries) (length l.self.file.now)
      ≡ placed_of l.at (left l.self.file.now l.self.entries l.i) (length l.self.file.now);
}
