-- Writing the file of a setup (document 02, W6).
use Rattle.std.specs.Prelude.{ℕ, Bool, true, List, [], leb, ltb, length, Option, None, Some, Result, Ok, Err, option_copied}
use Rattle.basics.specs.Choice.{when◌then◌else◌}
use Rattle.basics.specs.Lay.{laid_at}
use Rattle.setting.specs.Setting.{clean_of}
use Rattle.setup_file.specs.Setup.{Setup, most_batch}
use Rattle.setup_file.specs.File.{pieces_of, file_of}
use Rattle.setup_file.specs.declared.setup.Setup as handed
use Rattle.setup_file.specs.declared.refusal.Refusal.{Refusal}
use Rattle.setup_file.specs.declared.refusal.Refusal.TheVariants as why

-- A setup as it is handed over, each part there or not; its batch is lent.
abbrev pub given_of : handed.Setup → Setup
given_of setup = record { registers = setup.registers; control = setup.control; batch = option_copied setup.batch }

-- the bytes of a part, none where it is not there
abbrev pub bytes_in : Option (List ℕ) → List ℕ
bytes_in None = []
bytes_in (Some bytes) = bytes

-- no forbidden bit in the registers, where they are there
abbrev pub clean_part : Option (List ℕ) → Bool
clean_part None = true
clean_part (Some bytes) = clean_of bytes

-- the writer's questions in their order: 13 without a part, 15 for a batch that is too long, 16 for a forbidden bit, and only then 17 for a
-- file that is longer than the room
unfoldable pub judged_of : ℕ → ℕ → Bool → ℕ → ℕ → Result ℕ Refusal
judged_of parts batch clean long room =
    when ltb 0 parts then (
    when leb batch most_batch then (
    when clean then (when leb long room then Ok long else Err why.Room) else Err why.Bits
    ) else Err why.Places
    ) else Err why.Contents

-- the writer's answer: how long the file is, or a refusal
abbrev pub written_of : Setup → ℕ → Result ℕ Refusal
written_of s room = judged_of (length (pieces_of s)) (length (bytes_in s.batch)) (clean_part s.registers) (length (file_of s)) room

-- the output afterwards: the file at its front and the bytes past it as they were; all as it was where the setup is refused
abbrev pub laid_by : List ℕ → Setup → Result ℕ Refusal → List ℕ
laid_by output s (Ok n) = laid_at output 0 (file_of s)
laid_by output s (Err r) = output

abbrev pub output_of : List ℕ → Setup → List ℕ
output_of output s = laid_by output s (written_of s (length output))
