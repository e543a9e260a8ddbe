-- The file of a setup part by part: where each body goes, and the bytes of its contents.
use Rattle.std.specs.Prelude.{ℕ, ◌+◌, List, [], ◌∷◌, ◌++◌, length, Option, None, Some}
use Rattle.setup_file.specs.Setup.{Setup, kind_of, word_body}
use Rattle.setup_file.specs.File.{entry_bytes, contents_length}
use Rattle.setup_file.specs.declared.kind.Kind.TheVariants.{Registers, Control, Batch}
use Rattle.setup_writer.specs.Write.{bytes_in}

-- one for a part that is there, and none for one that is not
abbrev pub number_in : {A : Type 0} → Option A → ℕ
number_in None = 0
number_in (Some part) = 1

-- how many parts there are
abbrev pub count_of : Setup → ℕ
count_of s = number_in s.registers + (number_in s.control + number_in s.batch)

-- the first body goes behind the contents, and each other one behind the one before it
abbrev pub registers_at : Setup → ℕ
registers_at s = contents_length (count_of s)

abbrev pub control_at : Setup → ℕ
control_at s = registers_at s + length (bytes_in s.registers)

abbrev pub batch_at : Setup → ℕ
batch_at s = control_at s + length (bytes_in (word_body s.control))

-- the entry of a part that is there, and no bytes without it
abbrev pub entry_in : ℕ → ℕ → Option (List ℕ) → List ℕ
entry_in kind at None = []
entry_in kind at (Some body) = entry_bytes kind at (length body)

-- the contents
abbrev pub contents_of : Setup → List ℕ
contents_of s =
    (count_of s ∷ [])
    ++ (entry_in (kind_of Registers) (registers_at s) s.registers
    ++ (entry_in (kind_of Control) (control_at s) (word_body s.control)
    ++ entry_in (kind_of Batch) (batch_at s) s.batch))

-- the bodies, each there or not
abbrev pub bodies_in : Setup → List ℕ
bodies_in s = bytes_in s.registers ++ (bytes_in (word_body s.control) ++ bytes_in s.batch)
