-- Reader and writer undo each other (document 02, W6), and what the parts of a file are.
use Rattle.std.specs.Prelude.{ℕ, ◌+◌, ◌<◌, ◌≤◌, ◌≡◌, List, ◌++◌, Option, None, Some, Ok, Err, length, get_or, take, drop}
use Rattle.setting.specs.Setting.{started_of}
use Rattle.setup_file.specs.Setup.{Setup, register_bytes, body_of}
use Rattle.setup_file.specs.File.{file_of}
use Rattle.setup_file.specs.declared.kind.Kind.{Kind}
use Rattle.setup_file.specs.declared.kind.Kind.TheVariants as kind
use Rattle.setup_file.specs.declared.refusal.Refusal.{Refusal}
use Rattle.setup_file.specs.declared.refusal.Refusal.TheVariants as why
use Rattle.setup_reader.specs.declared.places.Span.{Span}
use Rattle.setup_reader.specs.Read.{opened_of, place_of, shown_of, body_at, read_of}
use Rattle.setup_writer.specs.Write.{written_of, output_of}

-- what holds of a part where it is there
abbrev pub Each : {A : Type 0} → (A → Type 0) → Option A → Type 0
Each P None = Unit {0}
Each P (Some x) = P x

-- a setup of the writer's own arguments: by their types the registers are sixteen and the control bits a number of sixteen bits
pub record Typed (s : Setup) : Type 0 where
  pub registers : Each (λ (b : List ℕ). length b ≡ register_bytes) s.registers
  pub control : Each (λ (bits : ℕ). bits < 65536) s.control

-- a file of bytes, as every file of a call is
abbrev pub Bytes : List ℕ → Type 0
Bytes file = (i : ℕ) → get_or file i 0 < 256

-- A setup, written into an output.
pub record WrittenRead (s : Setup) (output : List ℕ) : Type 0 where
  -- where it is written, reading the bytes that were written gives the setup back
  pub read : (n : ℕ) → Typed s → written_of s (length output) ≡ Ok n → read_of (take n (output_of output s)) ≡ Ok s
  -- and the bytes past the file are as they were
  pub past : (n : ℕ) → written_of s (length output) ≡ Ok n → drop n (output_of output s) ≡ drop n output
  -- where it is refused, all of them are
  pub kept : (r : Refusal) → written_of s (length output) ≡ Err r → output_of output s ≡ output
  -- and never for its kinds: a setup cannot be handed over with a wrong one
  pub kinds : written_of s (length output) ≡ Err why.Kinds → ⊥

-- A file, read as a setup, and that setup written into an output.
pub record ReadWritten (file : List ℕ) (s : Setup) (output : List ℕ) : Type 0 where
  -- the file is, byte for byte, the one that the setup has
  pub same : Bytes file → read_of file ≡ Ok s → file_of s ≡ file
  -- with room for it, it is written so, and the bytes past it are as they were
  pub written : Bytes file → read_of file ≡ Ok s → length file ≤ length output → written_of s (length output) ≡ Ok (length file)
  pub laid : Bytes file → read_of file ≡ Ok s → length file ≤ length output → output_of output s ≡ file ++ drop (length file) output
  -- without, it is refused for the room alone
  pub full : Bytes file → read_of file ≡ Ok s → length output < length file → written_of s (length output) ≡ Err why.Room

-- The parts of a file, as the calls show them.
pub record PartsShown (file : List ℕ) (s : Setup) : Type 0 where
  -- of a file that is read as a setup each part is the setup's own, there or not
  pub body : Bytes file → read_of file ≡ Ok s → (k : Kind) → body_at file (place_of (opened_of file) k) ≡ body_of s k
  -- each lies in the file
  pub lies : (k : Kind) (span : Span) → place_of (opened_of file) k ≡ Some span → span.start + span.size ≤ length file
  -- its registers are a setting whose bytes the controller that it starts holds as they stand
  pub held : (b : List ℕ) → read_of file ≡ Ok s → s.registers ≡ Some b → shown_of file (place_of (opened_of file) kind.Registers) ≡ b
  pub starts : (b : List ℕ) → read_of file ≡ Ok s → s.registers ≡ Some b → (started_of b).regs ≡ record { held = b; named = 15 }
  -- and a file is never refused for the room
  pub room : opened_of file ≡ Err why.Room → ⊥
