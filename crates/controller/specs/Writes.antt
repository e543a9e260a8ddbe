-- Register writes (document 01, "Controller registers").
use Rattle.std.specs.Prelude.{ℕ, ◌%◌, ◌^◌, Bool, ltb, get_or, set}
use Rattle.basics.specs.Choice.{when◌then◌else◌}
use Rattle.raster.specs.Registers.{widths}
use Rattle.raster.specs.declared.registers.Registers.{Registers}

-- what register k keeps of a byte: the low bits of its width, which past R15 is none
abbrev pub kept_of : ℕ → ℕ → ℕ
kept_of k v = v % 2 ^ get_or widths k 0

-- RS 0: the address register takes the low five bits
unfoldable pub addressed_of : Registers → ℕ → Registers
addressed_of r v = record { held = r.held; named = v % 32 }

-- RS 1: the register that it names takes the byte; 16 and up take nothing
unfoldable pub stored_of : Registers → ℕ → Registers
stored_of r v =
    when ltb r.named 16 then record { held = set r.held r.named (kept_of r.named v); named = r.named } else r

-- a write, by RS
unfoldable pub written_of : Registers → Bool → ℕ → Registers
written_of r rs v = when rs then stored_of r v else addressed_of r v
