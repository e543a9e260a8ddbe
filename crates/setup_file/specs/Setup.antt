-- A customer's setup (document 02, W6).
use Rattle.std.specs.Prelude.{ℕ, List, [], ◌∷◌, Option, None, Some, if◌then◌else◌, eqb}
use Rattle.basics.specs.Bits.{high_of, low_of}
use Rattle.setup_file.specs.declared.kind.Kind.{Kind}
use Rattle.setup_file.specs.declared.kind.Kind.TheVariants.{Registers, Control, Batch}

-- Three parts, each there or not: the bytes of R0 to R15, the sixteen control bits as one number with V0 its lowest bit, and the bytes
-- of a batch.
pub record Setup : Type 0 where
  pub registers : Option (List ℕ)
  pub control : Option ℕ
  pub batch : Option (List ℕ)

-- the number of each kind of part
abbrev pub kind_of : Kind → ℕ
kind_of Registers = 1
kind_of Control = 2
kind_of Batch = 3

-- the kind that a number stands for; no other number stands for one
abbrev pub kind_at : ℕ → Option Kind
kind_at number =
    if eqb number (kind_of Registers) then Some Registers
    else if eqb number (kind_of Control) then Some Control
    else if eqb number (kind_of Batch) then Some Batch
    else None

-- how many bytes the registers and the control bits have, and the most that a batch may have
abbrev pub register_bytes : ℕ
register_bytes = 16

abbrev pub control_bytes : ℕ
control_bytes = 2

abbrev pub most_batch : ℕ
most_batch = 4096

-- the control bits as bytes: the high half first, so that V0 is the lowest bit of the second byte
abbrev pub word_body : Option ℕ → Option (List ℕ)
word_body None = None
word_body (Some bits) = Some (high_of bits ∷ low_of bits ∷ [])

-- the body of each part that is there
abbrev pub body_of : Setup → Kind → Option (List ℕ)
body_of s Registers = s.registers
body_of s Control = word_body s.control
body_of s Batch = s.batch
