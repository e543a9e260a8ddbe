-- Bits and bytes of a number, as document 01 writes them: bit 0 is the lowest, and a pair of bytes has its high byte first
-- (section "Records and what comes back").
use Rattle.std.specs.Prelude.{ℕ, ◌+◌, ◌*◌, ◌/◌, ◌%◌, ◌^◌, Bool, true, false, eqb}

-- bit k of x
abbrev pub bit : ℕ → ℕ → Bool
bit k x = eqb (x / 2 ^ k % 2) 1

-- a yes or no as the number that stands for it in an answer: 1 or 0
abbrev pub num : Bool → ℕ
num true = 1
num false = 0

-- the number that two bytes name
abbrev pub word_of : ℕ → ℕ → ℕ
word_of high low = 256 * high + low

-- the high byte of such a number
abbrev pub high_of : ℕ → ℕ
high_of x = x / 256

-- and its low byte
abbrev pub low_of : ℕ → ℕ
low_of x = x % 256
