-- The picture that the display counter walks in each mode (document 01, "The multiplexer", the table of display modes, worked out). A
-- picture has 192 lines. A line is so many fetches, then HS falls and rises, with DA0 low.
use Rattle.std.specs.Prelude.{ℕ, zero, suc, ◌+◌, true, false, List, [], ◌∷◌, ◌++◌, ◌≡◌}
use Rattle.basics.specs.Count.{count}
use Rattle.multiplexer.specs.Chip.{fresh_of, with_control, fetches_of, levels_of}
use Rattle.multiplexer.specs.declared.chip.Multiplexer.{Multiplexer}

-- the fresh multiplexer in a display mode
abbrev pub in_mode : ℕ → Multiplexer
in_mode v = with_control (record { bits = v }) fresh_of

-- the addresses of the next n fetches, each as it stands before its fetch
unfoldable pub addresses : ℕ → Multiplexer → List ℕ
addresses zero m = []
addresses (suc n) m = m.display.b ∷ addresses n (fetches_of m 1)

-- the multiplexer after a line of n bytes
unfoldable pub after_line : ℕ → Multiplexer → Multiplexer
after_line n m = (levels_of (levels_of (fetches_of m n) false false).multiplexer true false).multiplexer

-- so many lines of n bytes, each by its addresses
unfoldable pub lines : ℕ → ℕ → Multiplexer → List (List ℕ)
lines zero n m = []
lines (suc more) n m = addresses n m ∷ lines more n (after_line n m)

-- the same line, so many times over
unfoldable pub repeated : ℕ → List ℕ → List (List ℕ)
repeated zero line = []
repeated (suc times) line = line ∷ repeated times line

-- so many rows of n bytes from address a on, one after the other, each shown so many times
unfoldable pub rows_shown : ℕ → ℕ → ℕ → ℕ → List (List ℕ)
rows_shown zero n times a = []
rows_shown (suc rows) n times a = repeated times (count a n) ++ rows_shown rows n times (a + n)

-- in mode v the 192 lines of the picture are so many rows of n bytes from address 0 on, each shown so many times
abbrev pub Shows : ℕ → ℕ → ℕ → ℕ → Type 0
Shows v rows n times = lines 192 n (in_mode v) ≡ rows_shown rows n times 0

-- lines one after the other, as one run of addresses
unfoldable pub joined : List (List ℕ) → List ℕ
joined [] = []
joined (line ∷ rest) = line ++ joined rest

-- Each mode's picture. The first is the text screen, 16 rows of 32 bytes of which each is shown 12 times; mode 001 shows 64 rows of 16
-- bytes 3 times each, since its 3 divides before B4; mode 110 walks 6,144 bytes, each line its own. proofs/Pictures.antt shows them all.
pub record Pictures : Type 0 where
  pub mode-000 : Shows 0 16 32 12
  pub mode-001 : Shows 1 64 16 3
  pub mode-010 : Shows 2 64 32 3
  pub mode-011 : Shows 3 96 16 2
  pub mode-100 : Shows 4 96 32 2
  pub mode-101 : Shows 5 192 16 1
  pub mode-110 : Shows 6 192 32 1
  pub mode-111 : Shows 7 192 32 1
  pub bytes-110 : joined (lines 192 32 (in_mode 6)) ≡ count 0 6144
