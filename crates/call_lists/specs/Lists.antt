-- Lists of calls, written as bytes, and what the program `cuts` shows of them (document 02, W3). proofs/Lists.antt shows it.
use Rattle.std.specs.Prelude.{ℕ, ◌<◌, ◌≤◌, List, [], ◌∷◌, ◌++◌, ◌⊎◌, ◌≡◌, length, replicate}
use Rattle.basics.specs.Bits.{word_of}
use Rattle.batch.specs.Fresh.{most_bytes}
use Rattle.line.specs.Line.{fresh_line, outcome_of, closing_of}
use Rattle.line.specs.declared.calls.Line.{Line}
use Rattle.rooms_text.specs.Rooms.{room_of}
use Rattle.cuts_text.specs.Made.{close_text_of, cut_text_of}
use Rattle.cuts_text.specs.Whole.{no_call, cuts_text_of}

-- a cut to be handed over: the two bytes of its room, the two of its length, and its bytes, which are as many
pub record Handed : Type 0 where
  pub room-high : ℕ
  pub room-low : ℕ
  pub long-high : ℕ
  pub long-low : ℕ
  pub bytes : List ℕ
  pub long : word_of long-high long-low ≡ length bytes

-- a call: a cut handed over, or closing
pub data Ask : Type 0 where
  hand : Handed → Ask
  shut : Ask

-- its bytes in a list
abbrev pub bytes_in : Ask → List ℕ
bytes_in (hand h) = 1 ∷ h.room-high ∷ h.room-low ∷ h.long-high ∷ h.long-low ∷ h.bytes
bytes_in shut = 2 ∷ []

-- a list of calls, in their order
unfoldable pub list_of : List Ask → List ℕ
list_of [] = []
list_of (a ∷ asks) = bytes_in a ++ list_of asks

-- the room of a cut
abbrev pub room_in : Handed → ℕ
room_in h = room_of h.room-high h.room-low

-- the line after a call, and its text: all bytes of a cut's output are $A5 before
abbrev pub line_after : Line → Ask → Line
line_after l (hand h) = (outcome_of l h.bytes (room_in h)).line
line_after l shut = (closing_of l).line

abbrev pub text_after : Line → Ask → List ℕ
text_after l (hand h) = cut_text_of l h.bytes (replicate (room_in h) 0xA5)
text_after l shut = close_text_of l

-- the texts of all calls, each on the line that the one before it left
unfoldable pub texts_of : Line → List Ask → List ℕ
texts_of l [] = []
texts_of l (a ∷ asks) = text_after l a ++ texts_of (line_after l a) asks

-- every input
pub record Shows (input : List ℕ) : Type 0 where
  -- a list of calls that is not too long: its calls, in order, on a fresh line
  pub calls : (asks : List Ask) → input ≡ list_of asks → length input ≤ most_bytes → cuts_text_of input ≡ texts_of fresh_line asks
  -- what is no list of calls, or is too long, is refused whole
  pub refused : ((asks : List Ask) → input ≡ list_of asks → ⊥) ⊎ (most_bytes < length input) → cuts_text_of input ≡ no_call
