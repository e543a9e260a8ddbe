-- What the program `serial` prints at the end of its input (document 02, W3; document 01, "Records and what comes back", for the form).
use Rattle.std.specs.Prelude.{ℕ, ◌+◌, List, [], ◌∷◌, ◌++◌, length}
use Rattle.decimal.specs.Decimal.{most_digits, decimal_of}
use Rattle.line.specs.CallEnding.{call_ending_number}
use Rattle.line.specs.Line.{closing_of}
use Rattle.line.specs.declared.calls.Line.{Line}
use Rattle.text.specs.Lines.{newline}

-- `end` and a space
abbrev pub end_word : List ℕ
end_word = 101 ∷ 110 ∷ 100 ∷ 32 ∷ []

-- the number that closing gives, which has two digits where the line is closed already
unfoldable pub last_text_of : Line → List ℕ
last_text_of l = end_word ++ decimal_of (call_ending_number (closing_of l).ending) ++ newline

-- no such line is longer
abbrev pub last_length : ℕ
last_length = length end_word + most_digits + length newline
