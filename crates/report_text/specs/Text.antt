-- What the program `counts` prints (document 02, W1). Decision: the request has numbers and refusals and names no program; one that prints a
-- report in decimal, and a refusal by its number, is what a reader of such numbers can use.
use Rattle.std.specs.Prelude.{ℕ, ◌+◌, ◌*◌, List, [], ◌∷◌, ◌++◌, length}
use Rattle.basics.specs.Choice.{when◌then◌else◌}
use Rattle.decimal.specs.Decimal.{most_digits}
use Rattle.report.specs.Report.{most, row, settings_in, report_of, are_settings}
use Rattle.report_text.specs.Lines.{row_at, line_of, lines_of}

-- `total `, in front of the totals
abbrev pub total_word : List ℕ
total_word = 116 ∷ 111 ∷ 116 ∷ 97 ∷ 108 ∷ 32 ∷ []

-- `refused 10`, all that is said of bytes that are no such settings. There is no other refusal: the program has places enough.
abbrev pub refused_text : List ℕ
refused_text = 114 ∷ 101 ∷ 102 ∷ 117 ∷ 115 ∷ 101 ∷ 100 ∷ 32 ∷ 49 ∷ 48 ∷ 10 ∷ []

-- n rows on their lines, and then the row after them, the totals, on the last line
unfoldable pub table_of : List ℕ → ℕ → List ℕ
table_of places n = lines_of places n ++ total_word ++ line_of (row_at places n)

-- the text for an input
unfoldable pub report_text_of : List ℕ → List ℕ
report_text_of given = when are_settings (length given) then table_of (report_of given) (settings_in given) else refused_text

-- no text is longer: each number of the longest report as long as a number can be, with the byte after it, and the word
abbrev pub text_length : ℕ
text_length = (most_digits + 1) * (row * (most + 1)) + length total_word
