-- What the listing program prints (document 01, "Records and what comes back").
use Rattle.std.specs.Prelude.{ℕ, ◌+◌, List, [], ◌∷◌, ◌++◌, ltb, length}
use Rattle.basics.specs.Choice.{when◌then◌else◌}
use Rattle.replay.specs.Ending.{ending_number}
use Rattle.replay.specs.Run.{Run}
use Rattle.batch.specs.Fresh.{most_bytes, most_output, fresh_run_of}
use Rattle.text.specs.Speech.{too_long}
use Rattle.answer_lines.specs.Lines.{answer_lines_of}

-- `end`, the ending number and the end of the line
abbrev pub end_of : ℕ → List ℕ
end_of ending = 101 ∷ 110 ∷ 100 ∷ 32 ∷ (48 + ending) ∷ 10 ∷ []

-- a run's answers, each on its line, and its ending
unfoldable pub listed_of : Run → List ℕ
listed_of r = answer_lines_of r.answers ++ end_of (ending_number r.ending)

-- a batch on fresh chips. Its output has room for every answer, so a listing never lacks room.
unfoldable pub batch_listing_of : List ℕ → List ℕ
batch_listing_of batch = listed_of (fresh_run_of batch most_output)

-- more bytes than a batch may have are not replayed at all
unfoldable pub listing_of : List ℕ → List ℕ
listing_of input = when ltb most_bytes (length input) then too_long else batch_listing_of input
