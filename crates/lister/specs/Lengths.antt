-- How long a listing can be (document 01, "Records and what comes back", the listing program).
use Rattle.std.specs.Prelude.{ℕ, ◌+◌, ◌*◌, length}
use Rattle.batch.specs.Fresh.{most_answers}
use Rattle.answer_lines.specs.Marked.{marked_length}
use Rattle.lister.specs.Listing.{end_of}

-- no listing is longer: a line for each answer, and the last line
abbrev pub listing_length : ℕ
listing_length = marked_length * most_answers + length (end_of 0)
