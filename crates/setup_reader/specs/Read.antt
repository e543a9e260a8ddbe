-- Reading a file (document 02, W6): the setup that it holds, or the first refusal that is its due.
use Rattle.std.specs.Prelude.{ℕ, ◌+◌, min, Bool, true, false, List, [], ◌∷◌, Option, None, Some, Result, Ok, Err, eqb, length, get_or, take, drop}
use Rattle.basics.specs.Bits.{word_of}
use Rattle.basics.specs.Choice.{when◌then◌else◌}
use Rattle.setting.specs.Setting.{clean_of}
use Rattle.setup_file.specs.Setup.{Setup, kind_of}
use Rattle.setup_file.specs.File.{contents_length}
use Rattle.setup_file.specs.declared.kind.Kind.{Kind}
use Rattle.setup_file.specs.declared.kind.Kind.TheVariants.{Registers, Control, Batch}
use Rattle.setup_file.specs.declared.refusal.Refusal.{Refusal}
use Rattle.setup_file.specs.declared.refusal.Refusal.TheVariants as why
use Rattle.setup_reader.specs.declared.entries.Entry.{Entry}
use Rattle.setup_reader.specs.declared.places.Span.{Span}
use Rattle.setup_reader.specs.declared.places.Places.{Places}
use Rattle.setup_reader.specs.Entries.{told_of, whole_of, entries_at}
use Rattle.setup_reader.specs.Judged.{rank_of, rising_of, placed_of}

-- the place that the first entry of a kind tells of
unfoldable pub place_in : ℕ → List Entry → Option Span
place_in kind [] = None
place_in kind (e ∷ es) = when eqb (rank_of e.kind) kind then Some (record { start = e.offset; size = e.size }) else place_in kind es

-- the places of all parts
unfoldable pub places_in : List Entry → Places
places_in es = record {
  registers = place_in (kind_of Registers) es;
  control = place_in (kind_of Control) es;
  batch = place_in (kind_of Batch) es;
}

-- the bytes at a place of a file; no place has none
abbrev pub shown_of : List ℕ → Option Span → List ℕ
shown_of file None = []
shown_of file (Some span) = take span.size (drop span.start file)

-- 16 is not told of a file whose registers have no forbidden bit. One without registers has no such bit, and neither control bits nor a
-- batch can have one.
unfoldable pub clean_in : List ℕ → List Entry → Bool
clean_in file es = clean_of (shown_of file (place_in (kind_of Registers) es))

-- the answer to a question: none where it holds, else the refusal that is due
abbrev pub asked : Bool → Refusal → Result (Unit {0}) Refusal
asked true r = Ok tt
asked false r = Err r

-- a file of n entries: the questions in their order, each of all entries before the next is asked
unfoldable pub judged_of : List ℕ → ℕ → Result Places Refusal
judged_of file n =
    when rising_of None (entries_at file 0 n) then (
    when placed_of (contents_length n) (entries_at file 0 n) (length file) then (
    when clean_in file (entries_at file 0 n) then Ok (places_in (entries_at file 0 n)) else Err why.Bits
    ) else Err why.Places
    ) else Err why.Kinds

-- what a file is read as
unfoldable pub opened_of : List ℕ → Result Places Refusal
opened_of file = when whole_of file then judged_of file (told_of file) else Err why.Contents

-- the place of one part
abbrev pub place_for : Places → Kind → Option Span
place_for p Registers = p.registers
place_for p Control = p.control
place_for p Batch = p.batch

-- in what a file is read as: one that is refused has no part anywhere
abbrev pub place_of : Result Places Refusal → Kind → Option Span
place_of (Ok p) kind = place_for p kind
place_of (Err r) kind = None

-- Where in the file's own memory the bytes at a place begin. Decision: a part that is not there is the empty part at the file's end, as
-- the unread rest of a batch is when nothing is left.
abbrev pub begin_of : List ℕ → Option Span → ℕ
begin_of file None = length file
begin_of file (Some span) = min span.start (length file)

abbrev pub shown_at : ℕ × ℕ → List ℕ → Option Span → ℕ × ℕ
shown_at memory file place = (memory.0, memory.1 + begin_of file place)

-- the part at a place, there or not
abbrev pub body_at : List ℕ → Option Span → Option (List ℕ)
body_at file None = None
body_at file (Some span) = Some (take span.size (drop span.start file))

-- two bytes as the control bits that they are, V0 the lowest bit of the second
abbrev pub word_at : Option (List ℕ) → Option ℕ
word_at None = None
word_at (Some body) = Some (word_of (get_or body 0 0) (get_or body 1 0))

-- the setup whose bodies stand at these places
abbrev pub setup_at : List ℕ → Places → Setup
setup_at file p = record {
  registers = body_at file p.registers;
  control = word_at (body_at file p.control);
  batch = body_at file p.batch;
}

-- the setup that a file holds, or why it holds none
abbrev pub answer_of : List ℕ → Result Places Refusal → Result Setup Refusal
answer_of file (Ok p) = Ok (setup_at file p)
answer_of file (Err r) = Err r

abbrev pub read_of : List ℕ → Result Setup Refusal
read_of file = answer_of file (opened_of file)
