-- What the reader asks of all entries of a file, one question after the other (document 02, W6).
use Rattle.std.specs.Prelude.{ℕ, ◌+◌, Bool, true, ◌&&◌, List, [], ◌∷◌, Option, None, Some, eqb, leb, ltb}
use Rattle.setup_file.specs.Setup.{kind_of, register_bytes, control_bytes, most_batch}
use Rattle.setup_file.specs.declared.kind.Kind.{Kind}
use Rattle.setup_file.specs.declared.kind.Kind.TheVariants.{Registers, Control, Batch}
use Rattle.setup_reader.specs.declared.entries.Entry.{Entry}

-- how far up a kind stands; a byte that stands for none is below them all
abbrev pub rank_of : Option Kind → ℕ
rank_of None = 0
rank_of (Some kind) = kind_of kind

-- a kind after another: above it, and no kind that there is not
unfoldable pub follows_of : Option Kind → Option Kind → Bool
follows_of last kind = ltb (rank_of last) (rank_of kind)

-- 14 is not told of kinds that are known, and rising from entry to entry: so none stands there twice
unfoldable pub rising_of : Option Kind → List Entry → Bool
rising_of last [] = true
rising_of last (e ∷ es) = follows_of last e.kind && rising_of e.kind es

-- the lengths that a kind allows: just one of registers and of control bits, any up to the most of a batch, and so of what is no kind
abbrev pub length_fits : Option Kind → ℕ → Bool
length_fits (Some Registers) size = eqb size register_bytes
length_fits (Some Control) size = eqb size control_bytes
length_fits (Some Batch) size = leb size most_batch
length_fits None size = leb size most_batch

-- an entry whose body begins at a place, and whose length is its kind's own
unfoldable pub lies_at : Entry → ℕ → Bool
lies_at e at = eqb e.offset at && length_fits e.kind e.size

-- 15 is not told of bodies without a gap or an overlap: each begins where the one before it ends, the first at a given place, and the
-- last ends the file. Decision: a body of a wrong length, a gap, an overlap, a body past the file's end and bytes behind the last body
-- are all 15.
unfoldable pub placed_of : ℕ → List Entry → ℕ → Bool
placed_of at [] long = eqb at long
placed_of at (e ∷ es) long = lies_at e at && placed_of (at + e.size) es long
