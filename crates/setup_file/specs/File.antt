-- The file of a setup (document 02, W6): its contents, and then the bodies that they tell of.
use Rattle.std.specs.Prelude.{ℕ, ◌+◌, ◌*◌, List, [], ◌∷◌, ◌++◌, length, Option, None, Some}
use Rattle.basics.specs.Bits.{high_of, low_of}
use Rattle.setup_file.specs.declared.kind.Kind.{Kind}
use Rattle.setup_file.specs.declared.kind.Kind.TheVariants.{Registers, Control, Batch}
use Rattle.setup_file.specs.Setup.{Setup, kind_of, body_of}

-- a part as the file holds it: the number of its kind, and its bytes
pub record Piece : Type 0 where
  pub kind : ℕ
  pub body : List ℕ

-- a part that is not there leaves nothing in the file
abbrev pub piece_if : ℕ → Option (List ℕ) → List Piece
piece_if kind None = []
piece_if kind (Some body) = record { kind = kind; body = body } ∷ []

abbrev pub piece_of : Setup → Kind → List Piece
piece_of s kind = piece_if (kind_of kind) (body_of s kind)

-- the parts of a setup in the order of the file, by rising kinds
abbrev pub pieces_of : Setup → List Piece
pieces_of s = piece_of s Registers ++ (piece_of s Control ++ piece_of s Batch)

-- an entry of the contents: the kind, where the body begins, counted from the file's first byte, and how long it is, both high byte first
abbrev pub entry_bytes : ℕ → ℕ → ℕ → List ℕ
entry_bytes kind offset size = kind ∷ high_of offset ∷ low_of offset ∷ high_of size ∷ low_of size ∷ []

-- how many bytes the contents have: one for the number of entries, and five for each
abbrev pub contents_length : ℕ → ℕ
contents_length n = 5 * n + 1

-- the entries of bodies that stand one right after the other, the first at a given place
unfoldable pub entries_from : ℕ → List Piece → List ℕ
entries_from at [] = []
entries_from at (p ∷ ps) = entry_bytes p.kind at (length p.body) ++ entries_from (at + length p.body) ps

-- the bodies, one right after the other
unfoldable pub bodies_of : List Piece → List ℕ
bodies_of [] = []
bodies_of (p ∷ ps) = p.body ++ bodies_of ps

-- the number of entries, the entries, and then the bodies from the end of the contents on; the last of them ends the file
unfoldable pub bytes_of : List Piece → List ℕ
bytes_of ps = length ps ∷ (entries_from (contents_length (length ps)) ps ++ bodies_of ps)

-- the file of a setup
abbrev pub file_of : Setup → List ℕ
file_of s = bytes_of (pieces_of s)
