-- The contents of a file as they are read (document 02, W6).
use Rattle.std.specs.Prelude.{ℕ, zero, suc, ◌+◌, ◌*◌, Bool, ◌&&◌, List, [], ◌∷◌, leb, ltb, length, get_or}
use Rattle.basics.specs.Bits.{word_of}
use Rattle.setup_file.specs.Setup.{kind_at}
use Rattle.setup_file.specs.File.{contents_length}
use Rattle.setup_reader.specs.declared.entries.Entry.{Entry}

-- the number of entries that a file tells of, in its first byte; one without a byte tells of none
abbrev pub told_of : List ℕ → ℕ
told_of file = get_or file 0 0

-- 13 is not told of a file that tells of one to three entries, none of them cut short
unfoldable pub whole_of : List ℕ → Bool
whole_of file = ltb 0 (told_of file) && (leb (told_of file) 3 && leb (contents_length (told_of file)) (length file))

-- entry i, counted from 0: a kind, if its byte stands for one, and then an offset and a length, both high byte first
unfoldable pub entry_at : List ℕ → ℕ → Entry
entry_at file i = record {
  kind = kind_at (get_or file (5 * i + 1) 0);
  offset = word_of (get_or file (5 * i + 2) 0) (get_or file (5 * i + 3) 0);
  size = word_of (get_or file (5 * i + 4) 0) (get_or file (5 * i + 5) 0);
}

-- n entries from entry i on
unfoldable pub entries_at : List ℕ → ℕ → ℕ → List Entry
entries_at file i zero = []
entries_at file i (suc n) = entry_at file i ∷ entries_at file (suc i) n
