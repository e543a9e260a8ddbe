-- The entries that a file was made with are the entries that it is read with. Assumes nothing.
use Prim.Native.Nat.{ℕ, suc, ◌+◌, ◌*◌}
use mathlib.Core.Bool.{Bool, true, false, ◌&&◌}
use mathlib.Core.Path.{◌≡◌, refl, sym, ap}
use mathlib.Core.List.{List, [], ◌∷◌, ◌++◌}
use native.Mathlib.Omega.{arith}
use lib.Dec.{eqb}
use lib.ListN.{length, get_or, take, drop, length-append}
use lib.Seq.{get_or-drop, drop-drop, take_at, drop_at}
use borrow.Author.Tests.{eq-eqb}
use Rattle.std.specs.Prelude.{Option, None, Some}
use Rattle.basics.specs.Bits.{word_of, high_of, low_of}
use Rattle.basics.specs.Choice.{when◌then◌else◌}
use Rattle.setup_file.specs.Setup.{kind_at}
use Rattle.setup_file.specs.File.{Piece, entry_bytes, entries_from, bodies_of}
use Rattle.setup_reader.specs.declared.entries.Entry.{Entry}
use Rattle.setup_reader.specs.declared.places.Span.{Span}
use Rattle.setup_reader.specs.Entries.{entry_at, entries_at}
use Rattle.setup_reader.specs.Judged.{rank_of, length_fits, lies_at, placed_of}
use Rattle.setup_reader.specs.Read.{place_in, body_at}
use Rattle.setup_reader.proofs.Walking.{both}

-- the entries of bodies that stand one after the other
unfoldable pub made_from : ℕ → List Piece → List Entry
made_from at [] = []
made_from at (p ∷ ps) = record { kind = kind_at p.kind; offset = at; size = length p.body } ∷ made_from (at + length p.body) ps

-- a number of its two bytes
pub word_bytes : (x : ℕ) → word_of (high_of x) (low_of x) ≡ x
word_bytes x = omega arith

-- what stands so far behind a place
behind : (l : List ℕ) (at k i : ℕ) → i ≡ at + k → get_or l i 0 ≡ get_or (drop at l) k 0
behind l at k i e = rw e (sym (get_or-drop at l k 0))

-- the bytes of an entry are read as that entry
entry_read : (file : List ℕ) (i kind at size : ℕ) (rest : List ℕ) → drop (5 * i + 1) file ≡ entry_bytes kind at size ++ rest
    → entry_at file i ≡ record { kind = kind_at kind; offset = at; size = size }
unfolding entry_at
entry_read file i kind at size rest e =
    rw (
      behind file (5 * i + 1) 0 (5 * i + 1) (omega arith),
      behind file (5 * i + 1) 1 (5 * i + 2) (omega arith),
      behind file (5 * i + 1) 2 (5 * i + 3) (omega arith),
      behind file (5 * i + 1) 3 (5 * i + 4) (omega arith),
      behind file (5 * i + 1) 4 (5 * i + 5) (omega arith),
      e,
      word_bytes at,
      word_bytes size,
    )

next-entry : (file : List ℕ) (i : ℕ) (w rest : List ℕ) → length w ≡ 5 → drop (5 * i + 1) file ≡ w ++ rest → drop (5 * suc i + 1) file ≡ rest
next-entry file i w rest h e =
    let far : 5 * suc i + 1 ≡ 5 * i + 1 + 5 = omega arith in
    rw (far, ← drop-drop 5 (5 * i + 1) file, e) (drop_at w rest 5 h)

pub entries-read : (file : List ℕ) (i at : ℕ) (ps : List Piece) (rest : List ℕ) → drop (5 * i + 1) file ≡ entries_from at ps ++ rest
    → entries_at file i (length ps) ≡ made_from at ps
unfolding entries_from entries_at made_from
entries-read file i at [] rest e = refl
entries-read file i at (p ∷ ps) rest e =
    let size = length p.body in
    let others = entries_from (at + size) ps ++ rest in
    rw (entry_read file i p.kind at size others e, entries-read file (suc i) (at + size) ps rest (next-entry file i (entry_bytes p.kind at size) others refl e))

-- lengths that their kinds allow
unfoldable pub all_fit : List Piece → Bool
all_fit [] = true
all_fit (p ∷ ps) = length_fits (kind_at p.kind) (length p.body) && all_fit ps

-- bodies that fit and stand one after the other up to the end are placed
pub placed-made : (at : ℕ) (ps : List Piece) (long : ℕ) → all_fit ps ≡ true → at + length (bodies_of ps) ≡ long → placed_of at (made_from at ps) long ≡ true
unfolding all_fit bodies_of placed_of made_from lies_at
placed-made at [] long fit e = eq-eqb at long (omega arith)
placed-made at (p ∷ ps) long fit e =
    let size = length p.body in
    let f = both (length_fits (kind_at p.kind) size) (all_fit ps) fit in
    let end : at + size + length (bodies_of ps) ≡ long = omega (arith, length-append p.body (bodies_of ps)) in
    rw (eq-eqb at at refl, f.0, placed-made (at + size) ps long f.1 end)

-- the body of the first piece of a kind
unfoldable pub body_in : ℕ → List Piece → Option (List ℕ)
body_in kind [] = None
body_in kind (p ∷ ps) = when eqb (rank_of (kind_at p.kind)) kind then Some p.body else body_in kind ps

-- of two places the one that a test chooses has the body that the test chooses
chosen : (file : List ℕ) (t : Bool) (x y : Option Span) (b d : Option (List ℕ)) → body_at file x ≡ b → body_at file y ≡ d
    → body_at file (when t then x else y) ≡ when t then b else d
unfolding when◌then◌else◌
chosen file true x y b d p q = p
chosen file false x y b d p q = q

-- is what stands at the place that is told for the kind
pub body-made : (file : List ℕ) (kind at : ℕ) (ps : List Piece) → drop at file ≡ bodies_of ps → body_at file (place_in kind (made_from at ps)) ≡ body_in kind ps
unfolding bodies_of place_in made_from body_in
body-made file kind at [] e = refl
body-made file kind at (p ∷ ps) e =
    let size = length p.body in
    let here : take size (drop at file) ≡ p.body = rw e (take_at p.body (bodies_of ps) size refl) in
    let next : drop (at + size) file ≡ bodies_of ps = rw (← drop-drop size at file, e) (drop_at p.body (bodies_of ps) size refl) in
    chosen file (eqb (rank_of (kind_at p.kind)) kind) _ _ _ _ (ap Some here) (body-made file kind (at + size) ps next)
