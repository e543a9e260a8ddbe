-- Pieces of a file, one list after the other. Assumes nothing.
use Prim.Native.Nat.{ℕ, ◌+◌, ◌*◌}
use mathlib.Core.Path.{◌≡◌, refl, sym, ap, ◌∙◌}
use mathlib.Core.List.{List, [], ◌∷◌, ◌++◌, append_assoc}
use native.Mathlib.Omega.{arith}
use lib.ListN.{length, length-append}
use Rattle.setup_file.specs.File.{Piece, entry_bytes, entries_from, bodies_of}

-- the entries of two lists: those of the second begin where the bodies of the first end
pub entries-append : (at : ℕ) (ps qs : List Piece) → entries_from at (ps ++ qs) ≡ entries_from at ps ++ entries_from (at + length (bodies_of ps)) qs
unfolding entries_from bodies_of
entries-append at [] qs = let same : at + 0 ≡ at = omega arith in rw same
entries-append at (p ∷ ps) qs =
    let size = length p.body in
    let far : at + length (p.body ++ bodies_of ps) ≡ at + size + length (bodies_of ps) = simp length-append (omega arith) in
    rw far (ap (λ (l : List ℕ). entry_bytes p.kind at size ++ l) (entries-append (at + size) ps qs))

-- and their bodies
pub bodies-append : (ps qs : List Piece) → bodies_of (ps ++ qs) ≡ bodies_of ps ++ bodies_of qs
unfolding bodies_of
bodies-append [] qs = refl
bodies-append (p ∷ ps) qs = ap (λ (l : List ℕ). p.body ++ l) (bodies-append ps qs) ∙ sym (append_assoc p.body (bodies_of ps) (bodies_of qs))

-- five bytes for each entry
pub length-entries : (at : ℕ) (ps : List Piece) → length (entries_from at ps) ≡ 5 * length ps
unfolding entries_from
length-entries at [] = refl
length-entries at (p ∷ ps) = omega (arith, length-entries (at + length p.body) ps)
