-- The entries of a file, one after the other. Assumes nothing.
use Prim.Native.Nat.{ℕ, zero, suc, ◌+◌, ◌-◌, ◌<◌, ◌≤◌}
use mathlib.Core.Bool.{Bool, true, false, ◌&&◌, false≢true}
use mathlib.Core.Path.{◌≡◌, refl, ap}
use mathlib.Core.List.{List, [], ◌∷◌}
use native.Mathlib.Numerals.{add-one}
use native.Mathlib.Omega.{arith}
use lib.ListN.{length}
use Rattle.setup_reader.specs.declared.entries.Entry.{Entry}
use Rattle.setup_reader.specs.Entries.{entry_at, entries_at}

-- as many as they are
pub length-entries : (file : List ℕ) (i n : ℕ) → length (entries_at file i n) ≡ n
unfolding entries_at
length-entries file i zero = refl
length-entries file i (suc n) = ap suc (length-entries file (suc i) n)

module _ (file : List ℕ) (n : ℕ) where
  -- those of n entries that are left from entry i on
  abbrev pub left : ℕ → List Entry
  left i = entries_at file i (n - i)

  -- all of them, before the first turn
  pub left-all : entries_at file 0 n ≡ left 0
  left-all = let k : n - 0 ≡ n = omega arith in rw k

  -- the first of them, and the others
  pub left-first : (i : ℕ) {e : Entry} → e ≡ entry_at file i → i < n → left i ≡ e ∷ left (i + 1)
  unfolding entries_at
  left-first i is h = let k : n - i ≡ suc (n - (i + 1)) = omega arith in rw (k, is, add-one i)

  -- none at the end
  pub left-none : (i : ℕ) → n ≤ i → left i ≡ []
  unfolding entries_at
  left-none i h = let k : n - i ≡ 0 = omega arith in rw k

-- two tests that hold together
pub both : (t u : Bool) → (t && u) ≡ true → (t ≡ true) × (u ≡ true)
both true u q = (refl, q)
both false u q = absurd (false≢true q)
