-- Laws of held bytes. Assumes nothing.
use Prim.Native.Nat.{ℕ, ◌≤◌}
use mathlib.Core.Path.{◌≡◌, refl}
use mathlib.Core.List.{List, [], ◌∷◌, ◌++◌}
use native.Mathlib.Omega.{arith}
use lib.Dec.{lit≤}
use lib.ListN.{length}
use Rattle.line.specs.Held.{held_of, holding_of}
use Rattle.line.specs.declared.held.Held.{Held}
use Rattle.line.specs.declared.held.Held.TheVariants.{Nothing, One, Two, Three}

pub held-most : (h : Held) → length (held_of h) ≤ 3
held-most Nothing = lit≤ tt
held-most (One a) = lit≤ tt
held-most (Two a b) = lit≤ tt
held-most (Three a b c) = lit≤ tt

-- what is held, held again
pub kept-held : (h : Held) → holding_of (held_of h) ≡ h
unfolding holding_of
kept-held Nothing = refl
kept-held (One a) = refl
kept-held (Two a b) = refl
kept-held (Three a b c) = refl

-- up to three bytes are held, all of them
pub held_kept : (l : List ℕ) → length l ≤ 3 → held_of (holding_of l) ≡ l
unfolding holding_of
held_kept [] h = refl
held_kept (a ∷ []) h = refl
held_kept (a ∷ b ∷ []) h = refl
held_kept (a ∷ b ∷ c ∷ []) h = refl
held_kept (a ∷ b ∷ c ∷ d ∷ l) h = absurd (omega arith)

-- some bytes held, and then more
pub kept_more : (l m : List ℕ) → holding_of (held_of (holding_of l) ++ m) ≡ holding_of (l ++ m)
unfolding holding_of
kept_more [] m = refl
kept_more (a ∷ []) m = refl
kept_more (a ∷ b ∷ []) m = refl
kept_more (a ∷ b ∷ c ∷ l) m = refl

pub kept-none : holding_of [] ≡ Nothing
unfolding holding_of
kept-none = refl
