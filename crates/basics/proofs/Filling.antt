-- An array that a loop fills from its front on, place k with f k. Assumes nothing.
use Prim.Native.Nat.{ℕ, ◌+◌, ◌<◌}
use mathlib.Core.Path.{◌≡◌, ap, sym, ◌∙◌}
use mathlib.Core.List.{List, ◌++◌, map, append-nil}
use native.Mathlib.Omega.{arith}
use lib.ListN.{length, set, drop_of_length-le}
use Rattle.basics.specs.Count.{count}
use Rattle.basics.specs.Lay.{laid_at}
use Rattle.basics.proofs.Counting.{each_none, each_last, length-each}
use Rattle.basics.proofs.Laying.{laid_none, laid_next, laid-front}

module _ (t : List ℕ) (f : ℕ → ℕ) where
  -- what the array holds when n places are filled
  abbrev pub filled : ℕ → List ℕ
  filled n = laid_at t 0 (map f (count 0 n))

  pub fill_none : t ≡ filled 0
  fill_none = rw (each_none f) (sym (laid_none t 0))

  pub fill-next : (k x : ℕ) → k < length t → x ≡ f k → set (filled k) k x ≡ filled (k + 1)
  fill-next k x h e =
      rw (e, each_last f k)
      (laid_next t 0 (map f (count 0 k)) (f k) k (omega (arith, length-each f k)) (omega arith))

  pub fill-all : (n : ℕ) → length t ≡ n → filled n ≡ map f (count 0 n)
  fill-all n e =
      laid-front t (map f (count 0 n))
      ∙ ap (λ (l : List ℕ). map f (count 0 n) ++ l) (drop_of_length-le t {i = length (map f (count 0 n))} (omega (arith, length-each f n)))
      ∙ append-nil (map f (count 0 n))
