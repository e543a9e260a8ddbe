-- Places reached by some of the character times that remain. Assumes nothing.
use Prim.Native.Nat.{ℕ, suc, ◌+◌, ◌-◌, ◌≤◌}
use mathlib.Core.Path.{◌≡◌, sym, ap, ◌∙◌}
use native.Mathlib.Omega.{arith}
use Rattle.basics.specs.Iterate.{iterate}
use Rattle.basics.proofs.Iterating.{iterate-none, iterate-add}
use Rattle.raster.specs.Registers.{reg}
use Rattle.raster.specs.declared.registers.Registers.{Registers}
use Rattle.clocks.specs.declared.place.Place.{Place}
use Rattle.clocks.specs.declared.place.Walk.{Walk}
use Rattle.clocks.specs.declared.skip.Skip.{Skip}
use Rattle.clocks.specs.Walk.{stepped_of, on_from, walk_of}
use Rattle.clocks.specs.private.Skip.{Clear, LineTimes, Whole, Reached, columns_on, lines_on}
use Rattle.clocks.proofs.Walking.{walk-place}
use Rattle.clocks.proofs.Columns.{columns-at-once}
use Rattle.clocks.proofs.Lines.{lines-at-once}

-- where some counts meet nothing, fewer meet nothing
fewer : {top end at k : ℕ} (j : ℕ) → j ≤ k → Clear top end at k → Clear top end at j
fewer j l z = record { below = omega arith; clear = λ i m. z.clear i (omega arith) }

pub no_lines : (r : Registers) (p : Place) → Whole r p 0
no_lines r p = record {
  first = λ q. absurd (omega arith);
  plain = λ q. absurd (omega arith);
  lines = record { below = omega arith; clear = λ j l q. omega arith };
}

module _ (r : Registers) (remaining : ℕ) (p : Place) where
  pub reached-none : Reached r remaining p (record { place = p; times = 0 })
  reached-none = record { within = omega arith; there = iterate-none (stepped_of r) p }

  pub reached-columns : (q : Place) (room k : ℕ) → Clear 255 (reg r 0) p.scan.column room → k ≤ room → k ≤ remaining → q ≡ columns_on r p k
      → Reached r remaining p (record { place = q; times = k })
  reached-columns q room k z a b e = record { within = b; there = e ∙ sym (columns-at-once r p k (fewer k a z)) }

  pub reached-lines : (q : Place) (m t : ℕ) → LineTimes (reg r 0) m t → Whole r p m → t ≤ remaining → q ≡ lines_on r p m
      → Reached r remaining p (record { place = q; times = t })
  reached-lines q m t u k l e = record { within = l; there = rw u.are (e ∙ sym (lines-at-once r p m u.wide k)) }

  -- one after the other
  pub reached_both : (a b : Skip) → Reached r remaining p a → Reached r (remaining - a.times) a.place b
      → Reached r remaining p (record { place = b.place; times = a.times + b.times })
  reached_both a b f g =
      let n : a.times + b.times ≡ b.times + a.times = omega arith in
      record { within = omega arith; there = rw (n, iterate-add, ← f.there) g.there }

-- a turn of the walk: what is passed at once, and a step
pub walk-on : (r : Registers) (p : Place) (i remaining : ℕ) (w z : Walk) (s : Skip) → w ≡ walk_of r i p → Reached r remaining w.place s
    → z ≡ on_from r s.place → z ≡ walk_of r (i + (s.times + 1)) p
unfolding walk_of
walk-on r p i remaining w z s e f q =
    let n : i + (s.times + 1) ≡ suc (s.times + i) = omega arith in
    let at : w.place ≡ iterate (stepped_of r) i p = ap (λ (x : Walk). x.place) e ∙ walk-place r p i in
    rw (n, iterate-add, ← at, ← f.there) q
