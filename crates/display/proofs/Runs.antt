-- Fetches in a run are one addition. Assumes nothing.
use Rattle.std.proofs.Common.{◌≡◌, ℕ, suc, ◌+◌, ◌%◌, ◌<◌, ◌≤◌, sym, ap, ◌∙◌, arith, lt-ltb}
use Rattle.basics.specs.Choice.{when◌then◌else◌}
use Rattle.basics.specs.Iterate.{iterate}
use Rattle.basics.proofs.Iterating.{iterate-run, iterate-add}
use Rattle.display.specs.declared.counter.Display.{Display}
use Rattle.display.specs.declared.modes.Mode.{Mode}
use Rattle.display.specs.Counter.{with_b, fetch_of, fetches_of}
use Rattle.display.specs.private.Run.{Run}

module _ (m : Mode) (d : Display) where
  one_more : (k : ℕ) → d.b % 16 + k < 15 → fetch_of m (with_b (d.b + k) d) ≡ with_b (d.b + suc k) d
  unfolding fetch_of when◌then◌else◌
  one_more k l =
      let e : d.b + k + 1 ≡ d.b + suc k = omega arith in
      rw (lt-ltb ((d.b + k) % 16) 15 (omega arith)) (ap (λ (b : ℕ). with_b b d) e)

  none : with_b (d.b + 0) d ≡ d
  none = let e : d.b + 0 ≡ d.b = omega arith in ap (λ (b : ℕ). with_b b d) e

  -- k fetches at once
  pub fetches-at-once : (k : ℕ) → d.b % 16 + k ≤ 15 → fetches_of m k d ≡ with_b (d.b + k) d
  fetches-at-once k l =
      ap (iterate (fetch_of m) k) (sym none)
      ∙ iterate-run (fetch_of m) (λ (j : ℕ). with_b (d.b + j) d) k (λ j q. one_more j (omega arith))

-- a turn of the loop: a run, and a fetch
pub fetches-on : (m : Mode) (d : Display) (i remaining k : ℕ) (e f g : Display) → e ≡ fetches_of m i d → Run e.b remaining k
    → f ≡ with_b (e.b + k) e → g ≡ fetch_of m f → g ≡ fetches_of m (i + (k + 1)) d
unfolding iterate
fetches-on m d i remaining k e f g p q h z =
    let n : i + (k + 1) ≡ suc (k + i) = omega arith in
    rw (n, iterate-add (fetch_of m) k i d, ← p) (z ∙ ap (fetch_of m) (h ∙ sym (fetches-at-once m e k q.low)))
