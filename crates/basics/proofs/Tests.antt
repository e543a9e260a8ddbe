-- Which of two cases holds of two numbers. Assumes nothing.
use Prim.Native.Nat.{ℕ, ◌-◌, ◌<◌, ◌≤◌}
use mathlib.Core.Logic.{◌⊎◌, inl, inr, ⊎_elim}
use mathlib.Core.Path.{◌≡◌}
use native.Mathlib.Nat.{eq-zero-or-pos}
use native.Mathlib.Omega.{arith}

-- of two numbers the first is below the second, or it is not
pub lt-or-ge : (a b : ℕ) → (a < b) ⊎ (b ≤ a)
lt-or-ge a b =
    ⊎_elim (λ (q : b - a ≡ 0). inr (omega arith)) (λ (q : 0 < b - a). inl (omega arith)) (eq-zero-or-pos (b - a))
