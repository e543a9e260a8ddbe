-- What it means that an answer says that its record was done. Assumes nothing.
use Prim.Native.Nat.{ℕ}
use mathlib.Core.Path.{◌≡◌}
use Rattle.answer.specs.declared.Answer.{Answer}

-- the kind as it came, and refusal number 0
abbrev pub Done : ℕ → Answer → Type 0
Done kind a = (a.kind ≡ kind) × (a.refusal ≡ 0)
