-- The choice between two values by a test. Whatever document 01 makes hang on a condition, in any section, is decided by this.
use Rattle.std.specs.Prelude.{Bool, true, false}

-- the first value where the test holds, the second where it does not
infixr 5 when◌then◌else◌
unfoldable pub when◌then◌else◌ : {A : Type 0} → Bool → A → A → A
when true then x else y = x
when false then x else y = y
