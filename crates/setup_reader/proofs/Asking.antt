-- What the answer to a question tells. Assumes nothing.
use mathlib.Core.Bool.{Bool, true, false}
use mathlib.Core.Path.{◌≡◌, refl}
use Rattle.std.specs.Prelude.{Ok, Err}
use Rattle.setup_file.specs.declared.refusal.Refusal.{Refusal}
use Rattle.setup_reader.specs.Read.{asked}

pub asked-ok : (t : Bool) (r : Refusal) {u : Unit {0}} → Ok u ≡ asked t r → t ≡ true
asked-ok true r e = refl
asked-ok false r e = cc

pub asked-err : (t : Bool) (r : Refusal) {d : Refusal} → Err d ≡ asked t r → (t ≡ false) × (d ≡ r)
asked-err true r e = cc
asked-err false r e = (refl, cc)
