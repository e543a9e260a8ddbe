-- What a read answers, by what it brought. Assumes nothing.
use Prim.Native.Nat.{ℕ}
use mathlib.Core.Path.{◌≡◌}
use mathlib.Core.Bool.{Bool}
use mathlib.Core.List.{[], ◌∷◌}
use Rattle.answer.specs.Answer.{done_of}
use Rattle.basics.specs.Bits.{num}
use Rattle.controller.specs.Reads.{read_of}
use Rattle.controller.specs.declared.chip.Controller.{Controller}
use Rattle.controller.specs.declared.reads.Reading.{Reading}
use Rattle.alone.specs.Bodies.{read_body_of}
use Rattle.alone.specs.Events.{told, on_read}

pub read_told : (c : Controller) (kind : ℕ) (rs : Bool) (r : Reading) → read_of c rs ≡ r
    → on_read c kind rs ≡ told r.controller (done_of kind (num r.driven ∷ r.value ∷ []))
unfolding on_read read_body_of
read_told c kind rs r h = rw h
