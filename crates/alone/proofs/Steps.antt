-- A record on a controller alone, decoded, and the events that it can be. Assumes nothing.
use Prim.Native.Nat.{ℕ}
use mathlib.Core.Path.{◌≡◌, refl}
use mathlib.Core.Bool.{Bool}
use Rattle.std.specs.Prelude.{Ok, Err}
use Rattle.answer.specs.Answer.{plain_of}
use Rattle.controller.specs.declared.chip.Controller.{Controller}
use Rattle.record.specs.Decode.{decode_of, number_of}
use Rattle.record.specs.declared.event.Event.TheVariants.{Write, Clocks, Strike}
use Rattle.record.specs.declared.kinds.Refusal.{Refusal}
use Rattle.alone.specs.Events.{told, on_write, on_clocks, on_strike}
use Rattle.alone.specs.Records.{on_event, on_decoded, alone_of}

module _ (c : Controller) (kind : ℕ) where
  pub decoded-first : (hi lo value : ℕ) → alone_of kind c hi lo value ≡ on_decoded c kind (decode_of kind hi lo value)
  unfolding alone_of
  decoded-first hi lo value = refl

  pub on-refused : (r : Refusal) → on_decoded c kind (Err r) ≡ told c (plain_of kind (number_of (Err r)))
  unfolding on_decoded
  on-refused r = refl

  pub on-write : (rs : Bool) (value : ℕ) → on_decoded c kind (Ok (Write rs value)) ≡ on_write c kind rs value
  unfolding on_decoded on_event
  on-write rs value = refl

  pub on-clocks : (n : ℕ) → on_decoded c kind (Ok (Clocks n)) ≡ on_clocks c kind n
  unfolding on_decoded on_event
  on-clocks n = refl

  pub on-strike : on_decoded c kind (Ok Strike) ≡ on_strike c kind
  unfolding on_decoded on_event
  on-strike = refl
