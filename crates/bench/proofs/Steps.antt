-- A step of the bench, event by event, for those above that are not to look into it. Assumes nothing.
use Prim.Native.Nat.{ℕ}
use mathlib.Core.Path.{◌≡◌, refl}
use mathlib.Core.Bool.{Bool, true, false}
use Rattle.basics.specs.Choice.{when◌then◌else◌}
use Rattle.std.specs.Prelude.{Ok, Err}
use Rattle.answer.specs.Answer.{plain_of}
use Rattle.answer.proofs.Done.{Done}
use Rattle.locator.specs.Locate.{locate_of}
use Rattle.record.specs.Decode.{decode_of, number_of}
use Rattle.record.specs.declared.event.Event.TheVariants.{Write, Read, Clocks, Strike, Reset, Cycle, Fetches, Levels, Locate}
use Rattle.record.specs.declared.kinds.Refusal.{Refusal}
use Rattle.alone.specs.Events as alone
use Rattle.bodies.specs.Bodies.{located_answer_of}
use Rattle.bench.specs.Step.{with_controller, on_reset, on_cycle, on_fetches, on_levels, on_locate, on_event, on_decoded, step_of}
use Rattle.bench.specs.declared.step.Bench.{Bench}

module _ (b : Bench) (kind : ℕ) where
  pub decoded-first : (hi lo value : ℕ) → step_of b kind hi lo value ≡ on_decoded b kind (decode_of kind hi lo value)
  unfolding step_of
  decoded-first hi lo value = refl

  pub on-refused : (r : Refusal) → on_decoded b kind (Err r) ≡ record { bench = b; answer = plain_of kind (number_of (Err r)) }
  unfolding on_decoded
  on-refused r = refl

  -- the controller's events
  pub on-write : (rs : Bool) (value : ℕ) → on_decoded b kind (Ok (Write rs value)) ≡ with_controller b (alone.on_write b.controller kind rs value)
  unfolding on_decoded on_event
  on-write rs value = refl

  pub on_read : (rs : Bool) → on_decoded b kind (Ok (Read rs)) ≡ with_controller b (alone.on_read b.controller kind rs)
  unfolding on_decoded on_event
  on_read rs = refl

  pub on-clocks : (n : ℕ) → on_decoded b kind (Ok (Clocks n)) ≡ with_controller b (alone.on_clocks b.controller kind n)
  unfolding on_decoded on_event
  on-clocks n = refl

  pub on-strike : on_decoded b kind (Ok Strike) ≡ with_controller b (alone.on_strike b.controller kind)
  unfolding on_decoded on_event
  on-strike = refl

  pub on-controller-reset : on_decoded b kind (Ok (Reset false)) ≡ with_controller b (alone.on_reset b.controller kind)
  unfolding on_decoded on_event on_reset when◌then◌else◌
  on-controller-reset = refl

  -- those of the multiplexer are done
  pub multiplexer-reset-done : Done kind (on_decoded b kind (Ok (Reset true))).answer
  unfolding on_decoded on_event on_reset when◌then◌else◌
  multiplexer-reset-done = (refl, refl)

  pub cycle-done : (address : ℕ) (read : Bool) → Done kind (on_decoded b kind (Ok (Cycle address read))).answer
  unfolding on_decoded on_event on_cycle
  cycle-done address read = (refl, refl)

  pub fetches-done : (n : ℕ) → Done kind (on_decoded b kind (Ok (Fetches n))).answer
  unfolding on_decoded on_event on_fetches
  fetches-done n = (refl, refl)

  pub levels-done : (hs da0 : Bool) → Done kind (on_decoded b kind (Ok (Levels hs da0))).answer
  unfolding on_decoded on_event on_levels
  levels-done hs da0 = (refl, refl)

  -- and leave the controller alone
  pub multiplexer-reset-aside : (on_decoded b kind (Ok (Reset true))).bench.controller ≡ b.controller
  unfolding on_decoded on_event on_reset when◌then◌else◌
  multiplexer-reset-aside = refl

  pub cycle-aside : (address : ℕ) (read : Bool) → (on_decoded b kind (Ok (Cycle address read))).bench.controller ≡ b.controller
  unfolding on_decoded on_event on_cycle
  cycle-aside address read = refl

  pub fetches-aside : (n : ℕ) → (on_decoded b kind (Ok (Fetches n))).bench.controller ≡ b.controller
  unfolding on_decoded on_event on_fetches
  fetches-aside n = refl

  pub levels-aside : (hs da0 : Bool) → (on_decoded b kind (Ok (Levels hs da0))).bench.controller ≡ b.controller
  unfolding on_decoded on_event on_levels
  levels-aside hs da0 = refl

  -- an event that locates asks, and moves neither chip
  pub on-locate : on_decoded b kind (Ok Locate) ≡ record { bench = b; answer = located_answer_of kind (locate_of b.controller) }
  unfolding on_decoded on_event on_locate
  on-locate = refl
