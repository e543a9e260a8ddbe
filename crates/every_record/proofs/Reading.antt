-- `Reads` of specs/Reads.antt holds of every bench. A bound is met by arithmetic, so that one which is too wide is refused for its number.
-- Assumes nothing.
use mathlib.Core.Path.{◌≡◌, ap, ◌∙◌}
use mathlib.Core.Bool.{Bool, true, false}
use native.Mathlib.Omega.{arith}
use Rattle.basics.specs.Bits.{num}
use Rattle.controller.specs.Reads.{read_of}
use Rattle.controller.specs.declared.reads.Reading.{Reading}
use Rattle.controller.proofs.ReadingLaws.{read-cursor, read-high, read_low, read_below, read_above, read-status}
use Rattle.record.proofs.Lines.{read-record}
use Rattle.alone.proofs.Reading.{read_told}
use Rattle.bench.specs.Step.{with_controller, on_decoded, step_of}
use Rattle.bench.specs.declared.step.Bench.{Bench}
use Rattle.bench.proofs.Steps.{decoded-first, on_read}
use Rattle.every_record.specs.Reads.{reading_told, Reads}

module _ (b : Bench) where
  -- a read, by what it brings
  step : (rs : Bool) (r : Reading) → read_of b.controller rs ≡ r
      → step_of b 2 0 (num rs) 0 ≡ reading_told b (num r.driven) r.value r.controller
  step rs r h =
      decoded-first b 2 0 (num rs) 0
      ∙ ap (on_decoded b 2) (read-record rs)
      ∙ on_read b 2 rs
      ∙ ap (with_controller b) (read_told b.controller 2 rs r h)

  pub reads : Reads b
  reads =
      let c = b.controller in
      record {
        cursor = λ l u. step true _ (read-cursor c (omega arith) (omega arith));
        high = λ e. step true _ (read-high c e);
        low = λ e. step true _ (read_low c e);
        below = λ u. step true _ (read_below c (omega arith));
        above = λ l. step true _ (read_above c (omega arith));
        status = step false _ (read-status c);
      }
