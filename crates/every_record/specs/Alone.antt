-- What records of kinds 1, 3 and 4 do on a controller alone is what they do on the bench (document 01, the table of kinds).
use Rattle.std.specs.Prelude.{ℕ, ◌≡◌}
use Rattle.alone.specs.Records.{write_record_of, clock_record_of, strike_record_of}
use Rattle.bench.specs.Step.{with_controller, step_of}
use Rattle.bench.specs.declared.step.Bench.{Bench}

-- Whatever multiplexer stands beside the controller, the bench's step of such a record gives the controller what the record alone gives it,
-- answers the same, and leaves that multiplexer as it is. proofs/OnTheBench.antt shows it.
pub record AsOnTheBench (b : Bench) (hi lo value : ℕ) : Type 0 where
  pub write : step_of b 1 hi lo value ≡ with_controller b (write_record_of b.controller hi lo value)
  pub clock : step_of b 3 hi lo value ≡ with_controller b (clock_record_of b.controller hi lo value)
  pub strike : step_of b 4 hi lo value ≡ with_controller b (strike_record_of b.controller hi lo value)
