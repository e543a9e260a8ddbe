-- The bench as everything begins (document 01).
use Rattle.bench.specs.declared.step.Bench.{Bench}
use Rattle.controller.specs.Chip as controller
use Rattle.multiplexer.specs.Chip as multiplexer

-- both chips as they start
abbrev pub fresh_bench : Bench
fresh_bench = record { controller = controller.fresh_of; multiplexer = multiplexer.fresh_of }
