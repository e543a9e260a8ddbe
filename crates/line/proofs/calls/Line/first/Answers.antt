use mathlib.Core.Path.{ap}
use Rattle.replay.specs.Run.{replay_of, output_of}
use Rattle.replay.specs.declared.run.Replayed.{Replayed}
use Rattle.line.proofs.calls.Line.first.Goals as goal

pub returns : goal.returns
unfolding replay_of output_of
returns c =
    let q = c.completed-record.ensures in
    record {
      bench = ap (λ (r : Replayed). r.bench) (rw q at c.replay.ensures.answer);
      output = rw q at c.replay.ensures.output;
    }
