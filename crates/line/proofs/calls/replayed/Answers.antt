use mathlib.Core.Path.{◌≡◌, refl}
use mathlib.Core.Logic.{⊎_elim}
use Rattle.replay.specs.Run.{replay_of, output_of}
use Rattle.replay.specs.declared.ending.Ending.TheVariants.{NoRoom}
use Rattle.line.proofs.Calling.{replayed-full, replayed-waits}
use Rattle.line.proofs.calls.replayed.Goals as goal

pub returns-in-NoRoom : goal.returns-in-NoRoom
unfolding replay_of output_of
returns-in-NoRoom c =
    let d = replayed-full _ _ _ _ c.replay-run.ensures.answer _ c.replay-run.ensures.output c.in-NoRoom.is in
    record { answer = rw c.open-line.ensures d.0; output = d.1 }

pub returns-in-Empty : goal.returns-in-Empty
unfolding replay_of output_of
returns-in-Empty c =
    let some_room : c.replay-run.result.ending ≡ NoRoom → ⊥ = λ n. ⊎_elim (λ e. cc) (λ e. cc) c.in-Empty.is in
    let d = replayed-waits _ _ _ _ c.replay-run.ensures.answer _ c.replay-run.ensures.output some_room _ refl in
    record { answer = rw (c.waiting.ensures, c.open-line.ensures, c.unread_rest.ensures.bytes) d.0; output = d.1 }
