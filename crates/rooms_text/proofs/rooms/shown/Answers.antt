use Rattle.text.proofs.Adding.{adds}
use Rattle.rooms_text.proofs.Shown.{shows}
use Rattle.rooms_text.proofs.rooms.shown.Goals as goal

pub returns : goal.returns
returns c =
    let a = c.args in
    let r = c.replay_fresh-replayed.ensures in
    shows a.batch.now a.out.now r.answer r.output (rw c.from.ensures at c.counts-told.ensures) (adds _ _ _ c.put_lines.ensures.put) (adds _ _ _ c.put_lines-2.ensures.put)
