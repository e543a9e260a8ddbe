use Prim.Native.Nat.{ℕ}
use lib.ListN.{length-replicate}
use Rattle.batch.specs.Fresh.{most_output}
use Rattle.rooms_text.proofs.Shown.{front}
use Rattle.cuts_text.proofs.made.handed.Goals as goal

pub returns : goal.returns
returns c =
    let room = c.args.room in
    rw (front room most_output 0xA5 c.requires.room_le_most_output, length-replicate {A = ℕ} room 0xA5) at c.accepted.ensures
