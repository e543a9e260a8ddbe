use Prim.Native.Nat.{ℕ, ◌+◌, ◌≤◌}
use native.Mathlib.Omega.{arith}
use lib.ListN.{length, drop, get_or, replicate, length-replicate}
use borrow.Author.Tests.{lt-ltb, le-ltb}
use Rattle.basics.specs.Choice.{when◌then◌else◌}
use Rattle.batch.specs.Fresh.{most_bytes, most_output}
use Rattle.text.proofs.Adding.{adds, whole}
use Rattle.rooms_text.specs.Rooms.{room_of, head_bytes, room_text_of}
use Rattle.rooms_text.proofs.Shown.{behind-head, length_behind, front, shown-has-room}
use Rattle.rooms_text.proofs.rooms.room.Goals as goal

pub returns-in_default-clause-text : goal.returns-in_default-clause-text
unfolding room_text_of when◌then◌else◌
returns-in_default-clause-text c =
    rw (lt-ltb (length c.args.input.now) head_bytes (omega (arith, c.in_default.len_below)))
    (whole c.new-text.ensures (adds _ _ _ c.put.ensures.put) (omega arith))

pub returns-then-batch-gt-MOST-clause-text : goal.returns-then-batch-gt-MOST-clause-text
unfolding room_text_of when◌then◌else◌
returns-then-batch-gt-MOST-clause-text c =
    let input = c.args.input.now in
    let long = rw length_behind at c.if-batch-gt-MOST.true in
    rw (le-ltb (length input) head_bytes c.in-len2-up.len_at_least, lt-ltb (head_bytes + most_bytes) (length input) (omega arith))
    (whole c.new-text.ensures (adds _ _ _ c.put-then-batch-gt-MOST.ensures.put) (omega arith))

pub returns-clause-text : goal.returns-clause-text
unfolding room_text_of when◌then◌else◌
returns-clause-text c =
    let input = c.args.input.now in
    let room = c.room_of in
    let few = rw length_behind at c.if-batch-gt-MOST.false in
    let put = rw (behind-head input, front room.result most_output 0xA5 room.ensures.most, room.ensures.is) at c.shown.ensures in
    let n = room_of (get_or input 0 0) (get_or input 1 0) in
    let most : length {A = ℕ} (replicate n 0xA5) ≤ most_output = rw (length-replicate {A = ℕ} n 0xA5, ← room.ensures.is) room.ensures.most in
    rw (le-ltb (length input) head_bytes c.in-len2-up.len_at_least, le-ltb (head_bytes + most_bytes) (length input) (omega (arith, c.in-len2-up.len_at_least)))
    (whole c.new-text.ensures put (shown-has-room (drop head_bytes input) (replicate n 0xA5) most))
