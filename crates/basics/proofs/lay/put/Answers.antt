use Rattle.basics.proofs.Cases.{cases}
use Rattle.basics.proofs.Laying.{put-nothing, told-full}
use Rattle.basics.proofs.lay.put.Goals as goal
use lib.ListN.{length}
use Prim.Native.Nat.{◌+◌}

pub returns-then-has_room-clause-place : goal.returns-then-has_room-clause-place
returns-then-has_room-clause-place c = search cases depth 9

pub returns-then-has_room-clause-laid : goal.returns-then-has_room-clause-laid
returns-then-has_room-clause-laid c = search cases depth 9

pub returns : goal.returns
returns c =
    let a = c.args in
    let full = told-full (a.at + length a.src.now) (length a.dst.now) c.has_room.ensures c.if-has_room.false in
    let t = put-nothing a.dst.now a.at a.src.now full in
    record { place = t.0; laid = t.1.0; kept = t.1.1.0; next = t.1.1.1 }
