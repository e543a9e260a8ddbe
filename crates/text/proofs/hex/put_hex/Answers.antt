use Prim.Native.Nat.{◌+◌, ◌*◌}
use native.Mathlib.Omega.{arith}
use lib.ListN.{length}
use Rattle.basics.proofs.Laying.{put-laid, put-nothing, told-room, told-full}
use Rattle.text.specs.Hex.{hex_of}
use Rattle.text.proofs.Hexing.{length-hex}
use Rattle.text.proofs.hex.put_hex.Goals as goal

pub returns-then-has_room_for : goal.returns-then-has_room_for
returns-then-has_room_for c =
    let a = c.args in
    let room = told-room (a.at + (2 * length a.src.now + 0)) (length a.dst.now) c.has_room_for.ensures c.if-has_room_for.true in
    let t = put-laid (c.lay_hex.ensures (omega (arith, length-hex a.src.now))) in
    record { place = t.0; laid = t.1.0; kept = t.1.1.0; next = t.1.1.1 }

pub returns : goal.returns
returns c =
    let a = c.args in
    let full = told-full (a.at + (2 * length a.src.now + 0)) (length a.dst.now) c.has_room_for.ensures c.if-has_room_for.false in
    let t = put-nothing a.dst.now a.at (hex_of a.src.now) (omega (arith, length-hex a.src.now)) in
    record { place = t.0; laid = t.1.0; kept = t.1.1.0; next = t.1.1.1 }
