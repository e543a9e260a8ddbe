use Prim.Native.Nat.{◌+◌, ◌*◌}
use mathlib.Core.Path.{◌≡◌}
use native.Mathlib.Omega.{arith}
use lib.ListN.{length}
use Rattle.basics.proofs.Laying.{put-laid, put-nothing, told-room, told-full}
use Rattle.text.specs.Lines.{lines_of, line_count}
use Rattle.text.proofs.Lining.{length-lines}
use Rattle.text.proofs.lines.put_lines.Goals as goal

pub returns-then-has_room_for : goal.returns-then-has_room_for
unfolding lines_of
returns-then-has_room_for c =
    let a = c.args in
    let n = length a.bytes.now in
    let ends : c.div_ceil-n.result ≡ line_count n = omega (arith, c.div_ceil-n.ensures) in
    let room = told-room (a.at + (2 * n + c.div_ceil-n.result)) (length a.dst.now) c.has_room_for.ensures c.if-has_room_for.true in
    let t = put-laid ((rw ends at c.lay_lines.ensures) (omega (arith, length-lines a.bytes.now))) in
    record { place = t.0; laid = t.1.0; kept = t.1.1.0; next = t.1.1.1 }

pub returns : goal.returns
returns c =
    let a = c.args in
    let n = length a.bytes.now in
    let ends : c.div_ceil-n.result ≡ line_count n = omega (arith, c.div_ceil-n.ensures) in
    let full = told-full (a.at + (2 * n + c.div_ceil-n.result)) (length a.dst.now) c.has_room_for.ensures c.if-has_room_for.false in
    let t = put-nothing a.dst.now a.at (lines_of a.bytes.now) (omega (arith, length-lines a.bytes.now)) in
    record { place = t.0; laid = t.1.0; kept = t.1.1.0; next = t.1.1.1 }
