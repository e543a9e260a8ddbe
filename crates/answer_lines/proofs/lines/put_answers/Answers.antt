use Prim.Native.Nat.{◌+◌, ◌*◌, ◌/◌}
use native.Mathlib.Omega.{arith}
use lib.ListN.{length}
use Rattle.basics.proofs.Laying.{told-room, told-full}
use Rattle.text.specs.Lines.{per_line}
use Rattle.answer_lines.specs.Marked.{marked_length}
use Rattle.answer_lines.proofs.Lined.{puts-lines, puts-nothing}
use Rattle.answer_lines.proofs.lines.put_answers.Goals as goal

pub returns-then-text-n : goal.returns-then-text-n
returns-then-text-n c =
    let a = c.args in
    let t = puts-nothing a.text.now a.at a.answers.now (omega arith) in
    record { place = t.0; laid = t.1.0; kept = t.1.1.0; next = t.1.1.1 }

pub returns-then-has_room : goal.returns-then-has_room
returns-then-has_room c =
    let a = c.args in
    let n = length a.answers.now / per_line in
    let room = told-room (a.at + marked_length * n) (length a.text.now) c.has_room.ensures c.if-has_room.true in
    let t = puts-lines a.text.now a.at a.answers.now room c.lines.ensures in
    record { place = t.0; laid = t.1.0; kept = t.1.1.0; next = t.1.1.1 }

pub returns : goal.returns
returns c =
    let a = c.args in
    let n = length a.answers.now / per_line in
    let full = told-full (a.at + marked_length * n) (length a.text.now) c.has_room.ensures c.if-has_room.false in
    let t = puts-nothing a.text.now a.at a.answers.now full in
    record { place = t.0; laid = t.1.0; kept = t.1.1.0; next = t.1.1.1 }
