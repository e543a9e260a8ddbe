use Rattle.basics.specs.Choice.{when◌then◌else◌}
use Rattle.basics.proofs.Cases.{cases}
use Rattle.record.specs.Decode.{looked_up, decode_of}
use Rattle.record.proofs.kinds.decode.Goals as goal

pub returns-in-1 : goal.returns-in-1
unfolding decode_of looked_up when◌then◌else◌
returns-in-1 c = rw c.in-1.is c.checked.ensures

pub returns-in-2 : goal.returns-in-2
unfolding decode_of looked_up when◌then◌else◌
returns-in-2 c = rw c.in-2.is c.checked-in-2.ensures

pub returns-in-3 : goal.returns-in-3
unfolding decode_of looked_up when◌then◌else◌
returns-in-3 c = rw c.in-3.is (rw c.word-n.ensures at c.checked-in-3.ensures)

pub returns-in-4 : goal.returns-in-4
unfolding decode_of looked_up when◌then◌else◌
returns-in-4 c = rw c.in-4.is c.checked-in-4.ensures

pub returns-in-5 : goal.returns-in-5
unfolding decode_of looked_up when◌then◌else◌
returns-in-5 c = rw c.in-5.is c.checked-in-5.ensures

pub returns-in-6 : goal.returns-in-6
unfolding decode_of looked_up when◌then◌else◌
returns-in-6 c = rw c.in-6.is (rw c.word-n.ensures at c.checked-in-6.ensures)

pub returns-in-7 : goal.returns-in-7
unfolding decode_of looked_up when◌then◌else◌
returns-in-7 c = rw c.in-7.is (rw c.word-n.ensures at c.checked-in-7.ensures)

pub returns-in-8 : goal.returns-in-8
unfolding decode_of looked_up when◌then◌else◌
returns-in-8 c = rw c.in-8.is c.checked-in-8.ensures

pub returns-in-9 : goal.returns-in-9
unfolding decode_of looked_up when◌then◌else◌
returns-in-9 c = rw c.in-9.is c.checked-in-9.ensures

-- past the table: a test for each of its lines, and three for the last
pub returns-in_default : goal.returns-in_default
unfolding decode_of looked_up
returns-in_default c = search cases depth 12
