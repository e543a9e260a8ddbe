use Prim.Native.Nat.{◌-◌}
use native.Mathlib.Omega.{arith}
use lib.ListN.{length}
use borrow.Author.Tests.{lt-ltb, le-ltb}
use Rattle.basics.specs.Choice.{when◌then◌else◌}
use Rattle.cuts_text.specs.Asked.{call_head, cut_length, cut_of}
use Rattle.cuts_text.proofs.Listing.{cut-whole, length_bytes}
use Rattle.cuts_text.proofs.asked.cut.Goals as goal

pub returns-in_default-clause-is : goal.returns-in_default-clause-is
unfolding cut_of when◌then◌else◌
returns-in_default-clause-is c = rw (lt-ltb (length c.args.rest.now) call_head (omega (arith, c.in_default.len_below)))

pub returns-then-bytes-from-clause-is : goal.returns-then-bytes-from-clause-is
unfolding cut_of when◌then◌else◌
returns-then-bytes-from-clause-is c =
    let rest = c.args.rest.now in
    let short = rw (length_bytes, c.from.ensures, c.word-long.ensures) at c.if-bytes-from.true in
    rw (le-ltb (length rest) call_head c.in-len5-up.len_at_least, lt-ltb (length rest - call_head) (cut_length rest) short)

pub returns-clause-is : goal.returns-clause-is
returns-clause-is c =
    let rest = c.args.rest.now in
    let all = rw (length_bytes, c.from.ensures) at c.if-bytes-from.false in
    cut-whole rest _ _ c.room_of-room.ensures.is c.word-long.ensures c.in-len5-up.len_at_least all
