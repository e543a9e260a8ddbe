use Prim.Native.Nat.{◌+◌}
use mathlib.Core.Path.{◌≡◌}
use mathlib.Core.List.{◌++◌}
use lib.ListN.{get_or, take}
use Rattle.basics.proofs.Laying.{writes_nothing, then-writes}
use Rattle.text.specs.Hex.{pair_of, hex_of}
use Rattle.text.proofs.Hexing.{hex-take}
use Rattle.text.proofs.hex.lay_hex.Goals as goal

pub loop-byte-init : goal.loop-byte-init
unfolding hex_of
loop-byte-init c = writes_nothing

pub loop-byte-preserved : goal.loop-byte-preserved
loop-byte-preserved c =
    let l = c.loop-byte in
    let src = c.args.src.now in
    let i = l.byte-index in
    let more : hex_of (take (i + 1) src) ≡ hex_of (take i src) ++ pair_of (get_or src i 0) = hex-take src i c.loop-byte-test.true in
    rw more (then-writes l.invariant (rw c.pair.ensures at c.put-q.ensures.next))
