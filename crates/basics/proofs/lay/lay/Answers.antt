-- The loop's invariant: the bytes passed so far are laid.
use Prim.Native.Nat.{◌<◌, ◌+◌}
use mathlib.Core.Path.{◌≡◌, refl, sym}
use native.Mathlib.Omega.{arith}
use lib.ListN.{length, get_or, take, length-set, length-take}
use Rattle.basics.proofs.Laying.{laid_none, laid_next, take_next}
use Rattle.basics.proofs.lay.lay.Goals as goal

pub loop-i-init : goal.loop-i-init
loop-i-init c = (refl, sym (laid_none _ _))

pub loop-i-preserved : goal.loop-i-preserved
loop-i-preserved c =
    let a = c.args in
    let l = c.loop-i in
    let d = a.src.now in
    let h : l.i < length d = omega arith in
    let q : a.at + l.i ≡ a.at + length (take l.i d) = simp length-take (omega arith) in (
      simp length-set l.invariant.0,
      rw (l.invariant.1, take_next d l.i h) (laid_next a.dst.now a.at (take l.i d) (get_or d l.i 0) (a.at + l.i) q (omega arith)),
    )
