-- The control addresses, and what a write to one of them does bit by bit. Assumes nothing.
use Prim.Native.Nat.{ℕ, ◌-◌, ◌/◌, ◌%◌, ◌<◌, ◌≤◌}
use mathlib.Core.Bool.{true, and-eq-true_iff}
use mathlib.Core.Path.{◌≡◌, refl, sym}
use native.Mathlib.Omega.{arith}
use borrow.Author.Tests.{leb-true, ltb-true}
use lib.Dec.{leb, ltb}
use Rattle.basics.proofs.Cases.{if_yes, cases}
use Rattle.control.specs.declared.bits.Control.{Control}
use Rattle.control.specs.Write.{put_bit, is_control_of, written_of, OneBitWritten}
use Rattle.control.proofs.OneBit.{put_same, put_other, odd_num}

-- a control address is one of the 32
pub control_range : (a : ℕ) → is_control_of a ≡ true → (0xFFC0 ≤ a) × (a < 0xFFE0)
unfolding is_control_of
control_range a e =
    let h = (and-eq-true_iff (leb 0xFFC0 a) (ltb a 0xFFE0)).0 e in
    (leb-true _ _ h.0, ltb-true _ _ h.1)

pub one-bit-written : (c : Control) (a : ℕ) → is_control_of a ≡ true → OneBitWritten c a
unfolding written_of
one-bit-written c a e =
    let put : Control = record { bits = put_bit ((a - 0xFFC0) / 2) (a % 2) c.bits } in
    let w : written_of c a ≡ put = sym (if_yes _ put c put e refl) in
    record {
      own = rw (w, put_same ((a - 0xFFC0) / 2) (a % 2) c.bits (omega arith));
      others = λ j ne. rw (w, put_other j ((a - 0xFFC0) / 2) (a % 2) c.bits (omega arith) ne);
    }

-- what a write is proved by
pub ruleset writing = (cases, control_range, odd_num)
