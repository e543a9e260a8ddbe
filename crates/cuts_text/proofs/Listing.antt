-- Laws of a list of calls. Assumes nothing.
use Prim.Native.Nat.{ℕ, zero, suc, ◌-◌, ◌≤◌}
use mathlib.Core.Bool.{true, false}
use mathlib.Core.List.{List}
use Rattle.std.specs.Prelude.{Option, Some, None}
use mathlib.Core.Path.{◌≡◌, ap, ◌∙◌}
use native.Mathlib.Omega.{arith}
use lib.ListN.{length, get_or, take, drop, length-drop}
use lib.Seq.{take_all}
use borrow.Author.Tests.{eq-eqb, ne_eqb, le-ltb}
use Rattle.basics.specs.Choice.{when◌then◌else◌}
use Rattle.rooms_text.specs.Rooms.{room_of}
use Rattle.cuts_text.specs.Asked.{call_head, cut_length, cut_of, first_of, length_of, called_and, list_in}
use Rattle.cuts_text.specs.declared.asked.Asked.{Asked}
use Rattle.cuts_text.specs.declared.asked.Asked.TheVariants.{Cut}

-- nothing is a list, whatever its bound; anything else is none with a bound of none
pub list-none : (k : ℕ) (rest : List ℕ) → length rest ≡ 0 → list_in k rest ≡ true
unfolding list_in when◌then◌else◌
list-none zero rest h = eq-eqb (length rest) 0 h
list-none (suc k) rest h = rw (eq-eqb (length rest) 0 h)

pub list-bound : (k : ℕ) (rest : List ℕ) → (length rest ≡ 0 → ⊥) → k ≡ 0 → list_in k rest ≡ false
unfolding list_in
list-bound k rest h e = rw e (ne_eqb (length rest) 0 h)

-- a list that begins with no call, and one that does
module _ (k : ℕ) (rest : List ℕ) (some : length rest ≡ 0 → ⊥) (left : k ≡ 0 → ⊥) where
  list-called : list_in k rest ≡ called_and (first_of rest) (λ (a : Asked). list_in (k - 1) (drop (length_of a) rest))
  unfolding list_in when◌then◌else◌
  list-called =
      let e : k ≡ suc (k - 1) = omega arith in
      let one : list_in (suc (k - 1)) rest ≡ called_and (first_of rest) (λ (a : Asked). list_in (k - 1) (drop (length_of a) rest)) =
      rw (ne_eqb (length rest) 0 some) in
      ap (λ (n : ℕ). list_in n rest) e ∙ one

  pub list-ends : first_of rest ≡ None → list_in k rest ≡ false
  list-ends h = list-called ∙ ap (λ (o : Option Asked). called_and o (λ (a : Asked). list_in (k - 1) (drop (length_of a) rest))) h

  pub list-goes : {a : Asked} → first_of rest ≡ Some a → list_in k rest ≡ list_in (k - 1) (drop (length_of a) rest)
  list-goes h = list-called ∙ ap (λ (o : Option Asked). called_and o (λ (a : Asked). list_in (k - 1) (drop (length_of a) rest))) h

-- a cut that is whole
pub cut-whole : (rest : List ℕ) (room long : ℕ) → room ≡ room_of (get_or rest 1 0) (get_or rest 2 0) → long ≡ cut_length rest
    → call_head ≤ length rest → long ≤ length rest - call_head → Some (Cut room long) ≡ cut_of rest
unfolding cut_of when◌then◌else◌
cut-whole rest room long r e head h =
    rw (le-ltb (length rest) call_head head, le-ltb (length rest - call_head) (cut_length rest) (rw e at h)) (rw (r, e))

-- all that is behind the head of a cut
pub length_bytes : (rest : List ℕ) → length (take (length rest - call_head) (drop call_head rest)) ≡ length rest - call_head
length_bytes rest = ap length (take_all (length rest - call_head) (drop call_head rest) (simp length-drop (omega arith))) ∙ length-drop call_head rest
