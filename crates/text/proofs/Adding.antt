-- Laws of texts that grow at their end. Assumes nothing.
use Prim.Native.Nat.{ℕ, ◌+◌, ◌≤◌, ◌<◌}
use mathlib.Core.Path.{◌≡◌, refl, sym, ap, ◌∙◌}
use mathlib.Core.List.{List, [], ◌++◌, append_assoc, append-nil}
use native.Mathlib.Omega.{arith}
use lib.ListN.{length, length-append}
use borrow.Author.Tests.{le-leb, lt-leb}
use Rattle.basics.proofs.Cases.{if_yes, if_no}
use Rattle.text.specs.Owned.{fits, appended}
use Rattle.text.specs.private.Adds.{Adds}

module _ (room : ℕ) (t w : List ℕ) where
  -- what has room is put at the end, and what has none is not
  pub puts-room : {u : List ℕ} → length t + length w ≤ room → u ≡ t ++ w → u ≡ appended room t w
  puts-room {u} h e = if_yes (fits room t w) (t ++ w) t u (le-leb (length t + length w) room h) e

  pub puts-full : room < length t + length w → t ≡ appended room t w
  puts-full h = if_no (fits room t w) (t ++ w) t t (lt-leb (length t + length w) room h) refl

  -- so whoever knows of the room knows what it is
  pub adds : {u : List ℕ} → u ≡ appended room t w → Adds room t u w
  adds {u} e = record { holds = λ h. e ∙ sym (puts-room h refl) }

-- nothing is put without a step
pub adds_nothing : {room : ℕ} {t : List ℕ} → Adds room t t []
adds_nothing {room} {t} = record { holds = λ h. sym (append-nil t) }

-- two writers one after the other are one writer, of the bytes of both
pub then-adds : {room : ℕ} {t u s v w : List ℕ} → Adds room t u v → Adds room u s w → Adds room t s (v ++ w)
then-adds {room} {t} {u} {s} {v} {w} a b =
    record {
      holds = λ h.
          let both : length (v ++ w) ≡ length v + length w = length-append v w in
          let first : u ≡ t ++ v = a.holds (omega arith) in
          let long : length u ≡ length t + length v = ap length first ∙ length-append t v in
          b.holds (omega arith) ∙ ap (λ (l : List ℕ). l ++ w) first ∙ append_assoc t v w;
    }

-- A loop over what is left: u is t and then what the text of all begins with, and the text of what is left is still to come.
pub record SoFar (room : ℕ) (t u left all : List ℕ) : Type 0 where
  pub done : List ℕ
  pub put : Adds room t u done
  pub goes : done ++ left ≡ all

-- before its first turn, after one more, and at its end
pub begun : {room : ℕ} {t all : List ℕ} → SoFar room t t all all
begun = record { done = []; put = adds_nothing; goes = refl }

pub turned : {room : ℕ} {t u s left more all w : List ℕ} → SoFar room t u left all → left ≡ w ++ more → Adds room u s w → SoFar room t s more all
turned {w = w} a e b =
    record {
      done = a.done ++ w;
      put = then-adds a.put b;
      goes = append_assoc a.done w _ ∙ ap (λ (l : List ℕ). a.done ++ l) (sym e) ∙ a.goes;
    }

pub ended : {room : ℕ} {t u left all : List ℕ} → SoFar room t u left all → left ≡ [] → Adds room t u all
ended a e = rw (sym a.goes ∙ ap (λ (l : List ℕ). a.done ++ l) e ∙ append-nil a.done) a.put

-- and so a writer that had room
pub puts : {room : ℕ} {t u w : List ℕ} → Adds room t u w → length t + length w ≤ room → u ≡ appended room t w
puts {room} {t} {u} {w} a h = puts-room room t w h (a.holds h)

-- a text that was empty before holds what was put into it, where that has room
pub whole : {room : ℕ} {t u w : List ℕ} → t ≡ [] → Adds room t u w → length w ≤ room → u ≡ w
whole {w = w} e a h = a.holds (omega (arith, ap length e)) ∙ ap (λ (l : List ℕ). l ++ w) e
