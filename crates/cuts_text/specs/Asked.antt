-- A list of calls as the program `cuts` takes it. The programs that replay have no way to make one call after the other on a line (document
-- 02, W3), so they are tried here. Decision: the form of the list is the project's own.
use Rattle.std.specs.Prelude.{ℕ, zero, suc, ◌+◌, ◌-◌, Bool, true, false, List, Option, Some, None, eqb, ltb, length, get_or, drop}
use Rattle.basics.specs.Bits.{word_of}
use Rattle.basics.specs.Choice.{when◌then◌else◌}
use Rattle.batch.specs.Fresh.{most_bytes}
use Rattle.rooms_text.specs.Rooms.{room_of}
use Rattle.cuts_text.specs.declared.asked.Asked.{Asked}
use Rattle.cuts_text.specs.declared.asked.Asked.TheVariants.{Close, Cut}

-- the bytes in front of a cut: the sort of call, its room in two bytes, and how long the cut is in two
abbrev pub call_head : ℕ
call_head = 5

-- how long the cut is
abbrev pub cut_length : List ℕ → ℕ
cut_length rest = word_of (get_or rest 3 0) (get_or rest 4 0)

-- a cut, where its head is whole and its bytes are all there
unfoldable pub cut_of : List ℕ → Option Asked
cut_of rest =
    when ltb (length rest) call_head then None
    else when ltb (length rest - call_head) (cut_length rest) then None
    else Some (Cut (room_of (get_or rest 1 0) (get_or rest 2 0)) (cut_length rest))

-- the call that bytes begin with: a 2 closes the line, and a 1 hands a cut to it
unfoldable pub first_of : List ℕ → Option Asked
first_of rest =
    when eqb (length rest) 0 then None
    else when eqb (get_or rest 0 0) 2 then Some Close
    else when eqb (get_or rest 0 0) 1 then cut_of rest
    else None

-- how many bytes say a call
abbrev pub length_of : Asked → ℕ
length_of Close = 1
length_of (Cut room long) = call_head + long

-- whether there is a call, of which f says yes
abbrev pub called_and : Option Asked → (Asked → Bool) → Bool
called_and None f = false
called_and (Some a) f = f a

-- whether bytes are calls one after the other, so many at the most
unfoldable pub list_in : ℕ → List ℕ → Bool
list_in zero rest = eqb (length rest) 0
list_in (suc k) rest = when eqb (length rest) 0 then true else called_and (first_of rest) (λ (a : Asked). list_in k (drop (length_of a) rest))

-- Whether an input is such a list; it has no more calls than bytes. Decision: no bytes are a list of no calls, and one that is too long is
-- no list.
unfoldable pub is_list_of : List ℕ → Bool
is_list_of input = when ltb most_bytes (length input) then false else list_in (length input) input
