-- Laws of the text of `rooms`. Assumes nothing.
use Prim.Native.Nat.{ℕ, ◌+◌, ◌-◌, ◌*◌, ◌<◌, ◌≤◌, min}
use mathlib.Core.Logic.{⊎_elim}
use mathlib.Core.Path.{◌≡◌, refl, ap, ◌∙◌}
use mathlib.Core.List.{List}
use native.Mathlib.Omega.{arith}
use lib.Dec.{ltb}
use lib.ListN.{length, take, drop, get_or, replicate, length-append, length-drop, length-replicate, replicate-append-replicate}
use lib.Seq.{take_at, take_all}
use borrow.Author.Tests.{ltb-false, lt-ltb, le-ltb}
use Rattle.basics.specs.Lay.{laid_at}
use Rattle.basics.specs.Bits.{word_of}
use Rattle.basics.proofs.Laying.{length-laid}
use Rattle.basics.proofs.Cases.{if-both, if_yes, if_no}
use Rattle.basics.proofs.Tests.{lt-or-ge}
use Rattle.answer.specs.declared.Answer.{Answer}
use Rattle.replay.specs.Ending.{ending_number}
use Rattle.replay.specs.Run.{written_of, returned_of}
use Rattle.replay.specs.declared.run.Replayed.{Replayed}
use Rattle.replay.proofs.Replaying.{length-written}
use Rattle.batch.specs.Fresh.{most_output, fresh_run_of}
use Rattle.batch.proofs.Ran.{answers-have-room}
use Rattle.text.specs.Lines.{lines_of}
use Rattle.text.specs.private.Adds.{Adds}
use Rattle.text.proofs.Adding.{then-adds}
use Rattle.text.proofs.Lining.{length-lines}
use Rattle.rooms_text.specs.Rooms.{room_of, counts_of, given_text_of, shown_of, head_bytes, room_text_of}
use Rattle.rooms_text.specs.Lengths.{room_text_length}

-- the counts and then the whole output, of what a replay gave
pub shows : {room : ℕ} {t u s out' told : List ℕ} {r : Replayed} (batch out : List ℕ) → r ≡ returned_of (fresh_run_of batch (length out))
    → out' ≡ laid_at out 0 (written_of (fresh_run_of batch (length out)).answers) → told ≡ counts_of (ending_number r.ending) r.taken r.answers
    → Adds room t u (lines_of told) → Adds room u s (lines_of out') → Adds room t s (shown_of batch out)
unfolding shown_of given_text_of
shows batch out returned output counts a b = then-adds (rw (counts, returned) at a) (rw output at b)

-- all that is behind the two bytes of an input
pub behind-head : (input : List ℕ) → take (length input - head_bytes) (drop head_bytes input) ≡ drop head_bytes input
behind-head input = take_all (length input - head_bytes) (drop head_bytes input) (simp length-drop (omega arith))

pub length_behind : (input : List ℕ) → length (take (length input - head_bytes) (drop head_bytes input)) ≡ length input - head_bytes
length_behind input = ap length (behind-head input) ∙ length-drop head_bytes input

-- the front of an array that holds one byte throughout
pub front : (n m a : ℕ) → n ≤ m → take n (replicate m a) ≡ replicate n a
front n m a h =
    let e : n + (m - n) ≡ m = omega arith in
    rw (← e, ← replicate-append-replicate n (m - n) a) (take_at (replicate n a) (replicate (m - n) a) n (length-replicate n a))

pub length_front : (n m a : ℕ) → n ≤ m → length (take n (replicate m a)) ≡ n
length_front n m a h = ap length (front n m a h) ∙ length-replicate n a

-- the room that is asked for, or that of all answers where that is less
pub least : (hi lo n : ℕ) → n ≡ min (word_of hi lo) most_output → n ≡ room_of hi lo
unfolding room_of
least hi lo n e =
    let w = word_of hi lo in
    ⊎_elim
    (λ (more : most_output < w). if_yes (ltb most_output w) most_output w n (lt-ltb most_output w more) (omega arith))
    (λ (few : w ≤ most_output). if_no (ltb most_output w) most_output w n (le-ltb most_output w few) (omega arith))
    (lt-or-ge most_output w)

-- no output is longer than all answers
room_most : (hi lo : ℕ) → room_of hi lo ≤ most_output
unfolding room_of
room_most hi lo =
    if-both (λ (n : ℕ). n ≤ most_output) (ltb most_output (word_of hi lo)) most_output (word_of hi lo) (λ yes. omega arith) (λ no. ltb-false most_output (word_of hi lo) no)

pub length-counts : (ending taken answers : ℕ) → length (counts_of ending taken answers) ≡ 8
unfolding counts_of
length-counts ending taken answers = refl

pub given-has-room : (ending taken : ℕ) (answers : List Answer) (out : List ℕ) → 8 * length answers ≤ length out → length out ≤ most_output
    → length (given_text_of ending taken answers out) ≤ room_text_length
unfolding given_text_of
given-has-room ending taken answers out room h =
    let told = counts_of ending taken (length answers) in
    let left = laid_at out 0 (written_of answers) in
    let same : length left ≡ length out = length-laid out 0 (written_of answers) (omega (arith, length-written answers)) in
    simp length-append (omega (arith, length-lines told, length-lines left, length-counts ending taken (length answers)))

pub shown-has-room : (batch out : List ℕ) → length out ≤ most_output → length (shown_of batch out) ≤ room_text_length
unfolding shown_of
shown-has-room batch out h =
    let run = fresh_run_of batch (length out) in
    given-has-room (ending_number run.ending) run.taken run.answers out (answers-have-room batch (length out)) h

-- every text has room
pub room-text-has-room : (input : List ℕ) → length (room_text_of input) ≤ room_text_length
unfolding room_text_of
room-text-has-room input =
    let n = room_of (get_or input 0 0) (get_or input 1 0) in
    let out : length {A = ℕ} (replicate n 0xA5) ≤ most_output = omega (arith, length-replicate {A = ℕ} n 0xA5, room_most (get_or input 0 0) (get_or input 1 0)) in
    let Short : List ℕ → Type 0 = λ (l : List ℕ). length l ≤ room_text_length in
    if-both Short _ _ _ (λ yes. omega arith) (λ no. if-both Short _ _ _ (λ yes. omega arith) (λ no. shown-has-room (drop head_bytes input) (replicate n 0xA5) out))
