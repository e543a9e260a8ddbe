-- `Shows` of specs/Lists.antt holds of every input. Assumes nothing.
use Prim.Native.Nat.{ℕ, zero, suc, ◌+◌, ◌-◌, ◌<◌, ◌≤◌}
use mathlib.Core.Bool.{Bool, true, false, false≢true}
use mathlib.Core.List.{List, [], ◌∷◌, ◌++◌}
use mathlib.Core.Logic.{◌⊎◌, inl, inr, ⊎_elim}
use mathlib.Core.Path.{◌≡◌, refl, sym, ap, ap₂, ◌∙◌}
use native.Mathlib.Omega.{arith}
use lib.ListN.{length, take, drop, replicate, length-append, take-append-drop}
use lib.Seq.{take_at, drop_at, length-take-le}
use borrow.Author.Tests.{eqb-true, ne_eqb, lt-ltb, le-ltb}
use Rattle.basics.specs.Bits.{word_of}
use Rattle.basics.specs.Choice.{when◌then◌else◌}
use Rattle.basics.proofs.Tests.{lt-or-ge}
use Rattle.batch.specs.Fresh.{most_bytes}
use Rattle.line.specs.Line.{fresh_line, outcome_of}
use Rattle.line.specs.declared.calls.Line.{Line}
use Rattle.cuts_text.specs.Asked.{call_head, cut_length, cut_of, first_of, length_of, list_in, is_list_of}
use Rattle.cuts_text.specs.Made.{cut_text_of, text_shown, line_left, made_by, made_of, text_by, call_text_of}
use Rattle.cuts_text.specs.Whole.{text_then, calls_text_in, no_call, cuts_text_of}
use Rattle.cuts_text.specs.declared.made.Made.{Made}
use Rattle.cuts_text.specs.declared.asked.Asked.{Asked}
use Rattle.cuts_text.specs.declared.asked.Asked.TheVariants.{Close, Cut}
use Rattle.std.specs.Prelude.{Option, Some, None}
use Rattle.cuts_text.proofs.Listing.{list-none, list-ends, list-goes, cut-whole}
use Rattle.call_lists.specs.Lists.{Handed, Ask, hand, shut, bytes_in, list_of, room_in, line_after, text_after, texts_of, Shows}

-- the call as it is read
abbrev asked_of : Ask → Asked
asked_of (hand h) = Cut (room_in h) (word_of h.long-high h.long-low)
asked_of shut = Close

-- what bytes begin with, by the first of them
first-close : (rest : List ℕ) → first_of (2 ∷ rest) ≡ Some Close
unfolding first_of when◌then◌else◌
first-close rest = rw (ne_eqb (length (2 ∷ rest)) 0 (λ e. omega (arith, e)))

first-cut : (rest : List ℕ) → first_of (1 ∷ rest) ≡ cut_of (1 ∷ rest)
unfolding first_of when◌then◌else◌
first-cut rest = rw (ne_eqb (length (1 ∷ rest)) 0 (λ e. omega (arith, e)))

first-other : (x : ℕ) (rest : List ℕ) → (x ≡ 2 → ⊥) → (x ≡ 1 → ⊥) → first_of (x ∷ rest) ≡ None
unfolding first_of when◌then◌else◌
first-other x rest n m = rw (ne_eqb (length (x ∷ rest)) 0 (λ e. omega (arith, e)), ne_eqb x 2 n, ne_eqb x 1 m)

cut_short : (rest : List ℕ) → length rest < call_head → cut_of rest ≡ None
unfolding cut_of when◌then◌else◌
cut_short rest h = rw (lt-ltb (length rest) call_head h)

cut-lacks : (rest : List ℕ) → length rest - call_head < cut_length rest → call_head ≤ length rest → cut_of rest ≡ None
unfolding cut_of when◌then◌else◌
cut-lacks rest h g = rw (le-ltb (length rest) call_head g, lt-ltb (length rest - call_head) (cut_length rest) h)

first_said : (a : Ask) (rest : List ℕ) → first_of (bytes_in a ++ rest) ≡ Some (asked_of a)
first_said shut rest = first-close rest
first_said (hand h) rest =
    let all = bytes_in (hand h) ++ rest in
    let long : length all ≡ call_head + (length h.bytes + length rest) = simp length-append (omega arith) in
    first-cut _ ∙ sym (cut-whole all (room_in h) (word_of h.long-high h.long-low) refl refl (omega arith) (omega (arith, h.long)))

said-length : (a : Ask) → length_of (asked_of a) ≡ length (bytes_in a)
said-length shut = refl
said-length (hand h) = rw h.long (omega arith)

said-some : (a : Ask) → 1 ≤ length (bytes_in a)
said-some shut = omega arith
said-some (hand h) = omega arith

-- what is behind a call
past : (a : Ask) (rest : List ℕ) → drop (length_of (asked_of a)) (bytes_in a ++ rest) ≡ rest
past a rest = rw (said-length a) (drop_at (bytes_in a) rest (length (bytes_in a)) refl)

-- the bytes of a cut, behind its head
cut-said : (h : Handed) (rest : List ℕ) → take (word_of h.long-high h.long-low) (h.bytes ++ rest) ≡ h.bytes
cut-said h rest = rw h.long (take_at h.bytes rest (length h.bytes) refl)

text-said : (l : Line) (a : Ask) (rest : List ℕ) → text_shown l (bytes_in a ++ rest) (asked_of a) ≡ text_after l a
text-said l shut rest = refl
text-said l (hand h) rest = ap (λ (b : List ℕ). cut_text_of l b (replicate (room_in h) 0xA5)) (cut-said h rest)

line-said : (l : Line) (a : Ask) (rest : List ℕ) → line_left l (bytes_in a ++ rest) (asked_of a) ≡ line_after l a
line-said l shut rest = refl
line-said l (hand h) rest = ap (λ (b : List ℕ). (outcome_of l b (room_in h)).line) (cut-said h rest)

made-said : (l : Line) (a : Ask) (rest : List ℕ)
    → made_of l (bytes_in a ++ rest) ≡ Some (record { line = line_after l a; used = length_of (asked_of a) })
unfolding made_of
made-said l a rest =
    ap (made_by l (bytes_in a ++ rest)) (first_said a rest)
    ∙ ap (λ (k : Line). Some (record { line = k; used = length_of (asked_of a) })) (line-said l a rest)

shown-said : (l : Line) (a : Ask) (rest : List ℕ) → call_text_of l (bytes_in a ++ rest) ≡ text_after l a
unfolding call_text_of
shown-said l a rest = ap (text_by l (bytes_in a ++ rest)) (first_said a rest) ∙ text-said l a rest

-- a list of calls is read as it was written
list-said : (k : ℕ) (asks : List Ask) → length (list_of asks) ≤ k → list_in k (list_of asks) ≡ true
unfolding list_of
list-said k [] h = list-none k [] refl
list-said k (a ∷ asks) h =
    let rest = list_of asks in
    let long : length (bytes_in a ++ rest) ≡ length (bytes_in a) + length rest = length-append (bytes_in a) rest in
    let one = said-some a in
    list-goes k (bytes_in a ++ rest) (λ e. omega arith) (λ e. omega arith) (first_said a rest)
    ∙ ap (list_in (k - 1)) (past a rest)
    ∙ list-said (k - 1) asks (omega arith)

-- and its calls are made in order
texts-goes : (k : ℕ) (l : Line) (a : Ask) (rest : List ℕ) → (k ≡ 0 → ⊥)
    → calls_text_in k l (bytes_in a ++ rest) ≡ text_after l a ++ calls_text_in (k - 1) (line_after l a) rest
unfolding calls_text_in
texts-goes k l a rest left =
    let e : k ≡ suc (k - 1) = omega arith in
    let all = bytes_in a ++ rest in
    let goes : Made → List ℕ = λ m. calls_text_in (k - 1) m.line (drop m.used all) in
    ap (λ (n : ℕ). calls_text_in n l all) e
    ∙ ap₂ (λ (o : Option Made) (w : List ℕ). text_then o w goes) (made-said l a rest) (shown-said l a rest)
    ∙ ap (λ (w : List ℕ). text_after l a ++ calls_text_in (k - 1) (line_after l a) w) (past a rest)

texts-none : (k : ℕ) (l : Line) → calls_text_in k l [] ≡ []
unfolding calls_text_in made_of first_of when◌then◌else◌
texts-none zero l = refl
texts-none (suc k) l = refl

texts-said : (k : ℕ) (l : Line) (asks : List Ask) → length (list_of asks) ≤ k → calls_text_in k l (list_of asks) ≡ texts_of l asks
unfolding list_of texts_of
texts-said k l [] h = texts-none k l
texts-said k l (a ∷ asks) h =
    let rest = list_of asks in
    let long : length (bytes_in a ++ rest) ≡ length (bytes_in a) + length rest = length-append (bytes_in a) rest in
    let one = said-some a in
    texts-goes k l a rest (λ e. omega arith)
    ∙ ap (λ (w : List ℕ). text_after l a ++ w) (texts-said (k - 1) (line_after l a) asks (omega arith))

-- what bytes begin with: a call and then the rest, or none
data Begins (rest : List ℕ) : Type 0 where
  nothing : first_of rest ≡ None → Begins rest
  call : (a : Ask) (more : List ℕ) → rest ≡ bytes_in a ++ more → Begins rest

begins-cut : (rest : List ℕ) → Begins (1 ∷ rest)
begins-cut [] = nothing (first-cut [] ∙ cut_short (1 ∷ []) (omega arith))
begins-cut (x ∷ []) = nothing (first-cut (x ∷ []) ∙ cut_short (1 ∷ x ∷ []) (omega arith))
begins-cut (x ∷ y ∷ []) = nothing (first-cut (x ∷ y ∷ []) ∙ cut_short (1 ∷ x ∷ y ∷ []) (omega arith))
begins-cut (x ∷ y ∷ z ∷ []) = nothing (first-cut (x ∷ y ∷ z ∷ []) ∙ cut_short (1 ∷ x ∷ y ∷ z ∷ []) (omega arith))
begins-cut (x ∷ y ∷ z ∷ w ∷ more) =
    let n = word_of z w in
    ⊎_elim
    (λ (lacks : length more < n).
    nothing (first-cut (x ∷ y ∷ z ∷ w ∷ more) ∙ cut-lacks (1 ∷ x ∷ y ∷ z ∷ w ∷ more) (omega arith) (omega arith)))
    (λ (all : n ≤ length more).
    call (hand (record { room-high = x; room-low = y; long-high = z; long-low = w; bytes = take n more; long = sym (length-take-le n more all) })) (drop n more)
    (ap (λ (l : List ℕ). 1 ∷ x ∷ y ∷ z ∷ w ∷ l) (sym (take-append-drop n more))))
    (lt-or-ge (length more) n)

same_or_not : (x y : ℕ) → (x ≡ y) ⊎ (x ≡ y → ⊥)
same_or_not x y = ⊎_elim (λ (h : x < y). inr (λ e. omega arith)) (λ (h : y ≤ x). ⊎_elim (λ (g : y < x). inr (λ e. omega arith)) (λ (g : x ≤ y). inl (omega arith)) (lt-or-ge y x)) (lt-or-ge x y)

begins : (x : ℕ) (rest : List ℕ) → Begins (x ∷ rest)
begins x rest =
    ⊎_elim
    (λ (e : x ≡ 2). call shut rest (ap (λ (k : ℕ). k ∷ rest) e))
    (λ (n : x ≡ 2 → ⊥).
    ⊎_elim
    (λ (e : x ≡ 1). rw e (begins-cut rest))
    (λ (m : x ≡ 1 → ⊥). nothing (first-other x rest n m))
    (same_or_not x 1))
    (same_or_not x 2)

-- what is read as a list was written as one
abbrev Written : List ℕ → Type 0
Written rest = (asks : List Ask) × (rest ≡ list_of asks)

written-call : (k : ℕ) (rest : List ℕ) → Begins rest → 1 ≤ length rest → list_in (suc k) rest ≡ true → ((more : List ℕ) → list_in k more ≡ true → Written more) → Written rest
unfolding list_of
written-call k rest (nothing z) h e further =
    absurd (false≢true (sym (list-ends (suc k) rest (λ q. omega arith) (λ q. omega (arith, q)) z) ∙ e))
written-call k rest (call a more q) h e further =
    let one = said-some a in
    let here : list_in (suc k) (bytes_in a ++ more) ≡ true = rw q at e in
    let long : length (bytes_in a ++ more) ≡ length (bytes_in a) + length more = length-append (bytes_in a) more in
    let goes = list-goes (suc k) (bytes_in a ++ more) (λ z. omega arith) (λ z. omega (arith, z)) (first_said a more) in
    let less : suc k - 1 ≡ k = omega arith in
    let rest-is : list_in k more ≡ true = rw (less, past a more) at (sym goes ∙ here) in
    let w = further more rest-is in
    (a ∷ w.0, q ∙ ap (λ (l : List ℕ). bytes_in a ++ l) w.1)

written_none : (rest : List ℕ) → list_in 0 rest ≡ true → Written rest
unfolding list_in list_of
written_none [] e = ([], refl)
written_none (x ∷ rest) e = absurd (let q = eqb-true (length (x ∷ rest)) 0 e in omega (arith, q))

written-some : (k : ℕ) (rest : List ℕ) → list_in (suc k) rest ≡ true → ((more : List ℕ) → list_in k more ≡ true → Written more) → Written rest
unfolding list_of
written-some k [] e further = ([], refl)
written-some k (x ∷ rest) e further = written-call k (x ∷ rest) (begins x rest) (omega arith) e further

written : (k : ℕ) (rest : List ℕ) → list_in k rest ≡ true → Written rest
written zero rest e = written_none rest e
written (suc k) rest e = written-some k rest e (written k)

-- an input that is a list or not, and what is shown of it
module _ (input : List ℕ) where
  listed : length input ≤ most_bytes → is_list_of input ≡ list_in (length input) input
  unfolding is_list_of when◌then◌else◌
  listed h = rw (le-ltb most_bytes (length input) h)

  too_long : most_bytes < length input → is_list_of input ≡ false
  unfolding is_list_of when◌then◌else◌
  too_long h = rw (lt-ltb most_bytes (length input) h)

  shown : is_list_of input ≡ true → cuts_text_of input ≡ calls_text_in (length input) fresh_line input
  unfolding cuts_text_of when◌then◌else◌
  shown e = rw e

  not-shown : is_list_of input ≡ false → cuts_text_of input ≡ no_call
  unfolding cuts_text_of when◌then◌else◌
  not-shown e = rw e

  refuses : (t : Bool) → is_list_of input ≡ t → ((asks : List Ask) → input ≡ list_of asks → ⊥) → cuts_text_of input ≡ no_call
  refuses false e none = not-shown e
  refuses true e none =
      ⊎_elim
      (λ (long : most_bytes < length input). absurd (false≢true (sym (too_long long) ∙ e)))
      (λ (h : length input ≤ most_bytes). let w = written (length input) input (sym (listed h) ∙ e) in absurd (none w.0 w.1))
      (lt-or-ge most_bytes (length input))

pub shows : (input : List ℕ) → Shows input
shows input =
    record {
      calls = λ asks e h.
          let is : list_in (length input) input ≡ true = rw e (list-said (length (list_of asks)) asks (omega arith)) in
          let texts : calls_text_in (length input) fresh_line input ≡ texts_of fresh_line asks = rw e (texts-said (length (list_of asks)) fresh_line asks (omega arith)) in
          shown input (listed input h ∙ is) ∙ texts;
      refused = λ why. ⊎_elim (λ none. refuses input (is_list_of input) refl none) (λ long. not-shown input (too_long input long)) why;
    }
