-- Each refusal number in its own case and in no other: `Refusals` of specs/Refusals.antt holds of every record. Assumes nothing.
use Prim.Native.Nat.{ℕ, suc, ◌+◌, ◌<◌, ◌≤◌}
use mathlib.Core.Path.{◌≡◌, refl}
use mathlib.Core.Bool.{Bool, true, false, true≢false, false≢true}
use mathlib.Core.List.{List, [], ◌∷◌}
use mathlib.Core.Logic.{◌↔◌, ◌⊎◌, inl, inr, ⊎_elim}
use native.Mathlib.Omega.{arith}
use Rattle.std.specs.Prelude.{Result, Err}
use lib.Dec.{eqb}
use lib.ListN.{length}
use borrow.Author.Tests.{eqb-true, eqb-false}
use Rattle.basics.specs.Choice.{when◌then◌else◌}
use Rattle.basics.proofs.Tests.{lt-or-ge}
use Rattle.record.specs.Decode.{Line, table_of, looked_up, allowed_of, checked_of, decode_of, number_of}
use Rattle.record.specs.Refusals.{UnknownKind, KnownKind, Refusals}
use Rattle.record.specs.declared.event.Event.{Event}
use Rattle.record.specs.declared.kinds.Refusal.{Refusal}
use Rattle.record.specs.declared.kinds.Refusal.TheVariants.{Kind}

-- what the lines from kind k on make of a kind, and whether they allow its fields
abbrev decoded_by : ℕ → List Line → ℕ → Result Event Refusal
decoded_by k lines kind = looked_up (λ l. checked_of l.fields l.event) (Err Kind) k lines kind

abbrev allowed_by : ℕ → List Line → ℕ → Bool
allowed_by k lines kind = looked_up (λ l. l.fields) false k lines kind

-- one of those lines speaks for the kind, or none does
data Spoken (k : ℕ) (lines : List Line) (kind : ℕ) : Type 0 where
  known : k ≤ kind → kind < k + length lines → (e : Event) → decoded_by k lines kind ≡ checked_of (allowed_by k lines kind) e → Spoken k lines kind
  none : (kind < k) ⊎ (k + length lines ≤ kind) → decoded_by k lines kind ≡ Err Kind → allowed_by k lines kind ≡ false → Spoken k lines kind

module _ (k : ℕ) (l : Line) (lines : List Line) (kind : ℕ) where
  here : eqb kind k ≡ true → Spoken k (l ∷ lines) kind
  unfolding looked_up when◌then◌else◌
  here e = let q : kind ≡ k = eqb-true kind k e in known (omega arith) (omega arith) l.event (rw e refl)

  further : eqb kind k ≡ false → Spoken (suc k) lines kind → Spoken k (l ∷ lines) kind
  unfolding looked_up when◌then◌else◌
  further e (known h g event d) = known (omega arith) (omega arith) event (rw e d)
  further e (none out d f) =
      let not : kind ≡ k → ⊥ = eqb-false kind k e in
      none (⊎_elim (λ h. inl (omega arith)) (λ h. inr (omega arith)) out) (rw e d) (rw e f)

  by-test : (t : Bool) → eqb kind k ≡ t → Spoken (suc k) lines kind → Spoken k (l ∷ lines) kind
  by-test true e s = here e
  by-test false e s = further e s

spoken : (lines : List Line) (k kind : ℕ) → Spoken k lines kind
unfolding looked_up
spoken [] k kind = none (⊎_elim (λ h. inl h) (λ h. inr (omega arith)) (lt-or-ge kind k)) refl refl
spoken (l ∷ lines) k kind = by-test k l lines kind (eqb kind k) refl (spoken lines (suc k) kind)

-- the three numbers, given what the fields are
abbrev Numbers : ℕ → ℕ → Bool → Type 0
Numbers n kind fields = ((n ≡ 0) ↔ (fields ≡ true)) × ((n ≡ 1) ↔ UnknownKind kind) × ((n ≡ 2) ↔ (KnownKind kind × (fields ≡ false)))

by-fields : (fields : Bool) (kind : ℕ) (e : Event) → KnownKind kind → Numbers (number_of (checked_of fields e)) kind fields
unfolding checked_of when◌then◌else◌
by-fields true kind e h = (
  (λ _. refl, λ _. refl),
  (λ p. absurd (omega arith), λ u. absurd (⊎_elim (λ z. omega arith) (λ z. omega arith) u)),
  (λ p. absurd (omega arith), λ p. absurd (true≢false p.1)),
)
by-fields false kind e h = (
  (λ p. absurd (omega arith), λ p. absurd (false≢true p)),
  (λ p. absurd (omega arith), λ u. absurd (⊎_elim (λ z. omega arith) (λ z. omega arith) u)),
  (λ _. (h, refl), λ _. refl),
)

by_kind : (kind : ℕ) → UnknownKind kind → Numbers 1 kind false
by_kind kind u = (
  (λ p. absurd (omega arith), λ p. absurd (false≢true p)),
  (λ _. u, λ _. refl),
  (λ p. absurd (omega arith), λ p. absurd (⊎_elim (λ z. omega (arith, p.0.0)) (λ z. omega (arith, p.0.1)) u)),
)

by-line : (kind hi lo value : ℕ) → Spoken 1 (table_of hi lo value) kind → Numbers (number_of (decode_of kind hi lo value)) kind (allowed_of kind hi lo value)
unfolding decode_of allowed_of
by-line kind hi lo value (known h g e q) = rw q (by-fields (allowed_of kind hi lo value) kind e (h, omega arith))
by-line kind hi lo value (none u q f) =
    rw (q, f) (by_kind kind (⊎_elim (λ h. inl (omega arith)) (λ h. inr (omega arith)) u))

pub refusals : (kind hi lo value : ℕ) → Refusals kind hi lo value
refusals kind hi lo value =
    let n = by-line kind hi lo value (spoken (table_of hi lo value) 1 kind) in
    record { none = n.0; one = n.1; two = n.2 }
