-- Records one after the other, as they are sent, and what becomes of each (document 01, "Records and what comes back").
use Rattle.std.specs.Prelude.{ℕ, List, [], ◌∷◌, ◌≡◌}
use Rattle.answer.specs.Answer.{plain_of}
use Rattle.answer.specs.declared.Answer.{Answer}
use Rattle.bench.specs.Step.{step_of}
use Rattle.bench.specs.declared.step.Bench.{Bench}
use Rattle.bench.specs.declared.step.Stepped.{Stepped}

-- a record by its four bytes, good or damaged
pub record Sent : Type 0 where
  pub kind : ℕ
  pub hi : ℕ
  pub lo : ℕ
  pub value : ℕ

-- the bytes of records, in the order in which they are sent
unfoldable pub sent_of : List Sent → List ℕ
sent_of [] = []
sent_of (r ∷ l) = r.kind ∷ r.hi ∷ r.lo ∷ r.value ∷ sent_of l

-- what a record does on a bench
abbrev pub stepped : Bench → Sent → Stepped
stepped b r = step_of b r.kind r.hi r.lo r.value

-- Records answered on a bench, one after the other: their answers, and the bench after the last. One that is refused is answered by its
-- kind, its number and a zero body, and leaves both chips as they were (demand 1); one that is done answers, and moves the chips, as its
-- step does (demand 2).
pub data Answered : Bench → List Sent → List Answer → Bench → Type 0 where
  none : (b : Bench) → Answered b [] [] b
  refused : (b : Bench) (r : Sent) (l : List Sent) (answers : List Answer) (last : Bench) (number : ℕ) → (number ≡ 0 → ⊥)
      → (stepped b r).answer ≡ plain_of r.kind number → Answered b l answers last → Answered b (r ∷ l) (plain_of r.kind number ∷ answers) last
  done : (b : Bench) (r : Sent) (l : List Sent) (answers : List Answer) (last : Bench)
      → (stepped b r).answer.refusal ≡ 0 → Answered (stepped b r).bench l answers last → Answered b (r ∷ l) ((stepped b r).answer ∷ answers) last
