-- What holds of every call on a line (document 02, W3). proofs/Calls.antt shows it.
use Rattle.std.specs.Prelude.{ℕ, ◌+◌, ◌-◌, ◌*◌, ◌≤◌, ◌<◌, true, false, List, [], ◌++◌, ◌↔◌, ◌⊎◌, ◌≡◌, length, take, drop}
use Rattle.line.specs.Held.{held_of}
use Rattle.replay.specs.Run.{written_of}
use Rattle.line.specs.CallEnding.{call_ending_number}
use Rattle.line.specs.declared.ending.CallEnding.TheVariants.{Closed}
use Rattle.line.specs.Line.{Outcome, unmoved_of, outcome_of, closing_of, accepted_of}
use Rattle.line.specs.declared.calls.Line.{Line}
use Rattle.every_line.specs.Records.{Sent, sent_of, Answered}

-- how many bytes a line holds
abbrev pub holds : Line → ℕ
holds l = length (held_of l.held)

-- a cut on a line, into so much room: each ending number in its own case and in no other, and no byte lost or read twice
pub record SoundCall (l : Line) (cut : List ℕ) (room : ℕ) (o : Outcome) : Type 0 where
  -- a cut ends with 0, 4 or 12, and so never with 3
  pub endings : (call_ending_number o.ending ≡ 0) ⊎ (call_ending_number o.ending ≡ 4) ⊎ (call_ending_number o.ending ≡ 12)
  -- 12 on a closed line, and on no other; the line stays as it was, no byte is taken, and nothing is answered
  pub closed : (call_ending_number o.ending ≡ 12) ↔ (l.closed ≡ true)
  pub unmoved : l.closed ≡ true → o ≡ unmoved_of l Closed
  -- 4 on an open line where a whole record is left and no room for its answer, and nowhere else. Then no byte of the cut is taken but those of
  -- the answered records, and the line holds nothing but what it held before, as far as no answer has used it up.
  pub full : l.closed ≡ false → (call_ending_number o.ending ≡ 4) ↔ ((4 * length o.answers + 4 ≤ holds l + length cut) × (room < 8 * length o.answers + 8))
  pub full-takes : call_ending_number o.ending ≡ 4 → o.taken ≡ 4 * length o.answers - holds l
  pub full-keeps : call_ending_number o.ending ≡ 4 → held_of o.line.held ≡ drop (4 * length o.answers) (held_of l.held)
  -- 0 where the cut is taken to its end, and an open line stays open
  pub all : call_ending_number o.ending ≡ 0 → o.taken ≡ length cut
  pub still_open : l.closed ≡ false → o.line.closed ≡ false
  -- never more than three bytes are held, no more taken than the cut has, and each answer has its eight bytes of room
  pub three : holds o.line ≤ 3
  pub within : o.taken ≤ length cut
  pub has_room : 8 * length o.answers ≤ room
  -- every byte that was held or is taken belongs to an answered record or is held
  pub balance : holds l + o.taken ≡ 4 * length o.answers + holds o.line
  -- what is held afterwards, and behind it what was not taken, is all that the answered records leave of what was held and of the cut
  pub rest : held_of o.line.held ++ drop o.taken cut ≡ drop (4 * length o.answers) (held_of l.held ++ cut)

-- The records that a cut on an open line answers, demands 1 and 2 for that call: they are the first bytes of what was held and of the cut,
-- and each is answered, the chips moving from where the line had them to where it then has them.
pub record Records (l : Line) (cut : List ℕ) (o : Outcome) : Type 0 where
  pub records : List Sent
  pub bytes : take (4 * length o.answers) (held_of l.held ++ cut) ≡ sent_of records
  pub answered : Answered l.bench records o.answers o.line.bench

-- The output after a cut, of which nothing but the first bytes changes, eight for each answer; on a closed line not one byte.
pub record Output (l : Line) (cut out : List ℕ) (o : Outcome) : Type 0 where
  pub same : length (accepted_of l cut out) ≡ length out
  pub front : take (8 * length o.answers) (accepted_of l cut out) ≡ written_of o.answers
  pub past : drop (8 * length o.answers) (accepted_of l cut out) ≡ drop (8 * length o.answers) out
  pub untouched : l.closed ≡ true → accepted_of l cut out ≡ out

-- closing
pub record Closes (l : Line) : Type 0 where
  -- the line is closed, with the chips and the bytes that it had; nothing is taken or answered
  pub closed : (closing_of l).line.closed ≡ true
  pub chips : (closing_of l).line.bench ≡ l.bench
  pub held : (closing_of l).line.held ≡ l.held
  pub nothing : ((closing_of l).taken ≡ 0) × ((closing_of l).answers ≡ [])
  -- an open one ends with 0 where it holds nothing, and with 3 where it holds one to three bytes
  pub zero : l.closed ≡ false → (call_ending_number (closing_of l).ending ≡ 0) ↔ (holds l ≡ 0)
  pub three : l.closed ≡ false → (call_ending_number (closing_of l).ending ≡ 3) ↔ ((1 ≤ holds l) × (holds l ≤ 3))
  -- one that is closed already ends with 12, and nothing changes
  pub again : l.closed ≡ true → closing_of l ≡ unmoved_of l Closed

-- every call on a line
pub record Calls (l : Line) : Type 0 where
  pub sound : (cut : List ℕ) (room : ℕ) → SoundCall l cut room (outcome_of l cut room)
  pub each : l.closed ≡ false → (cut : List ℕ) (room : ℕ) → Records l cut (outcome_of l cut room)
  pub output : (cut out : List ℕ) → Output l cut out (outcome_of l cut (length out))
  pub closes : Closes l
