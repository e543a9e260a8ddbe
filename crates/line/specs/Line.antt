-- The two calls on a line (document 02, W3). What a cut gives is said by the replay that stands: a run over the bytes held and the cut.
use Rattle.std.specs.Prelude.{ℕ, ◌-◌, true, false, List, [], ◌++◌, length, drop}
use Rattle.basics.specs.Choice.{when◌then◌else◌}
use Rattle.basics.specs.Lay.{laid_at}
use Rattle.answer.specs.declared.Answer.{Answer}
use Rattle.bench.specs.declared.step.Bench.{Bench}
use Rattle.replay.specs.Run.{Run, run_of, written_of}
use Rattle.replay.specs.declared.ending.Ending.{Ending}
use Rattle.replay.specs.declared.ending.Ending.TheVariants as run_ends
use Rattle.batch.specs.Fresh.{fresh_bench}
use Rattle.line.specs.Held.{held_of, holding_of, closing_ending}
use Rattle.line.specs.declared.ending.CallEnding.{CallEnding}
use Rattle.line.specs.declared.ending.CallEnding.TheVariants.{Done, NoRoom, Closed}
use Rattle.line.specs.declared.held.Held.{Held}
use Rattle.line.specs.declared.held.Held.TheVariants.{Nothing}
use Rattle.line.specs.declared.calls.Line.{Line}
use Rattle.line.specs.declared.calls.Called.{Called}

-- an open line, by its chips and what it holds
abbrev pub open_of : Bench → Held → Line
open_of b held = record { bench = b; held = held; closed = false }

-- one that holds nothing
abbrev pub empty_of : Bench → Line
empty_of b = open_of b Nothing

-- and that on fresh chips, with which everything begins
abbrev pub fresh_line : Line
fresh_line = empty_of fresh_bench

-- what a call comes to: the line after it, how it ended, how many bytes of its own cut it took, and its answers in order
pub record Outcome : Type 0 where
  pub line : Line
  pub ending : CallEnding
  pub taken : ℕ
  pub answers : List Answer

-- a call that changes nothing, takes nothing and answers nothing
abbrev pub unmoved_of : Line → CallEnding → Outcome
unmoved_of l ending = record { line = l; ending = ending; taken = 0; answers = [] }

-- the bytes held and the cut behind them, read as one run of records, with so much room for its answers
abbrev pub run_over : Line → List ℕ → ℕ → Run
run_over l cut room = run_of (held_of l.held ++ cut) room l.bench

-- No whole record is left: the cut is taken to its end, and what the run left unread is held.
abbrev pub waits_of : Line → List ℕ → Run → Outcome
waits_of l cut r =
    record {
      line = open_of r.bench (holding_of (drop r.taken (held_of l.held ++ cut)));
      ending = Done;
      taken = length cut;
      answers = r.answers;
    }

-- A whole record is left, and its answer has no room. The cut is taken as far as the run went, and so no byte of that record is. A run that
-- took nothing leaves what was held; one that took its first record took all of that with it.
abbrev pub full_of : Line → Run → Outcome
full_of l r =
    record {
      line = open_of r.bench (holding_of (drop r.taken (held_of l.held)));
      ending = NoRoom;
      taken = r.taken - length (held_of l.held);
      answers = r.answers;
    }

-- A cut on an open line, by the run over its bytes and how that ends: for want of room, or with less than a record left.
abbrev pub open_outcome_of : Line → List ℕ → Run → Ending → Outcome
open_outcome_of l cut r run_ends.NoRoom = full_of l r
open_outcome_of l cut r run_ends.Empty = waits_of l cut r
open_outcome_of l cut r run_ends.CutShort = waits_of l cut r

-- A cut, into so much room. A closed line is looked at before all else: 12. An open one gives 4 where the run ends for want of room, and
-- else 0. So no cut ends with 3: what a run leaves of a record waits for the next cut.
unfoldable pub outcome_of : Line → List ℕ → ℕ → Outcome
outcome_of l cut room =
    when l.closed then unmoved_of l Closed
    else open_outcome_of l cut (run_over l cut room) (run_over l cut room).ending

-- Closing. Decision: the bytes still held stay in the line, where they can be looked at; no call reads them again, since each meets 12.
unfoldable pub closing_of : Line → Outcome
closing_of l =
    when l.closed then unmoved_of l Closed
    else unmoved_of (record { bench = l.bench; held = l.held; closed = true }) (closing_ending l.held)

-- what a call returns: its answers by their number
abbrev pub called_of : Outcome → Called
called_of o = record { line = o.line; ending = o.ending; taken = o.taken; answers = length o.answers }

-- what a cut into an output returns
unfoldable pub accept_of : Line → List ℕ → List ℕ → Called
accept_of l cut out = called_of (outcome_of l cut (length out))

-- what the output then holds: the answers' bytes at its front, and past them what stood there
unfoldable pub accepted_of : Line → List ℕ → List ℕ → List ℕ
accepted_of l cut out = laid_at out 0 (written_of (outcome_of l cut (length out)).answers)

-- what closing returns
unfoldable pub close_of : Line → Called
close_of l = called_of (closing_of l)
