-- Laws of listings. Assumes nothing.
use Prim.Native.Nat.{ℕ, ◌*◌, ◌≤◌}
use mathlib.Core.Path.{◌≡◌, ap, ap₂, ◌∙◌}
use mathlib.Core.List.{List, [], ◌++◌}
use native.Mathlib.Omega.{arith}
use lib.ListN.{length, take, drop, length-append}
use lib.Seq.{take_at}
use Rattle.basics.specs.Lay.{laid_at}
use Rattle.basics.proofs.Laying.{laid-front}
use Rattle.basics.proofs.Cases.{if-both}
use Rattle.text.specs.Lines.{per_line}
use Rattle.text.specs.private.Adds.{Adds}
use Rattle.text.specs.Speech.{too_long}
use Rattle.replay.specs.Ending.{ending_number}
use Rattle.replay.specs.Run.{written_of, returned_of}
use Rattle.replay.specs.declared.run.Replayed.{Replayed}
use Rattle.replay.proofs.Replaying.{length-written}
use Rattle.batch.specs.Fresh.{most_output, fresh_run_of}
use Rattle.batch.proofs.Ran.{answers-have-room}
use Rattle.answer_lines.specs.Lines.{answer_lines_of}
use Rattle.answer_lines.specs.Marked.{with_lines}
use Rattle.answer_lines.proofs.Lined.{adds-lines, lines-answers, length-answers}
use Rattle.lister.specs.Lengths.{listing_length}
use Rattle.lister.specs.Listing.{end_of, listed_of, batch_listing_of, listing_of}

-- the answers' lines, made of the output that a replay left, and then the ending
pub lists : {t u s out' : List ℕ} {r : Replayed} (batch out : List ℕ) → length out ≡ most_output → t ≡ [] → r ≡ returned_of (fresh_run_of batch (length out))
    → out' ≡ laid_at out 0 (written_of (fresh_run_of batch (length out)).answers) → u ≡ with_lines listing_length t (take (per_line * r.answers) out')
    → Adds listing_length u s (end_of (ending_number r.ending)) → s ≡ batch_listing_of batch
unfolding batch_listing_of listed_of
lists {t} {u} {s} {out'} {r} batch out long empty returned output a b =
    let l = (fresh_run_of batch (length out)).answers in
    let bytes : length (written_of l) ≡ per_line * length l = length-written l in
    let front : take (per_line * r.answers) out' ≡ written_of l =
    rw (returned, output, laid-front out (written_of l)) (take_at (written_of l) (drop (length (written_of l)) out) (per_line * length l) bytes) in
    let most = answers-have-room batch (length out) in
    let lines : u ≡ answer_lines_of l =
    adds-lines listing_length t (written_of l) (rw front at a) (omega (arith, bytes, most, long, ap length empty))
    ∙ ap₂ (λ (x y : List ℕ). x ++ y) empty (lines-answers l) in
    rw (← long)
    (b.holds (omega (arith, ap length lines, length-answers l, most, long)) ∙ ap₂ (λ (x y : List ℕ). x ++ y) lines (ap (λ (k : Replayed). end_of (ending_number k.ending)) returned))

-- every listing has room
pub listing-has-room : (input : List ℕ) → length (listing_of input) ≤ listing_length
unfolding listing_of batch_listing_of listed_of
listing-has-room input =
    let run = fresh_run_of input most_output in
    if-both
    (λ (l : List ℕ). length l ≤ listing_length)
    _
    too_long
    (listed_of run)
    (λ yes. omega arith)
    (λ no. simp length-append (omega (arith, length-answers run.answers, answers-have-room input most_output)))
