use Prim.Native.Nat.{ℕ}
use mathlib.Core.Path.{◌≡◌, ap, ◌∙◌}
use native.Mathlib.Omega.{arith}
use lib.ListN.{replicate, length-replicate}
use Rattle.std.specs.Prelude.{Some, None}
use Rattle.text.proofs.Adding.{whole}
use Rattle.cuts_text.specs.Made.{cut_in}
use Rattle.cuts_text.specs.declared.asked.Asked.TheVariants.{Close, Cut}
use Rattle.cuts_text.proofs.Making.{cut_bytes, makes, shows, shows-nothing, close-has-room, cut-has-room}
use Rattle.cuts_text.proofs.made.make.Goals as goal

pub returns-in_err-first-clause-made : goal.returns-in_err-first-clause-made
returns-in_err-first-clause-made c =
    let none : c.first.result ≡ None = c.in_err-first.was in
    makes c.args.before c.args.rest.now c.first.ensures.is (rw none c.from_residual.ensures)

pub returns-in_err-first-clause-laid : goal.returns-in_err-first-clause-laid
returns-in_err-first-clause-laid c =
    shows-nothing c.args.before c.args.rest.now c.first.ensures.is c.in_err-first.was c.clear.ensures

pub returns-in-Close-clause-made : goal.returns-in-Close-clause-made
returns-in-Close-clause-made c =
    let some : c.first.result ≡ Some c.in_ok-first.field-0 = c.in_ok-first.was in
    makes c.args.before c.args.rest.now c.first.ensures.is (rw (some, c.in-Close.is) (ap Some c.closed.ensures.made))

pub returns-in-Close-clause-laid : goal.returns-in-Close-clause-laid
returns-in-Close-clause-laid c =
    let some = c.in_ok-first.was ∙ ap Some c.in-Close.is in
    shows c.args.before c.args.rest.now Close c.first.ensures.is some (whole c.clear.ensures c.closed.ensures.text (close-has-room c.args.before))

pub returns-in-Cut-clause-made : goal.returns-in-Cut-clause-made
returns-in-Cut-clause-made c =
    let rest = c.args.rest.now in
    let some : c.first.result ≡ Some c.in_ok-first.field-0 = c.in_ok-first.was in
    let within = rw c.in-Cut.is at c.in_ok-first.ensures.within in
    let bytes = cut_bytes rest c.in-Cut.long within.1 in
    makes c.args.before rest c.first.ensures.is (rw (some, c.in-Cut.is) (ap Some (rw (c.from-end.ensures, bytes.0, bytes.1) at c.handed.ensures.made)))

pub returns-in-Cut-clause-laid : goal.returns-in-Cut-clause-laid
returns-in-Cut-clause-laid c =
    let rest = c.args.rest.now in
    let some = c.in_ok-first.was ∙ ap Some c.in-Cut.is in
    let within = rw c.in-Cut.is at c.in_ok-first.ensures.within in
    let bytes = cut_bytes rest c.in-Cut.long within.1 in
    let put = rw (c.from-end.ensures, bytes.0) at c.handed.ensures.text in
    let has = cut-has-room c.args.before (cut_in rest c.in-Cut.long) (replicate c.in-Cut.room 0xA5) (omega (arith, length-replicate {A = ℕ} c.in-Cut.room 0xA5, within.0)) in
    shows c.args.before rest (Cut c.in-Cut.room c.in-Cut.long) c.first.ensures.is some (whole c.clear.ensures put has)
