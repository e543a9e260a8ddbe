use native.Mathlib.Omega.{arith}
use lib.ListN.{length, get_or}
use borrow.Author.Tests.{eq-eqb, ne_eqb}
use Rattle.basics.specs.Choice.{when◌then◌else◌}
use Rattle.cuts_text.specs.Asked.{first_of}
use Rattle.cuts_text.proofs.asked.first.Goals as goal

pub returns-in_default-clause-is : goal.returns-in_default-clause-is
unfolding first_of when◌then◌else◌
returns-in_default-clause-is c = rw (eq-eqb (length c.args.rest.now) 0 (omega (arith, c.in_default.len_below)))

pub returns-in-2-clause-is : goal.returns-in-2-clause-is
unfolding first_of when◌then◌else◌
returns-in-2-clause-is c =
    let rest = c.args.rest.now in
    rw (ne_eqb (length rest) 0 (λ e. omega (arith, e, c.in-len1-up.len_at_least)), eq-eqb (get_or rest 0 0) 2 c.in-2.is)

pub returns-in-1-clause-is : goal.returns-in-1-clause-is
unfolding first_of when◌then◌else◌
returns-in-1-clause-is c =
    let rest = c.args.rest.now in
    rw (ne_eqb (length rest) 0 (λ e. omega (arith, e, c.in-len1-up.len_at_least)), ne_eqb (get_or rest 0 0) 2 (λ e. omega (arith, e, c.in-1.is)), eq-eqb (get_or rest 0 0) 1 c.in-1.is)
    c.cut.ensures.is

pub returns-in_default-sort-clause-is : goal.returns-in_default-sort-clause-is
unfolding first_of when◌then◌else◌
returns-in_default-sort-clause-is c =
    let rest = c.args.rest.now in
    rw (ne_eqb (length rest) 0 (λ e. omega (arith, e, c.in-len1-up.len_at_least)), ne_eqb (get_or rest 0 0) 2 (λ e. omega (arith, e)), ne_eqb (get_or rest 0 0) 1 (λ e. omega (arith, e)))
