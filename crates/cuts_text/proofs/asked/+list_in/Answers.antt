use mathlib.Core.Path.{sym, ◌∙◌}
use lib.ListN.{length}
use borrow.Author.Tests.{eqb-true, eqb-false}
use Rattle.cuts_text.proofs.Listing.{list-none, list-bound, list-ends, list-goes}
use Rattle.cuts_text.proofs.asked.+list_in.Goals as goal

pub returns-then-is_empty : goal.returns-then-is_empty
returns-then-is_empty t c = sym (list-none _ c.args.rest.now (eqb-true (length c.args.rest.now) 0 (sym c.is_empty.ensures ∙ c.if-is_empty.true)))

pub returns-then-most-eq0 : goal.returns-then-most-eq0
returns-then-most-eq0 t c =
    sym (list-bound _ c.args.rest.now (eqb-false (length c.args.rest.now) 0 (sym c.is_empty.ensures ∙ c.if-is_empty.false)) c.if-most-eq0.true)

pub returns-in_default : goal.returns-in_default
returns-in_default t c =
    let a = c.args in
    let some = eqb-false (length a.rest.now) 0 (sym c.is_empty.ensures ∙ c.if-is_empty.false) in
    sym (list-ends a.most a.rest.now some c.if-most-eq0.false (sym c.first.ensures.is ∙ c.in_default.is))

pub returns : goal.returns
returns t c =
    let a = c.args in
    let some = eqb-false (length a.rest.now) 0 (sym c.is_empty.ensures ∙ c.if-is_empty.false) in
    let goes = list-goes a.most a.rest.now some c.if-most-eq0.false (sym c.first.ensures.is ∙ c.in-Some.is) in
    rw (c.unread_rest.ensures.bytes, c.length.ensures) at c.list_in.ensures ∙ sym goes
