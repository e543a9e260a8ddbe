use mathlib.Core.Path.{sym, ap, ◌∙◌}
use mathlib.Core.List.{List}
use native.Mathlib.Omega.{arith}
use lib.ListN.{length}
use borrow.Author.Tests.{eq-eqb, ne_eqb}
use Rattle.setup_reader.specs.declared.entries.Entry.{Entry}
use Rattle.setup_reader.specs.Judged.{placed_of}
use Rattle.setup_reader.proofs.Walking.{left-first, left-none}
use Rattle.setup_reader.proofs.contents.Contents.placed.Goals as goal

pub returns-then-not-lies_at : goal.returns-then-not-lies_at
unfolding placed_of
returns-then-not-lies_at c =
    let l = c.loop-i in
    let s = c.args.self.now in
    let first = left-first s.file.now s.entries l.i c.entry-entry.ensures (omega arith) in
    let no = sym c.lies_at.ensures ∙ c.if-not-lies_at.true in
    rw (l.invariant.same, ap (λ (es : List Entry). placed_of l.at es (length s.file.now)) first, no)

pub loop-i-preserved : goal.loop-i-preserved
unfolding placed_of
loop-i-preserved c =
    let l = c.loop-i in
    let s = c.args.self.now in
    let first = left-first s.file.now s.entries l.i c.entry-entry.ensures (omega arith) in
    let yes = sym c.lies_at.ensures ∙ c.if-not-lies_at.false in
    record {
      near = omega arith;
      same = l.invariant.same ∙ ap (λ (es : List Entry). placed_of l.at es (length s.file.now)) first ∙ rw (yes, c.from-at.ensures);
    }

pub returns-then-at-self : goal.returns-then-at-self
unfolding placed_of
returns-then-at-self c =
    let l = c.loop-i in
    let s = c.args.self.now in
    let none = left-none s.file.now s.entries l.i (omega arith) in
    rw (l.invariant.same, ap (λ (es : List Entry). placed_of l.at es (length s.file.now)) none, eq-eqb _ _ c.if-at-self.true)

pub returns-else-at-self : goal.returns-else-at-self
unfolding placed_of
returns-else-at-self c =
    let l = c.loop-i in
    let s = c.args.self.now in
    let none = left-none s.file.now s.entries l.i (omega arith) in
    rw (l.invariant.same, ap (λ (es : List Entry). placed_of l.at es (length s.file.now)) none, ne_eqb _ _ c.if-at-self.false)
