use mathlib.Core.Path.{sym, ap, ◌∙◌}
use native.Mathlib.Omega.{arith}
use Rattle.setup_reader.specs.Judged.{rising_of}
use Rattle.setup_reader.proofs.Walking.{left-first, left-none}
use Rattle.setup_reader.proofs.contents.Contents.rising.Goals as goal

pub returns-then-not-follows : goal.returns-then-not-follows
unfolding rising_of
returns-then-not-follows c =
    let l = c.loop-i in
    let s = c.args.self.now in
    let first = left-first s.file.now s.entries l.i c.entry-kind.ensures (omega arith) in
    let no = sym c.follows.ensures ∙ c.if-not-follows.true in
    rw (l.invariant, ap (rising_of l.last) first, no)

pub loop-i-preserved : goal.loop-i-preserved
unfolding rising_of
loop-i-preserved c =
    let l = c.loop-i in
    let s = c.args.self.now in
    let first = left-first s.file.now s.entries l.i c.entry-kind.ensures (omega arith) in
    let yes = sym c.follows.ensures ∙ c.if-not-follows.false in
    l.invariant ∙ ap (rising_of l.last) first ∙ rw yes

pub returns : goal.returns
unfolding rising_of
returns c =
    let l = c.loop-i in
    let s = c.args.self.now in
    rw (l.invariant, ap (rising_of l.last) (left-none s.file.now s.entries l.i (omega arith)))
