use mathlib.Core.Path.{sym, ap, ◌∙◌}
use native.Mathlib.Omega.{arith}
use Rattle.basics.specs.Choice.{when◌then◌else◌}
use Rattle.setup_reader.specs.Read.{place_in}
use Rattle.setup_reader.proofs.Ranks.{same_kind}
use Rattle.setup_reader.proofs.Walking.{left-first, left-none}
use Rattle.setup_reader.proofs.contents.Contents.find.Goals as goal

pub returns-then-eq : goal.returns-then-eq
unfolding place_in when◌then◌else◌
returns-then-eq c =
    let l = c.loop-i in
    let s = c.args.self.now in
    let first = left-first s.file.now s.entries l.i c.entry-entry.ensures (omega arith) in
    let yes = sym (c.if-eq.ensures ∙ same_kind c.entry-entry.result.kind c.args.kind) in
    sym (l.invariant ∙ ap (place_in _) first ∙ rw (yes, c.from.ensures, c.from-then-eq.ensures))

pub loop-i-preserved : goal.loop-i-preserved
unfolding place_in when◌then◌else◌
loop-i-preserved c =
    let l = c.loop-i in
    let s = c.args.self.now in
    let first = left-first s.file.now s.entries l.i c.entry-entry.ensures (omega arith) in
    let no = sym (c.if-eq.ensures ∙ same_kind c.entry-entry.result.kind c.args.kind) in
    l.invariant ∙ ap (place_in _) first ∙ rw no

pub returns : goal.returns
unfolding place_in
returns c =
    let l = c.loop-i in
    let s = c.args.self.now in
    sym (l.invariant ∙ ap (place_in _) (left-none s.file.now s.entries l.i (omega arith)))
