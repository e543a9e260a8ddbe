use Prim.Native.Nat.{◌+◌}
use mathlib.Core.Path.{◌≡◌, sym, ap, ◌∙◌}
use mathlib.Core.List.{[], ◌∷◌, ◌++◌, append-nil, append_assoc}
use lib.ListN.{take, get_or}
use Rattle.basics.proofs.Laying.{take_next}
use Rattle.line.specs.Held.{held_of, holding_of}
use Rattle.line.specs.declared.held.Held.{Held}
use Rattle.line.proofs.Holding.{kept-held, kept_more}
use Rattle.line.proofs.held.Held.and_bytes.Goals as goal

pub loop-byte-init : goal.loop-byte-init
loop-byte-init c = sym (ap holding_of (append-nil _) ∙ kept-held _)

pub loop-byte-preserved : goal.loop-byte-preserved
loop-byte-preserved c =
    let l = c.loop-byte in
    let d = c.args.bytes.now in
    let held = held_of c.args.self in
    let x = get_or d l.byte-index 0 ∷ [] in
    let next : take (l.byte-index + 1) d ≡ take l.byte-index d ++ x = take_next d l.byte-index c.loop-byte-test.true in
    c.and_byte-held.ensures
    ∙ ap (λ (h : Held). holding_of (held_of h ++ x)) l.invariant
    ∙ kept_more (held ++ take l.byte-index d) x
    ∙ ap holding_of (append_assoc held (take l.byte-index d) x ∙ ap (λ w. held ++ w) (sym next))
