use Prim.Native.Nat.{◌+◌, ◌*◌}
use mathlib.Core.Path.{◌≡◌, ap, ◌∙◌}
use mathlib.Core.List.{◌++◌, ◌∷◌, []}
use native.Mathlib.Omega.{arith}
use lib.ListN.{length, length-append}
use Rattle.std.proofs.Common.{ℕ, rules}
use Rattle.basics.specs.Lay.{laid_at}
use Rattle.report.specs.Report.{row, row_of}
use Rattle.report.proofs.Reporting.{laying-none, laying-more, chunk-next, chunk-tally}
use Rattle.report.proofs.rows.put_rows.Goals as goal

pub loop-k-init : goal.loop-k-init
loop-k-init c = (laying-none _ _ _ c.none-total.ensures, record { next = search rules; each = search rules; left = search rules })

pub loop-k-preserved : goal.loop-k-preserved
loop-k-preserved c =
    let l = c.loop-k in
    let at = l.invariant.1 in
    let s = c.in-Some.ensures.steps in
    let n = length l.yielded in
    let nth : c.in-Some.k ≡ n = s.1 ∙ at.next in
    let chunk = chunk-next c.args.settings.now l.k-iterator.iter.rest.now c.in-Some.setting.now c.next.new.self.iter.rest.now n at.left s.0.1.0 (s.0.1.1 ∙ at.each) in
    let one = chunk-tally c.args.settings.now c.in-Some.setting.now n _ _ chunk.here c.start.ensures.is c.count_frame-one.ensures.is in
    let laid = c.put_row.ensures ∙ ap (λ (k : ℕ). laid_at l.out (row * k) (row_of c.count_frame-one.result)) nth in
    let more : length (l.yielded ++ (c.in-Some.k, c.in-Some.setting) ∷ []) ≡ n + 1 = length-append l.yielded ((c.in-Some.k, c.in-Some.setting) ∷ []) in
    rw more (
      laying-more _ _ n _ _ _ _ _ l.invariant.0 (omega (arith, chunk.among, c.requires.n_in_bounds)) one c.count_frame-one.ensures.most laid c.joined-total.ensures,
      record { next = s.2 ∙ ap (λ (k : ℕ). k + 1) at.next; each = s.0.0 ∙ at.each; left = chunk.left },
    )
