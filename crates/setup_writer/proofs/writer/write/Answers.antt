use mathlib.Core.Path.{refl, sym, ◌∙◌}
use native.Mathlib.Omega.{arith}
use lib.ListN.{length}
use Rattle.std.proofs.lemmas.Result.{err_from_is_err_and}
use Rattle.setup_writer.specs.Write.{given_of}
use Rattle.setup_writer.proofs.Judging.{judged-fits}
use Rattle.setup_writer.proofs.Writing.{written_is, file-laid}
use Rattle.setup_writer.proofs.writer.write.Goals as goal

pub contents-end-requires : goal.contents-end-requires
contents-end-requires c =
    let f = judged-fits _ _ _ _ _ _ (sym c.in_ok-long.ensures) in
    omega (arith, f.small)

pub returns-in_err-long : goal.returns-in_err-long
returns-in_err-long c =
    let p = err_from_is_err_and c.from_residual.result c.from_residual.ensures.1 in
    let is = c.in_err-long.ensures ∙ written_is (given_of c.args.setup.now) (length c.args.dst.now) in
    record { said = rw (p.1, p.2) is; laid = rw (sym is); kept = refl }

-- the answer is the one that is due
pub returns : goal.returns
returns c =
    let s = given_of c.args.setup.now in
    let f = judged-fits _ _ _ _ _ _ (sym c.in_ok-long.ensures) in
    let is = c.in_ok-long.ensures ∙ written_is s (length c.args.dst.now) in
    let laid = file-laid s f.enough c.contents-end.ensures c.bodies.ensures in
    record { said = is; laid = rw (sym is) laid; kept = refl }
