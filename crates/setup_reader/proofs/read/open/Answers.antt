use mathlib.Core.Path.{sym}
use Rattle.std.proofs.lemmas.Result.{err_from_is_err_and}
use Rattle.basics.specs.Choice.{when◌then◌else◌}
use Rattle.setup_reader.specs.Read.{opened_of}
use Rattle.setup_reader.proofs.read.open.Goals as goal

pub returns-in_err-read-clause-read : goal.returns-in_err-read-clause-read
unfolding opened_of when◌then◌else◌
returns-in_err-read-clause-read c =
    let p = err_from_is_err_and c.from_residual.result c.from_residual.ensures.1 in
    let e = c.in_err-read.ensures in
    rw (p.1, p.2, e.err, sym e.whole)

pub returns-clause-read : goal.returns-clause-read
unfolding opened_of when◌then◌else◌
returns-clause-read c =
    let e = c.in_ok-read.ensures in
    rw (c.judged.ensures, e.file, e.entries, sym e.whole)
