use Rattle.std.proofs.lemmas.Result.{err_from_is_err_and}
use Rattle.basics.specs.Choice.{when◌then◌else◌}
use Rattle.setup_reader.specs.Read.{judged_of}
use Rattle.setup_reader.proofs.Asking.{asked-ok, asked-err}
use Rattle.setup_reader.proofs.contents.Contents.judged.Goals as goal

pub returns-in_err-rising : goal.returns-in_err-rising
unfolding judged_of when◌then◌else◌
returns-in_err-rising c =
    let p = err_from_is_err_and c.from_residual.result c.from_residual.ensures.1 in
    let q = asked-err _ _ c.in_err-rising.ensures in
    rw (p.1, p.2, q.1, q.0)

pub returns-in_err-placed : goal.returns-in_err-placed
unfolding judged_of when◌then◌else◌
returns-in_err-placed c =
    let p = err_from_is_err_and c.from_residual-in_err-placed.result c.from_residual-in_err-placed.ensures.1 in
    let q = asked-err _ _ c.in_err-placed.ensures in
    rw (p.1, p.2, q.1, asked-ok _ _ c.in_ok-rising.ensures, q.0)

pub returns-in_err-clean : goal.returns-in_err-clean
unfolding judged_of when◌then◌else◌
returns-in_err-clean c =
    let p = err_from_is_err_and c.from_residual-in_err-clean.result c.from_residual-in_err-clean.ensures.1 in
    let q = asked-err _ _ c.in_err-clean.ensures in
    rw (p.1, p.2, q.1, asked-ok _ _ c.in_ok-rising.ensures, asked-ok _ _ c.in_ok-placed.ensures, q.0)

pub returns : goal.returns
unfolding judged_of when◌then◌else◌
returns c =
    rw (c.places.ensures, asked-ok _ _ c.in_ok-rising.ensures, asked-ok _ _ c.in_ok-placed.ensures, asked-ok _ _ c.in_ok-clean.ensures)
