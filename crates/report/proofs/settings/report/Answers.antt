use mathlib.Core.Path.{sym, ◌∙◌}
use Rattle.report.proofs.Reporting.{ended-settings, ended-places, ended-well, settings-few}
use Rattle.report.proofs.settings.report.Goals as goal

pub returns-then-not-are_settings : goal.returns-then-not-are_settings
returns-then-not-are_settings c =
    let t = ended-settings _ _ (sym c.are_settings.ensures ∙ c.if-not-are_settings.true) in
    record { said = t.0; laid = t.1.0; kept = t.1.1 }

pub returns-then-out-n : goal.returns-then-out-n
returns-then-out-n c =
    let t = ended-places _ _ (sym c.are_settings.ensures ∙ c.if-not-are_settings.false) c.if-out-n.true in
    record { said = t.0; laid = t.1.0; kept = t.1.1 }

pub put_rows-total-requires-clause-n_le_most : goal.put_rows-total-requires-clause-n_le_most
put_rows-total-requires-clause-n_le_most c =
    settings-few _ (sym c.are_settings.ensures ∙ c.if-not-are_settings.false)

pub returns : goal.returns
returns c =
    let t = ended-well _ _ _ _ _ (sym c.are_settings.ensures ∙ c.if-not-are_settings.false) c.if-out-n.false c.put_rows-total.ensures.laid c.put_rows-total.ensures.totals c.put_row.ensures in
    record { said = t.0; laid = t.1.0; kept = t.1.1 }
