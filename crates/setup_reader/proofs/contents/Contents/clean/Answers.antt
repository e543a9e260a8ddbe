use mathlib.Core.Path.{ap, sym, ◌∙◌}
use Rattle.setting.specs.Setting.{clean_of}
use Rattle.setup_reader.specs.Read.{shown_of, clean_in}
use Rattle.setup_reader.proofs.contents.Contents.clean.Goals as goal

pub returns-then-is_clean : goal.returns-then-is_clean
unfolding clean_in
returns-then-is_clean c =
    rw (sym (c.if-is_clean.ensures.is ∙ ap clean_of (c.shown.ensures.bytes ∙ ap (shown_of _) c.find-registers.ensures)))

pub returns-else-is_clean : goal.returns-else-is_clean
unfolding clean_in
returns-else-is_clean c =
    rw (sym (c.if-is_clean.ensures.is ∙ ap clean_of (c.shown.ensures.bytes ∙ ap (shown_of _) c.find-registers.ensures)))
