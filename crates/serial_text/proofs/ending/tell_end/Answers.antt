use mathlib.Core.Path.{refl}
use Rattle.line.specs.Line.{close_of}
use Rattle.text.proofs.Adding.{adds, then-adds, whole}
use Rattle.text.specs.Lines.{newline}
use Rattle.serial_text.specs.Ending.{end_word, last_text_of}
use Rattle.serial_text.proofs.Telling.{last-has-room}
use Rattle.serial_text.proofs.ending.tell_end.Goals as goal

pub returns-clause-text : goal.returns-clause-text
unfolding close_of last_text_of
returns-clause-text c =
    let digits = rw (c.from-2.ensures, c.from.ensures, c.close-called.ensures) at c.add_decimal.ensures in
    let all = then-adds (then-adds (adds _ _ end_word c.of-text.ensures.put) (adds _ _ _ digits)) (adds _ _ newline c.put.ensures.put) in
    whole refl all (last-has-room c.args.before)
