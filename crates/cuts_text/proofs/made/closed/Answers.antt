use Rattle.text.proofs.Adding.{adds}
use Rattle.cuts_text.proofs.Making.{closes}
use Rattle.cuts_text.proofs.made.closed.Goals as goal

pub returns : goal.returns
returns c =
    let t = closes c.args.before c.close-called.ensures (rw c.from.ensures at c.counts.ensures) (adds _ _ _ c.put_lines.ensures.put) in
    record { made = t.0; text = t.1 }
