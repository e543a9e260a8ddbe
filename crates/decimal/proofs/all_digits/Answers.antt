use Rattle.decimal.specs.Decimal.{most_digits}
use Rattle.decimal.proofs.Digits.{length-decimal}
use Rattle.text.proofs.Adding.{whole}
use Rattle.decimal.proofs.all_digits.Goals as goal

pub returns : goal.returns
returns c = whole c.new-digits.ensures c.put_digits.ensures (length-decimal most_digits c.args.n)
