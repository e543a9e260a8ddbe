use Rattle.std.proofs.Common.{rules, get_or}
use Rattle.basics.specs.Count.{count}
use Rattle.controller.specs.Writes.{kept_of}
use Rattle.setting.specs.Setting.{cut_of}
use Rattle.setting.proofs.Made.{made}
use Rattle.setting.proofs.cut.Goals as goal

pub returns : goal.returns
unfolding cut_of count
returns c =
    made _ _ (λ k. kept_of k (get_or c.args.given.now k 0)) (λ x y q k. search rules) _ 16 c.from_fn.ensures.items
