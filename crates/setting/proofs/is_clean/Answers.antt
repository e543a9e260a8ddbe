use Rattle.std.proofs.Common.{rules, ℕ, get_or, refl, eqb}
use Rattle.std.proofs.lemmas.Iterator.{YieldsList-from_range}
use Rattle.std.proofs.lemmas.Iterator.Search.{all_from_yields_List}
use Rattle.basics.specs.Count.{count}
use Rattle.controller.specs.Writes.{kept_of}
use Rattle.setting.specs.Setting.{keep_all}
use Rattle.setting.proofs.is_clean.Goals as goal

pub returns-clause-is : goal.returns-clause-is
unfolding keep_all count
returns-clause-is c =
    let whole = λ (k : ℕ). eqb (kept_of k (get_or c.args.given.now k 0)) (get_or c.args.given.now k 0) in
    all_from_yields_List whole _ _ _ c.all.ensures.ran (YieldsList-from_range 0 16 16 refl refl) (λ x b q k. search rules)
