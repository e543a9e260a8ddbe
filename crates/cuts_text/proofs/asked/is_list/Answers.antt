use Rattle.basics.proofs.Cases.{cases}
use Rattle.cuts_text.specs.Asked.{is_list_of}
use Rattle.cuts_text.proofs.asked.is_list.Goals as goal

pub returns-then-input-gt-INPUT-clause-is : goal.returns-then-input-gt-INPUT-clause-is
unfolding is_list_of
returns-then-input-gt-INPUT-clause-is c = search cases depth 9

pub returns-clause-is : goal.returns-clause-is
unfolding is_list_of
returns-clause-is c = search (cases, c.list_in.ensures) depth 9
