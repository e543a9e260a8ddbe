use Rattle.cuts_text.proofs.asked.+list_in.Given as goal

abbrev pub decreases-list_in : goal.decreases-list_in
decreases-list_in l = l.most
