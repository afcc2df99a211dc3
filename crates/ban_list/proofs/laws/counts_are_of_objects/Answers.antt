use Rattle.ban_list.proofs.StandLemmas.{none_at, at_issued, at_entered, may_depart, at_departed, at_cut, at_kept}
use Rattle.ban_list.proofs.laws.counts_are_of_objects.Goals as goal

pub returns-clause-none : goal.returns-clause-none
returns-clause-none c = none_at

pub returns-clause-issued : goal.returns-clause-issued
returns-clause-issued c = at_issued

pub returns-clause-comes : goal.returns-clause-comes
returns-clause-comes c = at_entered

pub returns-clause-may_go : goal.returns-clause-may_go
returns-clause-may_go c = may_depart

pub returns-clause-goes : goal.returns-clause-goes
returns-clause-goes c = at_departed

pub returns-clause-cut : goal.returns-clause-cut
returns-clause-cut c = at_cut

pub returns-clause-kept : goal.returns-clause-kept
returns-clause-kept c = at_kept
