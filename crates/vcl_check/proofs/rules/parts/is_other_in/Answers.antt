use Rattle.vcl_check.proofs.rules.parts.is_other_in.Goals as goal

pub returns : goal.returns
returns c = simp c.other_scope.ensures at c.is_any_in.ensures
