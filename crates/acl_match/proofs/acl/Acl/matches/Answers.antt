use Rattle.acl_match.proofs.acl.Acl.matches.Goals as goal

pub decider-requires : goal.decider-requires
decider-requires c = rw c.as_slice.ensures c.self.invariant.masks
