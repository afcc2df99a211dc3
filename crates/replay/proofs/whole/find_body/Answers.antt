use Rattle.replay.proofs.whole.find_body.Goals as goal

pub returns-else-eq : goal.returns-else-eq
returns-else-eq c body rest x short = c.in-Err.ensures.none (λ same. let equal = rw same at c.eq.ensures in cc) body rest x short
