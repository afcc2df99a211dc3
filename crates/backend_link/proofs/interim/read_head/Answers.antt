use Rattle.backend_link.proofs.WholeHeads.{refused}
use Rattle.backend_link.proofs.interim.read_head.Goals as goal

pub returns-else-eq : goal.returns-else-eq
returns-else-eq c = refused c.args.text.now c.in-Err.error (λ same. let equal = rw same at c.eq.ensures in cc) c.in-Err.ensures.answer
