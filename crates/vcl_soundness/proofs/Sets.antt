-- That a run isn't stuck is a fact alone: two proofs of it are one.
use Rattle.std.proofs.Props.{props}
use Rattle.vcl_operands.specs.Outs.{Out, On, Ends, Asks, Stuck, IsSure}

pub sure-set : {S A : Type 0} (x : Out S A) → IsProp (IsSure x)
sure-set (On a s) = hlevel props
sure-set (Ends word s) = hlevel props
sure-set (Asks command) = hlevel props
sure-set Stuck = hlevel props
