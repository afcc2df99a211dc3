-- That no run gets stuck is a fact alone: two proofs of it are one.
use Rattle.std.specs.Prelude.{List}
use Rattle.std.proofs.Common.{refl}
use Rattle.std.proofs.Math.Path.{fun_ext}
use Rattle.vcl_tree.specs.declared.item.Item.{Item}
use Rattle.vmod_host.specs.declared.signature.Stored.{Stored}
use Rattle.vcl_operands.specs.Outs.{Out, On, Ends, Asks, Stuck, IsSure}
use Rattle.vcl_meaning.specs.Meaning.{run_of, NeverStuck}

sure_alone : {S A : Type 0} (x : Out S A) → IsProp (IsSure x)
sure_alone (On a s) p q = refl
sure_alone (Ends word s) p q = refl
sure_alone (Asks command) p q = refl
sure_alone Stuck p q = absurd p

pub never_stuck_alone : (items : List Item) (stored : List Stored) → IsProp (NeverStuck items stored)
never_stuck_alone items stored f g =
    fun_ext (λ s. fun_ext (λ h. fun_ext (λ c. fun_ext (λ a. sure_alone (run_of items stored s c a) (f s h c a) (g s h c a)))))
