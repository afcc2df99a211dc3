-- A refusal of a joined tree is one of its text.
use Rattle.std.proofs.Common.{List, ℕ, Result, Ok, Err, IfErr, inr}
use Rattle.vcl_tree.specs.declared.error.VclError.{VclError}
use Rattle.vcl_tree.specs.declared.item.Tree.{Tree}
use Rattle.vcl_check.specs.Texts.{IsRefused}
use Rattle.vmod_host.specs.declared.signature.Stored.{Stored}
use Rattle.vcl_store.specs.Joined.{IsJoined}
use Rattle.vcl_store.specs.Refusals.{IsRefusalOf}

pub joined-refused : {P : Type 0} (r : Result P VclError) (text : List ℕ) (stored : List Stored) (joined : Tree) →
    IsJoined text joined → IfErr r (IsRefused joined.items stored) → IfErr r (IsRefusalOf text stored)
joined-refused (Ok p) text stored joined j h = tt
joined-refused (Err e) text stored joined j h = inr (joined, j, h)
