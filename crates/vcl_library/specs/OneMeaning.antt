-- The programs of one text mean the same.
use Rattle.std.proofs.Common.{◌≡◌, ℕ, List, refl, sym, ◌∙◌, ap, subst}
use Rattle.vcl_tree.specs.declared.item.Item.{Item}
use Rattle.vcl_tree.specs.declared.item.Tree.{Tree}
use Rattle.vmod_host.specs.declared.signature.Stored.{Stored}
use Rattle.vcl_refusals.proofs.OneTree.{items-one}
use Rattle.vcl_runs.specs.Evaluators.{Evaluator, IsLike}
use Rattle.vcl_library.specs.Meaning.{meant}
use Rattle.vcl_library.specs.Programs.{IsProgramOf}

pub like-same : (one other : Evaluator) → other ≡ one → IsLike one other
like-same one other same = subst (λ (e : Evaluator). IsLike one e) (sym same) (record { turns = λ ran turn t. t; targets = λ backend. refl; otherwise = refl })

pub one-meaning : (text : List ℕ) (a b : Tree) (stored other : List Stored) → IsProgramOf text a stored → IsProgramOf text b other → IsLike (meant a.items stored) (meant b.items other)
one-meaning text a b stored other p q =
    let items : b.items ≡ a.items = items-one text a b p.joined q.joined in
    let functions : other ≡ stored = q.functions ∙ sym p.functions in
    like-same (meant a.items stored) (meant b.items other)
    (ap (λ (is : List Item). meant is other) items ∙ ap (λ (s : List Stored). meant a.items s) functions)
