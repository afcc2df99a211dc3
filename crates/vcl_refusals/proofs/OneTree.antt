-- A text has one joined tree at most.
use Rattle.std.proofs.Common.{◌≡◌, ℕ, List, ◌++◌, refl, sym, ◌∙◌, ap}
use Rattle.std.proofs.Math.Logic.{∥∥₁_elim}
use Rattle.std.specs.Coded.{Coded-set}
use Rattle.vcl_tree.specs.PhraseCode.{phrase_code}
use Rattle.vcl_tree.specs.TreeView.{items_of}
use Rattle.vcl_tree.specs.declared.item.Item.{Item}
use Rattle.vcl_tree.specs.declared.item.Tree.{Tree}
use Rattle.vcl_tree.specs.declared.item.Version.{Version}
use Rattle.vcl_tokens.proofs.ReadingLemmas.{one}
use Rattle.vcl_parse.proofs.Trees.{same_tree}
use Rattle.vcl_store.specs.Joined.{built_in_text, IsJoined, IsTreeOf}
use Rattle.vcl_store.proofs.Items.{items-same}

tree-of : (a b : Tree) → b.version ≡ a.version → b.items ≡ a.items → b ≡ a
tree-of a b version items =
    let of : Version → List Item → Tree = λ v is. record { version = v; items = is } in
    ap (λ (v : Version). of v b.items) version ∙ ap (λ (is : List Item). of a.version is) items

pub tree-one : (text : List ℕ) (a b : Tree) → IsTreeOf text a → IsTreeOf text b → b ≡ a
tree-one text a b p q =
    let same = same_tree q.0 p.0 b a (one q.1 p.1 refl refl) q.2 p.2 in
    tree-of a b same.0 (items-same b.items a.items same.1)

pub joined-one : (text : List ℕ) (a b : Tree) → IsJoined text a → IsJoined text b → b ≡ a
joined-one text a b p q =
    let own : q.own ≡ p.own = tree-one text p.own q.own p.is_own q.is_own in
    let built_in : q.built_in ≡ p.built_in = tree-one built_in_text p.built_in q.built_in p.is_built_in q.is_built_in in
    tree-of a b (q.version ∙ (ap (λ (t : Tree). t.version) own ∙ sym p.version))
    (q.items
    ∙ (ap (λ (t : Tree). t.items ++ q.built_in.items) own
    ∙ (ap (λ (t : Tree). p.own.items ++ t.items) built_in ∙ sym p.items)))

-- The items are the same also where it is only known that the trees are the text's. An equation of items, which have no code of
-- their own, is had by that of the phrases that clauses see.
pub items-one : (text : List ℕ) (a b : Tree) → ∥ IsJoined text a ∥₁ → ∥ IsJoined text b ∥₁ → b.items ≡ a.items
items-one text a b p q =
    let seen : items_of b.items ≡ items_of a.items =
    ∥∥₁_elim p (Coded-set phrase_code (items_of b.items) (items_of a.items))
    (λ x. ∥∥₁_elim q (Coded-set phrase_code (items_of b.items) (items_of a.items)) (λ y. ap (λ (t : Tree). items_of t.items) (joined-one text a b x y))) in
    items-same b.items a.items seen
