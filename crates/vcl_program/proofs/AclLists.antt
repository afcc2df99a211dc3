-- The address lists of a text in numbers are those that the checker keeps.
use Rattle.std.proofs.Common.{◌≡◌, ℕ, List, [], ◌∷◌, ◌++◌, sym, ◌∙◌}
use Rattle.std.proofs.lemmas.List.{append-nil, append_assoc}
use Rattle.acl_match.specs.declared.entry.AclEntry.{AclEntry as Network}
use Rattle.vcl_tree.specs.declared.item.Item.{Item}
use Rattle.vcl_tree.specs.declared.item.Item.TheVariants as item
use Rattle.vcl_check.specs.Acls.{networks, acls_in, with_acls}
use Rattle.vcl_program.specs.Declarations.{acls_of}

acls-behind : (before : List (List Network)) (items : List Item) → before ++ acls_of items ≡ with_acls before items
acls-behind before [] = append-nil before
acls-behind before (item.Import place name ∷ is) = acls-behind before is
acls-behind before (item.Backend place name attributes ∷ is) = acls-behind before is
acls-behind before (item.NoBackend place name ∷ is) = acls-behind before is
acls-behind before (item.Probe place name attributes ∷ is) = acls-behind before is
acls-behind before (item.Acl place name entries ∷ is) =
    sym (append_assoc before (networks entries ∷ []) (acls_of is)) ∙ acls-behind (before ++ networks entries ∷ []) is
acls-behind before (item.Sub place name block ∷ is) = acls-behind before is

pub listed-acls : (items : List Item) → acls_of items ≡ acls_in items
listed-acls items = acls-behind [] items
