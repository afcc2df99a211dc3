-- What a clause sees of a whole tree.
use Rattle.std.specs.Prelude.{ℕ, List, map, Option, Some, None}
use Rattle.vcl_tree.specs.Phrase.{Phrase, Nothing, At, String, Integer, Node, Bound, Entry, Masked, Import, NoBackend, Backend, Probe, Acl, Sub, list_of}
use Rattle.vcl_tree.specs.StatementView.{name_of}
use Rattle.vcl_tree.specs.declared.item.AclEntry.{AclEntry}
use Rattle.vcl_tree.specs.declared.item.Mask.{Mask}
use Rattle.vcl_tree.specs.declared.item.Item.{Item}
use Rattle.vcl_tree.specs.declared.item.Item.TheVariants as item

abbrev pub sign_of_entry : Option ℕ → Phrase
sign_of_entry None = Nothing
sign_of_entry (Some place) = At place

abbrev pub masked : Phrase → Option Mask → Phrase
masked address None = address
masked address (Some mask) = Node Masked address (Integer mask.place mask.bits)

abbrev pub entry_of : AclEntry → Phrase
entry_of e = Node Entry (sign_of_entry e.excluded) (masked (String e.address_place e.address) e.mask)

abbrev pub item_of : Item → Phrase
item_of (item.Import place name) = Node Import (At place) (name_of name)
item_of (item.Backend place name attributes) = Node Backend (At place) (Node Bound (name_of name) (list_of attributes))
item_of (item.NoBackend place name) = Node NoBackend (At place) (name_of name)
item_of (item.Probe place name attributes) = Node Probe (At place) (Node Bound (name_of name) (list_of attributes))
item_of (item.Acl place name entries) = Node Acl (At place) (Node Bound (name_of name) (list_of (map entry_of entries)))
item_of (item.Sub place name block) = Node Sub (At place) (Node Bound (name_of name) block)

abbrev pub items_of : List Item → Phrase
items_of items = list_of (map item_of items)
