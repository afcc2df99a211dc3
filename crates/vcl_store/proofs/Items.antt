-- The items of a text are those that clauses see.
use Rattle.std.proofs.Common.{◌≡◌, ℕ, List, [], ◌∷◌, ◌++◌, Option, Some, None, map, refl, sym, ◌∙◌, ap}
use Rattle.std.proofs.lemmas.List.{append-nil, append_assoc}
use Rattle.vcl_tree.specs.Phrase.{Phrase, Nothing, At, Named, String, Integer, Node, More, Bound, Entry, Masked, Import, NoBackend, Backend, Probe, Acl, Sub, chain, list_of}
use Rattle.vcl_tree.specs.TreeView.{entry_of, item_of, items_of, masked, sign_of_entry}
use Rattle.vcl_tree.specs.declared.item.AclEntry.{AclEntry}
use Rattle.vcl_tree.specs.declared.item.Mask.{Mask}
use Rattle.vcl_tree.specs.declared.item.Item.{Item}
use Rattle.vcl_tree.specs.declared.item.Item.TheVariants as item

-- the parts of a list
abbrev pub parts_of : Phrase → List Phrase
parts_of (Node More front part) = parts_of front ++ part ∷ []
parts_of other = []

parts-chain : (front : Phrase) (parts : List Phrase) → parts_of (chain More front parts) ≡ parts_of front ++ parts
parts-chain front [] = sym (append-nil (parts_of front))
parts-chain front (part ∷ parts) = parts-chain (Node More front part) parts ∙ append_assoc (parts_of front) (part ∷ []) parts

parts-list : (parts : List Phrase) → parts_of (list_of parts) ≡ parts
parts-list parts = parts-chain Nothing parts

-- an entry of an ACL as it is seen, read back
abbrev pub place_in : Phrase → Option ℕ
place_in (At place) = Some place
place_in other = None

abbrev pub entry_with : Option ℕ → Phrase → AclEntry
entry_with excluded (String place text) = record { excluded = excluded; address_place = place; address = text; mask = None }
entry_with excluded (Node Masked (String place text) (Integer at bits)) = record { excluded = excluded; address_place = place; address = text; mask = Some (record { place = at; bits = bits }) }
entry_with excluded other = record { excluded = excluded; address_place = 0; address = []; mask = None }

abbrev pub entry_in : Phrase → AclEntry
entry_in (Node Entry sign address) = entry_with (place_in sign) address
entry_in other = entry_with None other

place-sign : (excluded : Option ℕ) → place_in (sign_of_entry excluded) ≡ excluded
place-sign None = refl
place-sign (Some place) = refl

entry-masked : (excluded : Option ℕ) (place : ℕ) (text : List ℕ) (mask : Option Mask)
    → entry_with excluded (masked (String place text) mask) ≡ record { excluded = excluded; address_place = place; address = text; mask = mask }
entry-masked excluded place text None = refl
entry-masked excluded place text (Some mask) = refl

entry-back : (e : AclEntry) → entry_in (entry_of e) ≡ e
entry-back e =
    ap (λ (x : Option ℕ). entry_with x (masked (String e.address_place e.address) e.mask)) (place-sign e.excluded)
    ∙ entry-masked e.excluded e.address_place e.address e.mask

entries-back : (es : List AclEntry) → map entry_in (map entry_of es) ≡ es
entries-back [] = refl
entries-back (e ∷ es) = ap (λ (x : AclEntry). x ∷ map entry_in (map entry_of es)) (entry-back e) ∙ ap (λ (xs : List AclEntry). e ∷ xs) (entries-back es)

-- an item as it is seen, read back
abbrev pub nothing : Item
nothing = item.Import 0 (record { place = 0; text = [] })

abbrev pub item_in : Phrase → Item
item_in (Node Import (At place) (Named at text)) = item.Import place (record { place = at; text = text })
item_in (Node NoBackend (At place) (Named at text)) = item.NoBackend place (record { place = at; text = text })
item_in (Node Backend (At place) (Node Bound (Named at text) parts)) = item.Backend place (record { place = at; text = text }) (parts_of parts)
item_in (Node Probe (At place) (Node Bound (Named at text) parts)) = item.Probe place (record { place = at; text = text }) (parts_of parts)
item_in (Node Acl (At place) (Node Bound (Named at text) parts)) = item.Acl place (record { place = at; text = text }) (map entry_in (parts_of parts))
item_in (Node Sub (At place) (Node Bound (Named at text) block)) = item.Sub place (record { place = at; text = text }) block
item_in other = nothing

item-back : (i : Item) → item_in (item_of i) ≡ i
item-back (item.Import place name) = refl
item-back (item.NoBackend place name) = refl
item-back (item.Backend place name attributes) = ap (λ (x : List Phrase). item.Backend place name x) (parts-list attributes)
item-back (item.Probe place name attributes) = ap (λ (x : List Phrase). item.Probe place name x) (parts-list attributes)
item-back (item.Acl place name entries) =
    ap (λ (x : List Phrase). item.Acl place name (map entry_in x)) (parts-list (map entry_of entries)) ∙ ap (λ (x : List AclEntry). item.Acl place name x) (entries-back entries)
item-back (item.Sub place name block) = refl

items-back : (is : List Item) → map item_in (map item_of is) ≡ is
items-back [] = refl
items-back (i ∷ is) = ap (λ (x : Item). x ∷ map item_in (map item_of is)) (item-back i) ∙ ap (λ (xs : List Item). i ∷ xs) (items-back is)

pub items-same : (a b : List Item) → items_of a ≡ items_of b → a ≡ b
items-same a b h =
    let back : List Phrase → List Item = λ parts. map item_in parts in
    let lists : map item_of a ≡ map item_of b = sym (parts-list (map item_of a)) ∙ (ap (λ (x : Phrase). parts_of x) h ∙ parts-list (map item_of b)) in
    sym (items-back a) ∙ (ap back lists ∙ items-back b)
