-- What is kept of the members, and no clause shows.
use Rattle.std.specs.Prelude.{ℕ, List, map, IfSome, nat_eq}
use Rattle.std.specs.Ordering.{nat_cmp}
use Rattle.std.specs.BTreeMap.{BTreeMap, get, IsOrdered}
use Rattle.cache_law.specs.Object.{key_of}
use Rattle.object_heads.specs.declared.item.Item.{Item}
use Rattle.object_heads.specs.declared.heads.Kept.{Kept}
use Rattle.object_heads.specs.declared.places.Places.{Places}
use Rattle.object_heads.specs.Names.{IsNameOf}
use Rattle.object_heads.specs.Indexes.{IsIndexOf, same_name, is_under, is_at_number}

module _ {P : Type 0} where
  abbrev pub member_of : ℕ × Kept P → ℕ × Item P
  member_of entry = (entry.0, entry.1.item)

  abbrev pub members_of : BTreeMap ℕ (Kept P) → List (ℕ × Item P)
  members_of items = map member_of items.entries

  abbrev pub IsNamed : Kept P → Type 0
  IsNamed kept = IsNameOf kept.name (key_of kept.item.view.object)

  -- each item has its key's name, and its handle stands under that and at its object's number, and nowhere else
  pub record Stands (items : BTreeMap ℕ (Kept P)) (places : Places) : Type 0 where
    pub ordered : IsOrdered nat_cmp items
    pub named : (handle : ℕ) → IfSome (get nat_cmp items handle) IsNamed
    pub heads : IsIndexOf (λ (kept : Kept P). same_name kept.name) (get nat_cmp items) (is_under places.heads)
    pub numbers : IsIndexOf (λ (kept : Kept P). nat_eq kept.item.view.number) (get nat_cmp items) (is_at_number places.numbers)
