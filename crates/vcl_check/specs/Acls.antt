-- The address lists that ACLs are, and what is wrong with their entries.
use Rattle.std.specs.Prelude.{ℕ, ℤ, pos, Bool, not, ◌&&◌, List, [], ◌∷◌, ◌++◌, Option, Some, None, is_some, option_and_then, option_map, slice_get, unsigned_abs, if◌then◌else◌}
use Rattle.std.specs.Int.Signed.{lt_z}
use Rattle.acl_match.specs.Acl.{first_clash}
use Rattle.acl_match.specs.Address.{address_of}
use Rattle.acl_match.specs.declared.entry.AclEntry.{AclEntry as Network}
use Rattle.vcl_tree.specs.declared.error.Fault.{Fault}
use Rattle.vcl_tree.specs.declared.error.Refusal.TheVariants as refusal
use Rattle.vcl_tree.specs.declared.item.AclEntry.{AclEntry}
use Rattle.vcl_tree.specs.declared.item.Item.{Item}
use Rattle.vcl_tree.specs.declared.item.Item.TheVariants as item
use Rattle.vcl_tree.specs.declared.item.Mask.{Mask}
use Rattle.vcl_check.specs.Calls.{unless}
use Rattle.vcl_check.specs.Folded.{numbered}
use Rattle.vcl_check.specs.Least.{fault_at, lesser}

-- a mask to 32; none is 32
abbrev pub is_mask : ℤ → Bool
is_mask bits = not (lt_z bits (pos 0)) && lt_z bits (pos 33)

abbrev pub mask_bits : Option Mask → Option ℕ
mask_bits None = Some 32
mask_bits (Some mask) = if is_mask mask.bits then Some (unsigned_abs mask.bits) else None

abbrev pub mask_fault : Option Mask → Option ℕ
mask_fault None = None
mask_fault (Some mask) = unless (is_mask mask.bits) mask.place

-- an entry as an address, the bits of it that count, and a sign
abbrev pub network : Bool → Option (List ℕ) → Option ℕ → Option Network
network negated (Some address) (Some bits) = Some (record { address = address; mask = bits; negated = negated })
network negated _ _ = None

abbrev pub network_of : AclEntry → Option Network
network_of e = network (is_some e.excluded) (address_of e.address) (mask_bits e.mask)

-- the networks of entries, as far as the first that has none
abbrev pub in_front_of : Option Network → List Network → List Network
in_front_of None more = []
in_front_of (Some n) more = n ∷ more

abbrev pub networks : List AclEntry → List Network
networks [] = []
networks (e ∷ es) = in_front_of (network_of e) (networks es)

-- an address or a mask that is none
abbrev pub entry_fault : ℕ → AclEntry → Option Fault
entry_fault k e = lesser (fault_at refusal.Kind (unless (is_some (address_of e.address)) e.address_place)) (fault_at refusal.Kind (mask_fault e.mask))

-- where the address of the entry of this number stands
abbrev pub address_place : List AclEntry → Option ℕ → Option ℕ
address_place entries number = option_map (λ e. e.address_place) (option_and_then (λ k. slice_get entries k) number)

-- the first fault among the entries of an ACL: an entry that is none, or among those before it one that clashes with an earlier one
abbrev pub acl_fault : List AclEntry → Option Fault
acl_fault entries = lesser (numbered entry_fault 0 None entries) (fault_at refusal.Twice (address_place entries (first_clash (networks entries))))

-- the address lists of items, behind those before, in the order of the text
abbrev pub with_acl : List (List Network) → Item → List (List Network)
with_acl before (item.Acl place name entries) = before ++ networks entries ∷ []
with_acl before _ = before

abbrev pub with_acls : List (List Network) → List Item → List (List Network)
with_acls before [] = before
with_acls before (i ∷ is) = with_acls (with_acl before i) is

abbrev pub acls_in : List Item → List (List Network)
acls_in items = with_acls [] items
