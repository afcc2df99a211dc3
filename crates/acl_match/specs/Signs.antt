-- What a map from networks to signs keeps of entries.
use Rattle.std.specs.Prelude.{◌≡◌, ℕ, List, Bool, Some, Contains}
use Rattle.std.specs.Ordering.{nat_cmp, ordering_then}
use Rattle.std.specs.declared.cmp.Ordering.{Ordering}
use Rattle.std.specs.BTreeMap.{BTreeMap, get}
use Rattle.acl_match.specs.declared.entry.AclEntry.{AclEntry}
use Rattle.acl_match.specs.declared.network.Network.{Network}
use Rattle.acl_match.specs.Acl.{network_number}

-- networks in order of their masks, and then of their numbers
abbrev pub network_cmp : Network → Network → Ordering
network_cmp a b = ordering_then (nat_cmp a.mask b.mask) (nat_cmp a.number b.number)

-- the network of an address under a mask, and that of an entry
abbrev pub network_at : List ℕ → ℕ → Network
network_at address mask = record { mask = mask; number = network_number address mask }

abbrev pub network : AclEntry → Network
network entry = network_at entry.address entry.mask

-- the map has the sign of each entry at its network, and nothing else
pub record Records (entries : List AclEntry) (signs : BTreeMap Network Bool) : Type 0 where
  pub known : (entry : AclEntry) → Contains entries entry → get network_cmp signs (network entry) ≡ Some entry.negated
  pub noted : (key : Network) (negated : Bool) → get network_cmp signs key ≡ Some negated
      → (entry : AclEntry) × Contains entries entry × (network entry ≡ key) × (entry.negated ≡ negated)
