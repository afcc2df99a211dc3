-- Address lists (the Varnish Reference Manual, VCL, "Access Control List"), with networks as a prefix of
-- the address (RFC 4632, section 3.1).
use Rattle.std.specs.Prelude.{◌≡◌, ◌≢◌, ℕ, ◌-◌, ◌/◌, ◌^◌, ◌<◌, ◌≤◌, ◌==◌, ◌&&◌, not, Bool, List, [], ◌∷◌, ◌++◌, length, take, slice_get, Option, Some, None, Contains, Any, false, if◌then◌else◌}
use Rattle.std.specs.Bool.{beq}
use Rattle.std.specs.Int.{w32, from_be_bytes}
use Rattle.std.specs.List.{list_any}
use Rattle.acl_match.specs.declared.entry.AclEntry.{AclEntry}

-- the number that the first `mask` bits of an address spell, the address being four bytes with the
-- highest first
unfoldable pub network_number : List ℕ → ℕ → ℕ
network_number address mask = from_be_bytes w32 address / 2 ^ (32 - mask)

-- the entry's network has the address in it: the first bits of the two agree, as many as the mask says
abbrev pub Holds : AclEntry → List ℕ → Type 0
Holds entry address = network_number address entry.mask ≡ network_number entry.address entry.mask

-- the entry of the list that decides for an address: it holds the address, and no entry that does has a
-- longer mask
pub record Decides (entries : List AclEntry) (address : List ℕ) (entry : AclEntry) : Type 0 where
  pub listed : Contains entries entry
  pub holds : Holds entry address
  pub longest : (other : AclEntry) → Contains entries other → Holds other address → other.mask ≤ entry.mask

-- what decides for an address: an entry, or none where no entry holds the address
abbrev pub IsDecided : List AclEntry → List ℕ → Option AclEntry → Type 0
IsDecided entries address None = (entry : AclEntry) → Contains entries entry → Holds entry address → ⊥
IsDecided entries address (Some entry) = Decides entries address entry

-- the list takes the address: an entry decides for it, and isn't negated
abbrev pub Matches : List AclEntry → List ℕ → Type 0
Matches entries address = (entry : AclEntry) × Decides entries address entry × (entry.negated ≡ false)

-- two entries are one network, equal after masking and with one mask, and one of them alone is negated
pub record Clash (first second : AclEntry) : Type 0 where
  pub mask : first.mask ≡ second.mask
  pub network : network_number first.address first.mask ≡ network_number second.address second.mask
  pub signs : first.negated ≢ second.negated

-- no mask is over 32
abbrev pub AllShort : List AclEntry → Type 0
AllShort entries = (entry : AclEntry) → Contains entries entry → entry.mask ≤ 32

-- no mask is over 32, and no two entries clash
pub record IsSound (entries : List AclEntry) : Type 0 where
  pub masks : AllShort entries
  pub signs : (first second : AclEntry) → Contains entries first → Contains entries second → Clash first second → ⊥

-- the entry at a place has a mask over 32, and those before it are sound
pub record IsFirstMask (entries : List AclEntry) (place : ℕ) : Type 0 where
  pub before : IsSound (take place entries)
  pub here : (entry : AclEntry) × (slice_get entries place ≡ Some entry) × (32 < entry.mask)

-- the entry at a place clashes with one before it, and those before it are sound
pub record IsFirstClash (entries : List AclEntry) (place : ℕ) : Type 0 where
  pub before : IsSound (take place entries)
  pub here : (entry : AclEntry) × (slice_get entries place ≡ Some entry) × Any (Clash entry) (take place entries)

-- the test for a clash
abbrev pub clashes : AclEntry → AclEntry → Bool
clashes a b = (a.mask == b.mask) && ((network_number a.address a.mask == network_number b.address b.mask) && not (beq a.negated b.negated))

abbrev pub clash_behind : List AclEntry → List AclEntry → Option ℕ
clash_behind before [] = None
clash_behind before (e ∷ es) = if list_any (clashes e) before then Some (length before) else clash_behind (before ++ e ∷ []) es

-- the place of the first entry that clashes with one before it
abbrev pub first_clash : List AclEntry → Option ℕ
first_clash entries = clash_behind [] entries
