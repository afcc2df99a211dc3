-- Whether an address list takes an address, as a test (the Varnish Reference Manual, VCL, "Access Control List").
use Rattle.std.specs.Prelude.{ℕ, ◌==◌, Bool, true, not, ◌&&◌, nat_le, List, if◌then◌else◌}
use Rattle.std.specs.List.{list_all, list_any}
use Rattle.acl_match.specs.declared.entry.AclEntry.{AclEntry}
use Rattle.acl_match.specs.Acl.{network_number}

-- the entry's network has the address in it
abbrev pub holds : List ℕ → AclEntry → Bool
holds address entry = network_number address entry.mask == network_number entry.address entry.mask

-- another entry doesn't hold the address, or has no longer mask
abbrev pub gives_way : List ℕ → AclEntry → AclEntry → Bool
gives_way address entry other = if holds address other then nat_le other.mask entry.mask else true

-- the entry decides, and isn't negated
abbrev pub lets_in : List AclEntry → List ℕ → AclEntry → Bool
lets_in entries address entry = (holds address entry && list_all (gives_way address entry) entries) && not entry.negated

abbrev pub takes : List AclEntry → List ℕ → Bool
takes entries address = list_any (lets_in entries address) entries
