-- Stored functions as a VCL text sees them.
use Rattle.std.specs.Prelude.{ℕ, Bool, ◌&&◌, nat_eq, List, ◌∷◌, map}
use Rattle.std.specs.List.{IsDistinct}
use Rattle.std.specs.Str.{bytes_eq}
use Rattle.vcl_values.specs.declared.value.Kind.{Kind}
use Rattle.vcl_values.specs.declared.value.Kind.TheVariants.{String}
use Rattle.vmod_host.specs.declared.signature.JarUse.{JarUse}
use Rattle.vmod_host.specs.declared.signature.JarUse.TheVariants as jar
use Rattle.vmod_host.specs.declared.signature.Signature.{Signature}
use Rattle.vmod_host.specs.declared.signature.Stored.{Stored}

-- a stored function of this tag and signature, without its code
abbrev pub entry_of : ℕ → Signature → Stored
entry_of tag signature = record { tag = tag; signature = signature }

-- what is passed to a function whose calls write arguments of these types: the jar's text first, where it has a jar
abbrev pub passed : JarUse → List Kind → List Kind
passed jar.None takes = takes
passed jar.Asks takes = String ∷ takes
passed jar.Changes takes = String ∷ takes

-- the signature is that of this function of this module
abbrev pub is_named : List ℕ → List ℕ → Signature → Bool
is_named module_name name signature = bytes_eq signature.module module_name && bytes_eq signature.name name

-- no two of the functions have one tag
abbrev pub HaveOwnTags : List Stored → Type 0
HaveOwnTags entries = IsDistinct nat_eq (map (λ entry. entry.tag) entries)
