-- Why a text has no program.
use Rattle.std.specs.Prelude.{ℕ, ◌⊎◌, List}
use Rattle.vcl_tree.specs.declared.error.VclError.{VclError}
use Rattle.vcl_tree.specs.declared.item.Tree.{Tree}
use Rattle.vcl_check.specs.Texts.{IsRefused}
use Rattle.vmod_host.specs.declared.signature.Stored.{Stored}
use Rattle.vcl_store.specs.Joined.{IsJoined, IsUnreadable}

-- The text has no joined tree, or that is refused with these stored functions.
abbrev pub IsRefusalOf : List ℕ → List Stored → VclError → Type 0
IsRefusalOf text stored e = IsUnreadable text e ⊎ ((joined : Tree) × IsJoined text joined × IsRefused joined.items stored e)
