-- What a text of VCL comes to where it is checked, and when that is told by the text alone.
use Rattle.std.specs.Prelude.{ℕ, ◌≡◌, List, Contains, Result, Ok, Err}
use Rattle.vcl_values.specs.Readings.{NestsTooDeep}
use Rattle.vcl_tree.specs.declared.error.VclError.{VclError}
use Rattle.vcl_tree.specs.declared.error.VclError.TheVariants as error
use Rattle.vcl_tree.specs.declared.item.Item.{Item}
use Rattle.vcl_tree.specs.declared.item.Tree.{Tree}
use Rattle.vmod_host.specs.declared.signature.Stored.{Stored}
use Rattle.vcl_check.specs.declared.mentions.MentionKind.TheVariants as kind
use Rattle.vcl_check.specs.Mentions.{Said}
use Rattle.vcl_check.specs.Texts.{says, IsSound}
use Rattle.vcl_store.specs.Joined.{IsJoined, IsTreeOf}
use Rattle.vcl_store.specs.Refusals.{IsRefusalOf}

-- No string that must be a pattern nests too deep for `regex`, which may refuse such a one or not.
abbrev pub HasNoDeepPattern : List Item → Type 0
HasNoDeepPattern items = (s : Said) → Contains (says items) s → s.kind ≡ kind.Pattern → NestsTooDeep s.name → ⊥

-- What the text comes to is told by the text: none of its patterns nests too deep.
abbrev pub IsPlainText : List ℕ → Type 0
IsPlainText text = (own : Tree) → IsTreeOf text own → HasNoDeepPattern own.items

-- what the text comes to with these stored functions: its joined tree, which is sound, or a refusal
abbrev pub ComesTo : List ℕ → List Stored → Result Tree VclError → Type 0
ComesTo text stored (Ok joined) = IsJoined text joined × ∥ IsSound joined.items stored ∥₁
ComesTo text stored (Err error.NoMemory) = ⊥
ComesTo text stored (Err (error.Refused why place)) = IsRefusalOf text stored (error.Refused why place)
