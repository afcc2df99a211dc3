-- What is one of a text of VCL.
use Rattle.std.specs.Prelude.{ℕ, ◌≡◌, List, Result}
use Rattle.vcl_tree.specs.declared.error.VclError.{VclError}
use Rattle.vcl_tree.specs.declared.item.Tree.{Tree}
use Rattle.vmod_host.specs.declared.signature.Stored.{Stored}
use Rattle.vcl_store.specs.Joined.{IsJoined}
use Rattle.vcl_refusals.specs.Outcomes.{ComesTo, IsPlainText}

-- A text has one joined tree at most.
abbrev pub OneJoinedTree : Type 0
OneJoinedTree = (text : List ℕ) (one other : Tree) → IsJoined text one → IsJoined text other → other ≡ one

-- A plain text comes to one thing with these stored functions.
abbrev pub OneOutcome : Type 0
OneOutcome =
    (text : List ℕ) (stored : List Stored) (one other : Result Tree VclError)
    → IsPlainText text → ComesTo text stored one → ComesTo text stored other → other ≡ one
