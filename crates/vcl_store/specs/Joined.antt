-- The joined tree of a text, and why a text has none.
use Rattle.std.specs.Prelude.{ℕ, ◌≡◌, ◌≤◌, ◌⊎◌, List, ◌++◌, length}
use Rattle.vcl_tree.specs.declared.error.VclError.{VclError}
use Rattle.vcl_tree.specs.declared.item.Tree.{Tree}
use Rattle.vcl_tree.specs.declared.token.Token.{Token}
use Rattle.vcl_tokens.specs.Reading.{Reads, text_limit}
use Rattle.vcl_parse.specs.Parsing.{IsTree, IsFault}
use Rattle.vcl_store.specs.declared.built_in.TheConstants.{BUILT_IN}

unfoldable pub built_in_text : List ℕ
built_in_text = BUILT_IN.now

-- by the grammar the text is of this tree, and it is within its limit
abbrev pub IsTreeOf : List ℕ → Tree → Type 0
IsTreeOf text tree = (tokens : List Token) × Reads 0 text tokens × IsTree tokens tree × (length text ≤ text_limit)

-- The joined tree of a text: its version, its items and behind them those of the built-in text.
pub record IsJoined (text : List ℕ) (joined : Tree) : Type 0 where
  pub own : Tree
  pub built_in : Tree
  pub is_own : IsTreeOf text own
  pub is_built_in : IsTreeOf built_in_text built_in
  pub version : joined.version ≡ own.version
  pub items : joined.items ≡ own.items ++ built_in.items

-- Why a text has no joined tree: it has no tree of its own. The built-in text's fault would be told if it had one.
abbrev pub IsUnreadable : List ℕ → VclError → Type 0
IsUnreadable text e = IsFault text e ⊎ IsFault built_in_text e
