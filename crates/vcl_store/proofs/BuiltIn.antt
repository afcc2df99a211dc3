-- The built-in text has the tree that is stated of it.
use Rattle.std.proofs.Common.{◌≡◌, ◌≤◌, List, [], ◌∷◌, length, Option, Some, None, refl, drop, map, true}
use Rattle.std.specs.Prelude.{nat_le}
use Rattle.vcl_tree.specs.Phrase.{Phrase, Nothing}
use Rattle.vcl_tree.specs.TreeView.{items_of}
use Rattle.vcl_tree.specs.declared.item.Item.{Item}
use Rattle.vcl_tree.specs.declared.item.Tree.{Tree}
use Rattle.vcl_tree.specs.declared.item.Version.TheVariants.{FourOne}
use Rattle.vcl_tree.specs.declared.token.Token.{Token}
use Rattle.vcl_tokens.specs.Reading.{text_limit}
use Rattle.vcl_parse.specs.Machine.{Accepted, Outcome}
use Rattle.vcl_parse.specs.Parsing.{Good, head_of}
use Rattle.vcl_parse.specs.Telling.{reading}
use Rattle.vcl_parse.proofs.Files.{tree_read}
use Rattle.vcl_store.specs.Joined.{built_in_text, IsTreeOf}
use Rattle.vcl_store.proofs.Items.{item_in, parts_of}
use Rattle.vcl_store.proofs.Reader.{read, read-is, within}

fits : nat_le (length built_in_text) text_limit ≡ true
unfolding built_in_text
fits = refl

is-short : length built_in_text ≤ text_limit
is-short = within (length built_in_text) text_limit fits

abbrev pub read-out : Option (List Token) → List Token
read-out None = []
read-out (Some tokens) = tokens

unfoldable pub tokens : List Token
tokens = read-out (read 1000 0 built_in_text)

are-read : read 1000 0 built_in_text ≡ Some tokens
unfolding tokens built_in_text
are-read = refl

unfoldable pub rest : List Token
rest = drop 2 tokens

has-head : head_of 0 tokens ≡ Good FourOne rest
unfolding rest tokens built_in_text
has-head = refl

abbrev pub phrase-in : Outcome → Phrase
phrase-in (Accepted (phrase ∷ [])) = phrase
phrase-in _ = Nothing

unfoldable pub items : List Item
items = map item_in (parts_of (phrase-in (reading rest)))

is-accepted : reading rest ≡ Accepted (items_of items ∷ [])
unfolding items rest tokens built_in_text
is-accepted = refl

unfoldable pub built-in : Tree
built-in = record { version = FourOne; items = items }

pub is-read : IsTreeOf built_in_text built-in
unfolding built-in
is-read = (tokens, read-is 1000 0 built_in_text tokens are-read, tree_read 0 tokens rest FourOne (items_of items) has-head is-accepted, is-short)
