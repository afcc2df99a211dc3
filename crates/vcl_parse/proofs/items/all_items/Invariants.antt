use Rattle.std.proofs.Common.{◌≡◌, ◌∷◌, List, length}
use Rattle.std.specs.Prelude.{map}
use Rattle.vcl_tree.specs.Phrase.{Phrase, Nothing, list_of}
use Rattle.vcl_tree.specs.TreeView.{item_of}
use Rattle.vcl_parse.specs.Machine.{Want, Go, MoreItems, watch}
use Rattle.vcl_parse.proofs.items.all_items.Given as goal

abbrev pub invariant-items : goal.invariant-items
invariant-items l = (s : List Want) (vs : List Phrase) → watch 0 (Go MoreItems ∷ s) (Nothing ∷ vs) l.tokens ≡ watch 0 (Go MoreItems ∷ s) (list_of (map item_of l.items.items) ∷ vs) l.rest

abbrev pub decreases-items : goal.decreases-items
decreases-items l = length l.rest
