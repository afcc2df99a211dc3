-- The parts of a list are its items.
use Rattle.std.proofs.Common.{◌≡◌, List, [], ◌∷◌, ◌++◌, sym, ◌∙◌, append_assoc, append-nil}
use Rattle.vcl_tree.specs.Phrase as phrase
use Rattle.vcl_tree.specs.Phrase.{Phrase, Node, chain, list_of}
use Rattle.vcl_probes.specs.Parts.{parts}

parts-chain : (front : Phrase) (items : List Phrase) → parts (chain phrase.More front items) ≡ parts front ++ items
parts-chain front [] = sym (append-nil (parts front))
parts-chain front (p ∷ ps) = parts-chain (Node phrase.More front p) ps ∙ append_assoc (parts front) (p ∷ []) ps

pub parts-list : (items : List Phrase) → parts (list_of items) ≡ items
parts-list items = parts-chain phrase.Nothing items
