-- The parts of a list in a tree.
use Rattle.std.specs.Prelude.{List, [], ◌∷◌, ◌++◌}
use Rattle.vcl_tree.specs.Phrase as phrase
use Rattle.vcl_tree.specs.Phrase.{Phrase}

abbrev pub parts : Phrase → List Phrase
parts (phrase.Node phrase.More a b) = parts a ++ b ∷ []
parts _ = []
