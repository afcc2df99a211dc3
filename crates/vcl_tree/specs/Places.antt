-- Where a part of a tree begins.
use Rattle.std.specs.Prelude.{ℕ, List, [], ◌∷◌, Option, Some, None}
use Rattle.std.specs.Option.{option_or}
use Rattle.vcl_tree.specs.declared.token.Token.{Token}
use Rattle.vcl_tree.specs.Phrase.{Phrase, Nothing, At, Named, String, Weight, Integer, Duration, Node}

-- the place of the first token that is kept of a phrase, which has none where nothing is kept
abbrev pub place_of : Phrase → Option ℕ
place_of Nothing = None
place_of (At place) = Some place
place_of (Named place text) = Some place
place_of (String place text) = Some place
place_of (Weight place text) = Some place
place_of (Integer place n) = Some place
place_of (Duration place n) = Some place
place_of (Node label a b) = option_or (place_of a) (place_of b)

-- the place of the first of some tokens
abbrev pub first_place : List Token → Option ℕ
first_place [] = None
first_place (x ∷ tokens) = Some x.place
