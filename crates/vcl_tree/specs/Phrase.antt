-- What a clause sees of a part of a syntax tree: its shape, its texts and numbers, and the places of its first
-- tokens. A list is built from its front, `More` of the list before and one part more, from `Nothing` on; a chain of
-- operands likewise, from its first operand on.
use Rattle.std.specs.Prelude.{ℕ, suc, ◌+◌, ℤ, List, [], ◌∷◌}
use Rattle.vcl_tree.specs.declared.expression.Comparison.{Comparison}

-- what ties two parts
pub data Label : Type 0 where
  -- one part more of a list
  More : Label
  -- expressions: operands
  Either : Label
  Both : Label
  Compared : Comparison → Label
  Added : Label
  Subtracted : Label
  -- a place and an operand
  Not : Label
  Group : Label
  -- a name and its arguments
  Called : Label
  -- a name and what it is given, or what belongs to it
  Bound : Label
  -- statements: a place, and a name or what is bound
  Set : Label
  Append : Label
  Unset : Label
  Jump : Label
  New : Label
  Return : Label
  -- a condition and a block
  Branch : Label
  -- a place and a branch
  If : Label
  -- a conditional statement, and a branch or a block more
  ElseIf : Label
  Else : Label
  -- attributes: a place and what is bound; a place and attributes
  Attribute : Label
  Nested : Label
  -- entries of an ACL: a place or nothing, and an address; an address and a mask
  Entry : Label
  Masked : Label
  -- items: a place, and a name or what is bound
  Import : Label
  NoBackend : Label
  Backend : Label
  Probe : Label
  Acl : Label
  Sub : Label

pub data Phrase : Type 0 where
  Nothing : Phrase
  -- the place of a word or a sign
  At : ℕ → Phrase
  -- a place, and a text or a number
  Named : ℕ → List ℕ → Phrase
  String : ℕ → List ℕ → Phrase
  Weight : ℕ → List ℕ → Phrase
  Integer : ℕ → ℤ → Phrase
  Duration : ℕ → ℤ → Phrase
  Node : Label → Phrase → Phrase → Phrase

-- parts tied one after another
abbrev pub chain : Label → Phrase → List Phrase → Phrase
chain label front [] = front
chain label front (part ∷ parts) = chain label (Node label front part) parts

abbrev pub list_of : List Phrase → Phrase
list_of parts = chain More Nothing parts

-- how many parts a phrase has
abbrev pub phrase_size : Phrase → ℕ
phrase_size (Node label a b) = suc (phrase_size a + phrase_size b)
phrase_size _ = 1
