-- The grammar of attributes of backends and probes.
use Rattle.std.specs.Prelude.{ℕ, ℤ, List, ◌∷◌}
use Rattle.vcl_tree.specs.Phrase.{Phrase, Nothing, At, String, Integer, Duration, Node, More, Bound, Attribute, Nested}
use Rattle.vcl_tree.specs.declared.token.Token.{Token}
use Rattle.vcl_tree.specs.declared.token.Sign.TheVariants as sign
use Rattle.vcl_tree.specs.Tokens.{a_sign, a_string, an_integer, a_duration, IsName}

mutual
  -- attributes = | attributes attribute
  pub data IsAttributes : Phrase → List Token → List Token → Type 0 where
    no_attributes : {ts : List Token} → IsAttributes Nothing ts ts
    more_attributes : {l a : Phrase} {ts m rest : List Token} → IsAttributes l ts m → IsAttribute a m rest → IsAttributes (Node More l a) ts rest

  -- attribute = "." name "=" value
  pub data IsAttribute : Phrase → List Token → List Token → Type 0 where
    attribute : {a v : Phrase} {x : Token} {ts rest : List Token} {p q : ℕ} →
        IsName a x → IsValue v ts rest → IsAttribute (Node Attribute (At p) (Node Bound a v)) (a_sign sign.Dot p ∷ x ∷ a_sign sign.Assign q ∷ ts) rest

  -- value = string ";" | integer ";" | duration ";" | name ";" | braced | braced ";"
  pub data IsValue : Phrase → List Token → List Token → Type 0 where
    string_value : {rest : List Token} {p q : ℕ} {t : List ℕ} → IsValue (String p t) (a_string t p ∷ a_sign sign.Semicolon q ∷ rest) rest
    integer_value : {rest : List Token} {p q : ℕ} {n : ℤ} → IsValue (Integer p n) (an_integer n p ∷ a_sign sign.Semicolon q ∷ rest) rest
    duration_value : {rest : List Token} {p q : ℕ} {n : ℤ} → IsValue (Duration p n) (a_duration n p ∷ a_sign sign.Semicolon q ∷ rest) rest
    name_value : {a : Phrase} {x : Token} {rest : List Token} {q : ℕ} → IsName a x → IsValue a (x ∷ a_sign sign.Semicolon q ∷ rest) rest
    nested : {v : Phrase} {ts rest : List Token} → IsBraced v ts rest → IsValue v ts rest
    nested_ended : {v : Phrase} {ts rest : List Token} {q : ℕ} → IsBraced v ts (a_sign sign.Semicolon q ∷ rest) → IsValue v ts rest

  -- braced = "{" attributes "}"
  pub data IsBraced : Phrase → List Token → List Token → Type 0 where
    braced : {l : Phrase} {ts rest : List Token} {p q : ℕ} →
        IsAttributes l ts (a_sign sign.CloseBrace q ∷ rest) → IsBraced (Node Nested (At p) l) (a_sign sign.OpenBrace p ∷ ts) rest
