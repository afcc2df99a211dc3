-- Single tokens of the grammar: each is its kind and the place of its first byte.
use Rattle.std.specs.Prelude.{ℕ, ℤ, List}
use Rattle.vcl_tree.specs.Phrase.{Phrase, Named, String}
use Rattle.vcl_tree.specs.declared.token.Token.{Token}
use Rattle.vcl_tree.specs.declared.token.TokenKind.TheVariants as kind
use Rattle.vcl_tree.specs.declared.token.Sign.{Sign}
use Rattle.vcl_tree.specs.declared.token.Word.{Word}

abbrev pub a_sign : Sign → ℕ → Token
a_sign s p = record { kind = kind.Sign s; place = p }

abbrev pub a_word : Word → List ℕ → ℕ → Token
a_word w t p = record { kind = kind.Word w t; place = p }

abbrev pub a_name : List ℕ → ℕ → Token
a_name t p = record { kind = kind.Name t; place = p }

abbrev pub a_string : List ℕ → ℕ → Token
a_string t p = record { kind = kind.String t; place = p }

abbrev pub an_integer : ℤ → ℕ → Token
an_integer n p = record { kind = kind.Integer n; place = p }

abbrev pub a_duration : ℤ → ℕ → Token
a_duration n p = record { kind = kind.Duration n; place = p }

abbrev pub a_decimal : List ℕ → ℕ → Token
a_decimal t p = record { kind = kind.Decimal t; place = p }

-- A name, which may be a word of the language.
pub data IsName : Phrase → Token → Type 0 where
  plain_name : {p : ℕ} {t : List ℕ} → IsName (Named p t) (a_name t p)
  word_name : {p : ℕ} {w : Word} {t : List ℕ} → IsName (Named p t) (a_word w t p)

-- A name that is declared, and is no word.
pub data IsNewName : Phrase → Token → Type 0 where
  new_name : {p : ℕ} {t : List ℕ} → IsNewName (Named p t) (a_name t p)

pub data IsString : Phrase → Token → Type 0 where
  string : {p : ℕ} {t : List ℕ} → IsString (String p t) (a_string t p)
