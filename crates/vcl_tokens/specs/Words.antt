-- The words of the language.
use Rattle.std.specs.Prelude.{List, [], ◌∷◌, ℕ, Option, codes}
use Rattle.std.specs.Map.{lookup}
use Rattle.std.specs.Str.{bytes_eq}
use Rattle.vcl_tree.specs.declared.token.Word.{Word}
use Rattle.vcl_tree.specs.declared.token.Word.TheVariants as word

-- those that begin or carry on a statement
abbrev pub statement_words : List (List ℕ × Word)
statement_words =
    (codes "set", word.Set)
    ∷ (codes "unset", word.Unset)
    ∷ (codes "call", word.Call)
    ∷ (codes "new", word.New)
    ∷ (codes "if", word.If)
    ∷ (codes "else", word.Else)
    ∷ (codes "elseif", word.ElseIf)
    ∷ (codes "elsif", word.ElseIf)
    ∷ (codes "elif", word.ElseIf)
    ∷ (codes "return", word.Return)
    ∷ []

abbrev pub words : List (List ℕ × Word)
words =
    (codes "vcl", word.Vcl)
    ∷ (codes "import", word.Import)
    ∷ (codes "backend", word.Backend)
    ∷ (codes "acl", word.Acl)
    ∷ (codes "probe", word.Probe)
    ∷ (codes "sub", word.Sub)
    ∷ (codes "none", word.None)
    ∷ (codes "true", word.True)
    ∷ (codes "false", word.False)
    ∷ statement_words

-- the word that the bytes are, if they are one
abbrev pub word_of : List ℕ → Option Word
word_of name = lookup (bytes_eq name) words
