-- What a word or a sign begins, or ties.
use Rattle.vcl_tree.specs.declared.token.Sign.{Sign}
use Rattle.vcl_tree.specs.declared.token.Sign.TheVariants as sign
use Rattle.vcl_tree.specs.declared.token.Word.{Word}
use Rattle.vcl_tree.specs.declared.token.Word.TheVariants as word
use Rattle.vcl_parse.specs.declared.starts.TermSign.{TermSign}
use Rattle.vcl_parse.specs.declared.starts.TermSign.TheVariants as term
use Rattle.vcl_parse.specs.declared.starts.StatementWord.{StatementWord}
use Rattle.vcl_parse.specs.declared.starts.StatementWord.TheVariants as statement
use Rattle.vcl_parse.specs.declared.starts.ItemWord.{ItemWord}
use Rattle.vcl_parse.specs.declared.starts.ItemWord.TheVariants as item
use Rattle.vcl_parse.specs.declared.starts.ElseWord.{ElseWord}
use Rattle.vcl_parse.specs.declared.starts.ElseWord.TheVariants as otherwise

abbrev pub term_sign_of : Sign → TermSign
term_sign_of sign.OpenParenthesis = term.Group
term_sign_of sign.Minus = term.Negative
term_sign_of _ = term.Nothing

abbrev pub statement_word_of : Word → StatementWord
statement_word_of word.Set = statement.Set
statement_word_of word.Unset = statement.Unset
statement_word_of word.Call = statement.Call
statement_word_of word.New = statement.New
statement_word_of word.If = statement.If
statement_word_of word.Return = statement.Return
statement_word_of _ = statement.Nothing

abbrev pub item_word_of : Word → ItemWord
item_word_of word.Import = item.Import
item_word_of word.Backend = item.Backend
item_word_of word.Acl = item.Acl
item_word_of word.Probe = item.Probe
item_word_of word.Sub = item.Sub
item_word_of _ = item.Nothing

abbrev pub else_word_of : Word → ElseWord
else_word_of word.ElseIf = otherwise.ElseIf
else_word_of word.Else = otherwise.Else
else_word_of _ = otherwise.Nothing
