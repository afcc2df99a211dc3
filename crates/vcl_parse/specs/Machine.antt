-- A reading of tokens one at a time, with what is wanted next on a stack, and what has been read on another.
use Rattle.std.specs.Prelude.{ℕ, nat_le, Bool, true, false, ◌&&◌, List, [], ◌∷◌, ◌++◌, length, Option, Some, None, if◌then◌else◌}
use Rattle.vcl_tree.specs.Phrase.{Phrase, Label, Nothing, At, Named, String, Weight, Integer, Duration, Node, More, Either, Both, Not, Compared, Added, Subtracted, Group, Called, Bound, Set, Append, Unset, Jump, New, Return, Branch, If, ElseIf, Else, Attribute, Nested, Entry, Masked, Import, NoBackend, Backend, Probe, Acl, Sub}
use Rattle.vcl_tree.specs.declared.token.Token.{Token}
use Rattle.vcl_tree.specs.declared.token.TokenKind.{TokenKind}
use Rattle.vcl_tree.specs.declared.token.TokenKind.TheVariants as kind
use Rattle.vcl_tree.specs.declared.token.Sign.{Sign}
use Rattle.vcl_tree.specs.declared.token.Sign.TheVariants as sign
use Rattle.vcl_tree.specs.declared.token.Word.{Word}
use Rattle.vcl_tree.specs.declared.token.Word.TheVariants as word
use Rattle.vcl_tree.specs.declared.expression.Comparison.{Comparison}
use Rattle.vcl_parse.specs.Starts.{term_sign_of, statement_word_of, item_word_of, else_word_of}
use Rattle.vcl_tree.specs.Signs.{is_sign, same_sign, comparison_of}
use Rattle.vcl_tree.specs.Endings.{has_zeros, adds_backend}
use Rattle.vcl_tree.specs.Numbers.{opposite}
use Rattle.vcl_tree.specs.Nesting.{opens, level}
use Rattle.vcl_parse.specs.declared.starts.TermSign.{TermSign}
use Rattle.vcl_parse.specs.declared.starts.TermSign.TheVariants as term
use Rattle.vcl_parse.specs.declared.starts.StatementWord.{StatementWord}
use Rattle.vcl_parse.specs.declared.starts.StatementWord.TheVariants as statement
use Rattle.vcl_parse.specs.declared.starts.ItemWord.{ItemWord}
use Rattle.vcl_parse.specs.declared.starts.ItemWord.TheVariants as item
use Rattle.vcl_parse.specs.declared.starts.ElseWord.{ElseWord}
use Rattle.vcl_parse.specs.declared.starts.ElseWord.TheVariants as otherwise

-- what is wanted: a part of the grammar, or the rest of one that may end here
pub data Part : Type 0 where
  Any : Part
  All : Part
  Negation : Part
  Comparing : Part
  Sum : Part
  Term : Part
  -- a literal behind a minus sign at this place
  Negated : ℕ → Part
  Arguments : Bool → Part
  Argument : Bool → Part
  Assignment : Part
  Ending : Part
  Condition : Part
  Block : Part
  AfterElse : Part
  Value : Part
  Attributes : Part
  BackendBody : Part
  Address : Part
  Entries : Part

pub data Tail : Type 0 where
  MoreAny : Tail
  MoreAll : Tail
  Compares : Tail
  MoreSum : Tail
  Calls : Tail
  FirstArgument : Bool → Tail
  MoreArguments : Bool → Tail
  MoreStatements : Tail
  MoreElse : Tail
  MoreAttributes : Tail
  Semicolon : Tail
  MoreEntries : Tail
  Mask : Tail
  MoreItems : Tail

pub data Want : Type 0 where
  -- a sign, which is not kept
  Take : Sign → Want
  -- a name, and one that is no word
  AnyName : Want
  NewName : Want
  Number : Want
  Read : Part → Want
  Go : Tail → Want
  -- ties the last two parts that were read
  Join : Label → Want

-- what a token adds to what has been read, the last first, and what is wanted behind it
abbrev pub Move : Type 0
Move = List Phrase × List Want

abbrev pub Config : Type 0
Config = List Want × List Phrase

abbrev pub go : Option Move → List Want → List Phrase → Option Config
go None s vs = None
go (Some m) s vs = Some (m.1 ++ s, m.0 ++ vs)

abbrev pub or_on : Option Move → List Want → List Phrase → Option Config → Option Config
or_on None s vs on = on
or_on (Some m) s vs on = Some (m.1 ++ s, m.0 ++ vs)

abbrev pub name_move : TokenKind → ℕ → Option Move
name_move (kind.Name t) p = Some (Named p t ∷ [], [])
name_move (kind.Word w t) p = Some (Named p t ∷ [], [])
name_move _ p = None

abbrev pub new_name_move : TokenKind → ℕ → Option Move
new_name_move (kind.Name t) p = Some (Named p t ∷ [], [])
new_name_move _ p = None

abbrev pub number_move : TokenKind → ℕ → Option Move
number_move (kind.Integer n) p = Some (Integer p n ∷ [], [])
number_move _ p = None

abbrev pub sign_term : TermSign → ℕ → Option Move
sign_term term.Group p = Some (At p ∷ [], Read Any ∷ Take sign.CloseParenthesis ∷ Join Group ∷ [])
sign_term term.Negative p = Some ([], Read (Negated p) ∷ [])
sign_term term.Nothing p = None

abbrev pub term_move : TokenKind → ℕ → Option Move
term_move (kind.Name t) p = Some (Named p t ∷ [], Go Calls ∷ [])
term_move (kind.Word w t) p = Some (Named p t ∷ [], Go Calls ∷ [])
term_move (kind.Integer n) p = Some (Integer p n ∷ [], [])
term_move (kind.Decimal t) p = None
term_move (kind.Duration n) p = Some (Duration p n ∷ [], [])
term_move (kind.String t) p = Some (String p t ∷ [], [])
term_move (kind.Sign s) p = sign_term (term_sign_of s) p

-- a literal behind a minus sign at this place
abbrev pub negated_move : TokenKind → ℕ → Option Move
negated_move (kind.Integer n) p = Some (Integer p (opposite n) ∷ [], [])
negated_move (kind.Duration n) p = Some (Duration p (opposite n) ∷ [], [])
negated_move _ p = None

-- a weight stands alone as an argument, where there may be one
abbrev pub weight_move : Bool → TokenKind → ℕ → Option Move
weight_move true (kind.Decimal t) p = if has_zeros t then Some (Weight p t ∷ [], []) else None
weight_move weight _ p = None

abbrev pub value_move : TokenKind → ℕ → Option Move
value_move (kind.Name t) p = Some (Named p t ∷ [], Take sign.Semicolon ∷ [])
value_move (kind.Word w t) p = Some (Named p t ∷ [], Take sign.Semicolon ∷ [])
value_move (kind.Integer n) p = Some (Integer p n ∷ [], Take sign.Semicolon ∷ [])
value_move (kind.Decimal t) p = None
value_move (kind.Duration n) p = Some (Duration p n ∷ [], Take sign.Semicolon ∷ [])
value_move (kind.String t) p = Some (String p t ∷ [], Take sign.Semicolon ∷ [])
value_move (kind.Sign s) p = if same_sign sign.OpenBrace s then Some (Nothing ∷ At p ∷ [], Go MoreAttributes ∷ Take sign.CloseBrace ∷ Join Nested ∷ Go Semicolon ∷ []) else None

abbrev pub address_move : TokenKind → ℕ → Option Move
address_move (kind.String t) p = Some (String p t ∷ [], Go Mask ∷ Take sign.Semicolon ∷ [])
address_move _ p = None

abbrev pub entry_move : TokenKind → ℕ → Option Move
entry_move (kind.String t) p = Some (String p t ∷ Nothing ∷ [], Go Mask ∷ Take sign.Semicolon ∷ Join Entry ∷ Join More ∷ Go MoreEntries ∷ [])
entry_move (kind.Sign s) p = if same_sign sign.Not s then Some (At p ∷ [], Read Address ∷ Join Entry ∷ Join More ∷ Go MoreEntries ∷ []) else None
entry_move _ p = None

abbrev pub word_statement : StatementWord → ℕ → Option Move
word_statement statement.Set p = Some (At p ∷ [], AnyName ∷ Read Assignment ∷ Join More ∷ Go MoreStatements ∷ [])
word_statement statement.Unset p = Some (At p ∷ [], AnyName ∷ Take sign.Semicolon ∷ Join Unset ∷ Join More ∷ Go MoreStatements ∷ [])
word_statement statement.Call p = Some (At p ∷ [], AnyName ∷ Take sign.Semicolon ∷ Join Jump ∷ Join More ∷ Go MoreStatements ∷ [])
word_statement statement.New p = Some (At p ∷ [], NewName ∷ Take sign.Assign ∷ AnyName ∷ Read (Arguments false) ∷ Join Called ∷ Take sign.Semicolon ∷ Join Bound ∷ Join New ∷ Join More ∷ Go MoreStatements ∷ [])
word_statement statement.If p = Some (At p ∷ [], Read Condition ∷ Join If ∷ Go MoreElse ∷ Join More ∷ Go MoreStatements ∷ [])
word_statement statement.Return p = Some (At p ∷ [], Take sign.OpenParenthesis ∷ AnyName ∷ Read Ending ∷ Join Return ∷ Join More ∷ Go MoreStatements ∷ [])
word_statement statement.Nothing p = None

abbrev pub statement_move : TokenKind → ℕ → Option Move
statement_move (kind.Name t) p = Some (Named p t ∷ [], Read (Arguments (adds_backend t)) ∷ Join Called ∷ Take sign.Semicolon ∷ Join More ∷ Go MoreStatements ∷ [])
statement_move (kind.Word w t) p = word_statement (statement_word_of w) p
statement_move _ p = None

abbrev pub word_item : ItemWord → ℕ → Option Move
word_item item.Import p = Some (At p ∷ [], AnyName ∷ Take sign.Semicolon ∷ Join Import ∷ Join More ∷ Go MoreItems ∷ [])
word_item item.Backend p = Some (At p ∷ [], NewName ∷ Read BackendBody ∷ Join More ∷ Go MoreItems ∷ [])
word_item item.Acl p = Some (At p ∷ [], NewName ∷ Read Entries ∷ Join Bound ∷ Join Acl ∷ Join More ∷ Go MoreItems ∷ [])
word_item item.Probe p = Some (At p ∷ [], NewName ∷ Read Attributes ∷ Join Bound ∷ Join Probe ∷ Join More ∷ Go MoreItems ∷ [])
word_item item.Sub p = Some (At p ∷ [], NewName ∷ Read Block ∷ Join Bound ∷ Join Sub ∷ Join More ∷ Go MoreItems ∷ [])
word_item item.Nothing p = None

abbrev pub item_move : TokenKind → ℕ → Option Move
item_move (kind.Word w t) p = word_item (item_word_of w) p
item_move _ p = None

abbrev pub else_move : ElseWord → Option Move
else_move otherwise.ElseIf = Some ([], Read Condition ∷ Join ElseIf ∷ Go MoreElse ∷ [])
else_move otherwise.Else = Some ([], Read AfterElse ∷ [])
else_move otherwise.Nothing = None

abbrev pub else_of : TokenKind → Option Move
else_of (kind.Word w t) = else_move (else_word_of w)
else_of _ = None

abbrev pub is_if : StatementWord → Bool
is_if statement.If = true
is_if _ = false

abbrev pub after_else : TokenKind → Option Move
after_else (kind.Word w t) = if is_if (statement_word_of w) then Some ([], Read Condition ∷ Join ElseIf ∷ Go MoreElse ∷ []) else None
after_else (kind.Sign s) = if same_sign sign.OpenBrace s then Some (Nothing ∷ [], Go MoreStatements ∷ Take sign.CloseBrace ∷ Join Else ∷ []) else None
after_else _ = None

abbrev pub compared : Option Comparison → Option Move
compared None = None
compared (Some how) = Some ([], Read Sum ∷ Join (Compared how) ∷ [])

abbrev pub compares : TokenKind → Option Move
compares (kind.Sign s) = compared (comparison_of s)
compares _ = None

abbrev pub is_none : Word → Bool
is_none word.None = true
is_none _ = false

abbrev pub backend_move : TokenKind → Option Move
backend_move (kind.Word w t) = if is_none w then Some ([], Take sign.Semicolon ∷ Join NoBackend ∷ []) else None
backend_move (kind.Sign s) = if same_sign sign.OpenBrace s then Some (Nothing ∷ [], Go MoreAttributes ∷ Take sign.CloseBrace ∷ Join Bound ∷ Join Backend ∷ []) else None
backend_move _ = None

-- a sign, and what is wanted behind it
abbrev pub at_sign : Sign → Token → List Phrase → List Want → Option Move
at_sign s x read wants = if is_sign s x then Some (read, wants) else None

abbrev pub first_of : Option Move → Option Move → Option Move
first_of None m = m
first_of (Some a) m = Some a

-- an expression from the inside out
abbrev pub from_sum : Token → List Want → List Phrase → Option Config
from_sum x s vs = go (term_move x.kind x.place) (Go MoreSum ∷ s) vs

abbrev pub from_comparing : Token → List Want → List Phrase → Option Config
from_comparing x s vs = from_sum x (Go Compares ∷ s) vs

abbrev pub from_negation : Token → List Want → List Phrase → Option Config
from_negation x s vs = or_on (at_sign sign.Not x (At x.place ∷ []) (Read Comparing ∷ Join Not ∷ [])) s vs (from_comparing x s vs)

abbrev pub from_all : Token → List Want → List Phrase → Option Config
from_all x s vs = from_negation x (Go MoreAll ∷ s) vs

abbrev pub from_any : Token → List Want → List Phrase → Option Config
from_any x s vs = from_all x (Go MoreAny ∷ s) vs

abbrev pub starts_term : TokenKind → Bool
starts_term (kind.Sign s) = same_sign sign.OpenParenthesis s
starts_term (kind.Decimal t) = false
starts_term _ = true

abbrev pub or_config : Option Config → Option Config → Option Config
or_config None c = c
or_config (Some a) c = Some a

-- a token at a part that must stand here
abbrev pub read : Part → Token → List Want → List Phrase → Option Config
read Any x s vs = from_any x s vs
read All x s vs = from_all x s vs
read Negation x s vs = from_negation x s vs
read Comparing x s vs = from_comparing x s vs
read Sum x s vs = from_sum x s vs
read Term x s vs = go (term_move x.kind x.place) s vs
read (Negated p) x s vs = go (negated_move x.kind p) s vs
read (Arguments weight) x s vs = go (at_sign sign.OpenParenthesis x (Nothing ∷ []) (Go (FirstArgument weight) ∷ Take sign.CloseParenthesis ∷ [])) s vs
read (Argument weight) x s vs = or_on (weight_move weight x.kind x.place) s vs (from_any x s vs)
read Assignment x s vs = go (first_of (at_sign sign.Assign x [] (Read Any ∷ Take sign.Semicolon ∷ Join Bound ∷ Join Set ∷ [])) (at_sign sign.AddAssign x [] (Read Any ∷ Take sign.Semicolon ∷ Join Bound ∷ Join Append ∷ []))) s vs
read Ending x s vs = go (first_of (at_sign sign.OpenParenthesis x (Nothing ∷ []) (Go (FirstArgument false) ∷ Take sign.CloseParenthesis ∷ Join Called ∷ Take sign.CloseParenthesis ∷ Take sign.Semicolon ∷ [])) (at_sign sign.CloseParenthesis x [] (Take sign.Semicolon ∷ []))) s vs
read Condition x s vs = go (at_sign sign.OpenParenthesis x [] (Read Any ∷ Take sign.CloseParenthesis ∷ Read Block ∷ Join Branch ∷ [])) s vs
read Block x s vs = go (at_sign sign.OpenBrace x (Nothing ∷ []) (Go MoreStatements ∷ Take sign.CloseBrace ∷ [])) s vs
read AfterElse x s vs = go (after_else x.kind) s vs
read Value x s vs = go (value_move x.kind x.place) s vs
read Attributes x s vs = go (at_sign sign.OpenBrace x (Nothing ∷ []) (Go MoreAttributes ∷ Take sign.CloseBrace ∷ [])) s vs
read BackendBody x s vs = go (backend_move x.kind) s vs
read Address x s vs = go (address_move x.kind x.place) s vs
read Entries x s vs = go (at_sign sign.OpenBrace x (Nothing ∷ []) (Go MoreEntries ∷ Take sign.CloseBrace ∷ [])) s vs

-- a token at the rest of a part, which steps on where it begins none
abbrev pub carry : Tail → Token → List Want → List Phrase → Option Config → Option Config
carry MoreAny x s vs on = or_on (at_sign sign.Or x [] (Read All ∷ Join Either ∷ Go MoreAny ∷ [])) s vs on
carry MoreAll x s vs on = or_on (at_sign sign.And x [] (Read Negation ∷ Join Both ∷ Go MoreAll ∷ [])) s vs on
carry Compares x s vs on = or_on (compares x.kind) s vs on
carry MoreSum x s vs on =
    or_on (at_sign sign.Plus x [] (Read Term ∷ Join Added ∷ Go MoreSum ∷ [])) s vs (
    or_on (at_sign sign.Minus x [] (Read Term ∷ Join Subtracted ∷ Go MoreSum ∷ [])) s vs (
    if starts_term x.kind then go (term_move x.kind x.place) (Join Added ∷ Go MoreSum ∷ s) vs else on))
carry Calls x s vs on = or_on (at_sign sign.OpenParenthesis x (Nothing ∷ []) (Go (FirstArgument false) ∷ Take sign.CloseParenthesis ∷ Join Called ∷ [])) s vs on
carry (FirstArgument weight) x s vs on = if is_sign sign.CloseParenthesis x then on else from_any x (Join More ∷ Go (MoreArguments weight) ∷ s) vs
carry (MoreArguments weight) x s vs on = or_on (at_sign sign.Comma x [] (Read (Argument weight) ∷ Join More ∷ Go (MoreArguments weight) ∷ [])) s vs on
carry MoreStatements x s vs on = or_on (statement_move x.kind x.place) s vs on
carry MoreElse x s vs on = or_on (else_of x.kind) s vs on
carry MoreAttributes x s vs on = or_on (at_sign sign.Dot x (At x.place ∷ []) (AnyName ∷ Take sign.Assign ∷ Read Value ∷ Join Bound ∷ Join Attribute ∷ Join More ∷ Go MoreAttributes ∷ [])) s vs on
carry Semicolon x s vs on = or_on (at_sign sign.Semicolon x [] []) s vs on
carry MoreEntries x s vs on = or_on (entry_move x.kind x.place) s vs on
carry Mask x s vs on = or_on (at_sign sign.Slash x [] (Number ∷ Join Masked ∷ [])) s vs on
carry MoreItems x s vs on = or_on (item_move x.kind x.place) s vs on

abbrev pub join : Label → List Phrase → List Phrase
join label [] = Node label Nothing Nothing ∷ []
join label (b ∷ []) = Node label Nothing b ∷ []
join label (b ∷ a ∷ vs) = Node label a b ∷ vs

-- what is wanted and what has been read behind one token more; None where the token can't stand there
abbrev pub step : List Want → List Phrase → Token → Option Config
step [] vs x = None
step (Take t ∷ s) vs x = if is_sign t x then Some (s, vs) else None
step (AnyName ∷ s) vs x = go (name_move x.kind x.place) s vs
step (NewName ∷ s) vs x = go (new_name_move x.kind x.place) s vs
step (Number ∷ s) vs x = go (number_move x.kind x.place) s vs
step (Read part ∷ s) vs x = read part x s vs
step (Go tail ∷ s) vs x = carry tail x s vs (step s vs x)
step (Join label ∷ s) vs x = step s (join label vs) x

-- All tokens are read; or a token can't stand there, or nests too deep, with as many left as the number says, the
-- token itself among them.
pub data Outcome : Type 0 where
  Accepted : List Phrase → Outcome
  Refused : ℕ → Outcome
  Deep : ℕ → Outcome

-- at the end of the tokens
abbrev pub ends : List Want → List Phrase → Outcome
ends [] vs = Accepted vs
ends (Go tail ∷ s) vs = ends s vs
ends (Join label ∷ s) vs = ends s (join label vs)
ends (_ ∷ s) vs = Refused 0

abbrev pub moved : ℕ → Bool → Option Config → (Config → Outcome) → Outcome
moved left deep None on = Refused left
moved left deep (Some c) on = if deep then Deep left else on c

-- the reading of tokens from a depth on
abbrev pub watch : ℕ → List Want → List Phrase → List Token → Outcome
watch depth s vs [] = ends s vs
watch depth s vs (x ∷ xs) = moved (length (x ∷ xs)) (opens x && nat_le 64 depth) (step s vs x) (λ c. watch (level depth x) (c.0) (c.1) xs)
