-- Steps of the reading of single tokens, as the functions take them.
use Rattle.std.proofs.Common.{◌≡◌, ℕ, suc, pred, ◌<◌, List, [], ◌∷◌, ◌++◌, length, refl, ◌∙◌}
use Rattle.std.specs.Prelude.{Bool, true, false, cond, ◌&&◌, nat_le, Some, None}
use Rattle.vcl_tree.specs.Phrase.{Phrase, Label, Node, chain, Nothing, At, More, Either, Both, Not, Group, Called, Unset, Jump, New, Bound, Return, Branch, If, ElseIf, Else, Attribute, Nested, Entry, Masked, Import, NoBackend, Backend, Acl, Probe, Sub, list_of}
use Rattle.vcl_tree.specs.ExpressionView.{sum_of, sum_label}
use Rattle.vcl_tree.specs.declared.expression.Addend.{Addend}
use Rattle.vcl_tree.specs.declared.token.Token.{Token}
use Rattle.vcl_tree.specs.declared.token.TokenKind.{TokenKind}
use Rattle.vcl_tree.specs.declared.token.TokenKind.TheVariants as kind
use Rattle.vcl_tree.specs.declared.item.AclEntry.{AclEntry}
use Rattle.vcl_tree.specs.TreeView.{entry_of, item_of}
use Rattle.vcl_tree.specs.declared.item.Item.{Item}
use Rattle.std.specs.Prelude.{map, ◌==◌}
use Rattle.std.proofs.lemmas.List.{map-append}
use Rattle.vcl_tree.specs.declared.token.Sign.{Sign}
use Rattle.vcl_tree.specs.declared.token.Sign.TheVariants as sign
use Rattle.vcl_tree.specs.declared.token.Word.{Word}
use Rattle.vcl_parse.specs.Starts.{statement_word_of, else_word_of, item_word_of}
use Rattle.vcl_parse.specs.declared.starts.ItemWord.TheVariants as item
use Rattle.vcl_parse.specs.declared.starts.StatementWord.TheVariants as statement
use Rattle.vcl_parse.specs.declared.starts.ElseWord.TheVariants as otherwise
use Rattle.vcl_parse.specs.declared.stop.Stop.{Stop}
use Rattle.vcl_parse.specs.Machine.{Want, Take, Read, Go, Join, Any, All, Negation, Comparing, Sum, Term, Negated, Arguments, Argument, MoreAny, MoreAll, Compares, MoreSum, Calls, FirstArgument, MoreArguments, AnyName, NewName, Assignment, Ending, Condition, Block, AfterElse, MoreElse, MoreStatements, Attributes, Value, Address, Entries, MoreAttributes, Semicolon, MoreEntries, Mask, Number, BackendBody, MoreItems, is_none, is_if, Config, Move, first_of, moved, go, Outcome, Refused, Deep, watch, join}
use Rattle.vcl_tree.specs.Signs.{is_kind_of_sign, same_sign, is_sign}
use Rattle.vcl_tree.specs.Nesting.{opens, level}
use Rattle.vcl_parse.specs.Steps.{Stops, IsStopped, IsRead, BeginsWith, sign_level, is_string, first_is_string, first_at}
use Rattle.vcl_tree.specs.Signs.{first_is}

pub joins : (d : ℕ) (l : Label) (s : List Want) (vs : List Phrase) (ts : List Token) → watch d (Join l ∷ s) vs ts ≡ watch d s (join l vs) ts
joins d l s vs [] = refl
joins d l s vs (x ∷ ts) = refl

pub enter_any : (d : ℕ) (s : List Want) (vs : List Phrase) (ts : List Token) → watch d (Read Any ∷ s) vs ts ≡ watch d (Read All ∷ Go MoreAny ∷ s) vs ts
enter_any d s vs [] = refl
enter_any d s vs (x ∷ ts) = refl

pub enter_all : (d : ℕ) (s : List Want) (vs : List Phrase) (ts : List Token) → watch d (Read All ∷ s) vs ts ≡ watch d (Read Negation ∷ Go MoreAll ∷ s) vs ts
enter_all d s vs [] = refl
enter_all d s vs (x ∷ ts) = refl

pub enter_comparing : (d : ℕ) (s : List Want) (vs : List Phrase) (ts : List Token) → watch d (Read Comparing ∷ s) vs ts ≡ watch d (Read Sum ∷ Go Compares ∷ s) vs ts
enter_comparing d s vs [] = refl
enter_comparing d s vs (x ∷ ts) = refl

pub enter_sum : (d : ℕ) (s : List Want) (vs : List Phrase) (ts : List Token) → watch d (Read Sum ∷ s) vs ts ≡ watch d (Read Term ∷ Go MoreSum ∷ s) vs ts
enter_sum d s vs [] = refl
enter_sum d s vs (x ∷ ts) = refl

pub plain_negation : (d : ℕ) (s : List Want) (vs : List Phrase) (ts : List Token) → first_is sign.Not ts ≡ false → watch d (Read Negation ∷ s) vs ts ≡ watch d (Read Comparing ∷ s) vs ts
plain_negation d s vs [] e = refl
plain_negation d s vs (x ∷ ts) e = rw e refl

pub stop_any : (d : ℕ) (s : List Want) (vs : List Phrase) (ts : List Token) → first_is sign.Or ts ≡ false → watch d (Go MoreAny ∷ s) vs ts ≡ watch d s vs ts
stop_any d s vs [] e = refl
stop_any d s vs (x ∷ ts) e = rw e refl

pub stop_all : (d : ℕ) (s : List Want) (vs : List Phrase) (ts : List Token) → first_is sign.And ts ≡ false → watch d (Go MoreAll ∷ s) vs ts ≡ watch d s vs ts
stop_all d s vs [] e = refl
stop_all d s vs (x ∷ ts) e = rw e refl

pub stop_calls : (d : ℕ) (s : List Want) (vs : List Phrase) (ts : List Token) → first_is sign.OpenParenthesis ts ≡ false → watch d (Go Calls ∷ s) vs ts ≡ watch d s vs ts
stop_calls d s vs [] e = refl
stop_calls d s vs (x ∷ ts) e = rw e refl

pub more_any : (d p : ℕ) (s : List Want) (vs : List Phrase) (ts rest : List Token) → BeginsWith sign.Or p ts rest → watch d (Go MoreAny ∷ s) vs ts ≡ watch d (Read All ∷ Join Either ∷ Go MoreAny ∷ s) vs rest
more_any d p s vs ts rest e = rw e refl

pub more_all : (d p : ℕ) (s : List Want) (vs : List Phrase) (ts rest : List Token) → BeginsWith sign.And p ts rest → watch d (Go MoreAll ∷ s) vs ts ≡ watch d (Read Negation ∷ Join Both ∷ Go MoreAll ∷ s) vs rest
more_all d p s vs ts rest e = rw e refl

pub negates : (d p : ℕ) (s : List Want) (vs : List Phrase) (ts rest : List Token) → BeginsWith sign.Not p ts rest → watch d (Read Negation ∷ s) vs ts ≡ watch d (Read Comparing ∷ Join Not ∷ s) (At p ∷ vs) rest
negates d p s vs ts rest e = rw e refl

-- with an outcome that is the same, reading stops alike
pub stops_alike : (why : Stop) (a b : Outcome) → a ≡ b → Stops why b → Stops why a
stops_alike why a b e h = cc

pub chain-more : (l : Label) (front : Phrase) (xs : List Phrase) (x : Phrase) → chain l front (xs ++ x ∷ []) ≡ Node l (chain l front xs) x
chain-more l front [] x = refl
chain-more l front (y ∷ xs) x = chain-more l (Node l front y) xs x

pub sum_of-more : (front : Phrase) (xs : List Addend) (x : Addend) → sum_of front (xs ++ x ∷ []) ≡ Node (sum_label x.sign) (sum_of front xs) x.term
sum_of-more front [] x = refl
sum_of-more front (y ∷ xs) x = sum_of-more (Node (sum_label y.sign) front y.term) xs x

-- one operand more
pub carried : (want tail part : Want) (l : Label) (d : ℕ) (start now behind later : List Token) (front e : Phrase) →
    ((s : List Want) (vs : List Phrase) → watch d (want ∷ s) vs start ≡ watch d (tail ∷ s) (front ∷ vs) now) →
    ((s : List Want) (vs : List Phrase) → watch d (tail ∷ s) vs now ≡ watch d (part ∷ Join l ∷ tail ∷ s) vs behind) →
    ((s : List Want) (vs : List Phrase) → watch d (part ∷ s) vs behind ≡ watch d s (e ∷ vs) later) →
    (s : List Want) (vs : List Phrase) → watch d (want ∷ s) vs start ≡ watch d (tail ∷ s) (Node l front e ∷ vs) later
carried want tail part l d start now behind later front e h m r s vs =
    h s vs ∙ m s (front ∷ vs) ∙ r (Join l ∷ tail ∷ s) (front ∷ vs) ∙ joins d l (tail ∷ s) (e ∷ front ∷ vs) later

pub carried_stop : (want tail part : Want) (l : Label) (d : ℕ) (start now behind : List Token) (front : Phrase) (why : Stop) →
    ((s : List Want) (vs : List Phrase) → watch d (want ∷ s) vs start ≡ watch d (tail ∷ s) (front ∷ vs) now) →
    ((s : List Want) (vs : List Phrase) → watch d (tail ∷ s) vs now ≡ watch d (part ∷ Join l ∷ tail ∷ s) vs behind) →
    IsStopped part d behind why → IsStopped want d start why
carried_stop want tail part l d start now behind front why h m r s vs =
    stops_alike why (watch d (want ∷ s) vs start) (watch d (part ∷ Join l ∷ tail ∷ s) (front ∷ vs) behind) (h s vs ∙ m s (front ∷ vs)) (r (Join l ∷ tail ∷ s) (front ∷ vs))

-- the end of a chain
pub carried_end : (want tail : Want) (d : ℕ) (start now : List Token) (front : Phrase) →
    ((s : List Want) (vs : List Phrase) → watch d (want ∷ s) vs start ≡ watch d (tail ∷ s) (front ∷ vs) now) →
    ((s : List Want) (vs : List Phrase) → watch d (tail ∷ s) vs now ≡ watch d s vs now) →
    length now < length start → IsRead want d start front now
carried_end want tail d start now front h m short = record { shorter = short; watched = λ s vs. h s vs ∙ m s (front ∷ vs) }

pub calls_on : (d : ℕ) (s : List Want) (vs : List Phrase) (ts : List Token) → first_is sign.OpenParenthesis ts ≡ true → watch d (Go Calls ∷ s) vs ts ≡ watch d (Read (Arguments false) ∷ Join Called ∷ s) vs ts
calls_on d s vs [] e = cc
calls_on d s vs (x ∷ ts) e = rw e refl

pub group_on : (d p : ℕ) (s : List Want) (vs : List Phrase) (ts rest : List Token) → BeginsWith sign.OpenParenthesis p ts rest → nat_le 64 d ≡ false →
    watch d (Read Term ∷ s) vs ts ≡ watch (suc d) (Read Any ∷ Take sign.CloseParenthesis ∷ Join Group ∷ s) (At p ∷ vs) rest
group_on d p s vs ts rest e f = rw (e, f) refl

pub group_deep : (d p : ℕ) (s : List Want) (vs : List Phrase) (ts rest : List Token) → BeginsWith sign.OpenParenthesis p ts rest → nat_le 64 d ≡ true →
    watch d (Read Term ∷ s) vs ts ≡ Deep (length ts)
group_deep d p s vs ts rest e f = rw (e, f) refl

pub arguments_on : (d p : ℕ) (w : Bool) (s : List Want) (vs : List Phrase) (ts rest : List Token) → BeginsWith sign.OpenParenthesis p ts rest → nat_le 64 d ≡ false →
    watch d (Read (Arguments w) ∷ s) vs ts ≡ watch (suc d) (Go (FirstArgument w) ∷ Take sign.CloseParenthesis ∷ s) (Nothing ∷ vs) rest
arguments_on d p w s vs ts rest e f = rw (e, f) refl

pub no_arguments : (d p : ℕ) (w : Bool) (s : List Want) (vs : List Phrase) (ts rest : List Token) → BeginsWith sign.CloseParenthesis p ts rest →
    watch d (Go (FirstArgument w) ∷ Take sign.CloseParenthesis ∷ s) vs ts ≡ watch (pred d) s vs rest
no_arguments d p w s vs ts rest e = rw e refl

pub first_argument : (d : ℕ) (w : Bool) (s : List Want) (vs : List Phrase) (ts : List Token) → first_is sign.CloseParenthesis ts ≡ false →
    watch d (Go (FirstArgument w) ∷ Take sign.CloseParenthesis ∷ s) vs ts ≡ watch d (Read Any ∷ Join More ∷ Go (MoreArguments w) ∷ Take sign.CloseParenthesis ∷ s) vs ts
first_argument d w s vs [] e = refl
first_argument d w s vs (x ∷ ts) e = rw e refl

pub more_arguments : (d p : ℕ) (w : Bool) (s : List Want) (vs : List Phrase) (ts rest : List Token) → BeginsWith sign.Comma p ts rest →
    watch d (Go (MoreArguments w) ∷ s) vs ts ≡ watch d (Read (Argument w) ∷ Join More ∷ Go (MoreArguments w) ∷ s) vs rest
more_arguments d p w s vs ts rest e = rw e refl

pub stop_arguments : (d : ℕ) (w : Bool) (s : List Want) (vs : List Phrase) (ts : List Token) → first_is sign.Comma ts ≡ false →
    watch d (Go (MoreArguments w) ∷ s) vs ts ≡ watch d s vs ts
stop_arguments d w s vs [] e = refl
stop_arguments d w s vs (x ∷ ts) e = rw e refl

pub back : (d deeper : ℕ) → deeper ≡ suc d → sign_level sign.CloseParenthesis deeper ≡ d
back d deeper e = rw e refl

pub back_brace : (d deeper : ℕ) → deeper ≡ suc d → sign_level sign.CloseBrace deeper ≡ d
back_brace d deeper e = rw e refl

pub negative_on : (d p : ℕ) (s : List Want) (vs : List Phrase) (ts : List Token) →
    watch d (Read Term ∷ s) vs (record { kind = kind.Sign sign.Minus; place = p } ∷ ts) ≡ watch d (Read (Negated p) ∷ s) vs ts
negative_on d p s vs ts = refl

pub on_set : (d p : ℕ) (w : Word) (t : List ℕ) (s : List Want) (vs : List Phrase) (ts : List Token) → statement_word_of w ≡ statement.Set →
    watch d (Go MoreStatements ∷ s) vs (record { kind = kind.Word w t; place = p } ∷ ts) ≡ watch d (AnyName ∷ Read Assignment ∷ Join More ∷ Go MoreStatements ∷ s) (At p ∷ vs) ts
on_set d p w t s vs ts e = rw e refl

pub on_unset : (d p : ℕ) (w : Word) (t : List ℕ) (s : List Want) (vs : List Phrase) (ts : List Token) → statement_word_of w ≡ statement.Unset →
    watch d (Go MoreStatements ∷ s) vs (record { kind = kind.Word w t; place = p } ∷ ts) ≡ watch d (AnyName ∷ Take sign.Semicolon ∷ Join Unset ∷ Join More ∷ Go MoreStatements ∷ s) (At p ∷ vs) ts
on_unset d p w t s vs ts e = rw e refl

pub on_call : (d p : ℕ) (w : Word) (t : List ℕ) (s : List Want) (vs : List Phrase) (ts : List Token) → statement_word_of w ≡ statement.Call →
    watch d (Go MoreStatements ∷ s) vs (record { kind = kind.Word w t; place = p } ∷ ts) ≡ watch d (AnyName ∷ Take sign.Semicolon ∷ Join Jump ∷ Join More ∷ Go MoreStatements ∷ s) (At p ∷ vs) ts
on_call d p w t s vs ts e = rw e refl

pub on_new : (d p : ℕ) (w : Word) (t : List ℕ) (s : List Want) (vs : List Phrase) (ts : List Token) → statement_word_of w ≡ statement.New →
    watch d (Go MoreStatements ∷ s) vs (record { kind = kind.Word w t; place = p } ∷ ts) ≡ watch d (NewName ∷ Take sign.Assign ∷ AnyName ∷ Read (Arguments false) ∷ Join Called ∷ Take sign.Semicolon ∷ Join Bound ∷ Join New ∷ Join More ∷ Go MoreStatements ∷ s) (At p ∷ vs) ts
on_new d p w t s vs ts e = rw e refl

pub on_if : (d p : ℕ) (w : Word) (t : List ℕ) (s : List Want) (vs : List Phrase) (ts : List Token) → statement_word_of w ≡ statement.If →
    watch d (Go MoreStatements ∷ s) vs (record { kind = kind.Word w t; place = p } ∷ ts) ≡ watch d (Read Condition ∷ Join If ∷ Go MoreElse ∷ Join More ∷ Go MoreStatements ∷ s) (At p ∷ vs) ts
on_if d p w t s vs ts e = rw e refl

pub on_return : (d p : ℕ) (w : Word) (t : List ℕ) (s : List Want) (vs : List Phrase) (ts : List Token) → statement_word_of w ≡ statement.Return →
    watch d (Go MoreStatements ∷ s) vs (record { kind = kind.Word w t; place = p } ∷ ts) ≡ watch d (Take sign.OpenParenthesis ∷ AnyName ∷ Read Ending ∷ Join Return ∷ Join More ∷ Go MoreStatements ∷ s) (At p ∷ vs) ts
on_return d p w t s vs ts e = rw e refl

pub on_no_statement : (d p : ℕ) (w : Word) (t : List ℕ) (s : List Want) (vs : List Phrase) (ts : List Token) → statement_word_of w ≡ statement.Nothing →
    watch d (Go MoreStatements ∷ s) vs (record { kind = kind.Word w t; place = p } ∷ ts) ≡ watch d s vs (record { kind = kind.Word w t; place = p } ∷ ts)
on_no_statement d p w t s vs ts e = rw e refl

pub on_else_if : (d p : ℕ) (w : Word) (t : List ℕ) (s : List Want) (vs : List Phrase) (ts : List Token) → else_word_of w ≡ otherwise.ElseIf →
    watch d (Go MoreElse ∷ s) vs (record { kind = kind.Word w t; place = p } ∷ ts) ≡ watch d (Read Condition ∷ Join ElseIf ∷ Go MoreElse ∷ s) vs ts
on_else_if d p w t s vs ts e = rw e refl

pub on_else : (d p : ℕ) (w : Word) (t : List ℕ) (s : List Want) (vs : List Phrase) (ts : List Token) → else_word_of w ≡ otherwise.Else →
    watch d (Go MoreElse ∷ s) vs (record { kind = kind.Word w t; place = p } ∷ ts) ≡ watch d (Read AfterElse ∷ s) vs ts
on_else d p w t s vs ts e = rw e refl

pub on_no_else : (d p : ℕ) (w : Word) (t : List ℕ) (s : List Want) (vs : List Phrase) (ts : List Token) → else_word_of w ≡ otherwise.Nothing →
    watch d (Go MoreElse ∷ s) vs (record { kind = kind.Word w t; place = p } ∷ ts) ≡ watch d s vs (record { kind = kind.Word w t; place = p } ∷ ts)
on_no_else d p w t s vs ts e = rw e refl

pub after_else_if : (d p : ℕ) (w : Word) (t : List ℕ) (s : List Want) (vs : List Phrase) (ts : List Token) → is_if (statement_word_of w) ≡ true →
    watch d (Read AfterElse ∷ s) vs (record { kind = kind.Word w t; place = p } ∷ ts) ≡ watch d (Read Condition ∷ Join ElseIf ∷ Go MoreElse ∷ s) vs ts
after_else_if d p w t s vs ts e = rw e refl

pub after_else_word : (d p : ℕ) (w : Word) (t : List ℕ) (s : List Want) (vs : List Phrase) (ts : List Token) → is_if (statement_word_of w) ≡ false →
    watch d (Read AfterElse ∷ s) vs (record { kind = kind.Word w t; place = p } ∷ ts) ≡ watch d (Read Block ∷ Join Else ∷ s) vs (record { kind = kind.Word w t; place = p } ∷ ts)
after_else_word d p w t s vs ts e = rw e refl

-- behind `else`, a sign is a block's or stands wrong
pub after_else_sign : (d p : ℕ) (t : Sign) (s : List Want) (vs : List Phrase) (ts : List Token) →
    watch d (Read AfterElse ∷ s) vs (record { kind = kind.Sign t; place = p } ∷ ts) ≡ watch d (Read Block ∷ Join Else ∷ s) vs (record { kind = kind.Sign t; place = p } ∷ ts)
after_else_sign d p t s vs ts =
    let P : Bool → Type 0 = λ b. moved (suc (length ts)) (opens (record { kind = kind.Sign t; place = p }) && nat_le 64 d) (go (cond b (Some (Nothing ∷ [], Go MoreStatements ∷ Take sign.CloseBrace ∷ Join Else ∷ [])) None) s vs) (λ c. watch (level d (record { kind = kind.Sign t; place = p })) (c.0) (c.1) ts)
    ≡ moved (suc (length ts)) (opens (record { kind = kind.Sign t; place = p }) && nat_le 64 d) (go (cond b (Some (Nothing ∷ [], Go MoreStatements ∷ Take sign.CloseBrace ∷ [])) None) (Join Else ∷ s) vs) (λ c. watch (level d (record { kind = kind.Sign t; place = p })) (c.0) (c.1) ts) in
    let h : P (same_sign sign.OpenBrace t) = elim (same_sign sign.OpenBrace t) as P [ true ↦ refl | false ↦ refl ] in h

pub block_on : (d p : ℕ) (s : List Want) (vs : List Phrase) (ts rest : List Token) → BeginsWith sign.OpenBrace p ts rest → nat_le 64 d ≡ false →
    watch d (Read Block ∷ s) vs ts ≡ watch (suc d) (Go MoreStatements ∷ Take sign.CloseBrace ∷ s) (Nothing ∷ vs) rest
block_on d p s vs ts rest e f = rw (e, f) refl

pub condition_on : (d p : ℕ) (s : List Want) (vs : List Phrase) (ts rest : List Token) → BeginsWith sign.OpenParenthesis p ts rest → nat_le 64 d ≡ false →
    watch d (Read Condition ∷ s) vs ts ≡ watch (suc d) (Read Any ∷ Take sign.CloseParenthesis ∷ Read Block ∷ Join Branch ∷ s) vs rest
condition_on d p s vs ts rest e f = rw (e, f) refl

pub return_on : (d p : ℕ) (s : List Want) (vs : List Phrase) (ts rest : List Token) → BeginsWith sign.OpenParenthesis p ts rest → nat_le 64 d ≡ false →
    watch d (Take sign.OpenParenthesis ∷ s) vs ts ≡ watch (suc d) s vs rest
return_on d p s vs ts rest e f = rw (e, f) refl

closing : (a b : Bool) (left : ℕ) (deep : Bool) (s : List Want) (vs : List Phrase) (on : Config → Outcome) (m : Move) → a ≡ false →
    moved left deep (go (first_of (cond a (Some m) None) (cond b (Some ([], Take sign.Semicolon ∷ [])) None)) s vs) on ≡ moved left deep (cond b (Some (Take sign.Semicolon ∷ s, vs)) None) on
closing true b left deep s vs on m e = cc
closing false true left deep s vs on m e = refl
closing false false left deep s vs on m e = refl

pub ending_plain : (d : ℕ) (s : List Want) (vs : List Phrase) (ts : List Token) → first_is sign.OpenParenthesis ts ≡ false →
    watch d (Read Ending ∷ s) vs ts ≡ watch d (Take sign.CloseParenthesis ∷ Take sign.Semicolon ∷ s) vs ts
ending_plain d s vs [] e = refl
ending_plain d s vs (x ∷ ts) e = closing (is_sign sign.OpenParenthesis x) (is_sign sign.CloseParenthesis x) (suc (length ts)) (opens x && nat_le 64 d) s vs (λ c. watch (level d x) (c.0) (c.1) ts) (Nothing ∷ [], Go (FirstArgument false) ∷ Take sign.CloseParenthesis ∷ Join Called ∷ Take sign.CloseParenthesis ∷ Take sign.Semicolon ∷ []) e

pub ending_with : (d : ℕ) (s : List Want) (vs : List Phrase) (ts : List Token) → first_is sign.OpenParenthesis ts ≡ true →
    watch d (Read Ending ∷ s) vs ts ≡ watch d (Read (Arguments false) ∷ Join Called ∷ Take sign.CloseParenthesis ∷ Take sign.Semicolon ∷ s) vs ts
ending_with d s vs [] e = cc
ending_with d s vs (x ∷ ts) e = rw e refl

pub stop_attributes : (d : ℕ) (s : List Want) (vs : List Phrase) (ts : List Token) → first_is sign.Dot ts ≡ false → watch d (Go MoreAttributes ∷ s) vs ts ≡ watch d s vs ts
stop_attributes d s vs [] e = refl
stop_attributes d s vs (x ∷ ts) e = rw e refl

pub stop_semicolon : (d : ℕ) (s : List Want) (vs : List Phrase) (ts : List Token) → first_is sign.Semicolon ts ≡ false → watch d (Go Semicolon ∷ s) vs ts ≡ watch d s vs ts
stop_semicolon d s vs [] e = refl
stop_semicolon d s vs (x ∷ ts) e = rw e refl

pub stop_mask : (d : ℕ) (s : List Want) (vs : List Phrase) (ts : List Token) → first_is sign.Slash ts ≡ false → watch d (Go Mask ∷ s) vs ts ≡ watch d s vs ts
stop_mask d s vs [] e = refl
stop_mask d s vs (x ∷ ts) e = rw e refl

pub attributes_on : (d p : ℕ) (s : List Want) (vs : List Phrase) (ts rest : List Token) → BeginsWith sign.OpenBrace p ts rest → nat_le 64 d ≡ false →
    watch d (Read Attributes ∷ s) vs ts ≡ watch (suc d) (Go MoreAttributes ∷ Take sign.CloseBrace ∷ s) (Nothing ∷ vs) rest
attributes_on d p s vs ts rest e f = rw (e, f) refl

pub entries_on : (d p : ℕ) (s : List Want) (vs : List Phrase) (ts rest : List Token) → BeginsWith sign.OpenBrace p ts rest → nat_le 64 d ≡ false →
    watch d (Read Entries ∷ s) vs ts ≡ watch (suc d) (Go MoreEntries ∷ Take sign.CloseBrace ∷ s) (Nothing ∷ vs) rest
entries_on d p s vs ts rest e f = rw (e, f) refl

at_brace : (d p : ℕ) (s : List Want) (vs : List Phrase) (k : TokenKind) (ts : List Token) → is_kind_of_sign sign.OpenBrace k ≡ true →
    watch d (Read Value ∷ s) vs (record { kind = k; place = p } ∷ ts) ≡ watch d (Read Attributes ∷ Join Nested ∷ Go Semicolon ∷ s) (At p ∷ vs) (record { kind = k; place = p } ∷ ts)
at_brace d p s vs (kind.String t) ts e = cc
at_brace d p s vs (kind.Name t) ts e = cc
at_brace d p s vs (kind.Word w t) ts e = cc
at_brace d p s vs (kind.Integer n) ts e = cc
at_brace d p s vs (kind.Decimal t) ts e = cc
at_brace d p s vs (kind.Duration n) ts e = cc
at_brace d p s vs (kind.Sign t) ts e = rw e refl

pub nested_on : (d : ℕ) (s : List Want) (vs : List Phrase) (ts : List Token) → first_is sign.OpenBrace ts ≡ true →
    watch d (Read Value ∷ s) vs ts ≡ watch d (Read Attributes ∷ Join Nested ∷ Go Semicolon ∷ s) (At (first_at ts) ∷ vs) ts
nested_on d s vs [] e = cc
nested_on d s vs (x ∷ ts) e = at_brace d x.place s vs x.kind ts e

pub attribute_on : (d p : ℕ) (s : List Want) (vs : List Phrase) (ts rest : List Token) → BeginsWith sign.Dot p ts rest →
    watch d (Go MoreAttributes ∷ s) vs ts ≡ watch d (AnyName ∷ Take sign.Assign ∷ Read Value ∷ Join Bound ∷ Join Attribute ∷ Join More ∷ Go MoreAttributes ∷ s) (At p ∷ vs) rest
attribute_on d p s vs ts rest e = rw e refl

pub past_on : (d p : ℕ) (s : List Want) (vs : List Phrase) (ts rest : List Token) → BeginsWith sign.Semicolon p ts rest → watch d (Go Semicolon ∷ s) vs ts ≡ watch d s vs rest
past_on d p s vs ts rest e = rw e refl

pub mask_on : (d p : ℕ) (s : List Want) (vs : List Phrase) (ts rest : List Token) → BeginsWith sign.Slash p ts rest →
    watch d (Go Mask ∷ s) vs ts ≡ watch d (Number ∷ Join Masked ∷ s) vs rest
mask_on d p s vs ts rest e = rw e refl

pub entry_not : (d p : ℕ) (s : List Want) (vs : List Phrase) (ts rest : List Token) → BeginsWith sign.Not p ts rest →
    watch d (Go MoreEntries ∷ s) vs ts ≡ watch d (Read Address ∷ Join Entry ∷ Join More ∷ Go MoreEntries ∷ s) (At p ∷ vs) rest
entry_not d p s vs ts rest e = rw e refl

at_string : (d p : ℕ) (s : List Want) (vs : List Phrase) (k : TokenKind) (ts : List Token) → is_string k ≡ true →
    watch d (Go MoreEntries ∷ s) vs (record { kind = k; place = p } ∷ ts) ≡ watch d (Read Address ∷ Join Entry ∷ Join More ∷ Go MoreEntries ∷ s) (Nothing ∷ vs) (record { kind = k; place = p } ∷ ts)
at_string d p s vs (kind.String t) ts e = refl
at_string d p s vs (kind.Name t) ts e = cc
at_string d p s vs (kind.Word w t) ts e = cc
at_string d p s vs (kind.Integer n) ts e = cc
at_string d p s vs (kind.Decimal t) ts e = cc
at_string d p s vs (kind.Duration n) ts e = cc
at_string d p s vs (kind.Sign t) ts e = cc

pub entry_string : (d : ℕ) (s : List Want) (vs : List Phrase) (ts : List Token) → first_is_string ts ≡ true →
    watch d (Go MoreEntries ∷ s) vs ts ≡ watch d (Read Address ∷ Join Entry ∷ Join More ∷ Go MoreEntries ∷ s) (Nothing ∷ vs) ts
entry_string d s vs [] e = cc
entry_string d s vs (x ∷ ts) e = at_string d x.place s vs x.kind ts e

no_string : (d p : ℕ) (s : List Want) (vs : List Phrase) (k : TokenKind) (ts : List Token) → is_kind_of_sign sign.Not k ≡ false → is_string k ≡ false →
    watch d (Go MoreEntries ∷ s) vs (record { kind = k; place = p } ∷ ts) ≡ watch d s vs (record { kind = k; place = p } ∷ ts)
no_string d p s vs (kind.String t) ts e f = cc
no_string d p s vs (kind.Name t) ts e f = refl
no_string d p s vs (kind.Word w t) ts e f = refl
no_string d p s vs (kind.Integer n) ts e f = refl
no_string d p s vs (kind.Decimal t) ts e f = refl
no_string d p s vs (kind.Duration n) ts e f = refl
no_string d p s vs (kind.Sign t) ts e f = rw e refl

pub stop_entries : (d : ℕ) (s : List Want) (vs : List Phrase) (ts : List Token) → first_is sign.Not ts ≡ false → first_is_string ts ≡ false →
    watch d (Go MoreEntries ∷ s) vs ts ≡ watch d s vs ts
stop_entries d s vs [] e f = refl
stop_entries d s vs (x ∷ ts) e f = no_string d x.place s vs x.kind ts e f

pub map-more : (xs : List AclEntry) (x : AclEntry) → list_of (map entry_of (xs ++ x ∷ [])) ≡ Node More (list_of (map entry_of xs)) (entry_of x)
map-more xs x = rw map-append (chain-more More Nothing (map entry_of xs) (entry_of x))

pub on_import : (d p : ℕ) (w : Word) (t : List ℕ) (s : List Want) (vs : List Phrase) (ts : List Token) → item_word_of w ≡ item.Import →
    watch d (Go MoreItems ∷ s) vs (record { kind = kind.Word w t; place = p } ∷ ts) ≡ watch d (AnyName ∷ Take sign.Semicolon ∷ Join Import ∷ Join More ∷ Go MoreItems ∷ s) (At p ∷ vs) ts
on_import d p w t s vs ts e = rw e refl

pub on_backend : (d p : ℕ) (w : Word) (t : List ℕ) (s : List Want) (vs : List Phrase) (ts : List Token) → item_word_of w ≡ item.Backend →
    watch d (Go MoreItems ∷ s) vs (record { kind = kind.Word w t; place = p } ∷ ts) ≡ watch d (NewName ∷ Read BackendBody ∷ Join More ∷ Go MoreItems ∷ s) (At p ∷ vs) ts
on_backend d p w t s vs ts e = rw e refl

pub on_acl : (d p : ℕ) (w : Word) (t : List ℕ) (s : List Want) (vs : List Phrase) (ts : List Token) → item_word_of w ≡ item.Acl →
    watch d (Go MoreItems ∷ s) vs (record { kind = kind.Word w t; place = p } ∷ ts) ≡ watch d (NewName ∷ Read Entries ∷ Join Bound ∷ Join Acl ∷ Join More ∷ Go MoreItems ∷ s) (At p ∷ vs) ts
on_acl d p w t s vs ts e = rw e refl

pub on_probe : (d p : ℕ) (w : Word) (t : List ℕ) (s : List Want) (vs : List Phrase) (ts : List Token) → item_word_of w ≡ item.Probe →
    watch d (Go MoreItems ∷ s) vs (record { kind = kind.Word w t; place = p } ∷ ts) ≡ watch d (NewName ∷ Read Attributes ∷ Join Bound ∷ Join Probe ∷ Join More ∷ Go MoreItems ∷ s) (At p ∷ vs) ts
on_probe d p w t s vs ts e = rw e refl

pub on_sub : (d p : ℕ) (w : Word) (t : List ℕ) (s : List Want) (vs : List Phrase) (ts : List Token) → item_word_of w ≡ item.Sub →
    watch d (Go MoreItems ∷ s) vs (record { kind = kind.Word w t; place = p } ∷ ts) ≡ watch d (NewName ∷ Read Block ∷ Join Bound ∷ Join Sub ∷ Join More ∷ Go MoreItems ∷ s) (At p ∷ vs) ts
on_sub d p w t s vs ts e = rw e refl

pub on_no_item : (d p : ℕ) (w : Word) (t : List ℕ) (s : List Want) (vs : List Phrase) (ts : List Token) → item_word_of w ≡ item.Nothing →
    watch d (Go MoreItems ∷ s) vs (record { kind = kind.Word w t; place = p } ∷ ts) ≡ watch d s vs (record { kind = kind.Word w t; place = p } ∷ ts)
on_no_item d p w t s vs ts e = rw e refl

pub none_on : (d p : ℕ) (w : Word) (t : List ℕ) (s : List Want) (vs : List Phrase) (ts : List Token) → is_none w ≡ true →
    watch d (Read BackendBody ∷ s) vs (record { kind = kind.Word w t; place = p } ∷ ts) ≡ watch d (Take sign.Semicolon ∷ Join NoBackend ∷ s) vs ts
none_on d p w t s vs ts e = rw e refl

pub not_none : (d p : ℕ) (w : Word) (t : List ℕ) (s : List Want) (vs : List Phrase) (ts : List Token) → is_none w ≡ false →
    watch d (Read BackendBody ∷ s) vs (record { kind = kind.Word w t; place = p } ∷ ts) ≡ watch d (Read Attributes ∷ Join Bound ∷ Join Backend ∷ s) vs (record { kind = kind.Word w t; place = p } ∷ ts)
not_none d p w t s vs ts e = rw e refl

-- behind a backend's name, a sign begins attributes or stands wrong
pub backend_sign : (d p : ℕ) (t : Sign) (s : List Want) (vs : List Phrase) (ts : List Token) →
    watch d (Read BackendBody ∷ s) vs (record { kind = kind.Sign t; place = p } ∷ ts) ≡ watch d (Read Attributes ∷ Join Bound ∷ Join Backend ∷ s) vs (record { kind = kind.Sign t; place = p } ∷ ts)
backend_sign d p t s vs ts =
    let P : Bool → Type 0 = λ b. moved (suc (length ts)) (opens (record { kind = kind.Sign t; place = p }) && nat_le 64 d) (go (cond b (Some (Nothing ∷ [], Go MoreAttributes ∷ Take sign.CloseBrace ∷ Join Bound ∷ Join Backend ∷ [])) None) s vs) (λ c. watch (level d (record { kind = kind.Sign t; place = p })) (c.0) (c.1) ts)
    ≡ moved (suc (length ts)) (opens (record { kind = kind.Sign t; place = p }) && nat_le 64 d) (go (cond b (Some (Nothing ∷ [], Go MoreAttributes ∷ Take sign.CloseBrace ∷ [])) None) (Join Bound ∷ Join Backend ∷ s) vs) (λ c. watch (level d (record { kind = kind.Sign t; place = p })) (c.0) (c.1) ts) in
    let h : P (same_sign sign.OpenBrace t) = elim (same_sign sign.OpenBrace t) as P [ true ↦ refl | false ↦ refl ] in h

pub items-more : (xs : List Item) (x : Item) → list_of (map item_of (xs ++ x ∷ [])) ≡ Node More (list_of (map item_of xs)) (item_of x)
items-more xs x = rw map-append (chain-more More Nothing (map item_of xs) (item_of x))

pub nothing_wanted : (d : ℕ) (vs : List Phrase) (ts : List Token) → (length ts == 0) ≡ false → watch d [] vs ts ≡ Refused (length ts)
nothing_wanted d vs [] e = cc
nothing_wanted d vs (x ∷ ts) e = refl

pub ruleset reading = (joins, enter_any, enter_all, enter_comparing, enter_sum, plain_negation, stop_any, stop_all, stop_calls, more_any, more_all, negates, calls_on, chain-more, sum_of-more, group_on, group_deep, arguments_on, no_arguments, first_argument, more_arguments, stop_arguments, back, back_brace, negative_on, on_set, on_unset, on_call, on_new, on_if, on_return, on_no_statement, on_else_if, on_else, on_no_else, after_else_if, after_else_word, after_else_sign, block_on, condition_on, return_on, ending_plain, ending_with, stop_attributes, stop_semicolon, stop_mask, attributes_on, entries_on, nested_on, attribute_on, past_on, mask_on, entry_not, entry_string, stop_entries, map-more, on_import, on_backend, on_acl, on_probe, on_sub, on_no_item, none_on, not_none, backend_sign, items-more, nothing_wanted)
