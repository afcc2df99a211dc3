-- In a sound text each object has a maker that is known.
use Rattle.std.proofs.Common.{◌≡◌, ℕ, zero, suc, Bool, true, false, ◌&&◌, List, [], ◌∷◌, ◌++◌, refl, ap, ◌∙◌, position, Option, Some, None, is_some, option_and_then, slice_get, filter_map, if◌then◌else◌, arith}
use Rattle.std.specs.List.{list_all, cons_option}
use Rattle.std.specs.Prelude.{Contains}
use Rattle.std.specs.Str.{bytes_eq}
use Rattle.std.proofs.lemmas.Option.{none-some}
use Rattle.directors.specs.declared.director.DirectorKind.{DirectorKind}
use Rattle.vcl_tree.specs.Phrase as phrase
use Rattle.vcl_tree.specs.Phrase.{Phrase, Label, Node, At, Named, Called, Bound, New, More, If, ElseIf, Else}
use Rattle.vcl_tree.specs.StatementGrammar as grammar
use Rattle.vcl_tree.specs.StatementGrammar.{IsBlock, IsStatements, IsStatement, IsConditional, IsBranch}
use Rattle.vcl_tree.specs.Tokens.{IsName, plain_name, word_name, new_name}
use Rattle.vcl_tree.specs.declared.expression.Comparison.TheVariants as asked
use Rattle.vcl_tree.specs.declared.item.Item.{Item}
use Rattle.vcl_tree.specs.declared.item.Item.TheVariants as item
use Rattle.vcl_tree.specs.declared.name.Name.{Name as AtPlace}
use Rattle.vcl_tree.specs.declared.token.Token.{Token}
use Rattle.vcl_language.specs.Functions.{function_named}
use Rattle.vcl_language.specs.Modules.{maker_named}
use Rattle.vcl_language.specs.Names.{is_reserved}
use Rattle.vcl_language.specs.declared.scope.Subroutine.{Subroutine}
use Rattle.vmod_host.specs.declared.signature.Stored.{Stored}
use Rattle.vcl_symbols.specs.Known.{Known}
use Rattle.vcl_symbols.specs.declared.symbol_table.Symbol.{Symbol}
use Rattle.vcl_symbols.specs.declared.symbol_table.Symbol.TheVariants as symbol
use Rattle.vcl_check.specs.declared.form.Use.TheVariants as use'
use Rattle.vcl_check.specs.declared.mentions.MentionKind.{MentionKind}
use Rattle.vcl_check.specs.declared.mentions.MentionKind.TheVariants as kind
use Rattle.vcl_check.specs.Declarations.{Sorts, sorts_of, place_among, made_by, declares, symbol_of, names_of, declarations, known_of}
use Rattle.vcl_check.specs.Known.{meaning_of, of_maker}
use Rattle.vcl_check.specs.Mentions.{Said, said, said_string, called_string, own_string, has_pattern, parts, with_found, with_strings, with_call, object_kind, with_mentions, with_item, with_items}
use Rattle.vcl_check.specs.Roles.{Name, Block, Statement, Branch, Object, Made}
use Rattle.vcl_check.specs.Rules.{is_known}
use Rattle.vcl_check.specs.Texts.{says}
use Rattle.vcl_soundness.proofs.Rows.{false-true, both-true, passes}
use Rattle.vcl_soundness.proofs.Calls.{AreMade}
use Rattle.vcl_soundness.proofs.Clean.{Clean, left-clean, right-clean, known-name}

-- the maker of what is said to be an object is known
abbrev is_made_by : MentionKind → List ℕ → Bool
is_made_by kind.Object maker = is_some (maker_named maker)
is_made_by _ maker = true

abbrev is_made : Said → Bool
is_made s = is_made_by s.kind s.other

abbrev MakersKnown : List Said → Type 0
MakersKnown before = list_all is_made before ≡ true

all-push : {A : Type 0} (p : A → Bool) (xs : List A) (x : A) → list_all p xs ≡ true → p x ≡ true → list_all p (xs ++ x ∷ []) ≡ true
all-push p [] x h e = ap (λ (b : Bool). b && true) e
all-push p (y ∷ ys) x h e =
    let b = both-true (p y) (list_all p ys) h in
    ap (λ (c : Bool). c && list_all p (ys ++ x ∷ [])) b.0 ∙ all-push p ys x b.1 e

-- what is said besides
made-more : (before : List Said) (s : Said) → is_made s ≡ true → MakersKnown before → MakersKnown (before ++ s ∷ [])
made-more before s e h = all-push is_made before s h e

-- strings that must be patterns
abbrev pub IsString : Option Said → Type 0
IsString None = Unit {0}
IsString (Some s) = s.kind ≡ kind.Pattern

string-said : (e : Phrase) → IsString (said_string e)
string-said (phrase.String place text) = refl
string-said _ = tt

second-said : (o : Option Phrase) → IsString (option_and_then said_string o)
second-said None = tt
second-said (Some e) = string-said e

call-said : (b : Bool) (o : Option Said) → IsString o → IsString (if b then o else None)
call-said true o h = h
call-said false o h = tt

called-said : (a b : Phrase) → IsString (called_string a b)
called-said (Named place name) b =
    call-said (has_pattern (function_named name)) (option_and_then said_string (slice_get (parts b) 1)) (second-said (slice_get (parts b) 1))
called-said _ b = tt

pub own-said : (label : Label) (a b : Phrase) → IsString (own_string label a b)
own-said (phrase.Compared asked.Match) a b = string-said b
own-said (phrase.Compared asked.NotMatch) a b = string-said b
own-said (phrase.Compared _) a b = tt
own-said Called a b = called-said a b
own-said _ a b = tt

found-made : (before : List Said) (o : Option Said) → IsString o → MakersKnown before → MakersKnown (with_found before o)
found-made before None is h = h
found-made before (Some s) is h = made-more before s (ap (λ (k : MentionKind). is_made_by k s.other) is) h

strings-made : (before : List Said) (e : Phrase) → MakersKnown before → MakersKnown (with_strings before e)
strings-made before (Node label a b) h =
    found-made (with_strings (with_strings before a) b) (own_string label a b) (own-said label a b) (strings-made (with_strings before a) b (strings-made before a h))
strings-made before _ h = h

call-made : (owner : List ℕ) (before : List Said) {n : Phrase} {x : Token} → IsName n x → MakersKnown before → MakersKnown (with_call owner before n)
call-made owner before (plain_name {p = p} {t = t}) h = made-more before (said kind.Call p t owner) refl h
call-made owner before (word_name {p = p} {t = t}) h = made-more before (said kind.Call p t owner) refl h

maker-known : (known : Known) (o : Option DirectorKind) → is_known (of_maker known o) ≡ true → is_some o ≡ true
maker-known known (Some k) h = refl
maker-known known None h = absurd (false-true h)

object-made : (k : MentionKind) (maker : List ℕ) → is_some (maker_named maker) ≡ true → is_made_by k maker ≡ true
object-made kind.Object maker h = h
object-made kind.Import maker h = refl
object-made kind.Backend maker h = refl
object-made kind.Probe maker h = refl
object-made kind.Acl maker h = refl
object-made kind.Subroutine maker h = refl
object-made kind.NoObject maker h = refl
object-made kind.Call maker h = refl
object-made kind.Pattern maker h = refl

-- a block without a fault
module _ (known : Known) (roots : List Subroutine) (owner : List ℕ) where
  abbrev Keeps : Phrase → Type 0
  Keeps e = (before : List Said) → MakersKnown before → MakersKnown (with_mentions owner before e)

  new-made : (before : List Said) (p q r : ℕ) (name maker : List ℕ) (l : Phrase)
      → Clean known roots Statement (Node New (At p) (Node Bound (Named q name) (Node Called (Named r maker) l))) → MakersKnown before
      → MakersKnown (with_strings (before ++ said (object_kind owner) q name maker ∷ []) l)
  unfolding meaning_of
  new-made before p q r name maker l c h =
      let called = Node Called (Named r maker) l in
      let bound = right-clean known roots Statement New (At p) (Node Bound (Named q name) called) c in
      let made = right-clean known roots Object Bound (Named q name) called bound in
      let maker-clean = left-clean known roots Made Called (Named r maker) l made in
      let there = maker-known known (maker_named maker) (known-name known roots (Name use'.Maker) use'.Maker r maker refl maker-clean) in
      let s = said (object_kind owner) q name maker in
      strings-made (before ++ s ∷ []) l (made-more before s (object-made (object_kind owner) maker there) h)

  mutual
    pub block-made : {b : Phrase} {ts rest : List Token} → IsBlock b ts rest → Clean known roots Block b → Keeps b
    block-made (grammar.block f) c = statements-made f c

    statements-made : {l : Phrase} {ts rest : List Token} → IsStatements l ts rest → Clean known roots Block l → Keeps l
    statements-made grammar.no_statements c before h = h
    statements-made (grammar.more_statements {l = l} {a = a} f g) c before h =
        statement-made g (right-clean known roots Block More l a c) (with_mentions owner before l) (statements-made f (left-clean known roots Block More l a c) before h)

    statement-made : {e : Phrase} {ts rest : List Token} → IsStatement e ts rest → Clean known roots Statement e → Keeps e
    statement-made (grammar.set {e = e} f g) c before h = strings-made before e h
    statement-made (grammar.append {e = e} f g) c before h = strings-made before e h
    statement-made (grammar.unset f) c before h = h
    statement-made (grammar.jump f) c before h = call-made owner before f h
    statement-made (grammar.new {l = l} {p = p} (new_name {p = q} {t = name}) (plain_name {p = r} {t = maker}) k) c before h = new-made before p q r name maker l c h
    statement-made (grammar.new {l = l} {p = p} (new_name {p = q} {t = name}) (word_name {p = r} {t = maker}) k) c before h = new-made before p q r name maker l c h
    statement-made (grammar.conditional f) c before h = conditional-made f c before h
    statement-made (grammar.otherwise {c = e} {b = b} f g) c before h =
        block-made g (right-clean known roots Statement Else e b c) (with_mentions owner before e) (conditional-made f (left-clean known roots Statement Else e b c) before h)
    statement-made (grammar.return (plain_name {p = p} {t = t})) c before h = h
    statement-made (grammar.return (word_name {p = p} {t = t})) c before h = h
    statement-made (grammar.return_with {l = l} f g) c before h = strings-made before l h
    statement-made (grammar.run {l = l} {p = p} {t = t} f) c before h = strings-made before (Node Called (Named p t) l) h

    conditional-made : {e : Phrase} {ts rest : List Token} → IsConditional e ts rest → Clean known roots Statement e → Keeps e
    conditional-made (grammar.first_branch {b = b} {p = p} f) c before h = branch-made f (right-clean known roots Statement If (At p) b c) before h
    conditional-made (grammar.else_if {c = e} {b = b} f g) c before h =
        branch-made g (right-clean known roots Statement ElseIf e b c) (with_mentions owner before e) (conditional-made f (left-clean known roots Statement ElseIf e b c) before h)
    conditional-made (grammar.else_then_if {c = e} {b = b} f g) c before h =
        branch-made g (right-clean known roots Statement ElseIf e b c) (with_mentions owner before e) (conditional-made f (left-clean known roots Statement ElseIf e b c) before h)

    branch-made : {b : Phrase} {ts rest : List Token} → IsBranch b ts rest → Clean known roots Branch b → Keeps b
    branch-made (grammar.branch {e = e} {b = b} f g) c before h =
        block-made g (right-clean known roots Branch phrase.Branch e b c) (with_strings before e) (strings-made before e h)

-- what is known of a subroutine's block
pub record Fits (known : Known) (block : Phrase) : Type 0 where
  pub tokens : List Token
  pub rest : List Token
  pub reads : IsBlock block tokens rest
  pub roots : List Subroutine
  pub clean : Clean known roots Block block

abbrev pub AllFit : Known → List Item → Type 0
AllFit known items = (place : ℕ) (name : AtPlace) (block : Phrase) → Contains items (item.Sub place name block) → Fits known block

further-fit : (known : Known) (i : Item) (is : List Item) → AllFit known (i ∷ is) → AllFit known is
further-fit known i is h place name block c = h place name block (suc c.0, omega (arith, c.1), c.2)

item-made : (known : Known) (before : List Said) (i : Item) (is : List Item) → AllFit known (i ∷ is) → MakersKnown before → MakersKnown (with_item before i)
item-made known before (item.Import place name) is f h = made-more before (said kind.Import name.place name.text []) refl h
item-made known before (item.Backend place name attributes) is f h = made-more before (said kind.Backend name.place name.text []) refl h
item-made known before (item.NoBackend place name) is f h = made-more before (said kind.Backend name.place name.text []) refl h
item-made known before (item.Probe place name attributes) is f h = made-more before (said kind.Probe name.place name.text []) refl h
item-made known before (item.Acl place name entries) is f h = made-more before (said kind.Acl name.place name.text []) refl h
item-made known before (item.Sub place name block) is f h =
    let s = said kind.Subroutine name.place name.text [] in
    let fit = f place name block (zero, omega arith, refl) in
    block-made known fit.roots name.text fit.reads fit.clean (before ++ s ∷ []) (made-more before s refl h)

items-made : (known : Known) (before : List Said) (items : List Item) → AllFit known items → MakersKnown before → MakersKnown (with_items before items)
items-made known before [] f h = h
items-made known before (i ∷ is) f h = items-made known (with_item before i) is (further-fit known i is f) (item-made known before i is f h)

-- no symbol is that of an object of an unknown maker
abbrev is_certain : Symbol → Bool
is_certain symbol.UnknownObject = false
is_certain _ = true

made-certain : (sorts : Sorts) (name : List ℕ) (o : Option DirectorKind) → is_some o ≡ true → is_certain (made_by sorts name o) ≡ true
made-certain sorts name (Some k) h = refl
made-certain sorts name None h = absurd (false-true h)

abbrev IsCertain : Option Symbol → Type 0
IsCertain None = Unit {0}
IsCertain (Some x) = is_certain x ≡ true

declared-certain : (sorts : Sorts) (k : MentionKind) (name other : List ℕ) → is_made_by k other ≡ true → IsCertain (declares sorts k name other)
declared-certain sorts kind.Import name other h = tt
declared-certain sorts kind.Backend name other h = refl
declared-certain sorts kind.Probe name other h = refl
declared-certain sorts kind.Acl name other h = refl
declared-certain sorts kind.Subroutine name other h = by-name (is_reserved name)
  where
    by-name : (b : Bool) → IsCertain (if b then None else Some (symbol.Subroutine (place_among sorts.subroutines name)))
    by-name true = tt
    by-name false = refl
declared-certain sorts kind.Object name other h = made-certain sorts name (maker_named other) h
declared-certain sorts kind.NoObject name other h = refl
declared-certain sorts kind.Call name other h = tt
declared-certain sorts kind.Pattern name other h = tt

symbols-certain : (sorts : Sorts) (before : List Said) → MakersKnown before → list_all is_certain (filter_map (symbol_of sorts) before) ≡ true
symbols-certain sorts [] h = refl
symbols-certain sorts (s ∷ more) h =
    let b = both-true (is_made s) (list_all is_made more) h in
    by-symbol (symbol_of sorts s) (declared-certain sorts s.kind s.name s.other b.0) (symbols-certain sorts more b.1)
  where
    by-symbol : (o : Option Symbol) → IsCertain o → list_all is_certain (filter_map (symbol_of sorts) more) ≡ true → list_all is_certain (cons_option o (filter_map (symbol_of sorts) more)) ≡ true
    by-symbol None c h = h
    by-symbol (Some x) c h = ap (λ (b : Bool). b && list_all is_certain (filter_map (symbol_of sorts) more)) c ∙ h

pub all-made : (known : Known) (items : List Item) (stored : List Stored) → AllFit known items → AreMade (known_of (says items) stored)
all-made known items stored f name e =
    by-place (position (λ other. bytes_eq name other) (names_of (declarations (says items)))) e
  where
    symbols : List Symbol
    symbols = filter_map (symbol_of (sorts_of (says items))) (says items)

    by-place : (o : Option ℕ) → option_and_then (λ k. slice_get symbols k) o ≡ Some symbol.UnknownObject → ⊥
    by-place None e = none-some symbol.UnknownObject e
    by-place (Some k) e = false-true (passes is_certain symbols k symbol.UnknownObject (symbols-certain (sorts_of (says items)) (says items) (items-made known [] items f refl)) e)
