-- What a text says of names, in its order: what it imports and declares, which objects it makes, which subroutines it calls,
-- and which strings must be patterns.
use Rattle.std.specs.Prelude.{ℕ, Bool, true, false, List, [], ◌∷◌, ◌++◌, Option, Some, None, option_and_then, slice_get, codes, if◌then◌else◌}
use Rattle.std.specs.Str.{bytes_eq}
use Rattle.vcl_tree.specs.Phrase as phrase
use Rattle.vcl_tree.specs.Phrase.{Phrase, Label}
use Rattle.vcl_tree.specs.declared.expression.Comparison.TheVariants as comparison
use Rattle.vcl_tree.specs.declared.name.Name.{Name}
use Rattle.vcl_tree.specs.declared.item.Item.{Item}
use Rattle.vcl_tree.specs.declared.item.Item.TheVariants as item
use Rattle.vcl_language.specs.Functions.{function_named}
use Rattle.vcl_language.specs.declared.functions.Function.{Function}
use Rattle.vcl_language.specs.declared.functions.Slot.{Slot}
use Rattle.vcl_language.specs.declared.functions.Slot.TheVariants.{Needed}
use Rattle.vcl_language.specs.declared.functions.Parameter.TheVariants.{Pattern}
pub use Rattle.vcl_probes.specs.Parts.{parts}
use Rattle.vcl_check.specs.declared.mentions.MentionKind.{MentionKind}
use Rattle.vcl_check.specs.declared.mentions.MentionKind.TheVariants as kind

-- what is said at a place of a name, or of a string; `other` is an object's maker, or whose call it is
pub record Said : Type 0 where
  pub kind : MentionKind
  pub place : ℕ
  pub name : List ℕ
  pub other : List ℕ

abbrev pub said : MentionKind → ℕ → List ℕ → List ℕ → Said
said k p n o = record { kind = k; place = p; name = n; other = o }

abbrev pub said_string : Phrase → Option Said
said_string (phrase.String place text) = Some (said kind.Pattern place text [])
said_string _ = None

-- functions whose second argument is a pattern
abbrev pub takes_pattern : List Slot → Bool
takes_pattern (first ∷ Needed Pattern ∷ more) = true
takes_pattern _ = false

abbrev pub has_pattern : Option Function → Bool
has_pattern None = false
has_pattern (Some f) = takes_pattern f.takes

-- the string that is the second argument of such a function
abbrev pub called_string : Phrase → Phrase → Option Said
called_string (phrase.Named place name) arguments =
    if has_pattern (function_named name) then option_and_then said_string (slice_get (parts arguments) 1) else None
called_string _ arguments = None

abbrev pub with_found : List Said → Option Said → List Said
with_found before None = before
with_found before (Some s) = before ++ s ∷ []

abbrev pub own_string : Label → Phrase → Phrase → Option Said
own_string (phrase.Compared comparison.Match) a b = said_string b
own_string (phrase.Compared comparison.NotMatch) a b = said_string b
own_string phrase.Called a b = called_string a b
own_string _ a b = None

-- the strings of an expression or of arguments that must be patterns, behind those before
abbrev pub with_strings : List Said → Phrase → List Said
with_strings before (phrase.Node label a b) = with_found (with_strings (with_strings before a) b) (own_string label a b)
with_strings before _ = before

abbrev pub with_given : List Said → Phrase → List Said
with_given before (phrase.Node phrase.Bound name value) = with_strings before value
with_given before _ = before

abbrev pub with_call : List ℕ → List Said → Phrase → List Said
with_call owner before (phrase.Named place name) = before ++ said kind.Call place name owner ∷ []
with_call owner before _ = before

-- objects are made in vcl_init; a name of `new` elsewhere is no object's
abbrev pub is_init : List ℕ → Bool
is_init name = bytes_eq name (codes "vcl_init")

abbrev pub object_kind : List ℕ → MentionKind
object_kind owner = if is_init owner then kind.Object else kind.NoObject

abbrev pub made : List ℕ → ℕ → List ℕ → List Said → Phrase → List Said
made owner place name before (phrase.Node phrase.Called (phrase.Named q maker) arguments) =
    with_strings (before ++ said (object_kind owner) place name maker ∷ []) arguments
made owner place name before _ = before

abbrev pub with_object : List ℕ → List Said → Phrase → List Said
with_object owner before (phrase.Node phrase.Bound (phrase.Named place name) maker) = made owner place name before maker
with_object owner before _ = before

abbrev pub with_answer : List Said → Phrase → List Said
with_answer before (phrase.Node phrase.Called word arguments) = with_strings before arguments
with_answer before _ = before

-- what statements of a subroutine say, behind what was said before
abbrev pub with_mentions : List ℕ → List Said → Phrase → List Said
with_mentions owner before (phrase.Node phrase.More a b) = with_mentions owner (with_mentions owner before a) b
with_mentions owner before (phrase.Node phrase.ElseIf a b) = with_mentions owner (with_mentions owner before a) b
with_mentions owner before (phrase.Node phrase.Else a b) = with_mentions owner (with_mentions owner before a) b
with_mentions owner before (phrase.Node phrase.If a b) = with_mentions owner before b
with_mentions owner before (phrase.Node phrase.Branch condition block) = with_mentions owner (with_strings before condition) block
with_mentions owner before (phrase.Node phrase.Set a b) = with_given before b
with_mentions owner before (phrase.Node phrase.Append a b) = with_given before b
with_mentions owner before (phrase.Node phrase.Jump a b) = with_call owner before b
with_mentions owner before (phrase.Node phrase.New a b) = with_object owner before b
with_mentions owner before (phrase.Node phrase.Return a b) = with_answer before b
with_mentions owner before (phrase.Node phrase.Called a b) = with_strings before (phrase.Node phrase.Called a b)
with_mentions owner before _ = before

abbrev pub said_of : MentionKind → Name → Said
said_of k n = said k n.place n.text []

abbrev pub with_item : List Said → Item → List Said
with_item before (item.Import place name) = before ++ said_of kind.Import name ∷ []
with_item before (item.Backend place name attributes) = before ++ said_of kind.Backend name ∷ []
with_item before (item.NoBackend place name) = before ++ said_of kind.Backend name ∷ []
with_item before (item.Probe place name attributes) = before ++ said_of kind.Probe name ∷ []
with_item before (item.Acl place name entries) = before ++ said_of kind.Acl name ∷ []
with_item before (item.Sub place name block) = with_mentions name.text (before ++ said_of kind.Subroutine name ∷ []) block

abbrev pub with_items : List Said → List Item → List Said
with_items before [] = before
with_items before (i ∷ is) = with_items (with_item before i) is
