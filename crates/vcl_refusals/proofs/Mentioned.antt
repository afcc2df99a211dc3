-- What a text says of names is said behind whatever was said before, so two lists of items say what each of them does.
use Rattle.std.proofs.Common.{◌≡◌, ℕ, List, [], ◌∷◌, ◌++◌, Option, Some, None, refl, sym, ◌∙◌, ap, append_assoc, append-nil}
use Rattle.vcl_tree.specs.Phrase as phrase
use Rattle.vcl_tree.specs.Phrase.{Phrase}
use Rattle.vcl_tree.specs.declared.item.Item.{Item}
use Rattle.vcl_tree.specs.declared.item.Item.TheVariants as item
use Rattle.vcl_check.specs.declared.mentions.MentionKind.TheVariants as kind
use Rattle.vcl_check.specs.Mentions.{made, object_kind, own_string, Said, said, said_of, with_answer, with_call, with_found, with_given, with_item, with_items, with_mentions, with_object, with_strings}
use Rattle.vcl_check.specs.Texts.{says}

found-behind : (xs ys : List Said) (o : Option Said) → with_found (xs ++ ys) o ≡ xs ++ with_found ys o
found-behind xs ys None = refl
found-behind xs ys (Some s) = append_assoc xs ys (s ∷ [])

strings-behind : (xs ys : List Said) (p : Phrase) → with_strings (xs ++ ys) p ≡ xs ++ with_strings ys p
strings-behind xs ys (phrase.Node label a b) =
    ap (λ (zs : List Said). with_found (with_strings zs b) (own_string label a b)) (strings-behind xs ys a)
    ∙ (ap (λ (zs : List Said). with_found zs (own_string label a b)) (strings-behind xs (with_strings ys a) b)
    ∙ found-behind xs (with_strings (with_strings ys a) b) (own_string label a b))
strings-behind xs ys _ = refl

given-behind : (xs ys : List Said) (p : Phrase) → with_given (xs ++ ys) p ≡ xs ++ with_given ys p
given-behind xs ys (phrase.Node phrase.Bound name value) = strings-behind xs ys value
given-behind xs ys _ = refl

call-behind : (owner : List ℕ) (xs ys : List Said) (p : Phrase) → with_call owner (xs ++ ys) p ≡ xs ++ with_call owner ys p
call-behind owner xs ys (phrase.Named place name) = append_assoc xs ys (said kind.Call place name owner ∷ [])
call-behind owner xs ys _ = refl

made-behind : (owner : List ℕ) (place : ℕ) (name : List ℕ) (xs ys : List Said) (p : Phrase) → made owner place name (xs ++ ys) p ≡ xs ++ made owner place name ys p
made-behind owner place name xs ys (phrase.Node phrase.Called (phrase.Named q maker) arguments) =
    let one : List Said = said (object_kind owner) place name maker ∷ [] in
    ap (λ (zs : List Said). with_strings zs arguments) (append_assoc xs ys one) ∙ strings-behind xs (ys ++ one) arguments
made-behind owner place name xs ys _ = refl

object-behind : (owner : List ℕ) (xs ys : List Said) (p : Phrase) → with_object owner (xs ++ ys) p ≡ xs ++ with_object owner ys p
object-behind owner xs ys (phrase.Node phrase.Bound (phrase.Named place name) maker) = made-behind owner place name xs ys maker
object-behind owner xs ys _ = refl

answer-behind : (xs ys : List Said) (p : Phrase) → with_answer (xs ++ ys) p ≡ xs ++ with_answer ys p
answer-behind xs ys (phrase.Node phrase.Called word arguments) = strings-behind xs ys arguments
answer-behind xs ys _ = refl

mentions-behind : (owner : List ℕ) (xs ys : List Said) (p : Phrase) → with_mentions owner (xs ++ ys) p ≡ xs ++ with_mentions owner ys p
mentions-behind owner xs ys (phrase.Node phrase.More a b) =
    ap (λ (zs : List Said). with_mentions owner zs b) (mentions-behind owner xs ys a) ∙ mentions-behind owner xs (with_mentions owner ys a) b
mentions-behind owner xs ys (phrase.Node phrase.ElseIf a b) =
    ap (λ (zs : List Said). with_mentions owner zs b) (mentions-behind owner xs ys a) ∙ mentions-behind owner xs (with_mentions owner ys a) b
mentions-behind owner xs ys (phrase.Node phrase.Else a b) =
    ap (λ (zs : List Said). with_mentions owner zs b) (mentions-behind owner xs ys a) ∙ mentions-behind owner xs (with_mentions owner ys a) b
mentions-behind owner xs ys (phrase.Node phrase.If a b) = mentions-behind owner xs ys b
mentions-behind owner xs ys (phrase.Node phrase.Branch condition block) =
    ap (λ (zs : List Said). with_mentions owner zs block) (strings-behind xs ys condition) ∙ mentions-behind owner xs (with_strings ys condition) block
mentions-behind owner xs ys (phrase.Node phrase.Set a b) = given-behind xs ys b
mentions-behind owner xs ys (phrase.Node phrase.Append a b) = given-behind xs ys b
mentions-behind owner xs ys (phrase.Node phrase.Jump a b) = call-behind owner xs ys b
mentions-behind owner xs ys (phrase.Node phrase.New a b) = object-behind owner xs ys b
mentions-behind owner xs ys (phrase.Node phrase.Return a b) = answer-behind xs ys b
mentions-behind owner xs ys (phrase.Node phrase.Called a b) = strings-behind xs ys (phrase.Node phrase.Called a b)
mentions-behind owner xs ys _ = refl

item-behind : (xs ys : List Said) (i : Item) → with_item (xs ++ ys) i ≡ xs ++ with_item ys i
item-behind xs ys (item.Import place name) = append_assoc xs ys (said_of kind.Import name ∷ [])
item-behind xs ys (item.Backend place name attributes) = append_assoc xs ys (said_of kind.Backend name ∷ [])
item-behind xs ys (item.NoBackend place name) = append_assoc xs ys (said_of kind.Backend name ∷ [])
item-behind xs ys (item.Probe place name attributes) = append_assoc xs ys (said_of kind.Probe name ∷ [])
item-behind xs ys (item.Acl place name entries) = append_assoc xs ys (said_of kind.Acl name ∷ [])
item-behind xs ys (item.Sub place name block) =
    let one : List Said = said_of kind.Subroutine name ∷ [] in
    ap (λ (zs : List Said). with_mentions name.text zs block) (append_assoc xs ys one) ∙ mentions-behind name.text xs (ys ++ one) block

items-behind : (xs ys : List Said) (is : List Item) → with_items (xs ++ ys) is ≡ xs ++ with_items ys is
items-behind xs ys [] = refl
items-behind xs ys (i ∷ is) = ap (λ (zs : List Said). with_items zs is) (item-behind xs ys i) ∙ items-behind xs (with_item ys i) is

items-joined : (before : List Said) (is js : List Item) → with_items before (is ++ js) ≡ with_items (with_items before is) js
items-joined before [] js = refl
items-joined before (i ∷ is) js = items-joined (with_item before i) is js

pub says-both : (is js : List Item) → says (is ++ js) ≡ says is ++ says js
says-both is js =
    items-joined [] is js
    ∙ (ap (λ (zs : List Said). with_items zs js) (sym (append-nil (says is))) ∙ items-behind (says is) [] js)
