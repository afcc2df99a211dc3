-- Each call of a statement is among what a text says of names.
use Rattle.std.proofs.Common.{◌≡◌, ℕ, zero, suc, ◌<◌, length, List, [], ◌∷◌, ◌++◌, refl, subst, Option, Some, None, slice_index_or, arith}
use Rattle.std.specs.Prelude.{Contains}
use Rattle.std.proofs.lemmas.List.Elements.{Contains-append_left, Contains-append_right}
use Rattle.vcl_tree.specs.Phrase as phrase
use Rattle.vcl_tree.specs.Phrase.{Phrase, Label}
use Rattle.vcl_tree.specs.declared.item.Item.{Item}
use Rattle.vcl_tree.specs.declared.item.Item.TheVariants as item
use Rattle.vcl_tree.specs.declared.name.Name.{Name}
use Rattle.vcl_check.specs.declared.mentions.MentionKind.TheVariants as kind
use Rattle.vcl_check.specs.Mentions.{made, object_kind, own_string, Said, said, said_of, with_answer, with_call, with_found, with_given, with_item, with_items, with_mentions, with_object, with_strings}
use Rattle.vcl_check.specs.Texts.{says}
use Rattle.vcl_soundness.proofs.Statements.{AllCall}

-- what was said stays said
module _ (x : Said) where
  found-keeps : (before : List Said) (o : Option Said) → Contains before x → Contains (with_found before o) x
  found-keeps before None h = h
  found-keeps before (Some s) h = Contains-append_left before (s ∷ []) x h

  strings-keep : (before : List Said) (p : Phrase) → Contains before x → Contains (with_strings before p) x
  strings-keep before (phrase.Node label a b) h =
      found-keeps (with_strings (with_strings before a) b) (own_string label a b) (strings-keep (with_strings before a) b (strings-keep before a h))
  strings-keep before _ h = h

  given-keeps : (before : List Said) (p : Phrase) → Contains before x → Contains (with_given before p) x
  given-keeps before (phrase.Node phrase.Bound name value) h = strings-keep before value h
  given-keeps before _ h = h

  call-keeps : (owner : List ℕ) (before : List Said) (p : Phrase) → Contains before x → Contains (with_call owner before p) x
  call-keeps owner before (phrase.Named place name) h = Contains-append_left before (said kind.Call place name owner ∷ []) x h
  call-keeps owner before _ h = h

  made-keeps : (owner : List ℕ) (place : ℕ) (name : List ℕ) (before : List Said) (p : Phrase) → Contains before x → Contains (made owner place name before p) x
  made-keeps owner place name before (phrase.Node phrase.Called (phrase.Named q maker) arguments) h =
      let one : List Said = said (object_kind owner) place name maker ∷ [] in
      strings-keep (before ++ one) arguments (Contains-append_left before one x h)
  made-keeps owner place name before _ h = h

  object-keeps : (owner : List ℕ) (before : List Said) (p : Phrase) → Contains before x → Contains (with_object owner before p) x
  object-keeps owner before (phrase.Node phrase.Bound (phrase.Named place name) maker) h = made-keeps owner place name before maker h
  object-keeps owner before _ h = h

  answer-keeps : (before : List Said) (p : Phrase) → Contains before x → Contains (with_answer before p) x
  answer-keeps before (phrase.Node phrase.Called word arguments) h = strings-keep before arguments h
  answer-keeps before _ h = h

  mentions-keep : (owner : List ℕ) (before : List Said) (p : Phrase) → Contains before x → Contains (with_mentions owner before p) x
  mentions-keep owner before (phrase.Node phrase.More a b) h = mentions-keep owner (with_mentions owner before a) b (mentions-keep owner before a h)
  mentions-keep owner before (phrase.Node phrase.ElseIf a b) h = mentions-keep owner (with_mentions owner before a) b (mentions-keep owner before a h)
  mentions-keep owner before (phrase.Node phrase.Else a b) h = mentions-keep owner (with_mentions owner before a) b (mentions-keep owner before a h)
  mentions-keep owner before (phrase.Node phrase.If a b) h = mentions-keep owner before b h
  mentions-keep owner before (phrase.Node phrase.Branch condition block) h = mentions-keep owner (with_strings before condition) block (strings-keep before condition h)
  mentions-keep owner before (phrase.Node phrase.Set a b) h = given-keeps before b h
  mentions-keep owner before (phrase.Node phrase.Append a b) h = given-keeps before b h
  mentions-keep owner before (phrase.Node phrase.Jump a b) h = call-keeps owner before b h
  mentions-keep owner before (phrase.Node phrase.New a b) h = object-keeps owner before b h
  mentions-keep owner before (phrase.Node phrase.Return a b) h = answer-keeps before b h
  mentions-keep owner before (phrase.Node phrase.Called a b) h = strings-keep before (phrase.Node phrase.Called a b) h
  mentions-keep owner before _ h = h

  item-keeps : (before : List Said) (i : Item) → Contains before x → Contains (with_item before i) x
  item-keeps before (item.Import place name) h = Contains-append_left before (said_of kind.Import name ∷ []) x h
  item-keeps before (item.Backend place name attributes) h = Contains-append_left before (said_of kind.Backend name ∷ []) x h
  item-keeps before (item.NoBackend place name) h = Contains-append_left before (said_of kind.Backend name ∷ []) x h
  item-keeps before (item.Probe place name attributes) h = Contains-append_left before (said_of kind.Probe name ∷ []) x h
  item-keeps before (item.Acl place name entries) h = Contains-append_left before (said_of kind.Acl name ∷ []) x h
  item-keeps before (item.Sub place name block) h =
      let one : List Said = said_of kind.Subroutine name ∷ [] in
      mentions-keep name.text (before ++ one) block (Contains-append_left before one x h)

  items-keep : (before : List Said) (is : List Item) → Contains before x → Contains (with_items before is) x
  items-keep before [] h = h
  items-keep before (i ∷ is) h = items-keep (with_item before i) is (item-keeps before i h)

-- the calls of a block
abbrev pub IsCalled : List Said → List ℕ → List ℕ → Type 0
IsCalled all owner name = (place : ℕ) × Contains all (said kind.Call place name owner)

abbrev Heard : List Said → List Said → Type 0
Heard before all = (x : Said) → Contains before x → Contains all x

called-heard : (owner : List ℕ) (before all : List Said) (p : Phrase) → Heard (with_call owner before p) all → AllCall (IsCalled all owner) (phrase.Node phrase.Jump (phrase.At 0) p)
called-heard owner before all (phrase.Named place name) h =
    let one = said kind.Call place name owner in
    (place, h one (Contains-append_right before (one ∷ []) one (zero, omega arith, refl)))
called-heard owner before all _ h = tt

calls-heard : (owner : List ℕ) (before all : List Said) (p : Phrase) → Heard (with_mentions owner before p) all → AllCall (IsCalled all owner) p
calls-heard owner before all (phrase.Node phrase.More a b) h =
    (calls-heard owner before all a (λ x c. h x (mentions-keep x owner (with_mentions owner before a) b c)), calls-heard owner (with_mentions owner before a) all b h)
calls-heard owner before all (phrase.Node phrase.ElseIf a b) h =
    (calls-heard owner before all a (λ x c. h x (mentions-keep x owner (with_mentions owner before a) b c)), calls-heard owner (with_mentions owner before a) all b h)
calls-heard owner before all (phrase.Node phrase.Else a b) h =
    (calls-heard owner before all a (λ x c. h x (mentions-keep x owner (with_mentions owner before a) b c)), calls-heard owner (with_mentions owner before a) all b h)
calls-heard owner before all (phrase.Node phrase.If a b) h = calls-heard owner before all b h
calls-heard owner before all (phrase.Node phrase.Branch condition block) h = calls-heard owner (with_strings before condition) all block h
calls-heard owner before all (phrase.Node phrase.Jump a (phrase.Named place name)) h = called-heard owner before all (phrase.Named place name) h
calls-heard owner before all _ h = tt

item-calls : (before : List Said) (items : List Item) (all : List Said) → Heard (with_items before items) all → (place : ℕ) (name : Name) (block : Phrase) (k : ℕ)
    → k < length items → slice_index_or items k (item.Sub place name block) ≡ item.Sub place name block → AllCall (IsCalled all name.text) block
item-calls before [] all h place name block k low e = absurd (omega (arith, low))
item-calls before (i ∷ is) all h place name block zero low e =
    let one : List Said = said_of kind.Subroutine name ∷ [] in
    let g : Heard (with_items (with_item before (item.Sub place name block)) is) all = subst (λ (j : Item). Heard (with_items (with_item before j) is) all) e h in
    calls-heard name.text (before ++ one) all block (λ x c. g x (items-keep x (with_item before (item.Sub place name block)) is c))
item-calls before (i ∷ is) all h place name block (suc k) low e = item-calls (with_item before i) is all h place name block k (omega (arith, low)) e

pub block-calls : (items : List Item) (place : ℕ) (name : Name) (block : Phrase) → Contains items (item.Sub place name block) → AllCall (IsCalled (says items) name.text) block
block-calls items place name block c = item-calls [] items (says items) (λ x h. h) place name block c.0 c.1 c.2
