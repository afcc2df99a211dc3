-- In the numbered form of a sound text the default backend is there, and so is the backend of each director's member.
use Rattle.std.specs.Prelude.{All}
use Rattle.std.specs.Str.{bytes_eq}
use Rattle.std.specs.Option.{unwrap_or}
use Rattle.std.proofs.Common.{◌≡◌, ℕ, ◌<◌, Bool, true, false, length, position, List, [], ◌∷◌, codes, refl, ap, subst, Option, Some, None, if◌then◌else◌, arith}
use Rattle.std.proofs.lemmas.List.Elements.{All-nil, All-cons, All-append}
use Rattle.std.proofs.lemmas.List.Quantifiers.{position-Some}
use Rattle.std.proofs.lemmas.Option.{none-some, same_Some, slice_get_within}
use Rattle.vcl_values.specs.declared.value.Backend.{Backend}
use Rattle.vcl_tree.specs.Phrase.{Phrase, Node, Named, More, Called, Group}
use Rattle.vcl_tree.specs.declared.item.Item.{Item}
use Rattle.vcl_tree.specs.declared.item.Item.TheVariants as item
use Rattle.vmod_host.specs.declared.signature.Stored.{Stored}
use Rattle.vcl_symbols.specs.Known.{Known, symbol_named}
use Rattle.vcl_symbols.specs.declared.symbol_table.Symbol.{Symbol}
use Rattle.vcl_symbols.specs.declared.symbol_table.Symbol.TheVariants as symbol
use Rattle.vcl_check.specs.Mentions.{parts, is_init}
use Rattle.vcl_check.specs.Sentences.{known_in}
use Rattle.vcl_check.specs.Texts.{has_backend}
use Rattle.vcl_code.specs.Names.{Target, Plain, Field, NoTarget, Truth, target_of, of_symbol, of_target, read_of}
use Rattle.vcl_program.specs.declared.code.Member.{Member}
use Rattle.vcl_program.specs.Codes.{is_default, default_of}
use Rattle.vcl_program.specs.Declarations.{backends_of, one_more}
use Rattle.vcl_program.specs.Members as members
use Rattle.vcl_program.specs.Members.{backend_read, backend_in, weight_in, member, added_to, added_with, member_of, with_block}
use Rattle.vcl_soundness.proofs.Rows.{false-true}
use Rattle.vcl_soundness.proofs.Lists.{AllThere, items-there}

-- a name that is read as a backend
backend-symbol : (o : Option Symbol) (k : ℕ) → backend_read (of_symbol o) ≡ Some k → o ≡ Some (symbol.Backend k)
backend-symbol (Some (symbol.Backend j)) k e = ap (λ (i : ℕ). Some (symbol.Backend i)) (same_Some j k e)
backend-symbol (Some symbol.Probe) k e = absurd (none-some k e)
backend-symbol (Some symbol.UnknownObject) k e = absurd (none-some k e)
backend-symbol (Some symbol.NoObject) k e = absurd (none-some k e)
backend-symbol (Some (symbol.Acl j)) k e = absurd (none-some k e)
backend-symbol (Some (symbol.Director kind j)) k e = absurd (none-some k e)
backend-symbol (Some (symbol.Subroutine j)) k e = absurd (none-some k e)
backend-symbol None k e = absurd (none-some k e)

backend-named : (known : Known) (name : List ℕ) (k : ℕ) → backend_read (read_of known name) ≡ Some k → symbol_named known name ≡ Some (symbol.Backend k)
unfolding read_of
backend-named known name k e = by-target (target_of name) e
  where
    by-words : (p q : Bool) → backend_read (if p then Truth true else (if q then Truth false else of_symbol (symbol_named known name))) ≡ Some k → symbol_named known name ≡ Some (symbol.Backend k)
    by-words true q e = absurd (none-some k e)
    by-words false true e = absurd (none-some k e)
    by-words false false e = backend-symbol (symbol_named known name) k e

    by-target : (t : Target) → backend_read (of_target known name t) ≡ Some k → symbol_named known name ≡ Some (symbol.Backend k)
    by-target NoTarget e = by-words (bytes_eq name (codes "true")) (bytes_eq name (codes "false")) e
    by-target (Plain v) e = absurd (none-some k e)
    by-target (Field message field) e = absurd (none-some k e)

module _ (known : Known) (n : ℕ) (placed : (name : List ℕ) (k : ℕ) → symbol_named known name ≡ Some (symbol.Backend k) → k < n) where
  abbrev IsPlaced : Member → Type 0
  IsPlaced m = m.backend < n

  backend-placed : (e : Phrase) (k : ℕ) → backend_in known e ≡ Some k → k < n
  backend-placed (Named place name) k e = placed name k (backend-named known name k e)
  backend-placed (Node Group sign d) k e = backend-placed d k e
  backend-placed _ k e = absurd (none-some k e)

  member-placed : (director o : Option ℕ) (w : ℕ) (m : Member) → ((k : ℕ) → o ≡ Some k → k < n) → member director o w ≡ Some m → IsPlaced m
  member-placed (Some d) (Some b) w m h e = subst (λ (x : Member). x.backend < n) (same_Some _ m e) (h b refl)
  member-placed None o w m h e = absurd (none-some m e)
  member-placed (Some d) None w m h e = absurd (none-some m e)

  added-placed : (director : Option ℕ) (es : List Phrase) (m : Member) → added_with known director es ≡ Some m → IsPlaced m
  added-placed director (e ∷ []) m q = member-placed director (backend_in known e) 1 m (backend-placed e) q
  added-placed director (e ∷ w ∷ []) m q = member-placed director (backend_in known e) (weight_in w) m (backend-placed e) q
  added-placed director [] m q = absurd (none-some m q)
  added-placed director (e ∷ w ∷ x ∷ xs) m q = absurd (none-some m q)

  one-placed : (e : Phrase) (m : Member) → member_of known e ≡ Some m → IsPlaced m
  one-placed (Node Called (Named place name) arguments) m q = added-placed (added_to known name) (parts arguments) m q
  one-placed _ m q = absurd (none-some m q)

  more-placed : (before : List Member) (o : Option Member) → ((m : Member) → o ≡ Some m → IsPlaced m) → All IsPlaced before → All IsPlaced (one_more before o)
  more-placed before None h all = all
  more-placed before (Some m) h all = All-append IsPlaced before (m ∷ []) all (All-cons IsPlaced m [] (h m refl) (All-nil IsPlaced))

  block-placed : (e : Phrase) (before : List Member) → All IsPlaced before → All IsPlaced (with_block known before e)
  unfolding with_block
  block-placed (Node More front statement) before all = more-placed (with_block known before front) (member_of known statement) (one-placed statement) (block-placed front before all)
  block-placed _ before all = all

  item-placed : (before : List Member) (i : Item) → All IsPlaced before → All IsPlaced (members.with_item known before i)
  item-placed before (item.Sub place name block) all = by-name (is_init name.text)
    where
      by-name : (b : Bool) → All IsPlaced (if b then with_block known before block else before)
      by-name true = block-placed block before all
      by-name false = all
  item-placed before (item.Import place name) all = all
  item-placed before (item.Backend place name attributes) all = all
  item-placed before (item.NoBackend place name) all = all
  item-placed before (item.Probe place name attributes) all = all
  item-placed before (item.Acl place name entries) all = all

  items-placed : (before : List Member) (items : List Item) → All IsPlaced before → All IsPlaced (members.with_items known before items)
  items-placed before [] all = all
  items-placed before (i ∷ is) all = items-placed (members.with_item known before i) is (item-placed before i all)

-- the members of a text
pub members-there : (items : List Item) (stored : List Stored) → All (λ (m : Member). m.backend < length (backends_of items)) (members.with_items (known_in items stored) [] items)
members-there items stored =
    let there : AllThere items stored = items-there items stored in
    items-placed (known_in items stored) (length (backends_of items)) (λ name k e. let b = there.backends name k e in slice_get_within (backends_of items) k b.0 b.1) [] items
    (All-nil (λ (m : Member). m.backend < length (backends_of items)))

-- a text that declares a backend has one
backend-counted : (items : List Item) → has_backend items ≡ true → 0 < length (backends_of items)
backend-counted [] h = absurd (false-true h)
backend-counted (item.Import place name ∷ is) h = backend-counted is h
backend-counted (item.Backend place name attributes ∷ is) h = omega arith
backend-counted (item.NoBackend place name ∷ is) h = omega arith
backend-counted (item.Probe place name attributes ∷ is) h = backend-counted is h
backend-counted (item.Acl place name entries ∷ is) h = backend-counted is h
backend-counted (item.Sub place name block ∷ is) h = backend-counted is h

-- the default one is among them
pub default-there : (items : List Item) → has_backend items ≡ true → default_of (backends_of items) < length (backends_of items)
default-there items h = by-place (position is_default backends) refl
  where
    backends : List Backend
    backends = backends_of items

    by-place : (o : Option ℕ) → position is_default backends ≡ o → unwrap_or o 0 < length backends
    by-place (Some k) e = let p = position-Some is_default backends k (record { name = []; key = None; declared_none = false }) e in p.0
    by-place None e = backend-counted items h
