-- What the names of a text stand for is there among what it declares, and its own subroutines have their bodies.
use Rattle.std.proofs.Common.{◌≡◌, ℕ, zero, suc, ◌+◌, nat_lt, Bool, true, false, not, length, map, position, List, [], ◌∷◌, ◌++◌, refl, sym, ap, ◌∙◌, subst, append-nil, append_assoc, Option, Some, None, is_some, option_and_then, option_map, slice_get, filter, filter_map, if◌then◌else◌, arith}
use Rattle.std.specs.List.{position_or_len, cons_option}
use Rattle.std.specs.Option.{unwrap_or}
use Rattle.std.specs.Prelude.{Contains}
use Rattle.std.specs.Str.{bytes_eq}
use Rattle.std.proofs.lemmas.Bool.{ltb-true, ltb-false, lt-ltb, le-ltb}
use Rattle.std.proofs.lemmas.List.Elements.{filter-append}
use Rattle.std.proofs.lemmas.Option.{none-some, same_Some}
use Rattle.std.proofs.lemmas.Slice.Eq.{bytes_eq-Decides}
use Rattle.directors.specs.declared.director.DirectorKind.{DirectorKind}
use Rattle.acl_match.specs.declared.entry.AclEntry.{AclEntry}
use Rattle.vcl_values.specs.declared.value.Backend.{Backend}
use Rattle.vcl_tree.specs.Phrase as phrase
use Rattle.vcl_tree.specs.Phrase.{Phrase}
use Rattle.vcl_tree.specs.declared.item.Item.{Item}
use Rattle.vcl_tree.specs.declared.item.Item.TheVariants as item
use Rattle.vcl_tree.specs.declared.name.Name.{Name}
use Rattle.vcl_language.specs.Modules.{maker_named}
use Rattle.vcl_language.specs.Names.{is_reserved}
use Rattle.vmod_host.specs.declared.signature.Stored.{Stored}
use Rattle.vcl_symbols.specs.Known.{symbol_named}
use Rattle.vcl_symbols.specs.declared.symbol_table.Symbol.{Symbol}
use Rattle.vcl_symbols.specs.declared.symbol_table.Symbol.TheVariants as symbol
use Rattle.vcl_check.specs.declared.declarations.NameSort.{NameSort}
use Rattle.vcl_check.specs.declared.declarations.NameSort.TheVariants as sort
use Rattle.vcl_check.specs.declared.mentions.MentionKind.{MentionKind}
use Rattle.vcl_check.specs.declared.mentions.MentionKind.TheVariants as kind
use Rattle.vcl_check.specs.Declarations.{declares_name, is_declared, names_of, is_sorted, is_of_sort, names_as, Sorts, sorts_of, place_among, made_by, declares, symbol_of, known_of}
use Rattle.vcl_check.specs.Mentions.{Said, said, said_of, is_init, own_string, with_found, with_strings, with_given, with_call, object_kind, made, with_object, with_answer, with_mentions, with_item, with_items}
use Rattle.vcl_check.specs.Texts.{says}
use Rattle.vcl_program.specs.Declarations.{backends_of, acls_of, director, director_by, directors_of}
use Rattle.vcl_program.specs.declared.code.Director.{Director}
use Rattle.vcl_program.proofs.Found.{found-by, found-is}
use Rattle.vcl_meaning.specs.Meaning.{own_bodies}
use Rattle.vcl_soundness.proofs.Rows.{false-true, at-row}
use Rattle.vcl_soundness.proofs.Made.{IsString, own-said}

-- The first symbol of a name among lists of names and symbols.
abbrev first : List ℕ → List (List ℕ) → List Symbol → Option Symbol
first name (n ∷ ns) (t ∷ ts) = if bytes_eq name n then Some t else first name ns ts
first name _ _ = None

abbrev at_position : List ℕ → List (List ℕ) → List Symbol → Option Symbol
at_position name ns ts = option_and_then (λ k. slice_get ts k) (position (λ other. bytes_eq name other) ns)

later-number : (q m : ℕ) → nat_lt (suc q) (suc m) ≡ nat_lt q m
later-number q m = by-order (nat_lt q m) refl
  where
    by-order : (b : Bool) → nat_lt q m ≡ b → nat_lt (suc q) (suc m) ≡ b
    by-order true e = lt-ltb (suc q) (suc m) (omega (arith, ltb-true q m e))
    by-order false e = le-ltb (suc q) (suc m) (omega (arith, ltb-false q m e))

later-symbol : (ts : List Symbol) (t : Symbol) (q m : ℕ)
    → option_and_then (λ k. slice_get (t ∷ ts) k) (if nat_lt (1 + q) (suc m) then Some (1 + q) else None) ≡ option_and_then (λ k. slice_get ts k) (if nat_lt q m then Some q else None)
later-symbol ts t q m =
    let there : Bool → ℕ → Option Symbol = λ b n. option_and_then (λ k. slice_get (t ∷ ts) k) (if b then Some n else None) in
    let P : ℕ → Type 0 = λ n. there (nat_lt n (suc m)) n ≡ option_and_then (λ k. slice_get ts k) (if nat_lt q m then Some q else None) in
    let next : suc q ≡ 1 + q = omega arith in
    subst P next (ap (λ (b : Bool). there b (suc q)) (later-number q m) ∙ by-order (nat_lt q m))
  where
    by-order : (b : Bool) → option_and_then (λ k. slice_get (t ∷ ts) k) (if b then Some (suc q) else None) ≡ option_and_then (λ k. slice_get ts k) (if b then Some q else None)
    by-order true = refl
    by-order false = refl

no-symbol : (o : Option ℕ) → option_and_then (λ k. slice_get {X = Symbol} [] k) o ≡ None
no-symbol None = refl
no-symbol (Some k) = refl

position-first : (name : List ℕ) (ns : List (List ℕ)) (ts : List Symbol) → at_position name ns ts ≡ first name ns ts
position-first name [] ts = refl
position-first name (n ∷ ns) [] = no-symbol (position (λ other. bytes_eq name other) (n ∷ ns))
position-first name (n ∷ ns) (t ∷ ts) = by-name (bytes_eq name n) (position-first name ns ts)
  where
    q : ℕ
    q = position_or_len (λ other. bytes_eq name other) ns

    at : ℕ → Option ℕ
    at k = if nat_lt k (suc (length ns)) then Some k else None

    by-name : (b : Bool) → at_position name ns ts ≡ first name ns ts
        → option_and_then (λ k. slice_get (t ∷ ts) k) (at (if not b then 1 + q else 0)) ≡ (if b then Some t else first name ns ts)
    by-name true e =
        let there : Bool → Option Symbol = λ b. option_and_then (λ k. slice_get (t ∷ ts) k) (if b then Some 0 else None) in
        ap there (lt-ltb 0 (suc (length ns)) (omega arith))
    by-name false e = later-symbol ts t q (length ns) ∙ e

-- what declares a symbol has a name among the declared ones
declared-alike : (sorts : Sorts) (k : MentionKind) (name other : List ℕ) → declares_name k name ≡ is_some (declares sorts k name other)
declared-alike sorts kind.Import name other = refl
declared-alike sorts kind.Backend name other = refl
declared-alike sorts kind.Probe name other = refl
declared-alike sorts kind.Acl name other = refl
declared-alike sorts kind.Subroutine name other = by-name (is_reserved name)
  where
    by-name : (b : Bool) → not b ≡ is_some (if b then None else Some (symbol.Subroutine (place_among sorts.subroutines name)))
    by-name true = refl
    by-name false = refl
declared-alike sorts kind.Object name other = refl
declared-alike sorts kind.NoObject name other = refl
declared-alike sorts kind.Call name other = refl
declared-alike sorts kind.Pattern name other = refl

-- what declares the symbol that a name stands for
pub record SaidAs (all : List Said) (sorts : Sorts) (name : List ℕ) (x : Symbol) : Type 0 where
  pub said : Said
  pub number : ℕ
  pub here : slice_get all number ≡ Some said
  pub named : name ≡ said.name
  pub stands : symbol_of sorts said ≡ Some x

said-later : (s : Said) (more : List Said) (sorts : Sorts) (name : List ℕ) (x : Symbol) → SaidAs more sorts name x → SaidAs (s ∷ more) sorts name x
said-later s more sorts name x h = record { said = h.said; number = suc h.number; here = h.here; named = h.named; stands = h.stands }

first-said : (sorts : Sorts) (name : List ℕ) (x : Symbol) (more : List Said) → first name (names_of (filter is_declared more)) (filter_map (symbol_of sorts) more) ≡ Some x
    → SaidAs more sorts name x
first-said sorts name x [] e = absurd (none-some x e)
first-said sorts name x (s ∷ more) e =
    by-symbol (is_declared s) (symbol_of sorts s) refl (declared-alike sorts s.kind s.name s.other) (first-said sorts name x more) e
  where
    declared : List Said
    declared = filter is_declared more

    symbols : List Symbol
    symbols = filter_map (symbol_of sorts) more

    by-name : (b : Bool) (y : Symbol) → bytes_eq name s.name ≡ b → symbol_of sorts s ≡ Some y → (first name (names_of declared) symbols ≡ Some x → SaidAs more sorts name x)
        → (if b then Some y else first name (names_of declared) symbols) ≡ Some x → SaidAs (s ∷ more) sorts name x
    by-name true y b-is y-is later e = record { said = s; number = zero; here = refl; named = (bytes_eq-Decides name s.name).0 b-is; stands = y-is ∙ e }
    by-name false y b-is y-is later e = said-later s more sorts name x (later e)

    by-symbol : (b : Bool) (o : Option Symbol) → symbol_of sorts s ≡ o → b ≡ is_some o → (first name (names_of declared) symbols ≡ Some x → SaidAs more sorts name x)
        → first name (names_of (if b then s ∷ declared else declared)) (cons_option o symbols) ≡ Some x → SaidAs (s ∷ more) sorts name x
    by-symbol true (Some y) o-is b-is later e = by-name (bytes_eq name s.name) y refl o-is later e
    by-symbol false None o-is b-is later e = said-later s more sorts name x (later e)
    by-symbol true None o-is b-is later e = absurd (false-true (sym b-is))
    by-symbol false (Some y) o-is b-is later e = absurd (false-true b-is)

symbol-said : (all : List Said) (stored : List Stored) (name : List ℕ) (x : Symbol) → symbol_named (known_of all stored) name ≡ Some x → SaidAs all (sorts_of all) name x
symbol-said all stored name x e =
    first-said (sorts_of all) name x all (sym (position-first name (names_of (filter is_declared all)) (filter_map (symbol_of (sorts_of all)) all)) ∙ e)

-- the name of what is said of a sort has its number among the names of the sort
sorted-at : (w : NameSort) (all : List Said) (k : ℕ) (s : Said) → slice_get all k ≡ Some s → is_of_sort w s ≡ true → (i : ℕ) × (slice_get (names_as w all) i ≡ Some s.name)
sorted-at w [] k s e p = absurd (none-some s e)
sorted-at w (x ∷ more) zero s e p = (zero, ap (λ (b : Bool). slice_get (names_of (if b then x ∷ filter (is_of_sort w) more else filter (is_of_sort w) more)) zero) here ∙ ap (λ (y : Said). Some y.name) same)
  where
    same : x ≡ s
    same = same_Some x s e

    here : is_of_sort w x ≡ true
    here = ap (is_of_sort w) same ∙ p
sorted-at w (x ∷ more) (suc k) s e p = by-sort (is_of_sort w x) (sorted-at w more k s e p)
  where
    by-sort : (b : Bool) → (i : ℕ) × (slice_get (names_as w more) i ≡ Some s.name)
        → (i : ℕ) × (slice_get (names_of (if b then x ∷ filter (is_of_sort w) more else filter (is_of_sort w) more)) i ≡ Some s.name)
    by-sort true h = (suc h.0, h.1)
    by-sort false h = h

pub number-stands : (w : NameSort) (all : List Said) (k : ℕ) (s : Said) → slice_get all k ≡ Some s → is_of_sort w s ≡ true
    → slice_get (names_as w all) (place_among (names_as w all) s.name) ≡ Some s.name
number-stands w all k s e p =
    let i = sorted-at w all k s e p in
    let f = found-by s.name (names_as w all) i.0 i.1 in
    let place : place_among (names_as w all) s.name ≡ f.0 = ap (λ (o : Option ℕ). unwrap_or o 0) f.1 in
    ap (slice_get (names_as w all)) place ∙ found-is s.name (names_as w all) f.0 f.1

-- the sort and the number of a symbol
abbrev IsSorted : Sorts → MentionKind → List ℕ → List ℕ → Symbol → Type 0
IsSorted sorts c name other (symbol.Backend k) = (is_sorted sort.Backend c name other ≡ true) × (k ≡ place_among sorts.backends name)
IsSorted sorts c name other (symbol.Acl k) = (is_sorted sort.Acl c name other ≡ true) × (k ≡ place_among sorts.acls name)
IsSorted sorts c name other (symbol.Director d k) = (is_sorted sort.Director c name other ≡ true) × (k ≡ place_among sorts.directors name)
IsSorted sorts c name other (symbol.Subroutine k) = (is_sorted sort.Subroutine c name other ≡ true) × (k ≡ place_among sorts.subroutines name)
IsSorted sorts c name other _ = Unit {0}

abbrev AreSorted : Sorts → MentionKind → List ℕ → List ℕ → Option Symbol → Type 0
AreSorted sorts c name other None = Unit {0}
AreSorted sorts c name other (Some x) = IsSorted sorts c name other x

declared-sorted : (sorts : Sorts) (c : MentionKind) (name other : List ℕ) → AreSorted sorts c name other (declares sorts c name other)
declared-sorted sorts kind.Backend name other = (refl, refl)
declared-sorted sorts kind.Acl name other = (refl, refl)
declared-sorted sorts kind.Object name other = by-maker (maker_named other) refl
  where
    by-maker : (o : Option DirectorKind) → is_some (maker_named other) ≡ is_some o → AreSorted sorts kind.Object name other (Some (made_by sorts name o))
    by-maker None e = tt
    by-maker (Some d) e = (e, refl)
declared-sorted sorts kind.Subroutine name other = by-name (is_reserved name) refl
  where
    by-name : (b : Bool) → is_reserved name ≡ b → AreSorted sorts kind.Subroutine name other (if b then None else Some (symbol.Subroutine (place_among sorts.subroutines name)))
    by-name true e = tt
    by-name false e = (ap not e, refl)
declared-sorted sorts kind.Import name other = tt
declared-sorted sorts kind.Probe name other = tt
declared-sorted sorts kind.NoObject name other = tt
declared-sorted sorts kind.Call name other = tt
declared-sorted sorts kind.Pattern name other = tt

said-sorted : (all : List Said) (sorts : Sorts) (name : List ℕ) (x : Symbol) (h : SaidAs all sorts name x) → IsSorted sorts h.said.kind h.said.name h.said.other x
said-sorted all sorts name x h =
    subst (AreSorted sorts h.said.kind h.said.name h.said.other) h.stands (declared-sorted sorts h.said.kind h.said.name h.said.other)

-- A sort that blocks say nothing of.
pub record IsQuiet (w : NameSort) : Type 0 where
  pub pattern : (name other : List ℕ) → is_sorted w kind.Pattern name other ≡ false
  pub call : (name other : List ℕ) → is_sorted w kind.Call name other ≡ false
  pub object : (name other : List ℕ) → is_sorted w kind.Object name other ≡ false
  pub no_object : (name other : List ℕ) → is_sorted w kind.NoObject name other ≡ false

backends-quiet : IsQuiet sort.Backend
backends-quiet = record { pattern = λ n o. refl; call = λ n o. refl; object = λ n o. refl; no_object = λ n o. refl }

acls-quiet : IsQuiet sort.Acl
acls-quiet = record { pattern = λ n o. refl; call = λ n o. refl; object = λ n o. refl; no_object = λ n o. refl }

subroutines-quiet : IsQuiet sort.Subroutine
subroutines-quiet = record { pattern = λ n o. refl; call = λ n o. refl; object = λ n o. refl; no_object = λ n o. refl }

-- what an item declares itself
abbrev head_of : Item → Said
head_of (item.Import place name) = said_of kind.Import name
head_of (item.Backend place name attributes) = said_of kind.Backend name
head_of (item.NoBackend place name) = said_of kind.Backend name
head_of (item.Probe place name attributes) = said_of kind.Probe name
head_of (item.Acl place name entries) = said_of kind.Acl name
head_of (item.Sub place name block) = said_of kind.Subroutine name

module _ (w : NameSort) (quiet : IsQuiet w) where
  abbrev Of : List Said → List Said
  Of before = filter (is_of_sort w) before

  other-same : (before : List Said) (s : Said) → is_of_sort w s ≡ false → Of (before ++ s ∷ []) ≡ Of before
  other-same before s e =
      filter-append (is_of_sort w) before (s ∷ []) ∙ ap (λ (b : Bool). Of before ++ (if b then s ∷ [] else [])) e ∙ append-nil (Of before)

  found-same : (before : List Said) (o : Option Said) → IsString o → Of (with_found before o) ≡ Of before
  found-same before None is = refl
  found-same before (Some s) is = other-same before s (ap (λ (k : MentionKind). is_sorted w k s.name s.other) is ∙ quiet.pattern s.name s.other)

  strings-same : (before : List Said) (p : Phrase) → Of (with_strings before p) ≡ Of before
  strings-same before (phrase.Node label a b) =
      found-same (with_strings (with_strings before a) b) (own_string label a b) (own-said label a b) ∙ strings-same (with_strings before a) b ∙ strings-same before a
  strings-same before _ = refl

  given-same : (before : List Said) (p : Phrase) → Of (with_given before p) ≡ Of before
  given-same before (phrase.Node phrase.Bound name value) = strings-same before value
  given-same before _ = refl

  call-same : (owner : List ℕ) (before : List Said) (p : Phrase) → Of (with_call owner before p) ≡ Of before
  call-same owner before (phrase.Named place name) = other-same before (said kind.Call place name owner) (quiet.call name owner)
  call-same owner before _ = refl

  object-other : (owner name maker : List ℕ) → is_sorted w (object_kind owner) name maker ≡ false
  object-other owner name maker = by-init (is_init owner)
    where
      by-init : (b : Bool) → is_sorted w (if b then kind.Object else kind.NoObject) name maker ≡ false
      by-init true = quiet.object name maker
      by-init false = quiet.no_object name maker

  made-same : (owner : List ℕ) (place : ℕ) (name : List ℕ) (before : List Said) (p : Phrase) → Of (made owner place name before p) ≡ Of before
  made-same owner place name before (phrase.Node phrase.Called (phrase.Named q maker) arguments) =
      let one = said (object_kind owner) place name maker in
      strings-same (before ++ one ∷ []) arguments ∙ other-same before one (object-other owner name maker)
  made-same owner place name before _ = refl

  object-same : (owner : List ℕ) (before : List Said) (p : Phrase) → Of (with_object owner before p) ≡ Of before
  object-same owner before (phrase.Node phrase.Bound (phrase.Named place name) maker) = made-same owner place name before maker
  object-same owner before _ = refl

  answer-same : (before : List Said) (p : Phrase) → Of (with_answer before p) ≡ Of before
  answer-same before (phrase.Node phrase.Called word arguments) = strings-same before arguments
  answer-same before _ = refl

  mentions-same : (owner : List ℕ) (before : List Said) (p : Phrase) → Of (with_mentions owner before p) ≡ Of before
  mentions-same owner before (phrase.Node phrase.More a b) = mentions-same owner (with_mentions owner before a) b ∙ mentions-same owner before a
  mentions-same owner before (phrase.Node phrase.ElseIf a b) = mentions-same owner (with_mentions owner before a) b ∙ mentions-same owner before a
  mentions-same owner before (phrase.Node phrase.Else a b) = mentions-same owner (with_mentions owner before a) b ∙ mentions-same owner before a
  mentions-same owner before (phrase.Node phrase.If a b) = mentions-same owner before b
  mentions-same owner before (phrase.Node phrase.Branch condition block) = mentions-same owner (with_strings before condition) block ∙ strings-same before condition
  mentions-same owner before (phrase.Node phrase.Set a b) = given-same before b
  mentions-same owner before (phrase.Node phrase.Append a b) = given-same before b
  mentions-same owner before (phrase.Node phrase.Jump a b) = call-same owner before b
  mentions-same owner before (phrase.Node phrase.New a b) = object-same owner before b
  mentions-same owner before (phrase.Node phrase.Return a b) = answer-same before b
  mentions-same owner before (phrase.Node phrase.Called a b) = strings-same before (phrase.Node phrase.Called a b)
  mentions-same owner before _ = refl

  item-heads : (before : List Said) (i : Item) → Of (with_item before i) ≡ Of before ++ Of (head_of i ∷ [])
  item-heads before (item.Import place name) = filter-append (is_of_sort w) before (said_of kind.Import name ∷ [])
  item-heads before (item.Backend place name attributes) = filter-append (is_of_sort w) before (said_of kind.Backend name ∷ [])
  item-heads before (item.NoBackend place name) = filter-append (is_of_sort w) before (said_of kind.Backend name ∷ [])
  item-heads before (item.Probe place name attributes) = filter-append (is_of_sort w) before (said_of kind.Probe name ∷ [])
  item-heads before (item.Acl place name entries) = filter-append (is_of_sort w) before (said_of kind.Acl name ∷ [])
  item-heads before (item.Sub place name block) =
      mentions-same name.text (before ++ said_of kind.Subroutine name ∷ []) block ∙ filter-append (is_of_sort w) before (said_of kind.Subroutine name ∷ [])

  items-heads : (before : List Said) (items : List Item) → Of (with_items before items) ≡ Of before ++ Of (map head_of items)
  items-heads before [] = sym (append-nil (Of before))
  items-heads before (i ∷ is) =
      items-heads (with_item before i) is
      ∙ ap (λ (l : List Said). l ++ Of (map head_of is)) (item-heads before i)
      ∙ append_assoc (Of before) (Of (head_of i ∷ [])) (Of (map head_of is))
      ∙ ap (λ (l : List Said). Of before ++ l) (sym (filter-append (is_of_sort w) (head_of i ∷ []) (map head_of is)))

  pub heads-alone : (items : List Item) → Of (says items) ≡ Of (map head_of items)
  heads-alone items = items-heads [] items

-- as many backends, ACLs and directors as are said
abbrev heads_as : NameSort → List Item → List (List ℕ)
heads_as w items = names_of (filter (is_of_sort w) (map head_of items))

next : {m n : ℕ} → m ≡ n → suc m ≡ suc n
next e = ap (λ k. suc k) e

same-backends : (items : List Item) → length (heads_as sort.Backend items) ≡ length (backends_of items)
same-backends [] = refl
same-backends (item.Import place name ∷ is) = same-backends is
same-backends (item.Backend place name attributes ∷ is) = next (same-backends is)
same-backends (item.NoBackend place name ∷ is) = next (same-backends is)
same-backends (item.Probe place name attributes ∷ is) = same-backends is
same-backends (item.Acl place name entries ∷ is) = same-backends is
same-backends (item.Sub place name block ∷ is) = same-backends is

same-acls : (items : List Item) → length (heads_as sort.Acl items) ≡ length (acls_of items)
same-acls [] = refl
same-acls (item.Import place name ∷ is) = same-acls is
same-acls (item.Backend place name attributes ∷ is) = same-acls is
same-acls (item.NoBackend place name ∷ is) = same-acls is
same-acls (item.Probe place name attributes ∷ is) = same-acls is
same-acls (item.Acl place name entries ∷ is) = next (same-acls is)
same-acls (item.Sub place name block ∷ is) = same-acls is

same-directors : (all : List Said) → length (names_as sort.Director all) ≡ length (directors_of all)
same-directors [] = refl
same-directors (s ∷ more) = by-kind s.kind (same-directors more)
  where
    sorted : List Said
    sorted = filter (is_of_sort sort.Director) more

    by-maker : (o : Option DirectorKind) → length (names_of sorted) ≡ length (directors_of more)
        → length (names_of (if is_some o then s ∷ sorted else sorted)) ≡ length (cons_option (option_map (director s.name) o) (directors_of more))
    by-maker (Some d) e = next e
    by-maker None e = e

    by-kind : (k : MentionKind) → length (names_of sorted) ≡ length (directors_of more)
        → length (names_of (if is_sorted sort.Director k s.name s.other then s ∷ sorted else sorted)) ≡ length (cons_option (director_by k s.name s.other) (directors_of more))
    by-kind kind.Object e = by-maker (maker_named s.other) e
    by-kind kind.Import e = e
    by-kind kind.Backend e = e
    by-kind kind.Probe e = e
    by-kind kind.Acl e = e
    by-kind kind.Subroutine e = e
    by-kind kind.NoObject e = e
    by-kind kind.Call e = e
    by-kind kind.Pattern e = e

-- the names of the text's own subroutines, and their bodies
abbrev own_name : Item → List (List ℕ) → List (List ℕ)
own_name (item.Sub place name block) more = if is_reserved name.text then more else name.text ∷ more
own_name _ more = more

abbrev own_names : List Item → List (List ℕ)
own_names [] = []
own_names (i ∷ is) = own_name i (own_names is)

same-own : (items : List Item) → heads_as sort.Subroutine items ≡ own_names items
same-own [] = refl
same-own (item.Import place name ∷ is) = same-own is
same-own (item.Backend place name attributes ∷ is) = same-own is
same-own (item.NoBackend place name ∷ is) = same-own is
same-own (item.Probe place name attributes ∷ is) = same-own is
same-own (item.Acl place name entries ∷ is) = same-own is
same-own (item.Sub place name block ∷ is) = by-name (is_reserved name.text) (same-own is)
  where
    by-name : (b : Bool) → heads_as sort.Subroutine is ≡ own_names is
        → names_of (if not b then said_of kind.Subroutine name ∷ filter (is_of_sort sort.Subroutine) (map head_of is) else filter (is_of_sort sort.Subroutine) (map head_of is))
        ≡ (if b then own_names is else name.text ∷ own_names is)
    by-name true e = e
    by-name false e = ap (λ (l : List (List ℕ)). name.text ∷ l) e

-- of a whole text
pub record AllThere (items : List Item) (stored : List Stored) : Type 0 where
  pub backends : (name : List ℕ) (k : ℕ) → symbol_named (known_of (says items) stored) name ≡ Some (symbol.Backend k) → (b : Backend) × (slice_get (backends_of items) k ≡ Some b)
  pub acls : (name : List ℕ) (k : ℕ) → symbol_named (known_of (says items) stored) name ≡ Some (symbol.Acl k) → (l : List AclEntry) × (slice_get (acls_of items) k ≡ Some l)
  pub directors : (name : List ℕ) (d : DirectorKind) (k : ℕ) → symbol_named (known_of (says items) stored) name ≡ Some (symbol.Director d k)
      → (x : Director) × (slice_get (directors_of (says items)) k ≡ Some x)
  pub own : (name : List ℕ) (k : ℕ) → symbol_named (known_of (says items) stored) name ≡ Some (symbol.Subroutine k) → slice_get (own_names items) k ≡ Some name

-- what is said of a sort stands at its number
numbered-at : (w : NameSort) (all : List Said) (k : ℕ) (name : List ℕ) (x : Symbol) (h : SaidAs all (sorts_of all) name x)
    → (is_sorted w h.said.kind h.said.name h.said.other ≡ true) × (k ≡ place_among (names_as w all) h.said.name) → slice_get (names_as w all) k ≡ Some name
numbered-at w all k name x h p =
    ap (slice_get (names_as w all)) p.1 ∙ number-stands w all h.number h.said h.here p.0 ∙ ap (λ (n : List ℕ). Some n) (sym h.named)

pub items-there : (items : List Item) (stored : List Stored) → AllThere items stored
items-there items stored =
    let all : List Said = says items in
    let sorts : Sorts = sorts_of all in
    record {
      backends = λ name k e.
          let h = symbol-said all stored name (symbol.Backend k) e in
          let n = numbered-at sort.Backend all k name (symbol.Backend k) h (said-sorted all sorts name (symbol.Backend k) h) in
          at-row (names_as sort.Backend all) (backends_of items) k name
          (ap (λ (l : List Said). length (names_of l)) (heads-alone sort.Backend backends-quiet items) ∙ same-backends items) n;
      acls = λ name k e.
          let h = symbol-said all stored name (symbol.Acl k) e in
          let n = numbered-at sort.Acl all k name (symbol.Acl k) h (said-sorted all sorts name (symbol.Acl k) h) in
          at-row (names_as sort.Acl all) (acls_of items) k name
          (ap (λ (l : List Said). length (names_of l)) (heads-alone sort.Acl acls-quiet items) ∙ same-acls items) n;
      directors = λ name d k e.
          let h = symbol-said all stored name (symbol.Director d k) e in
          let n = numbered-at sort.Director all k name (symbol.Director d k) h (said-sorted all sorts name (symbol.Director d k) h) in
          at-row (names_as sort.Director all) (directors_of all) k name (same-directors all) n;
      own = λ name k e.
          let h = symbol-said all stored name (symbol.Subroutine k) e in
          let n = numbered-at sort.Subroutine all k name (symbol.Subroutine k) h (said-sorted all sorts name (symbol.Subroutine k) h) in
          ap (λ (l : List (List ℕ)). slice_get l k) (sym (ap names_of (heads-alone sort.Subroutine subroutines-quiet items) ∙ same-own items)) ∙ n;
    }

-- a subroutine of the text's own, by its number
pub record OwnAt (items : List Item) (k : ℕ) (text : List ℕ) : Type 0 where
  pub place : ℕ
  pub name : Name
  pub block : Phrase
  pub declared : Contains items (item.Sub place name block)
  pub named : name.text ≡ text
  pub custom : is_reserved name.text ≡ false
  pub body : slice_get (own_bodies items) k ≡ Some block

later-own : (i : Item) (items : List Item) (k j : ℕ) (text : List ℕ) → ((block : Phrase) → slice_get (own_bodies items) k ≡ Some block → slice_get (own_bodies (i ∷ items)) j ≡ Some block)
    → OwnAt items k text → OwnAt (i ∷ items) j text
later-own i items k j text f h =
    let c = h.declared in
    record {
      place = h.place;
      name = h.name;
      block = h.block;
      declared = (suc c.0, omega (arith, c.1), c.2);
      named = h.named;
      custom = h.custom;
      body = f h.block h.body;
    }

pub own-at : (items : List Item) (k : ℕ) (text : List ℕ) → slice_get (own_names items) k ≡ Some text → OwnAt items k text
own-at [] k text e = absurd (none-some text e)
own-at (item.Import place name ∷ is) k text e = later-own (item.Import place name) is k k text (λ b h. h) (own-at is k text e)
own-at (item.Backend place name attributes ∷ is) k text e = later-own (item.Backend place name attributes) is k k text (λ b h. h) (own-at is k text e)
own-at (item.NoBackend place name ∷ is) k text e = later-own (item.NoBackend place name) is k k text (λ b h. h) (own-at is k text e)
own-at (item.Probe place name attributes ∷ is) k text e = later-own (item.Probe place name attributes) is k k text (λ b h. h) (own-at is k text e)
own-at (item.Acl place name entries ∷ is) k text e = later-own (item.Acl place name entries) is k k text (λ b h. h) (own-at is k text e)
own-at (item.Sub place name block ∷ is) k text e = by-name (is_reserved name.text) refl k (own-at is) e
  where
    Bodies : Bool → List Phrase
    Bodies b = if b then own_bodies is else block ∷ own_bodies is

    by-name : (b : Bool) → is_reserved name.text ≡ b → (k : ℕ) → ((j : ℕ) (t : List ℕ) → slice_get (own_names is) j ≡ Some t → OwnAt is j t)
        → slice_get (if b then own_names is else name.text ∷ own_names is) k ≡ Some text → OwnAt (item.Sub place name block ∷ is) k text
    by-name true f k more e =
        later-own (item.Sub place name block) is k k text (λ c h. subst (λ (b : Bool). slice_get (if b then own_bodies is else block ∷ own_bodies is) k ≡ Some c) (sym f) h) (more k text e)
    by-name false f zero more e =
        record {
          place = place;
          name = name;
          block = block;
          declared = (zero, omega arith, refl);
          named = same_Some name.text text e;
          custom = f;
          body = subst (λ (b : Bool). slice_get (if b then own_bodies is else block ∷ own_bodies is) zero ≡ Some block) (sym f) refl;
        }
    by-name false f (suc k) more e =
        later-own (item.Sub place name block) is k (suc k) text
        (λ c h. subst (λ (b : Bool). slice_get (if b then own_bodies is else block ∷ own_bodies is) (suc k) ≡ Some c) (sym f) h) (more k text e)
