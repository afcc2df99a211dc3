-- A run of a sound text isn't stuck.
use Rattle.std.proofs.Common.{◌≡◌, inl, inr, ℕ, zero, suc, ◌+◌, ◌<◌, ◌==◌, Bool, true, false, length, map, List, [], ◌∷◌, refl, sym, ap, subst, Option, Some, None, slice_get, slice_index_or, if◌then◌else◌, arith}
use Rattle.std.specs.Prelude.{Contains}
use Rattle.std.proofs.lemmas.List.Elements.{Contains-append_cases}
use Rattle.std.proofs.lemmas.Option.{none-some, same_Some}
use Rattle.std.proofs.Math.Logic.{∥∥₁_elim}
use Rattle.vcl_tree.specs.Grammar as grammar
use Rattle.vcl_tree.specs.Grammar.{IsItem, IsItems, IsFile}
use Rattle.vcl_tree.specs.Phrase as phrase
use Rattle.vcl_tree.specs.Phrase.{Phrase, Node, Nothing, At, Named, More, Bound, Jump, If, ElseIf, Else, chain}
use Rattle.vcl_tree.specs.StatementGrammar.{IsBlock}
use Rattle.vcl_tree.specs.TreeView.{item_of, items_of}
use Rattle.vcl_tree.specs.declared.error.Fault.{Fault}
use Rattle.vcl_tree.specs.declared.item.Item.{Item}
use Rattle.vcl_tree.specs.declared.item.Item.TheVariants as item
use Rattle.vcl_tree.specs.declared.item.Tree.{Tree}
use Rattle.vcl_tree.specs.declared.item.Version.{Version}
use Rattle.vcl_tree.specs.declared.name.Name.{Name}
use Rattle.vcl_tree.specs.declared.token.Token.{Token}
use Rattle.vcl_language.specs.Names.{subroutine_named}
use Rattle.vcl_language.specs.Scopes.{has, subroutine_number}
use Rattle.vcl_language.specs.declared.scope.Scope.TheVariants as scope
use Rattle.vcl_language.specs.declared.scope.Subroutine.{Subroutine}
use Rattle.vcl_language.specs.declared.scope.Subroutine.TheVariants as subroutine
use Rattle.vmod_host.specs.declared.signature.Stored.{Stored}
use Rattle.vcl_context.specs.declared.context.Context.{Context}
use Rattle.vcl_check.specs.declared.form.Use.TheVariants as use'
use Rattle.vcl_check.specs.Folded.{AnyOf}
use Rattle.vcl_symbols.specs.Known.{Known}
use Rattle.vcl_check.specs.Known.{meaning_of}
use Rattle.vcl_check.specs.Reaching.{numbered_names}
use Rattle.vcl_check.specs.Roles.{Block}
use Rattle.vcl_check.specs.Rules.{is_known}
use Rattle.vcl_check.specs.Sentences as sentences
use Rattle.vcl_check.specs.Sentences.{roots_in}
use Rattle.vcl_check.specs.Texts.{ItemFault, AnyFault, IsSound, calls_in, says}
use Rattle.vcl_code.specs.Names.{subroutine_of}
use Rattle.vcl_context.specs.declared.turn.Answer.{Answer}
use Rattle.vcl_operands.specs.Outs.{IsSure}
use Rattle.vcl_eval.specs.States.{state, Doing, most_statements}
use Rattle.vcl_meaning.specs.Meaning.{Text, text_of, bodies_of, body_of, is_body_of, scene_in, block_of, body_on, called_within, called, bodies_done, run_of}
use Rattle.vcl_store.specs.Joined.{IsJoined}
use Rattle.vcl_soundness.proofs.Clean.{Clean}
use Rattle.vcl_soundness.proofs.Made.{AllFit, all-made}
use Rattle.vcl_soundness.proofs.Calls.{subroutine-named}
use Rattle.vcl_soundness.proofs.Rows.{false-true}
use Rattle.vcl_soundness.specs.Laws.{AreMeant}
use Rattle.vcl_soundness.proofs.Lists.{AllThere, items-there, OwnAt, own-at}
use Rattle.vcl_soundness.proofs.Names.{Stands}
use Rattle.vcl_soundness.proofs.Reached.{Held, built-held, called-held, held-root, built-root}
use Rattle.vcl_soundness.proofs.Said.{IsCalled, block-calls}
use Rattle.vcl_soundness.proofs.Holds.{Holds, holds-sure, Done, Goes, bind-holds}
use Rattle.vcl_soundness.proofs.Sets.{sure-set}
use Rattle.vcl_soundness.proofs.Statements.{AllCall, Leads, block-goes}

-- By the grammar each subroutine of a tree has a block.
abbrev IsRead : Phrase → Type 0
IsRead block = (tokens : List Token) × (rest : List Token) × IsBlock block tokens rest

abbrev AreRead : List Item → Type 0
AreRead items = (place : ℕ) (name : Name) (block : Phrase) → Contains items (item.Sub place name block) → IsRead block

sub-read : {p q : ℕ} {t : List ℕ} {block : Phrase} {ts rest : List Token} → IsItem (Node phrase.Sub (At p) (Node Bound (Named q t) block)) ts rest → IsRead block
sub-read (grammar.sub {ts = ts} {rest = rest} n h) = (ts, rest, h)

abbrev IsLast : Phrase → Phrase → List Token → List Token → Type 0
IsLast front e ts rest = (m : List Token) × IsItems front ts m × IsItem e m rest

last-item : {front e : Phrase} {ts rest : List Token} → IsItems (Node More front e) ts rest → IsLast front e ts rest
last-item (grammar.more_items {m = m} h k) = (m, h, k)

-- what stands before the items, and the items
abbrev FrontRead : List Item → Phrase → List Token → Type 0
FrontRead items front ts = AreRead items × ((m : List Token) × IsItems front ts m)

first-read : (i : Item) (ts rest : List Token) → IsItem (item_of i) ts rest → (place : ℕ) (name : Name) (block : Phrase) → i ≡ item.Sub place name block → IsRead block
first-read i ts rest h place name block e =
    let P : Item → Type 0 = λ x. IsItem (item_of x) ts rest in
    sub-read (subst P e h)

either-read : (i : Item) (is : List Item) (front : Phrase) (ts rest : List Token) → IsLast front (item_of i) ts rest → AreRead is → (place : ℕ) (name : Name) (block : Phrase) (k : ℕ)
    → k < length (i ∷ is) → slice_index_or (i ∷ is) k (item.Sub place name block) ≡ item.Sub place name block → IsRead block
either-read i is front ts rest last more place name block zero low e = first-read i last.0 rest last.2 place name block e
either-read i is front ts rest last more place name block (suc k) low e = more place name block (k, omega (arith, low), e)

items-read : (items : List Item) (front : Phrase) (ts rest : List Token) → IsItems (chain More front (map item_of items)) ts rest → FrontRead items front ts
items-read [] front ts rest h = (λ place name block c. absurd (omega (arith, c.1)), (rest, h))
items-read (i ∷ is) front ts rest h =
    let more = items-read is (Node More front (item_of i)) ts rest h in
    let last = last-item more.1.1 in
    (λ place name block c. either-read i is front ts more.1.0 last more.0 place name block c.0 c.1 c.2, (last.0, last.1))

file-items : {v : Version} {l : Phrase} {tokens : List Token} → IsFile v l tokens → (ts : List Token) × IsItems l ts []
file-items (grammar.file {ts = ts} e h) = (ts, h)

file-read : (v : Version) (items : List Item) (tokens : List Token) → IsFile v (items_of items) tokens → AreRead items
file-read v items tokens h = let x = file-items h in (items-read items Nothing x.0 [] x.1).0

joined-read : (text : List ℕ) (joined : Tree) → IsJoined text joined → AreRead joined.items
joined-read text joined j place name block c =
    let P : List Item → Type 0 = λ l. Contains l (item.Sub place name block) in
    elim (Contains-append_cases j.own.items j.built_in.items (item.Sub place name block) (subst P j.items c)) [
      | inl d ↦ file-read j.own.version j.own.items j.is_own.0 j.is_own.2.0 place name block d
      | inr d ↦ file-read j.built_in.version j.built_in.items j.is_built_in.0 j.is_built_in.2.0 place name block d
    ]

-- A block of a sound text has no fault.
any-contained : {A : Type 0} (P : ℕ → A → Fault → Type 0) (f : Fault) (xs : List A) (i k : ℕ) (x : A) → i < length xs → slice_index_or xs i x ≡ x → ((j : ℕ) → P j x f) → AnyOf P k xs f
any-contained P f [] i k x l e h = absurd (omega arith)
any-contained P f (y ∷ ys) zero k x l e h = inl (subst (λ z. P k z f) (sym e) (h k))
any-contained P f (y ∷ ys) (suc i) k x l e h = inr (any-contained P f ys i (k + 1) x (omega arith) e h)

block-clean : (items : List Item) (stored : List Stored) (s : IsSound items stored) (place : ℕ) (name : Name) (block : Phrase) → Contains items (item.Sub place name block)
    → Clean (sentences.known_in items stored) (roots_in items stored s.faultless.rows name.text) Block block
block-clean items stored s place name block c f h =
    let K : Known = sentences.known_in items stored in
    let first : (f : Fault) → AnyFault items stored s.faultless.rows s.faultless.places f → ⊥ = s.faultless.first in
    first f (inr (inr (inl (any-contained (ItemFault K (numbered_names K.names) s.faultless.rows) f items c.0 0 (item.Sub place name block) c.1 c.2 (λ j. h)))))

all-fit : (text : List ℕ) (joined : Tree) (stored : List Stored) → IsJoined text joined → IsSound joined.items stored → AllFit (sentences.known_in joined.items stored) joined.items
all-fit text joined stored j s place name block c =
    let r = joined-read text joined j place name block c in
    record {
      tokens = r.0;
      rest = r.1;
      reads = r.2;
      roots = roots_in joined.items stored s.faultless.rows name.text;
      clean = block-clean joined.items stored s place name block c;
    }

-- calls with what is known of each
all-call : (P Q : List ℕ → Type 0) → ((name : List ℕ) → P name → Q name) → (e : Phrase) → AllCall P e → AllCall Q e
all-call P Q f (Node More a b) h = (all-call P Q f a h.0, all-call P Q f b h.1)
all-call P Q f (Node ElseIf a b) h = (all-call P Q f a h.0, all-call P Q f b h.1)
all-call P Q f (Node Else a b) h = (all-call P Q f a h.0, all-call P Q f b h.1)
all-call P Q f (Node If a b) h = all-call P Q f b h
all-call P Q f (Node phrase.Branch a b) h = all-call P Q f b h
all-call P Q f (Node Jump a (Named place name)) h = f name h
all-call P Q f _ h = tt

-- built-in subroutines by their numbers
same-number : (a b : Subroutine) → (subroutine_number a == subroutine_number b) ≡ true → a ≡ b
same-number subroutine.Recv subroutine.Recv e = refl
same-number subroutine.Hash subroutine.Hash e = refl
same-number subroutine.Purge subroutine.Purge e = refl
same-number subroutine.Hit subroutine.Hit e = refl
same-number subroutine.Miss subroutine.Miss e = refl
same-number subroutine.Pass subroutine.Pass e = refl
same-number subroutine.Deliver subroutine.Deliver e = refl
same-number subroutine.Synth subroutine.Synth e = refl
same-number subroutine.BackendFetch subroutine.BackendFetch e = refl
same-number subroutine.BackendResponse subroutine.BackendResponse e = refl
same-number subroutine.BackendError subroutine.BackendError e = refl
same-number subroutine.Init subroutine.Init e = refl
same-number subroutine.Fini subroutine.Fini e = refl
same-number _ _ e = absurd (false-true e)

body-named : (root : Subroutine) (o : Option Subroutine) → is_body_of root o ≡ true → o ≡ Some root
body-named root (Some named) h = ap Some (same-number named root h)
body-named root None h = absurd (false-true h)

-- the bodies of a built-in subroutine
pub record BuiltAt (items : List Item) (root : Subroutine) (block : Phrase) : Type 0 where
  pub place : ℕ
  pub name : Name
  pub declared : Contains items (item.Sub place name block)
  pub named : subroutine_named name.text ≡ Some root

abbrev AllBuilt : List Item → Subroutine → List Phrase → Type 0
AllBuilt items root [] = Unit {0}
AllBuilt items root (block ∷ more) = BuiltAt items root block × AllBuilt items root more

abbrev AllIn : List Item → List Item → Type 0
AllIn items all = (i : Item) → Contains items i → Contains all i

bodies-built : (all : List Item) (root : Subroutine) (items : List Item) → AllIn items all → AllBuilt all root (bodies_of root items)
bodies-built all root [] h = tt
bodies-built all root (i ∷ is) h = by-item i (bodies-built all root is later) (h i (zero, omega arith, refl))
  where
    later : AllIn is all
    later x c = h x (suc c.0, omega (arith, c.1), c.2)

    by-item : (i : Item) → AllBuilt all root (bodies_of root is) → Contains all i → AllBuilt all root (body_of root i (bodies_of root is))
    by-item (item.Sub place name block) rest c = by-name (is_body_of root (subroutine_named name.text)) refl
      where
        by-name : (b : Bool) → is_body_of root (subroutine_named name.text) ≡ b → AllBuilt all root (if b then block ∷ bodies_of root is else bodies_of root is)
        by-name true e = (record { place = place; name = name; declared = c; named = body-named root (subroutine_named name.text) e }, rest)
        by-name false e = rest
    by-item (item.Import place name) rest c = rest
    by-item (item.Backend place name attributes) rest c = rest
    by-item (item.NoBackend place name) rest c = rest
    by-item (item.Probe place name attributes) rest c = rest
    by-item (item.Acl place name entries) rest c = rest

module _ (text : List ℕ) (joined : Tree) (stored : List Stored) (j : IsJoined text joined) (sound : IsSound joined.items stored) (meant' : AreMeant stored) (root : Subroutine)
    (traffic : has scope.Init root ≡ false) where
  items : List Item
  items = joined.items

  abbrev K : Known
  K = sentences.known_in joined.items stored

  abbrev N : List (List ℕ)
  N = numbered_names K.names

  abbrev T : Text
  T = text_of joined.items stored

  abbrev Roots : List ℕ → List Subroutine
  Roots name = roots_in joined.items stored sound.faultless.rows name

  fit : AllFit K joined.items
  fit = all-fit text joined stored j sound

  -- the names stand for what is there
  stands : (c : Context) → Stands T.known (scene_in T c)
  stands c =
      let there : AllThere joined.items stored = items-there joined.items stored in
      record {
        made = all-made K joined.items stored fit;
        stored = refl;
        meant = meant';
        backends = there.backends;
        acls = there.acls;
        directors = there.directors;
      }

  -- a subroutine of the text's own that is reached
  record Reaching (k : ℕ) : Type 0 where
    own_text : List ℕ
    own : OwnAt joined.items k own_text
    held : Held (calls_in joined.items stored) N root own_text

  called-reaching : (owner name : List ℕ) → Held (calls_in joined.items stored) N root owner → IsCalled (says joined.items) owner name → is_known (meaning_of K use'.Subroutine name) ≡ true
      → (k : ℕ) → subroutine_of T.known name ≡ Some k → Reaching k
  called-reaching owner name h c is k e =
      let there : AllThere joined.items stored = items-there joined.items stored in
      let named = subroutine-named K name k e in
      record {
        own_text = name;
        own = own-at joined.items k name (there.own name k named);
        held = called-held K (says joined.items) root owner name h c.0 c.1 k named;
      }

  -- a block that is reached
  reached-goes : (calls : ℕ → Doing) → ((k : ℕ) → Reaching k → Goes (calls k)) → (place : ℕ) (name : Name) (block : Phrase)
      → Contains joined.items (item.Sub place name block) → Contains (Roots name.text) root → Held (calls_in joined.items stored) N root name.text → Goes (block_of T calls block)
  reached-goes calls goes place name block c reached held =
      block-goes T stands (Roots name.text) root reached traffic calls (fit place name block c).reads (block-clean joined.items stored sound place name block c)
      (all-call (IsCalled (says joined.items) name.text) (Leads T stands (Roots name.text) root reached traffic calls)
      (λ own h is k e. goes k (called-reaching name.text own held h is k e)) block (block-calls joined.items place name block c))

  body-goes : (calls : ℕ → Doing) (o : Option Phrase) (block : Phrase) → o ≡ Some block → Goes (block_of T calls block) → Goes (body_on (block_of T calls) o)
  body-goes calls (Some b) block e h s = subst (λ (x : Phrase). Holds Done (block_of T calls x s)) (sym (same_Some b block e)) (h s)
  body-goes calls None block e h s = absurd (none-some block e)

  within-goes : (depth k : ℕ) → Reaching k → Goes (called_within depth T k)
  unfolding called_within
  within-goes zero k r s = tt
  within-goes (suc depth) k r s =
      let own = r.own in
      let calls : ℕ → Doing = called_within depth T in
      let held : Held (calls_in joined.items stored) N root own.name.text = subst (λ (x : List ℕ). Held (calls_in joined.items stored) N root x) (sym own.named) r.held in
      let reached = held-root (calls_in joined.items stored) N sound.faultless.rows root own.name.text sound.faultless.thirteen sound.faultless.reached own.custom held in
      body-goes calls (slice_get T.own k) own.block own.body
      (reached-goes calls (λ i x. within-goes depth i x) own.place own.name own.block own.declared reached held) s

  called-goes : (k : ℕ) → Reaching k → Goes (called T k)
  unfolding called
  called-goes k r s = within-goes (suc most_statements) k r s

  bodies-go : (bodies : List Phrase) → AllBuilt joined.items root bodies → Goes (bodies_done T bodies)
  bodies-go [] h s = tt
  bodies-go (block ∷ more) h s =
      let b = h.0 in
      let calls : ℕ → Doing = called T in
      let reached = built-root N sound.faultless.rows root b.name.text b.named in
      let held = built-held (calls_in joined.items stored) K.names root b.name.text b.named in
      let first = reached-goes calls called-goes b.place b.name block b.declared reached held in
      bind-holds Done Done (block_of T calls block s) (λ done. bodies_done T more) (first s) (λ done p z. bodies-go more h.1 z)

  pub run-sure : (context : Context) (answers : List Answer) → IsSure (run_of joined.items stored root context answers)
  unfolding run_of
  run-sure context answers =
      let s = state context context.statements answers in
      holds-sure Done (bodies_done T (bodies_of root joined.items) s) (bodies-go (bodies_of root joined.items) (bodies-built joined.items root joined.items (λ i c. c)) s)

-- where it is only known that the text is sound
pub run-told : (text : List ℕ) (joined : Tree) (stored : List Stored) → ∥ IsJoined text joined ∥₁ → ∥ IsSound joined.items stored ∥₁ → AreMeant stored → (root : Subroutine)
    → has scope.Init root ≡ false → (context : Context) (answers : List Answer) → IsSure (run_of joined.items stored root context answers)
run-told text joined stored j sound meant' root traffic context answers =
    let one = sure-set (run_of joined.items stored root context answers) in
    ∥∥₁_elim j one (λ x. ∥∥₁_elim sound one (λ y. run-sure text joined stored x y meant' root traffic context answers))
