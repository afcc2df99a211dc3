-- Each pattern of a whole text in numbers is a string that the text says must be one.
use Rattle.std.proofs.Common.{◌≡◌, inl, inr, ℕ, Bool, true, false, List, [], ◌∷◌, ◌++◌, zero, suc, slice_get, get_or, refl, sym, ap, ◌∙◌, subst, arith, Option, Some, None}
use Rattle.std.proofs.lemmas.List.Elements.{Contains-append_left, Contains-get_or}
use Rattle.std.proofs.lemmas.Option.{slice_get-get_or}
use Rattle.std.specs.List.{All, cons_option}
use Rattle.std.specs.Prelude.{Contains}
use Rattle.vcl_tree.specs.Phrase as phrase
use Rattle.vcl_tree.specs.Phrase.{Phrase, Node, Named, More, Bound, Called, Set, Append, Unset, Jump, New, Return, If, ElseIf, Else}
use Rattle.vcl_tree.specs.declared.item.Item.{Item}
use Rattle.vcl_tree.specs.declared.item.Item.TheVariants as item
use Rattle.vcl_language.specs.Names.{is_reserved, subroutine_named}
use Rattle.vcl_language.specs.declared.scope.Subroutine.{Subroutine}
use Rattle.vmod_host.specs.declared.signature.Stored.{Stored}
use Rattle.vcl_check.specs.declared.mentions.MentionKind.{MentionKind}
use Rattle.vcl_check.specs.declared.mentions.MentionKind.TheVariants as kind
use Rattle.vcl_check.specs.Texts.{says, pattern_if, pattern_of, pattern_texts}
use Rattle.vcl_check.specs.Mentions.{Said, said, said_of, called_string, with_found, with_strings, with_given, with_call, object_kind, made, with_object, with_answer, with_mentions, with_item, with_items}
use Rattle.vmod_host.specs.declared.signature.JarUse.TheVariants as jar
use Rattle.vcl_code.specs.declared.arena.Arena.{Arena}
use Rattle.vcl_code.specs.declared.callees.Builtin.TheVariants as builtin
use Rattle.vcl_code.specs.declared.names.Callee.{Callee}
use Rattle.vcl_code.specs.declared.names.Callee.TheVariants as callee
use Rattle.vcl_code.specs.declared.node.Action.{Action}
use Rattle.vcl_code.specs.declared.node.Action.TheVariants as action
use Rattle.vcl_code.specs.declared.node.Arguments.{Arguments}
use Rattle.vcl_code.specs.declared.node.Arguments.TheVariants.{Zero, One, Two, Three, More as TooMany}
use Rattle.vcl_code.specs.declared.node.Arm.{Arm}
use Rattle.vcl_code.specs.declared.node.Choice.{Choice}
use Rattle.vcl_code.specs.declared.node.Choice.TheVariants as choice
use Rattle.vcl_code.specs.declared.node.ReturnWord.{ReturnWord}
use Rattle.vcl_code.specs.Arenas.{Numbered, empty}
use Rattle.vcl_symbols.specs.Known.{Known}
use Rattle.vcl_code.specs.Names.{Target, Plain, Field, NoTarget, target_of, subroutine_of, word_of, callee_of}
use Rattle.vcl_code.specs.Expressions.{numbered, numbered_arguments, second_string, Given, given}
use Rattle.vcl_code.specs.Statements.{Acts, with_chain, chained, with_arms, set_acted, append_acted, unset_acted, call_acted, return_acted, with_one, performed, action_of, arms_of, arm_of, actions_of, numbered_block}
use Rattle.vcl_check.specs.Sentences.{known_in}
use Rattle.vcl_program.specs.Codes.{own_of, code_of}
use Rattle.vcl_program.specs.Blocks.{Heads, heads, no_bodies, own_block, with_own, all_own, body, with_body, all_bodies}
use Rattle.vcl_program.proofs.Patterns.{IsSaid, Comes, strings-stay, said-later, comes-through, same-contains, plain-comes, call-comes, expression-comes, arguments-come}

-- what is said stays
one-stays : (before : List Said) (s x : Said) → Contains before x → Contains (before ++ s ∷ []) x
one-stays before s x h = Contains-append_left before (s ∷ []) x h

given-stays : (before : List Said) (e : Phrase) (x : Said) → Contains before x → Contains (with_given before e) x
given-stays before (Node Bound name value) x h = strings-stay before value x h
given-stays before _ x h = h

call-stays : (owner : List ℕ) (before : List Said) (e : Phrase) (x : Said) → Contains before x → Contains (with_call owner before e) x
call-stays owner before (Named place name) x h = one-stays before (said kind.Call place name owner) x h
call-stays owner before _ x h = h

made-stays : (owner : List ℕ) (place : ℕ) (name : List ℕ) (before : List Said) (e : Phrase) (x : Said) → Contains before x → Contains (made owner place name before e) x
made-stays owner place name before (Node Called (Named q maker) arguments) x h =
    let s = said (object_kind owner) place name maker in strings-stay (before ++ s ∷ []) arguments x (one-stays before s x h)
made-stays owner place name before _ x h = h

object-stays : (owner : List ℕ) (before : List Said) (e : Phrase) (x : Said) → Contains before x → Contains (with_object owner before e) x
object-stays owner before (Node Bound (Named place name) maker) x h = made-stays owner place name before maker x h
object-stays owner before _ x h = h

answer-stays : (before : List Said) (e : Phrase) (x : Said) → Contains before x → Contains (with_answer before e) x
answer-stays before (Node Called word arguments) x h = strings-stay before arguments x h
answer-stays before _ x h = h

mentions-stay : (owner : List ℕ) (before : List Said) (e : Phrase) (x : Said) → Contains before x → Contains (with_mentions owner before e) x
mentions-stay owner before (Node More a b) x h = mentions-stay owner (with_mentions owner before a) b x (mentions-stay owner before a x h)
mentions-stay owner before (Node ElseIf a b) x h = mentions-stay owner (with_mentions owner before a) b x (mentions-stay owner before a x h)
mentions-stay owner before (Node Else a b) x h = mentions-stay owner (with_mentions owner before a) b x (mentions-stay owner before a x h)
mentions-stay owner before (Node If a b) x h = mentions-stay owner before b x h
mentions-stay owner before (Node phrase.Branch condition block) x h = mentions-stay owner (with_strings before condition) block x (strings-stay before condition x h)
mentions-stay owner before (Node Set a b) x h = given-stays before b x h
mentions-stay owner before (Node Append a b) x h = given-stays before b x h
mentions-stay owner before (Node Jump a b) x h = call-stays owner before b x h
mentions-stay owner before (Node New a b) x h = object-stays owner before b x h
mentions-stay owner before (Node Return a b) x h = answer-stays before b x h
mentions-stay owner before (Node Called a b) x h = strings-stay before (Node Called a b) x h
mentions-stay owner before _ x h = h

item-stays : (before : List Said) (i : Item) (x : Said) → Contains before x → Contains (with_item before i) x
item-stays before (item.Import place name) x h = one-stays before (said_of kind.Import name) x h
item-stays before (item.Backend place name attributes) x h = one-stays before (said_of kind.Backend name) x h
item-stays before (item.NoBackend place name) x h = one-stays before (said_of kind.Backend name) x h
item-stays before (item.Probe place name attributes) x h = one-stays before (said_of kind.Probe name) x h
item-stays before (item.Acl place name entries) x h = one-stays before (said_of kind.Acl name) x h
item-stays before (item.Sub place name block) x h =
    mentions-stay name.text (before ++ said_of kind.Subroutine name ∷ []) block x (one-stays before (said_of kind.Subroutine name) x h)

items-stay : (before : List Said) (items : List Item) (x : Said) → Contains before x → Contains (with_items before items) x
items-stay before [] x h = h
items-stay before (i ∷ is) x h = items-stay (with_item before i) is x (item-stays before i x h)

-- parts of statements that put no pattern in
chain-patterns : (xs : List Action) (next : ℕ) (a : Arena) → (with_chain xs next a).arena.patterns ≡ a.patterns
chain-patterns [] next a = refl
chain-patterns (x ∷ xs) next a = chain-patterns xs next a

arms-patterns : (xs : List Arm) (other : Choice) (a : Arena) → (with_arms xs other a).arena.patterns ≡ a.patterns
arms-patterns [] other a = refl
arms-patterns (x ∷ xs) other a = arms-patterns xs other a

set-patterns : (t : Target) (n : Numbered) → (set_acted t n).arena.patterns ≡ n.arena.patterns
set-patterns (Plain variable) n = refl
set-patterns (Field message name) n = refl
set-patterns NoTarget n = refl

append-patterns : (t : Target) (n : Numbered) → (append_acted t n).arena.patterns ≡ n.arena.patterns
append-patterns (Plain variable) n = refl
append-patterns (Field message name) n = refl
append-patterns NoTarget n = refl

unset-patterns : (t : Target) (a : Arena) → (unset_acted t a).arena.patterns ≡ a.patterns
unset-patterns (Plain variable) a = refl
unset-patterns (Field message name) a = refl
unset-patterns NoTarget a = refl

jump-patterns : (k : Option ℕ) (a : Arena) → (call_acted k a).arena.patterns ≡ a.patterns
jump-patterns (Some k) a = refl
jump-patterns None a = refl

return-patterns : (word : Option ReturnWord) (g : Given) → (return_acted word g).arena.patterns ≡ g.arena.patterns
return-patterns (Some word) g = refl
return-patterns None g = refl

one-patterns : (make : ℕ → Action) (g : Arguments) (a : Arena) → (with_one make g a).arena.patterns ≡ a.patterns
one-patterns make Zero a = refl
one-patterns make (One x) a = refl
one-patterns make (Two x y) a = refl
one-patterns make (Three x y z) a = refl
one-patterns make TooMany a = refl

-- a call as a statement
perform-comes : (known : Known) (place : ℕ) (name : List ℕ) (arguments : Phrase) (f : Callee) (g : Given) (ps : List (List ℕ)) (xs : List Said) (p : List ℕ)
    → callee_of known name ≡ f → (Contains g.arena.patterns p → Comes ps xs p)
    → Contains (performed f (second_string arguments) g).arena.patterns p → Comes ps (with_found xs (called_string (Named place name) arguments)) p
perform-comes known place name arguments (callee.Builtin builtin.HashData) g ps xs p e f h =
    plain-comes place name arguments _ g.arena.patterns ps xs p (one-patterns action.HashData g.arguments g.arena) f h
perform-comes known place name arguments (callee.Builtin builtin.Synthetic) g ps xs p e f h =
    plain-comes place name arguments _ g.arena.patterns ps xs p (one-patterns action.Synthetic g.arguments g.arena) f h
perform-comes known place name arguments (callee.Builtin builtin.Ban) g ps xs p e f h =
    plain-comes place name arguments _ g.arena.patterns ps xs p (one-patterns action.Ban g.arguments g.arena) f h
perform-comes known place name arguments callee.Absent g ps xs p e f h = plain-comes place name arguments _ g.arena.patterns ps xs p refl f h
perform-comes known place name arguments (callee.Builtin (builtin.Substitute all)) g ps xs p e f h = call-comes known place name arguments (callee.Builtin (builtin.Substitute all)) g ps xs p e f h
perform-comes known place name arguments (callee.Builtin (builtin.Xkey soft)) g ps xs p e f h = call-comes known place name arguments (callee.Builtin (builtin.Xkey soft)) g ps xs p e f h
perform-comes known place name arguments (callee.Stored k jar.None) g ps xs p e f h = call-comes known place name arguments (callee.Stored k jar.None) g ps xs p e f h
perform-comes known place name arguments (callee.Stored k jar.Asks) g ps xs p e f h = call-comes known place name arguments (callee.Stored k jar.Asks) g ps xs p e f h
perform-comes known place name arguments (callee.Stored k jar.Changes) g ps xs p e f h = call-comes known place name arguments (callee.Stored k jar.Changes) g ps xs p e f h
perform-comes known place name arguments (callee.Director k) g ps xs p e f h = call-comes known place name arguments (callee.Director k) g ps xs p e f h

chained-contains : (d : Acts) (next : ℕ) (p : List ℕ) → Contains (chained next d).arena.patterns p → Contains d.arena.patterns p
chained-contains d next p h = same-contains _ d.arena.patterns p (chain-patterns d.actions next d.arena) h

-- the second of two parts
through : (ps qs : List (List ℕ)) (owner : List ℕ) (xs : List Said) (a b : Phrase) (p : List ℕ) → (Contains qs p → Comes ps (with_mentions owner xs a) p)
    → Comes qs (with_mentions owner (with_mentions owner xs a) b) p → Comes ps (with_mentions owner (with_mentions owner xs a) b) p
through ps qs owner xs a b p f c =
    comes-through ps qs (with_mentions owner xs a) (with_mentions owner (with_mentions owner xs a) b) p (mentions-stay owner (with_mentions owner xs a) b) f c

mutual
  unfolding action_of

  action-comes : (known : Known) (s : Phrase) (a : Arena) (owner : List ℕ) (xs : List Said) (p : List ℕ) → Contains (action_of known s a).arena.patterns p
      → Comes a.patterns (with_mentions owner xs s) p
  action-comes known (Node Set sign (Node Bound (Named place name) e)) a owner xs p h =
      expression-comes known e a xs p (same-contains _ (numbered known e a).arena.patterns p (set-patterns (target_of name) (numbered known e a)) h)
  action-comes known (Node Append sign (Node Bound (Named place name) e)) a owner xs p h =
      expression-comes known e a xs p (same-contains _ (numbered known e a).arena.patterns p (append-patterns (target_of name) (numbered known e a)) h)
  action-comes known (Node Unset sign (Named place name)) a owner xs p h = inl (same-contains _ a.patterns p (unset-patterns (target_of name) a) h)
  action-comes known (Node Jump sign (Named place name)) a owner xs p h = inl (same-contains _ a.patterns p (jump-patterns (subroutine_of known name) a) h)
  action-comes known (Node Return sign (Named place word)) a owner xs p h = inl (same-contains _ a.patterns p (return-patterns (word_of word) (given Zero a)) h)
  action-comes known (Node Return sign (Node Called (Named place word) arguments)) a owner xs p h =
      arguments-come known arguments a xs p
      (same-contains _ (numbered_arguments known arguments a).arena.patterns p (return-patterns (word_of word) (numbered_arguments known arguments a)) h)
  action-comes known (Node Called (Named place name) arguments) a owner xs p h =
      perform-comes known place name arguments (callee_of known name) (numbered_arguments known arguments a) a.patterns (with_strings xs arguments) p refl
      (arguments-come known arguments a xs p) h
  action-comes known (Node If sign first) a owner xs p h =
      arm-comes known first a owner xs p
      (same-contains _ (arm_of known first a).arena.patterns p (arms-patterns (arm_of known first a).arms choice.Nothing (arm_of known first a).arena) h)
  action-comes known (Node ElseIf front other) a owner xs p h =
      let d = arm_of known other (arms_of known front a).arena in
      let all = (arms_of known front a).arms ++ d.arms in
      through a.patterns (arms_of known front a).arena.patterns owner xs front other p (arms-come known front a owner xs p)
      (arm-comes known other (arms_of known front a).arena owner (with_mentions owner xs front) p (same-contains _ d.arena.patterns p (arms-patterns all choice.Nothing d.arena) h))
  action-comes known (Node Else front block) a owner xs p h =
      let d = arms_of known front a in
      let acts = actions_of known block d.arena in
      let last = chained 0 acts in
      through a.patterns d.arena.patterns owner xs front block p (arms-come known front a owner xs p)
      (actions-come known block d.arena owner (with_mentions owner xs front) p
      (chained-contains acts 0 p (same-contains _ last.arena.patterns p (arms-patterns d.arms (choice.Block last.number) last.arena) h)))
  action-comes known _ a owner xs p h = inl h

  arms-come : (known : Known) (s : Phrase) (a : Arena) (owner : List ℕ) (xs : List Said) (p : List ℕ) → Contains (arms_of known s a).arena.patterns p
      → Comes a.patterns (with_mentions owner xs s) p
  arms-come known (Node If sign first) a owner xs p h = arm-comes known first a owner xs p h
  arms-come known (Node ElseIf front other) a owner xs p h =
      through a.patterns (arms_of known front a).arena.patterns owner xs front other p (arms-come known front a owner xs p)
      (arm-comes known other (arms_of known front a).arena owner (with_mentions owner xs front) p h)
  arms-come known _ a owner xs p h = inl h

  arm-comes : (known : Known) (s : Phrase) (a : Arena) (owner : List ℕ) (xs : List Said) (p : List ℕ) → Contains (arm_of known s a).arena.patterns p
      → Comes a.patterns (with_mentions owner xs s) p
  arm-comes known (Node phrase.Branch condition block) a owner xs p h =
      let b = (numbered known condition a).arena in
      comes-through a.patterns b.patterns (with_strings xs condition) (with_mentions owner (with_strings xs condition) block) p
      (mentions-stay owner (with_strings xs condition) block) (expression-comes known condition a xs p)
      (actions-come known block b owner (with_strings xs condition) p (chained-contains (actions_of known block b) 0 p h))
  arm-comes known _ a owner xs p h = inl h

  actions-come : (known : Known) (s : Phrase) (a : Arena) (owner : List ℕ) (xs : List Said) (p : List ℕ) → Contains (actions_of known s a).arena.patterns p
      → Comes a.patterns (with_mentions owner xs s) p
  actions-come known (Node More front s) a owner xs p h =
      through a.patterns (actions_of known front a).arena.patterns owner xs front s p (actions-come known front a owner xs p)
      (action-comes known s (actions_of known front a).arena owner (with_mentions owner xs front) p h)
  actions-come known _ a owner xs p h = inl h

block-comes : (known : Known) (block : Phrase) (next : ℕ) (a : Arena) (owner : List ℕ) (xs : List Said) (p : List ℕ) → Contains (numbered_block known block next a).arena.patterns p
    → Comes a.patterns (with_mentions owner xs block) p
unfolding numbered_block
block-comes known block next a owner xs p h = actions-come known block a owner xs p (chained-contains (actions_of known block a) next p h)

-- the subroutines of a text, where more may be said behind it
own-comes : (known : Known) (name : List ℕ) (block : Phrase) (h : Heads) (xs : List Said) (p : List ℕ) (reserved : Bool) → is_reserved name ≡ reserved
    → Contains (own_block known name block h).arena.patterns p → Comes h.arena.patterns (with_mentions name xs block) p
own-comes known name block h xs p true e c = inl (rw (e) at c)
own-comes known name block h xs p false e c = block-comes known block 0 h.arena name xs p (rw (e) at c)

own-item : (known : Known) (h : Heads) (i : Item) (xs : List Said) (p : List ℕ) → Contains (with_own known h i).arena.patterns p → Comes h.arena.patterns (with_item xs i) p
own-item known h (item.Sub place name block) xs p c =
    own-comes known name.text block h (xs ++ said_of kind.Subroutine name ∷ []) p (is_reserved name.text) refl c
own-item known h (item.Import place name) xs p c = inl c
own-item known h (item.Backend place name attributes) xs p c = inl c
own-item known h (item.NoBackend place name) xs p c = inl c
own-item known h (item.Probe place name attributes) xs p c = inl c
own-item known h (item.Acl place name entries) xs p c = inl c

own-all-come : (known : Known) (items : List Item) (h : Heads) (xs : List Said) (p : List ℕ) → Contains (all_own known h items).arena.patterns p
    → Comes h.arena.patterns (with_items xs items) p
own-all-come known [] h xs p c = inl c
own-all-come known (i ∷ is) h xs p c =
    comes-through h.arena.patterns (with_own known h i).arena.patterns (with_item xs i) (with_items (with_item xs i) is) p (items-stay (with_item xs i) is)
    (own-item known h i xs p) (own-all-come known is (with_own known h i) (with_item xs i) p c)

body-comes : (known : Known) (s : Option Subroutine) (block : Phrase) (h : Heads) (owner : List ℕ) (xs : List Said) (p : List ℕ) → Contains (body known s block h).arena.patterns p
    → Comes h.arena.patterns (with_mentions owner xs block) p
body-comes known None block h owner xs p c = inl c
body-comes known (Some s) block h owner xs p c = block-comes known block _ h.arena owner xs p c

body-item : (known : Known) (i : Item) (h : Heads) (xs : List Said) (p : List ℕ) → Contains (with_body known i h).arena.patterns p → Comes h.arena.patterns (with_item xs i) p
body-item known (item.Sub place name block) h xs p c =
    body-comes known (subroutine_named name.text) block h name.text (xs ++ said_of kind.Subroutine name ∷ []) p c
body-item known (item.Import place name) h xs p c = inl c
body-item known (item.Backend place name attributes) h xs p c = inl c
body-item known (item.NoBackend place name) h xs p c = inl c
body-item known (item.Probe place name attributes) h xs p c = inl c
body-item known (item.Acl place name entries) h xs p c = inl c

bodies-all-come : (known : Known) (items : List Item) (h : Heads) (xs : List Said) (p : List ℕ) → Contains (all_bodies known items h).arena.patterns p
    → Comes h.arena.patterns (with_items xs items) p
bodies-all-come known [] h xs p c = inl c
bodies-all-come known (i ∷ is) h xs p c =
    let rest = all_bodies known is h in
    elim (body-item known i rest xs p c) [
      | inl d ↦ bodies-all-come known is h (with_item xs i) p d
      | inr x ↦ inr (said-later (with_item xs i) (with_items (with_item xs i) is) p (items-stay (with_item xs i) is) x)
    ]

none-contained : (p : List ℕ) → Contains [] p → ⊥
none-contained p c = omega (arith, c.1)

pattern-at : (s : Said) (p : List ℕ) → s.kind ≡ kind.Pattern → s.name ≡ p → pattern_of s ≡ Some p
pattern-at s p k n = ap (λ (m : MentionKind). pattern_if m s.name) k ∙ ap (λ (t : List ℕ). Some t) n

-- a string that is said to be a pattern is among those that must be one
cons-contained : (o : Option (List ℕ)) (xs : List (List ℕ)) (p : List ℕ) → Contains xs p → Contains (cons_option o xs) p
cons-contained None xs p c = c
cons-contained (Some x) xs p c = (suc c.0, omega (arith, c.1), c.2)

head-contained : (o : Option (List ℕ)) (xs : List (List ℕ)) (p : List ℕ) → o ≡ Some p → Contains (cons_option o xs) p
head-contained o xs p e = let P : Option (List ℕ) → Type 0 = λ q. Contains (cons_option q xs) p in subst P (sym e) (0, omega arith, refl)

kept-contained : (said : List Said) (i : ℕ) (s : Said) (p : List ℕ) → slice_get said i ≡ Some s → pattern_of s ≡ Some p → Contains (pattern_texts said) p
kept-contained [] i s p at e = absurd (cc)
kept-contained (x ∷ xs) zero s p at e =
    let same : x ≡ s = cc in
    head-contained (pattern_of x) (pattern_texts xs) p (ap pattern_of same ∙ e)
kept-contained (x ∷ xs) (suc i) s p at e = cons-contained (pattern_of x) (pattern_texts xs) p (kept-contained xs i s p at e)

said-contained : (said : List Said) (p : List ℕ) → IsSaid said p → Contains (pattern_texts said) p
said-contained said p x =
    let c = x.1 in
    let at : slice_get said c.0 ≡ Some x.0 = slice_get-get_or said c.0 x.0 c.1 ∙ ap (λ (s : Said). Some s) c.2 in
    kept-contained said c.0 x.0 p at (pattern-at x.0 p x.2 x.3)

text-patterns : (items : List Item) (stored : List Stored) (p : List ℕ) → Contains (code_of items stored).arena.patterns p → Contains (pattern_texts (says items)) p
text-patterns items stored p c =
    let known : Known = known_in items stored in
    elim (bodies-all-come known items (heads no_bodies (own_of known items).arena) [] p c) [
      | inl d ↦ elim (own-all-come known items (heads [] empty) [] p d) [ inl e ↦ absurd (none-contained p e) | inr x ↦ said-contained (says items) p x ]
      | inr x ↦ said-contained (says items) p x
    ]

pub all-said : (items : List Item) (stored : List Stored) (texts sources : List (List ℕ)) → texts ≡ pattern_texts (says items) → sources ≡ (code_of items stored).arena.patterns
    → All (Contains texts) sources
all-said items stored texts sources et es k d h =
    let P : List (List ℕ) → Type 0 = λ l. Contains l (get_or sources k d) in
    subst P (sym et) (text-patterns items stored (get_or sources k d) (subst P es (Contains-get_or sources k d h)))
