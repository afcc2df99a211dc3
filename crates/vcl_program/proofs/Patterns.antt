-- Each pattern of an expression or a statement in numbers is a string that must be one.
use Rattle.std.proofs.Common.{◌≡◌, ◌⊎◌, inl, inr, ℕ, ◌-◌, zero, suc, Bool, true, false, List, [], ◌∷◌, ◌++◌, refl, sym, ap, ◌∙◌, subst, option_and_then, option_map, position, codes, Option, Some, None, slice_get, if◌then◌else◌}
use Rattle.std.specs.Str.{bytes_eq}
use Rattle.std.proofs.lemmas.List.Elements.{Contains-append_left, Contains-push, Contains-push_cases}
use Rattle.std.specs.Prelude.{Contains}
use Rattle.vcl_tree.specs.Phrase.{Phrase, Node, String, Named, Nothing, More, Called, Either, Both, Not, Group, Compared, Added, Subtracted}
use Rattle.vcl_tree.specs.declared.expression.Comparison.TheVariants as asked
use Rattle.vcl_language.specs.Functions.{function_named}
use Rattle.vcl_language.specs.declared.functions.TheConstants.{FUNCTIONS}
use Rattle.vcl_check.specs.declared.mentions.MentionKind.TheVariants as kind
use Rattle.vcl_check.specs.Mentions.{Said, said, said_string, own_string, called_string, has_pattern, with_found, with_strings, parts}
use Rattle.vmod_host.specs.declared.signature.JarUse.{JarUse}
use Rattle.vmod_host.specs.declared.signature.JarUse.TheVariants as jar
use Rattle.vcl_code.specs.declared.arena.Arena.{Arena}
use Rattle.vcl_code.specs.declared.callees.Builtin.{Builtin}
use Rattle.vcl_code.specs.declared.callees.Builtin.TheVariants as builtin
use Rattle.vcl_code.specs.declared.callees.TheConstants.{BUILTINS, BUILTIN_NAMES}
use Rattle.vcl_symbols.specs.declared.symbol_table.Symbol.{Symbol}
use Rattle.vcl_symbols.specs.declared.symbol_table.Symbol.TheVariants as symbol
use Rattle.vcl_symbols.specs.Known.{Known, object_named, stored_of}
use Rattle.vcl_code.specs.declared.names.Callee.{Callee}
use Rattle.vcl_code.specs.declared.names.Callee.TheVariants as callee
use Rattle.vcl_code.specs.declared.node.Arguments.{Arguments}
use Rattle.vcl_code.specs.declared.node.Arguments.TheVariants.{Zero, One, Two, Three, More as TooMany}
use Rattle.vcl_code.specs.Arenas.{Numbered}
use Rattle.vcl_code.specs.Names.{Plain, Field, NoTarget, Read, OfTarget, Truth, Backend, NoRead, read_of, acl_of, callee_of, builtin_of, director_in, stored_or_director, builtin_or_other}
use Rattle.vcl_code.specs.Expressions.{numbered, numbered_arguments, read_node, in_acl, matched, Given, given, string_of, second_string, substitution, xkey, director, called, passed}

-- a string is said to be a pattern
abbrev pub IsSaid : List Said → List ℕ → Type 0
IsSaid said p = (s : Said) × Contains said s × (s.kind ≡ kind.Pattern) × (s.name ≡ p)

-- a pattern was there before, or is said to be one
abbrev pub Comes : List (List ℕ) → List Said → List ℕ → Type 0
Comes patterns said p = Contains patterns p ⊎ IsSaid said p

-- what is said stays
pub found-stays : (before : List Said) (o : Option Said) (s : Said) → Contains before s → Contains (with_found before o) s
found-stays before None s h = h
found-stays before (Some x) s h = Contains-append_left before (x ∷ []) s h

pub strings-stay : (before : List Said) (e : Phrase) (s : Said) → Contains before s → Contains (with_strings before e) s
strings-stay before (Node label a b) s h =
    found-stays (with_strings (with_strings before a) b) (own_string label a b) s (strings-stay (with_strings before a) b s (strings-stay before a s h))
strings-stay before _ s h = h

pub said-later : (xs ys : List Said) (p : List ℕ) → ((s : Said) → Contains xs s → Contains ys s) → IsSaid xs p → IsSaid ys p
said-later xs ys p f x = (x.0, f x.0 x.1, x.2, x.3)

pub comes-later : (ps : List (List ℕ)) (xs ys : List Said) (p : List ℕ) → ((s : Said) → Contains xs s → Contains ys s) → Comes ps xs p → Comes ps ys p
comes-later ps xs ys p f c = elim c [ inl h ↦ inl h | inr x ↦ inr (said-later xs ys p f x) ]

-- one part behind another
pub comes-through : (ps qs : List (List ℕ)) (xs ys : List Said) (p : List ℕ) → ((s : Said) → Contains xs s → Contains ys s)
    → (Contains qs p → Comes ps xs p) → Comes qs ys p → Comes ps ys p
comes-through ps qs xs ys p f g c = elim c [ inl h ↦ comes-later ps xs ys p f (g h) | inr x ↦ inr x ]

-- a string that is put in
comes-push : (ps qs : List (List ℕ)) (xs : List Said) (place : ℕ) (source p : List ℕ) → (Contains qs p → Comes ps xs p)
    → Contains (qs ++ source ∷ []) p → Comes ps (xs ++ said kind.Pattern place source [] ∷ []) p
comes-push ps qs xs place source p f h =
    let s = said kind.Pattern place source [] in
    elim (Contains-push_cases qs source p h) [
      | inl c ↦ comes-later ps xs (xs ++ s ∷ []) p (λ x d. Contains-append_left xs (s ∷ []) x d) (f c)
      | inr e ↦ inr (s, Contains-push xs s, refl, e)
    ]

-- parts that put none in
read-patterns : (r : Read) (a : Arena) → (read_node r a).arena.patterns ≡ a.patterns
read-patterns (OfTarget (Plain variable)) a = refl
read-patterns (OfTarget (Field message name)) a = refl
read-patterns (OfTarget NoTarget) a = refl
read-patterns (Truth truth) a = refl
read-patterns (Backend k) a = refl
read-patterns NoRead a = refl

acl-patterns : (truth : Bool) (f : Numbered) (acl : Option ℕ) → (in_acl truth f acl).arena.patterns ≡ f.arena.patterns
acl-patterns truth f None = refl
acl-patterns truth f (Some k) = refl

xkey-patterns : (soft : Bool) (args : Arguments) (a : Arena) → (xkey soft args a).arena.patterns ≡ a.patterns
xkey-patterns soft Zero a = refl
xkey-patterns soft (One x) a = refl
xkey-patterns soft (Two x y) a = refl
xkey-patterns soft (Three x y z) a = refl
xkey-patterns soft TooMany a = refl

director-patterns : (k : ℕ) (args : Arguments) (a : Arena) → (director k args a).arena.patterns ≡ a.patterns
director-patterns k Zero a = refl
director-patterns k (One x) a = refl
director-patterns k (Two x y) a = refl
director-patterns k (Three x y z) a = refl
director-patterns k TooMany a = refl

pub same-contains : (ps qs : List (List ℕ)) (p : List ℕ) → ps ≡ qs → Contains ps p → Contains qs p
same-contains ps qs p e h = let P : List (List ℕ) → Type 0 = λ l. Contains l p in subst P e h

-- the right side of a match
match-comes : (known : Known) (truth : Bool) (f : Numbered) (right : Phrase) (ps : List (List ℕ)) (xs : List Said) (p : List ℕ) → (Contains f.arena.patterns p → Comes ps xs p)
    → Contains (matched known truth f right).arena.patterns p → Comes ps (with_found (with_strings xs right) (said_string right)) p
match-comes known truth f (String place source) ps xs p g h = comes-push ps f.arena.patterns xs place source p g h
match-comes known truth f (Named place name) ps xs p g h = g (same-contains _ f.arena.patterns p (acl-patterns truth f (acl_of known name)) h)
match-comes known truth f (Node label a b) ps xs p g h = comes-later ps xs _ p (λ s d. strings-stay xs (Node label a b) s d) (g h)
match-comes known truth f _ ps xs p g h = g h

none-some : {A : Type 0} (x : A) → None ≡ Some x → ⊥
none-some x e = cc

-- the substitutions of the language are those whose second argument is a pattern
at-substitute : (row : Option ℕ) (all : Bool) → option_and_then (λ k. slice_get BUILTINS k) row ≡ Some (builtin.Substitute all)
    → has_pattern (option_and_then (λ k. slice_get FUNCTIONS k) row) ≡ true
at-substitute None all e = absurd (cc)
at-substitute (Some zero) all e = absurd (cc)
at-substitute (Some (suc zero)) all e = absurd (cc)
at-substitute (Some (suc (suc zero))) all e = absurd (cc)
at-substitute (Some (suc (suc (suc zero)))) all e = refl
at-substitute (Some (suc (suc (suc (suc zero))))) all e = refl
at-substitute (Some (suc (suc (suc (suc (suc zero)))))) all e = absurd (cc)
at-substitute (Some (suc (suc (suc (suc (suc (suc zero))))))) all e = absurd (cc)
at-substitute (Some (suc (suc (suc (suc (suc (suc (suc n)))))))) all e = absurd (cc)

substitute-pattern : (name : List ℕ) (all : Bool) → builtin_of name ≡ Some (builtin.Substitute all) → has_pattern (function_named name) ≡ true
unfolding builtin_of function_named
substitute-pattern name all e = at-substitute (position (λ known. bytes_eq known.now name) BUILTIN_NAMES) all e

director-other : (t : Option Symbol) (b : Builtin) → director_in t ≡ callee.Builtin b → ⊥
director-other (Some (symbol.Director kind k)) b e = cc
director-other (Some symbol.Probe) b e = cc
director-other (Some symbol.UnknownObject) b e = cc
director-other (Some symbol.NoObject) b e = cc
director-other (Some (symbol.Backend k)) b e = cc
director-other (Some (symbol.Acl k)) b e = cc
director-other (Some (symbol.Subroutine k)) b e = cc
director-other None b e = cc

stored-callee : (known : Known) (name : List ℕ) (row : Option ℕ) (b : Builtin) → stored_or_director known name row ≡ callee.Builtin b → ⊥
stored-callee known name (Some k) b e = cc
stored-callee known name None b e = director-other (object_named known (codes ".backend") name) b e

builtin-callee : (known : Known) (name : List ℕ) (found : Option Builtin) (b : Builtin) → builtin_or_other known name found ≡ callee.Builtin b → found ≡ Some b
builtin-callee known name (Some x) b e = cc
builtin-callee known name None b e = absurd (stored-callee known name (stored_of known name) b e)

callee-builtin : (known : Known) (name : List ℕ) (b : Builtin) → callee_of known name ≡ callee.Builtin b → builtin_of name ≡ Some b
unfolding callee_of
callee-builtin known name b e = builtin-callee known name (builtin_of name) b e

-- the second argument, where it is one string
string-second : (e : Phrase) (source : List ℕ) → string_of e ≡ Some source → (place : ℕ) × (said_string e ≡ Some (said kind.Pattern place source []))
string-second (String place text) source e = (place, ap (λ (o : Option (List ℕ)). option_map (λ t. said kind.Pattern place t []) o) e)
string-second (Named place name) source e = absurd (none-some source e)
string-second (Node label a b) source e = absurd (none-some source e)
string-second _ source e = absurd (none-some source e)

second-said : (arguments : Phrase) (source : List ℕ) → second_string arguments ≡ Some source
    → (place : ℕ) × (option_and_then said_string (slice_get (parts arguments) 1) ≡ Some (said kind.Pattern place source []))
second-said (Node More (Node More (Node More Nothing x) y) z) source e = string-second y source e
second-said _ source e = absurd (none-some source e)

called-said : (place : ℕ) (name source : List ℕ) (arguments : Phrase) → has_pattern (function_named name) ≡ true → second_string arguments ≡ Some source
    → (q : ℕ) × (called_string (Named place name) arguments ≡ Some (said kind.Pattern q source []))
called-said place name source arguments fits e =
    let x = second-said arguments source e in
    (x.0, ap (λ (b : Bool). if b then option_and_then said_string (slice_get (parts arguments) 1) else None) fits ∙ x.1)

passed-patterns : (use_of_jar : JarUse) (g : Given) → (passed use_of_jar g).arena.patterns ≡ g.arena.patterns
passed-patterns jar.None g = refl
passed-patterns jar.Asks g = refl
passed-patterns jar.Changes g = refl

-- a call, with what its arguments put in
substitution-comes : (known : Known) (all : Bool) (place : ℕ) (name : List ℕ) (arguments : Phrase) (second : Option (List ℕ)) (given : Arguments) (a : Arena)
    (ps : List (List ℕ)) (xs : List Said) (p : List ℕ) → has_pattern (function_named name) ≡ true → second_string arguments ≡ second → (Contains a.patterns p → Comes ps xs p)
    → Contains (substitution all second given a).arena.patterns p → Comes ps (with_found xs (called_string (Named place name) arguments)) p
substitution-comes known all place name arguments (Some source) (Three x y z) a ps xs p fits e f h =
    let s = called-said place name source arguments fits e in
    let C : Option Said → Type 0 = λ o. Comes ps (with_found xs o) p in
    subst C (sym s.1) (comes-push ps a.patterns xs s.0 source p f h)
substitution-comes known all place name arguments (Some source) Zero a ps xs p fits e f h = comes-later ps xs _ p (found-stays xs (called_string (Named place name) arguments)) (f h)
substitution-comes known all place name arguments (Some source) (One x) a ps xs p fits e f h = comes-later ps xs _ p (found-stays xs (called_string (Named place name) arguments)) (f h)
substitution-comes known all place name arguments (Some source) (Two x y) a ps xs p fits e f h = comes-later ps xs _ p (found-stays xs (called_string (Named place name) arguments)) (f h)
substitution-comes known all place name arguments (Some source) TooMany a ps xs p fits e f h = comes-later ps xs _ p (found-stays xs (called_string (Named place name) arguments)) (f h)
substitution-comes known all place name arguments None given a ps xs p fits e f h = comes-later ps xs _ p (found-stays xs (called_string (Named place name) arguments)) (f h)

-- no other call puts one in
pub plain-comes : (place : ℕ) (name : List ℕ) (arguments : Phrase) (qs rs ps : List (List ℕ)) (xs : List Said) (p : List ℕ) → qs ≡ rs → (Contains rs p → Comes ps xs p)
    → Contains qs p → Comes ps (with_found xs (called_string (Named place name) arguments)) p
plain-comes place name arguments qs rs ps xs p e f h =
    comes-later ps xs _ p (found-stays xs (called_string (Named place name) arguments)) (f (same-contains qs rs p e h))

pub call-comes : (known : Known) (place : ℕ) (name : List ℕ) (arguments : Phrase) (f : Callee) (g : Given) (ps : List (List ℕ)) (xs : List Said) (p : List ℕ)
    → callee_of known name ≡ f → (Contains g.arena.patterns p → Comes ps xs p)
    → Contains (called f (second_string arguments) g).arena.patterns p → Comes ps (with_found xs (called_string (Named place name) arguments)) p
call-comes known place name arguments (callee.Builtin (builtin.Substitute all)) g ps xs p e f h =
    substitution-comes known all place name arguments (second_string arguments) g.arguments g.arena ps xs p
    (substitute-pattern name all (callee-builtin known name (builtin.Substitute all) e)) refl f h
call-comes known place name arguments (callee.Builtin (builtin.Xkey soft)) g ps xs p e f h =
    plain-comes place name arguments _ g.arena.patterns ps xs p (xkey-patterns soft g.arguments g.arena) f h
call-comes known place name arguments (callee.Director k) g ps xs p e f h =
    plain-comes place name arguments _ g.arena.patterns ps xs p (director-patterns k g.arguments g.arena) f h
call-comes known place name arguments (callee.Stored k use_of_jar) g ps xs p e f h =
    plain-comes place name arguments (passed use_of_jar g).arena.patterns g.arena.patterns ps xs p (passed-patterns use_of_jar g) f h
call-comes known place name arguments callee.Absent g ps xs p e f h = plain-comes place name arguments _ g.arena.patterns ps xs p refl f h
call-comes known place name arguments (callee.Builtin builtin.HashData) g ps xs p e f h = plain-comes place name arguments _ g.arena.patterns ps xs p refl f h
call-comes known place name arguments (callee.Builtin builtin.Synthetic) g ps xs p e f h = plain-comes place name arguments _ g.arena.patterns ps xs p refl f h
call-comes known place name arguments (callee.Builtin builtin.Ban) g ps xs p e f h = plain-comes place name arguments _ g.arena.patterns ps xs p refl f h

-- the second of two parts
through : (ps qs : List (List ℕ)) (xs : List Said) (l r : Phrase) (p : List ℕ) → (Contains qs p → Comes ps (with_strings xs l) p)
    → Comes qs (with_strings (with_strings xs l) r) p → Comes ps (with_strings (with_strings xs l) r) p
through ps qs xs l r p f c = comes-through ps qs (with_strings xs l) (with_strings (with_strings xs l) r) p (strings-stay (with_strings xs l) r) f c

mutual
  unfolding numbered

  -- an expression
  pub expression-comes : (known : Known) (e : Phrase) (a : Arena) (xs : List Said) (p : List ℕ) → Contains (numbered known e a).arena.patterns p → Comes a.patterns (with_strings xs e) p
  expression-comes known (Node Either l r) a xs p h = through a.patterns (numbered known l a).arena.patterns xs l r p (expression-comes known l a xs p) (expression-comes known r (numbered known l a).arena (with_strings xs l) p h)
  expression-comes known (Node Both l r) a xs p h = through a.patterns (numbered known l a).arena.patterns xs l r p (expression-comes known l a xs p) (expression-comes known r (numbered known l a).arena (with_strings xs l) p h)
  expression-comes known (Node Added l r) a xs p h = through a.patterns (numbered known l a).arena.patterns xs l r p (expression-comes known l a xs p) (expression-comes known r (numbered known l a).arena (with_strings xs l) p h)
  expression-comes known (Node Subtracted l r) a xs p h = through a.patterns (numbered known l a).arena.patterns xs l r p (expression-comes known l a xs p) (expression-comes known r (numbered known l a).arena (with_strings xs l) p h)
  expression-comes known (Node (Compared asked.Equal) l r) a xs p h = through a.patterns (numbered known l a).arena.patterns xs l r p (expression-comes known l a xs p) (expression-comes known r (numbered known l a).arena (with_strings xs l) p h)
  expression-comes known (Node (Compared asked.NotEqual) l r) a xs p h = through a.patterns (numbered known l a).arena.patterns xs l r p (expression-comes known l a xs p) (expression-comes known r (numbered known l a).arena (with_strings xs l) p h)
  expression-comes known (Node (Compared asked.Less) l r) a xs p h = through a.patterns (numbered known l a).arena.patterns xs l r p (expression-comes known l a xs p) (expression-comes known r (numbered known l a).arena (with_strings xs l) p h)
  expression-comes known (Node (Compared asked.LessOrEqual) l r) a xs p h = through a.patterns (numbered known l a).arena.patterns xs l r p (expression-comes known l a xs p) (expression-comes known r (numbered known l a).arena (with_strings xs l) p h)
  expression-comes known (Node (Compared asked.Greater) l r) a xs p h = through a.patterns (numbered known l a).arena.patterns xs l r p (expression-comes known l a xs p) (expression-comes known r (numbered known l a).arena (with_strings xs l) p h)
  expression-comes known (Node (Compared asked.GreaterOrEqual) l r) a xs p h = through a.patterns (numbered known l a).arena.patterns xs l r p (expression-comes known l a xs p) (expression-comes known r (numbered known l a).arena (with_strings xs l) p h)
  expression-comes known (Node (Compared asked.Match) l r) a xs p h =
      match-comes known true (numbered known l a) r a.patterns (with_strings xs l) p (expression-comes known l a xs p) h
  expression-comes known (Node (Compared asked.NotMatch) l r) a xs p h =
      match-comes known false (numbered known l a) r a.patterns (with_strings xs l) p (expression-comes known l a xs p) h
  expression-comes known (Node Not sign e) a xs p h = expression-comes known e a (with_strings xs sign) p h
  expression-comes known (Node Group sign e) a xs p h = expression-comes known e a (with_strings xs sign) p h
  expression-comes known (Node Called (Named place name) arguments) a xs p h =
      call-comes known place name arguments (callee_of known name) (numbered_arguments known arguments a) a.patterns (with_strings xs arguments) p refl (arguments-come known arguments a xs p) h
  expression-comes known (Named place name) a xs p h = inl (same-contains _ a.patterns p (read-patterns (read_of known name) a) h)
  expression-comes known _ a xs p h = inl h

  pub arguments-come : (known : Known) (e : Phrase) (a : Arena) (xs : List Said) (p : List ℕ) → Contains (numbered_arguments known e a).arena.patterns p → Comes a.patterns (with_strings xs e) p
  arguments-come known (Node More front e) a xs p h =
      through a.patterns (numbered_arguments known front a).arena.patterns xs front e p (arguments-come known front a xs p) (expression-comes known e (numbered_arguments known front a).arena (with_strings xs front) p h)
  arguments-come known _ a xs p h = inl h
