-- What an expression of operands of known types comes to: a value of its type, and it isn't stuck.
use Rattle.std.proofs.Common.{◌≡◌, refl, sym, ap, ◌∙◌, subst, ℕ, ◌≤◌, nat_lt, length, List, [], ◌∷◌, map, Bool, true, false, Option, Some, None, option_map, option_and_then, slice_get, if◌then◌else◌, arith}
use Rattle.std.proofs.lemmas.Bool.{le-ltb}
use Rattle.std.proofs.lemmas.Option.{none-some, same_Some}
use Rattle.acl_match.specs.declared.entry.AclEntry.{AclEntry}
use Rattle.vcl_values.specs.declared.comparisons.Comparison.{Comparison}
use Rattle.vcl_values.specs.declared.comparisons.Comparison.TheVariants as compare
use Rattle.vcl_values.specs.declared.value.Kind.{Kind}
use Rattle.vcl_values.specs.declared.value.Kind.TheVariants as kind
use Rattle.vcl_values.specs.declared.value.Value.{Value}
use Rattle.vcl_values.specs.declared.value.Value.TheVariants as value
use Rattle.vcl_values.specs.Values.{kind_of}
use Rattle.vcl_values.specs.Operators.{text_value, sum_of, difference_of}
use Rattle.vcl_tree.specs.Phrase.{Phrase, Node, Named, String, Integer, Duration, Either, Both, Not, Group, Compared, Added, Subtracted, Called}
use Rattle.vcl_tree.specs.declared.expression.Comparison.TheVariants as asked
use Rattle.vmod_host.specs.Meanings.{IsMeaning}
use Rattle.vmod_host.specs.declared.signature.JarUse.{JarUse}
use Rattle.vmod_host.specs.declared.signature.Stored.{Stored}
use Rattle.vcl_check.specs.declared.seen.Sort.TheVariants as sort
use Rattle.vcl_check.specs.Kinds.{is_condition, is_ordered, same_kind, adds, sum_kind, difference_kind, accepts}
use Rattle.vcl_code.specs.declared.callees.Builtin.TheVariants as builtin
use Rattle.vcl_code.specs.declared.names.Callee.{Callee}
use Rattle.vcl_code.specs.declared.names.Callee.TheVariants as callee
use Rattle.vcl_symbols.specs.Known.{Known}
use Rattle.vcl_code.specs.Names.{read_of, acl_of, callee_of}
use Rattle.vcl_code.specs.Expressions.{second_string}
use Rattle.vcl_program.specs.declared.code.Director.{Director}
use Rattle.vcl_context.specs.declared.turn.Answer.{Answer}
use Rattle.vcl_context.specs.declared.turn.Command.TheVariants.{Xkey}
use Rattle.vcl_operands.specs.Outs.{On, Stuck, and_then, known_on, made_on, ask, number_of}
use Rattle.vcl_operands.specs.Meaning.{Scene, Operand, named_value, purged, values_of, all_values, with_jar, called, decides, sought_in, matched_in, value_of, operands_of}
use Rattle.vcl_operands.specs.Values.{ok_of, as_text, opposite, matched, sought, ordered, summed, lessened, substituted, director_value, director_at, asked_with, asked, fitted, joined, all_fitted, meant, answered, applied}
use Rattle.vcl_soundness.proofs.Rows.{false-true}
use Rattle.vcl_soundness.proofs.Names.{AclNamed, ReadIs}
use Rattle.vcl_soundness.proofs.Holds.{Holds, IsOf, Makes, bind-holds, made-holds, known-holds, given-makes}
use Rattle.vcl_soundness.proofs.Values.{opposite-some, decides-holds, Compares, ordered-some, sum-given, difference-given, matched-of, text-of, substituted-of, fitted-makes}

-- an operand of a type
abbrev pub Worth : Kind → Operand → Type 0
Worth k x = (s : List Answer) → Holds (IsOf k) (x s)

-- operands, each of which is taken where a value of a type is wanted
abbrev pub Given : Kind → Operand → Type 0
Given wanted x = (k : Kind) × (accepts wanted (sort.Value (Some k)) ≡ true) × Worth k x

abbrev pub AllGiven : List Kind → List Operand → Type 0
AllGiven [] [] = Unit {0}
AllGiven (k ∷ ks) (x ∷ xs) = Given k x × AllGiven ks xs
AllGiven _ _ = ⊥

given-count : (ks : List Kind) (xs : List Operand) → AllGiven ks xs → length xs ≡ length ks
given-count [] [] h = refl
given-count (k ∷ ks) (x ∷ xs) h = omega (arith, given-count ks xs h.1)
given-count [] (x ∷ xs) h = absurd h
given-count (k ∷ ks) [] h = absurd h

-- values that are taken
abbrev AllTaken : List Kind → List Value → Type 0
AllTaken [] [] = Unit {0}
AllTaken (k ∷ ks) (v ∷ vs) = (accepts k (sort.Value (Some (kind_of v))) ≡ true) × AllTaken ks vs
AllTaken _ _ = ⊥

abbrev AreOf : List Kind → List Value → Type 0
AreOf ks vs = map kind_of vs ≡ ks

values-hold : (ks : List Kind) (xs : List Operand) → AllGiven ks xs → (s : List Answer) → Holds (AllTaken ks) (values_of xs s)
values-hold [] [] h s = tt
values-hold (k ∷ ks) (x ∷ xs) h s =
    let l = h.0.0 in
    bind-holds (IsOf l) (AllTaken (k ∷ ks)) (x s) (λ v s. and_then (values_of xs s) (λ vs. On (v ∷ vs))) (h.0.2 s)
    (λ v p s.
    bind-holds (AllTaken ks) (AllTaken (k ∷ ks)) (values_of xs s) (λ vs. On (v ∷ vs)) (values-hold ks xs h.1 s)
    (λ vs q s. (subst (λ (z : Kind). accepts k (sort.Value (Some z)) ≡ true) (sym p) h.0.1, q)))
values-hold [] (x ∷ xs) h s = absurd h
values-hold (k ∷ ks) [] h s = absurd h

-- no more than three
few : (n : ℕ) (ks : List Kind) → n ≡ length ks → length ks ≤ 3 → nat_lt 3 n ≡ false
few n ks e h = le-ltb 3 n (omega (arith, e, h))

all-values-hold : (ks : List Kind) (xs : List Operand) → length ks ≤ 3 → AllGiven ks xs → (s : List Answer) → Holds (AllTaken ks) (all_values xs s)
all-values-hold ks xs low h s = by-count (nat_lt 3 (length xs)) (few (length xs) ks (given-count ks xs h) low)
  where
    by-count : (b : Bool) → b ≡ false → Holds (AllTaken ks) (if b then Stuck else values_of xs s)
    by-count false e = values-hold ks xs h s
    by-count true e = absurd (false-true (sym e))

-- each as one of its type
cons-of : (k : Kind) (ks : List Kind) (w : Value) (ws : List Value) → kind_of w ≡ k → map kind_of ws ≡ ks → map kind_of (w ∷ ws) ≡ k ∷ ks
cons-of k ks w ws e f = ap (λ (x : Kind). x ∷ map kind_of ws) e ∙ ap (λ (xs : List Kind). k ∷ xs) f

joined-makes : (k : Kind) (ks : List Kind) (o : Option (Option Value)) (p : Option (Option (List Value))) → Makes (IsOf k) o → Makes (AreOf ks) p → Makes (AreOf (k ∷ ks)) (joined o p)
joined-makes k ks None p f g = f
joined-makes k ks (Some None) p f g = tt
joined-makes k ks (Some (Some w)) None f g = g
joined-makes k ks (Some (Some w)) (Some None) f g = tt
joined-makes k ks (Some (Some w)) (Some (Some ws)) f g = cons-of k ks w ws f g

all-fitted-makes : (ks : List Kind) (vs : List Value) → AllTaken ks vs → Makes (AreOf ks) (all_fitted ks vs)
all-fitted-makes [] [] h = refl
all-fitted-makes (k ∷ ks) (v ∷ vs) h = joined-makes k ks (fitted k v) (all_fitted ks vs) (fitted-makes k (kind_of v) v refl h.0) (all-fitted-makes ks vs h.1)
all-fitted-makes [] (v ∷ vs) h = absurd h
all-fitted-makes (k ∷ ks) [] h = absurd h

-- a stored function that has a meaning
abbrev Meant : Stored → Type 0
Meant entry = (arguments : List Value) → map kind_of arguments ≡ entry.signature.takes → (answer : Value) × IsMeaning entry.tag entry.signature.gives arguments answer

meant-makes : (entry : Stored) → Meant entry → (o : Option (Option (List Value))) → Makes (AreOf entry.signature.takes) o → Makes (IsOf entry.signature.gives) (meant entry.tag o)
meant-makes entry means None h = h
meant-makes entry means (Some None) h = tt
meant-makes entry means (Some (Some vs)) h =
    let m = means vs h in subst (λ (o : Option Value). Makes (IsOf entry.signature.gives) (option_map Some o)) (sym m.1.means) m.1.kind

applied-makes : (found : Option Stored) (entry : Stored) → found ≡ Some entry → Meant entry → (vs : List Value) → AllTaken entry.signature.takes vs
    → Makes (IsOf entry.signature.gives) (option_and_then (λ function. answered function vs) found)
applied-makes found entry e means vs h =
    subst (λ (o : Option Stored). Makes (IsOf entry.signature.gives) (option_and_then (λ function. answered function vs) o)) (sym e)
    (meant-makes entry means (all_fitted entry.signature.takes vs) (all-fitted-makes entry.signature.takes vs h))

module _ (scene : Scene) where
  -- what a function does with operands
  abbrev pub CallWorth : Kind → Callee → Option (List ℕ) → List Operand → Type 0
  CallWorth k c second xs = (s : List Answer) → Holds (IsOf k) (called scene c second xs s)

  pub stored-worth : (k : ℕ) (entry : Stored) → slice_get scene.stored k ≡ Some entry → Meant entry → length entry.signature.takes ≤ 3 → (u : JarUse) (second : Option (List ℕ)) (xs : List Operand)
      → AllGiven entry.signature.takes (with_jar scene u xs) → CallWorth entry.signature.gives (callee.Stored k u) second xs
  stored-worth k entry e means low u second xs h s =
      let all = with_jar scene u xs in
      bind-holds (AllTaken entry.signature.takes) (IsOf entry.signature.gives) (all_values all s) (λ values. made_on (applied scene.stored k values)) (all-values-hold entry.signature.takes all low h s)
      (λ vs p s. made-holds (IsOf entry.signature.gives) (applied scene.stored k vs) (applied-makes (slice_get scene.stored k) entry e means vs p) s)

  purged-holds : (soft : Bool) (v : Value) (s : List Answer) → Holds (IsOf kind.Int) (purged soft v s)
  purged-holds soft v s = by-text (as_text v)
    where
      by-answer : (keys : List ℕ) (s : List Answer) → Holds (IsOf kind.Int) (and_then (ask (Xkey keys soft) s) (λ answer. On (value.Int (number_of answer))))
      by-answer keys [] = tt
      by-answer keys (a ∷ more) = refl

      by-text : (o : Option (List ℕ)) → Holds (IsOf kind.Int) (and_then (known_on o s) (λ keys s. and_then (ask (Xkey keys soft) s) (λ answer. On (value.Int (number_of answer)))))
      by-text None = tt
      by-text (Some keys) = by-answer keys s

  pub xkey-worth : (soft : Bool) (wanted : Kind) (second : Option (List ℕ)) (xs : List Operand) → AllGiven (wanted ∷ []) xs → CallWorth kind.Int (callee.Builtin (builtin.Xkey soft)) second xs
  xkey-worth soft wanted second (x ∷ []) h s = bind-holds (IsOf h.0.0) (IsOf kind.Int) (x s) (purged soft) (h.0.2 s) (λ v p s. purged-holds soft v s)
  xkey-worth soft wanted second [] h s = absurd h
  xkey-worth soft wanted second (x ∷ w ∷ ws) h s = absurd h.1

  pub substitute-worth : (all : Bool) (k l : Kind) (pattern : List ℕ) (x y z : Operand) → Worth k x → Worth l z
      → CallWorth kind.String (callee.Builtin (builtin.Substitute all)) (Some pattern) (x ∷ y ∷ z ∷ [])
  substitute-worth all k l pattern x y z f g s =
      bind-holds (IsOf k) (IsOf kind.String) (x s) (λ v s. and_then (z s) (λ w. known_on (substituted pattern all v w))) (f s)
      (λ v p s.
      bind-holds (IsOf l) (IsOf kind.String) (z s) (λ w. known_on (substituted pattern all v w)) (g s)
      (λ w q s. known-holds (IsOf kind.String) (substituted pattern all v w) (λ r e. substituted-of pattern all v w r e) s))

  pub director-worth : (k : ℕ) (d : Director) → slice_get scene.directors k ≡ Some d → (second : Option (List ℕ)) (xs : List Operand) → AllGiven [] xs
      → CallWorth kind.Backend (callee.Director k) second xs
  director-worth k d e second [] h s =
      made-holds (IsOf kind.Backend) (director_at scene.directors k) (subst (λ (o : Option Director). Makes (IsOf kind.Backend) (option_map (λ x. Some (director_value None x)) o)) (sym e) refl) s
  director-worth k d e second (x ∷ xs) h s = absurd h

  asked-makes : (k : ℕ) (d : Director) → slice_get scene.directors k ≡ Some d → (v : Value) → Makes (IsOf kind.Backend) (asked scene.directors k v)
  asked-makes k d e v = subst (λ (o : Option Director). Makes (IsOf kind.Backend) (option_map (asked_with v) o)) (sym e) (by-text (as_text v))
    where
      by-text : (o : Option (List ℕ)) → Makes (IsOf kind.Backend) (Some (option_map (λ key. director_value (Some key) d) o))
      by-text (Some key) = refl
      by-text None = tt

  pub hash-worth : (k : ℕ) (d : Director) → slice_get scene.directors k ≡ Some d → (wanted : Kind) (second : Option (List ℕ)) (xs : List Operand) → AllGiven (wanted ∷ []) xs
      → CallWorth kind.Backend (callee.Director k) second xs
  hash-worth k d e wanted second (x ∷ []) h s =
      bind-holds (IsOf h.0.0) (IsOf kind.Backend) (x s) (λ v. made_on (asked scene.directors k v)) (h.0.2 s)
      (λ v p s. made-holds (IsOf kind.Backend) (asked scene.directors k v) (asked-makes k d e v) s)
  hash-worth k d e wanted second [] h s = absurd h
  hash-worth k d e wanted second (x ∷ w ∷ ws) h s = absurd h.1

  module _ (known : Known) where
    abbrev pub Typed : Kind → Phrase → Type 0
    Typed k e = Worth k (value_of known scene e)

    pub string-typed : (place : ℕ) (text : List ℕ) → Typed kind.String (String place text)
    unfolding value_of
    string-typed place text s = known-holds (IsOf kind.String) (ok_of (text_value text)) (text-of text) s

    pub integer-typed : (place : ℕ) (n : _) → Typed kind.Int (Integer place n)
    unfolding value_of
    integer-typed place n s = refl

    pub duration-typed : (place : ℕ) (n : _) → Typed kind.Duration (Duration place n)
    unfolding value_of
    duration-typed place n s = refl

    pub named-typed : (k : Kind) (place : ℕ) (name : List ℕ) → ReadIs scene k (read_of known name) → Typed k (Named place name)
    unfolding value_of
    named-typed k place name h s = made-holds (IsOf k) (named_value scene (read_of known name)) h s

    pub group-typed : (k : Kind) (d e : Phrase) → Typed k e → Typed k (Node Group d e)
    unfolding value_of
    group-typed k d e h s = h s

    pub either-typed : (k l : Kind) (d e : Phrase) → is_condition (sort.Value (Some k)) ≡ true → is_condition (sort.Value (Some l)) ≡ true → Typed k d → Typed l e → Typed kind.Bool (Node Either d e)
    unfolding value_of
    either-typed k l d e c b f g s =
        bind-holds (IsOf k) (IsOf kind.Bool) (value_of known scene d s) (decides true (value_of known scene e)) (f s) (decides-holds true k l c b (value_of known scene e) g)

    pub both-typed : (k l : Kind) (d e : Phrase) → is_condition (sort.Value (Some k)) ≡ true → is_condition (sort.Value (Some l)) ≡ true → Typed k d → Typed l e → Typed kind.Bool (Node Both d e)
    unfolding value_of
    both-typed k l d e c b f g s =
        bind-holds (IsOf k) (IsOf kind.Bool) (value_of known scene d s) (decides false (value_of known scene e)) (f s) (decides-holds false k l c b (value_of known scene e) g)

    pub not-typed : (k : Kind) (d e : Phrase) → is_condition (sort.Value (Some k)) ≡ true → Typed k e → Typed kind.Bool (Node Not d e)
    unfolding value_of
    not-typed k d e c f s =
        bind-holds (IsOf k) (IsOf kind.Bool) (value_of known scene e s) (λ v. made_on (opposite v)) (f s) (λ v p s. made-holds (IsOf kind.Bool) (opposite v) (opposite-some k v p c) s)

    -- operands of two
    ordered-typed : (how : Comparison) (k l : Kind) (d e : Phrase) → Compares how k l → Typed k d → Typed l e → (s : List Answer)
        → Holds (IsOf kind.Bool) (and_then (value_of known scene d s) (λ v s. and_then (value_of known scene e s) (λ w. made_on (ordered how v w))))
    ordered-typed how k l d e c f g s =
        bind-holds (IsOf k) (IsOf kind.Bool) (value_of known scene d s) (λ v s. and_then (value_of known scene e s) (λ w. made_on (ordered how v w))) (f s)
        (λ v p s.
        bind-holds (IsOf l) (IsOf kind.Bool) (value_of known scene e s) (λ w. made_on (ordered how v w)) (g s)
        (λ w q s. made-holds (IsOf kind.Bool) (ordered how v w) (ordered-some how k l v w p q c) s))

    pub equal-typed : (k l : Kind) (d e : Phrase) → Compares compare.Equal k l → Typed k d → Typed l e → Typed kind.Bool (Node (Compared asked.Equal) d e)
    unfolding value_of
    equal-typed k l d e c f g s = ordered-typed compare.Equal k l d e c f g s

    pub unequal-typed : (k l : Kind) (d e : Phrase) → Compares compare.NotEqual k l → Typed k d → Typed l e → Typed kind.Bool (Node (Compared asked.NotEqual) d e)
    unfolding value_of
    unequal-typed k l d e c f g s = ordered-typed compare.NotEqual k l d e c f g s

    pub less-typed : (k l : Kind) (d e : Phrase) → Compares compare.Less k l → Typed k d → Typed l e → Typed kind.Bool (Node (Compared asked.Less) d e)
    unfolding value_of
    less-typed k l d e c f g s = ordered-typed compare.Less k l d e c f g s

    pub less-or-equal-typed : (k l : Kind) (d e : Phrase) → Compares compare.LessOrEqual k l → Typed k d → Typed l e → Typed kind.Bool (Node (Compared asked.LessOrEqual) d e)
    unfolding value_of
    less-or-equal-typed k l d e c f g s = ordered-typed compare.LessOrEqual k l d e c f g s

    pub greater-typed : (k l : Kind) (d e : Phrase) → Compares compare.Greater k l → Typed k d → Typed l e → Typed kind.Bool (Node (Compared asked.Greater) d e)
    unfolding value_of
    greater-typed k l d e c f g s = ordered-typed compare.Greater k l d e c f g s

    pub greater-or-equal-typed : (k l : Kind) (d e : Phrase) → Compares compare.GreaterOrEqual k l → Typed k d → Typed l e → Typed kind.Bool (Node (Compared asked.GreaterOrEqual) d e)
    unfolding value_of
    greater-or-equal-typed k l d e c f g s = ordered-typed compare.GreaterOrEqual k l d e c f g s

    pub sum-typed : (k l m : Kind) (d e : Phrase) → adds k l ≡ true → sum_kind k l ≡ Some m → Typed k d → Typed l e → Typed m (Node Added d e)
    unfolding value_of
    sum-typed k l m d e a z f g s =
        bind-holds (IsOf k) (IsOf m) (value_of known scene d s) (λ v s. and_then (value_of known scene e s) (λ w. made_on (summed v w))) (f s)
        (λ v p s.
        bind-holds (IsOf l) (IsOf m) (value_of known scene e s) (λ w. made_on (summed v w)) (g s)
        (λ w q s.
        let A : Kind → Kind → Type 0 = λ x y. (adds x y ≡ true) × (sum_kind x y ≡ Some m) in
        let h : A (kind_of v) (kind_of w) = subst (λ (x : Kind). A x (kind_of w)) (sym p) (subst (λ (y : Kind). A k y) (sym q) (a, z)) in
        made-holds (IsOf m) (summed v w) (given-makes m (sum_of v w) (sum-given v w h.0 m h.1)) s))

    pub difference-typed : (k l m : Kind) (d e : Phrase) → is_ordered (sort.Value (Some k)) ≡ true → same_kind k l ≡ true → difference_kind k l ≡ Some m → Typed k d → Typed l e
        → Typed m (Node Subtracted d e)
    unfolding value_of
    difference-typed k l m d e o a z f g s =
        bind-holds (IsOf k) (IsOf m) (value_of known scene d s) (λ v s. and_then (value_of known scene e s) (λ w. made_on (lessened v w))) (f s)
        (λ v p s.
        bind-holds (IsOf l) (IsOf m) (value_of known scene e s) (λ w. made_on (lessened v w)) (g s)
        (λ w q s.
        let A : Kind → Kind → Type 0 = λ x y. (is_ordered (sort.Value (Some x)) ≡ true) × (same_kind x y ≡ true) × (difference_kind x y ≡ Some m) in
        let h : A (kind_of v) (kind_of w) = subst (λ (x : Kind). A x (kind_of w)) (sym p) (subst (λ (y : Kind). A k y) (sym q) (o, a, z)) in
        made-holds (IsOf m) (lessened v w) (given-makes m (difference_of v w) (difference-given v w h.0 h.1 m h.2)) s))

    -- the right side of a match: a pattern, or behind an address the name of an ACL
    pub data Sought (k : Kind) : Phrase → Type 0 where
      pattern_of : (place : ℕ) (text : List ℕ) → Sought k (String place text)
      acl_named : (place : ℕ) (name : List ℕ) → k ≡ kind.Ip → AclNamed known scene name → Sought k (Named place name)

    sought-makes : (wanted : Bool) (entries : List AclEntry) (v : Value) → kind_of v ≡ kind.Ip → Makes (IsOf kind.Bool) (sought entries wanted v)
    sought-makes wanted entries (value.Ip a) f = refl
    sought-makes wanted entries (value.String a) f = absurd (cc)
    sought-makes wanted entries (value.Int a) f = absurd (cc)
    sought-makes wanted entries (value.Duration a) f = absurd (cc)
    sought-makes wanted entries (value.Bool a) f = absurd (cc)
    sought-makes wanted entries (value.Backend a) f = absurd (cc)

    matched-holds : (wanted : Bool) (k : Kind) (left : Operand) → Worth k left → (e : Phrase) → Sought k e → (s : List Answer)
        → Holds (IsOf kind.Bool) (matched_in known scene wanted left e s)
    matched-holds wanted k left f _ (pattern_of place text) s =
        bind-holds (IsOf k) (IsOf kind.Bool) (left s) (λ v. known_on (matched text wanted v)) (f s)
        (λ v p s. known-holds (IsOf kind.Bool) (matched text wanted v) (λ w e. matched-of text wanted v w e) s)
    matched-holds wanted k left f _ (acl_named place name is acl) s = by-acl (acl_of known name) acl.1
      where
        by-acl : (o : Option ℕ) → o ≡ Some acl.0 → Holds (IsOf kind.Bool) (sought_in scene wanted left o s)
        by-acl None e = absurd (none-some acl.0 e)
        by-acl (Some i) e =
            let there : slice_get scene.acls i ≡ Some acl.2.0 = ap (slice_get scene.acls) (same_Some i acl.0 e) ∙ acl.2.1 in
            bind-holds (IsOf k) (IsOf kind.Bool) (left s) (λ v. made_on (option_and_then (λ es. sought es wanted v) (slice_get scene.acls i))) (f s)
            (λ v p s.
            made-holds (IsOf kind.Bool) (option_and_then (λ es. sought es wanted v) (slice_get scene.acls i))
            (subst (λ (x : Option (List AclEntry)). Makes (IsOf kind.Bool) (option_and_then (λ es. sought es wanted v) x)) (sym there) (sought-makes wanted acl.2.0 v (p ∙ is))) s)

    pub match-typed : (k : Kind) (d e : Phrase) → Typed k d → Sought k e → Typed kind.Bool (Node (Compared asked.Match) d e)
    unfolding value_of
    match-typed k d e f h s = matched-holds true k (value_of known scene d) f e h s

    pub mismatch-typed : (k : Kind) (d e : Phrase) → Typed k d → Sought k e → Typed kind.Bool (Node (Compared asked.NotMatch) d e)
    unfolding value_of
    mismatch-typed k d e f h s = matched-holds false k (value_of known scene d) f e h s

    -- a call of what its name stands for
    pub called-typed : (k : Kind) (place : ℕ) (name : List ℕ) (l : Phrase) (c : Callee) → callee_of known name ≡ c
        → CallWorth k c (second_string l) (operands_of known scene l) → Typed k (Node Called (Named place name) l)
    unfolding value_of
    called-typed k place name l c e h s = subst (λ (x : Callee). CallWorth k x (second_string l) (operands_of known scene l)) (sym e) h s
