-- By the grammar, a statement without a fault of a subroutine that traffic reaches isn't stuck.
use Rattle.std.proofs.Common.{◌≡◌, ℕ, ◌+◌, nat_lt, Bool, true, false, not, ◌&&◌, ◌||◌, List, [], ◌∷◌, refl, sym, ◌∙◌, subst, Option, Some, None, if◌then◌else◌}
use Rattle.std.specs.List.{list_all, list_any}
use Rattle.std.specs.Prelude.{Contains}
use Rattle.std.proofs.lemmas.Option.{none-some, same_Some}
use Rattle.vcl_values.specs.declared.value.Kind.{Kind}
use Rattle.vcl_values.specs.declared.value.Kind.TheVariants as kind
use Rattle.vcl_values.specs.declared.value.Value.{Value as Worth}
use Rattle.vcl_values.specs.Values.{truth_of}
use Rattle.vcl_tree.specs.Phrase as phrase
use Rattle.vcl_tree.specs.Phrase.{Phrase, Node, Nothing, At, Named, More, Called, Bound, Set, Append, Unset, Jump, New, Return as Answers, If, ElseIf, Else}
use Rattle.vcl_tree.specs.ExpressionGrammar.{IsExpression, IsArguments}
use Rattle.vcl_tree.specs.StatementGrammar as grammar
use Rattle.vcl_tree.specs.StatementGrammar.{IsBlock, IsStatements, IsStatement, IsConditional, IsBranch}
use Rattle.vcl_tree.specs.Tokens.{IsName, plain_name, word_name}
use Rattle.vcl_tree.specs.declared.token.Token.{Token}
use Rattle.vcl_language.specs.Scopes.{has}
use Rattle.vcl_language.specs.Variables.{variable_named}
use Rattle.vcl_language.specs.Words.{word_named}
use Rattle.vcl_language.specs.declared.functions.Function.{Function}
use Rattle.vcl_language.specs.declared.functions.Parameter.TheVariants as parameter
use Rattle.vcl_language.specs.Functions.{one}
use Rattle.vcl_language.specs.declared.functions.Slot.{Slot}
use Rattle.vcl_language.specs.declared.scope.Scope.TheVariants as scope
use Rattle.vcl_language.specs.declared.scope.Subroutine.{Subroutine}
use Rattle.vcl_language.specs.declared.variables.Variable.{Variable as Row}
use Rattle.vcl_language.specs.declared.words.Word.{Word}
use Rattle.vcl_context.specs.declared.context.Context.{Context}
use Rattle.vcl_check.specs.declared.form.Form.TheVariants as form
use Rattle.vcl_check.specs.declared.form.Use.{Use}
use Rattle.vcl_check.specs.declared.form.Use.TheVariants as use'
use Rattle.vcl_check.specs.declared.seen.Argument.{Argument}
use Rattle.vcl_check.specs.declared.seen.TheConstants.{NO_ARGUMENTS}
use Rattle.vcl_check.specs.declared.seen.Meaning.{Meaning}
use Rattle.vcl_check.specs.declared.seen.Seen.{Seen}
use Rattle.vcl_check.specs.declared.seen.Sort.{Sort}
use Rattle.vcl_check.specs.declared.seen.Sort.TheVariants as sort
use Rattle.vcl_check.specs.Calls.{mistyped, or_else, ill_called}
use Rattle.vcl_check.specs.Kinds.{is_value, is_condition, same_kind, alike, accepts, is_text}
use Rattle.vcl_check.specs.Known.{meaning_of, of_variable, of_word}
use Rattle.vcl_check.specs.Roles.{Name, Value, Arguments, Block, Statement, Branch, Assignment, Object, Answer, Unread}
use Rattle.vcl_check.specs.Rules.{is_known, may_use, is_reached, is_for_init, may_be_used, may_stand, is_new, may_stand_in, misplaced, ill_set, ill_appended, ill_function, ill_answer, is_one, is_nowhere, answer_takes, other_scope, unwritten_call}
use Rattle.vcl_check.specs.Views.{argument_of, view_of}
use Rattle.vmod_host.specs.declared.signature.JarUse.TheVariants as jar
use Rattle.vcl_context.specs.declared.variable.Variable.TheVariants.{Jar}
use Rattle.vcl_code.specs.declared.callees.Builtin.TheVariants as builtin
use Rattle.vcl_code.specs.declared.names.Callee.{Callee}
use Rattle.vcl_code.specs.declared.names.Callee.TheVariants as callee
use Rattle.vcl_code.specs.declared.node.ReturnWord.{ReturnWord}
use Rattle.vcl_code.specs.declared.node.ReturnWord.TheVariants as word
use Rattle.vcl_code.specs.Names.{Target, Plain, Field, NoTarget, target_of, subroutine_of, word_of, callee_of}
use Rattle.vcl_code.specs.Expressions.{second_string}
use Rattle.vcl_context.specs.declared.turn.Answer.{Answer as Told}
use Rattle.vcl_context.specs.declared.turn.Command.TheVariants.{Ban}
use Rattle.vcl_operands.specs.Outs.{and_then, fail, known_on, ask}
use Rattle.vcl_operands.specs.Values.{as_text}
use Rattle.vcl_operands.specs.Meaning.{Operand, Scene, value_of, operands_of}
use Rattle.vcl_operands.specs.Meaning.{called as call_value}
use Rattle.vcl_eval.specs.States.{State, Doing, in_state, nothing, set_on, set_due, counted, banned, most_statements}
use Rattle.vcl_eval.specs.Statements.{set_to, field_to, append_to, append_field, key_given, body_given}
use Rattle.vcl_meaning.specs.Meaning.{Text, scene_in, then_with, with_value, with_only, set_target, append_target, unset_target, call_on, returned, jar_changed, performed, either_by, statement_of, branches_of, branch_of, block_of}
use Rattle.vcl_soundness.proofs.Rows.{false-true, both-true, IsField, field-unset}
use Rattle.vcl_soundness.proofs.Calls.{known-variable, known-subroutine}
use Rattle.vcl_soundness.proofs.NoFault.{unless-none, or-none}
use Rattle.vcl_soundness.proofs.Clean.{Clean, left-clean, right-clean, fits, placed, written, known-name, used-name}
use Rattle.vcl_soundness.proofs.Places.{not-none}
use Rattle.vcl_soundness.proofs.Holds.{Holds, IsOf, Done, Goes, bind-holds, then-goes, set-goes as context-goes, due-goes}
use Rattle.vcl_soundness.proofs.Values.{truth-has}
use Rattle.vcl_soundness.proofs.Tables.{TargetOf, target-is, is-set, is-set-too}
use Rattle.vcl_soundness.proofs.Names.{Stands, function-does}
use Rattle.vcl_soundness.proofs.Typed.{AllGiven, CallWorth, Typed}
use Rattle.vcl_soundness.proofs.Expressions.{all-contained, Performs, Gives, Fine, AreFine, none, more, are-four, valued, conditional, accepted, Call, does, yields, changes, enrols, calls, expression-fine, arguments-fine}
use Rattle.vcl_soundness.proofs.Changes.{variable-set, variable-appended, field-set, field-appended}
use Rattle.vcl_soundness.proofs.Words.{takes_of, is_untimed, IsWord, word-found, TakesOne, TakesTwo, StandsAlone, returned-alone, returned-one, returned-two}

-- each name of a subroutine that statements call is one of these
abbrev pub AllCall : (List ℕ → Type 0) → Phrase → Type 0
AllCall P (Node More a b) = AllCall P a × AllCall P b
AllCall P (Node ElseIf a b) = AllCall P a × AllCall P b
AllCall P (Node Else a b) = AllCall P a × AllCall P b
AllCall P (Node If a b) = AllCall P b
AllCall P (Node phrase.Branch a b) = AllCall P b
AllCall P (Node Jump a (Named place name)) = P name
AllCall P _ = Unit {0}

same-kind : (k l : Kind) → same_kind k l ≡ true → l ≡ k
same-kind kind.String kind.String h = refl
same-kind kind.Int kind.Int h = refl
same-kind kind.Duration kind.Duration h = refl
same-kind kind.Bool kind.Bool h = refl
same-kind kind.Ip kind.Ip h = refl
same-kind kind.Backend kind.Backend h = refl
same-kind kind.String _ h = absurd (false-true h)
same-kind kind.Int _ h = absurd (false-true h)
same-kind kind.Duration _ h = absurd (false-true h)
same-kind kind.Bool _ h = absurd (false-true h)
same-kind kind.Ip _ h = absurd (false-true h)
same-kind kind.Backend _ h = absurd (false-true h)

text-kind : (k : Kind) → is_text k ≡ true → k ≡ kind.String
text-kind kind.String e = refl
text-kind kind.Int e = absurd (false-true e)
text-kind kind.Duration e = absurd (false-true e)
text-kind kind.Bool e = absurd (false-true e)
text-kind kind.Ip e = absurd (false-true e)
text-kind kind.Backend e = absurd (false-true e)

known-one : (o : Option Word) → is_known (of_word o) ≡ true → (w : Word) × (o ≡ Some w)
known-one (Some w) h = (w, refl)
known-one None h = absurd (false-true h)

not-other : (b : Bool) (place : ℕ) (o : Option ℕ) → (if b then Some place else o) ≡ None → o ≡ None
not-other true place o e = absurd (not-none place e)
not-other false place o e = e

-- statements are counted
counted-goes : (f : Doing) → Goes f → Goes (counted f)
counted-goes f h s = by-count (nat_lt s.statements most_statements)
  where
    by-count : (b : Bool) → Holds Done (if b then f (record s { statements = s.statements + 1 }) else fail s)
    by-count true = h (record s { statements = s.statements + 1 })
    by-count false = tt

either-goes : (o : Option Bool) (b : Bool) → o ≡ Some b → (f g : Doing) → Goes f → Goes g → Goes (either_by o f g)
either-goes (Some true) b e f g p q s = p s
either-goes (Some false) b e f g p q s = q s
either-goes None b e f g p q s = absurd (none-some b e)

nothing-goes : Goes nothing
nothing-goes s = tt

-- any text is asked to be banned
banned-goes : (v : Worth) → Goes (banned v)
banned-goes v s = by-text (as_text v)
  where
    by-answer : (t : List ℕ) (z : State) (answers : List Told) → Holds Done (and_then (in_state z (ask (Ban t) answers)) (λ answer. nothing))
    by-answer t z [] = tt
    by-answer t z (a ∷ others) = tt

    by-text : (o : Option (List ℕ)) → Holds Done (and_then (known_on o s) (λ text z. and_then (in_state z (ask (Ban text) z.answers)) (λ answer. nothing)))
    by-text None = tt
    by-text (Some t) = by-answer t s s.answers

-- a function with one text, and one with a value
only-goes : (wanted : Kind) (xs : List Operand) → AllGiven (wanted ∷ []) xs → (next : Worth → Doing) → ((v : Worth) → Goes (next v)) → Goes (with_only xs next)
only-goes wanted (x ∷ []) h next k s = then-goes (IsOf h.0.0) x next s (h.0.2 s.answers) (λ v p. k v)
only-goes wanted [] h next k s = absurd h
only-goes wanted (x ∷ w ∷ ws) h next k s = absurd h.1

performs-goes : (scene : Scene) (wanted : Kind) (c : Callee) → Performs c → (second : Option (List ℕ)) (xs : List Operand) → AllGiven (wanted ∷ []) xs → Goes (performed scene c second xs)
performs-goes scene wanted (callee.Builtin builtin.HashData) p second xs h s = only-goes wanted xs h (λ v s. set_on (key_given v s.context) s) (λ v z. context-goes (key_given v z.context) z) s
performs-goes scene wanted (callee.Builtin builtin.Synthetic) p second xs h s = only-goes wanted xs h (λ v s. set_on (body_given v s.context) s) (λ v z. context-goes (body_given v z.context) z) s
performs-goes scene wanted (callee.Builtin builtin.Ban) p second xs h s = only-goes wanted xs h banned banned-goes s
performs-goes scene wanted (callee.Builtin (builtin.Substitute all)) p second xs h s = absurd p
performs-goes scene wanted (callee.Builtin (builtin.Xkey soft)) p second xs h s = absurd p
performs-goes scene wanted (callee.Stored k u) p second xs h s = absurd p
performs-goes scene wanted (callee.Director k) p second xs h s = absurd p
performs-goes scene wanted callee.Absent p second xs h s = absurd p

module _ (scene : Scene) (k : Kind) (second : Option (List ℕ)) (xs : List Operand) where
  forgotten : (c : Callee) → CallWorth scene k c second xs → Goes (then_with (call_value scene c second xs) (λ v. nothing))
  forgotten c h s = then-goes (IsOf k) (call_value scene c second xs) (λ v. nothing) s (h s.answers) (λ v p. nothing-goes)

  -- the jar takes a value of any type
  changes-goes : (i : ℕ) → CallWorth scene k (callee.Stored i jar.Changes) second xs → Goes (performed scene (callee.Stored i jar.Changes) second xs)
  changes-goes i h s =
      then-goes (IsOf k) (call_value scene (callee.Stored i jar.Changes) second xs) jar_changed s (h s.answers)
      (λ v p z. due-goes (set_to Jar v z.context) (variable-set Jar refl k refl v p z.context) z)

  gives-goes : (c : Callee) → Gives c → CallWorth scene k c second xs → Goes (performed scene c second xs)
  gives-goes (callee.Builtin (builtin.Substitute all)) g h s = forgotten (callee.Builtin (builtin.Substitute all)) h s
  gives-goes (callee.Builtin (builtin.Xkey soft)) g h s = forgotten (callee.Builtin (builtin.Xkey soft)) h s
  gives-goes (callee.Stored i jar.None) g h s = forgotten (callee.Stored i jar.None) h s
  gives-goes (callee.Stored i jar.Asks) g h s = forgotten (callee.Stored i jar.Asks) h s
  gives-goes (callee.Stored i jar.Changes) g h s = absurd g
  gives-goes (callee.Director i) g h s = forgotten (callee.Director i) h s
  gives-goes callee.Absent g h s = forgotten callee.Absent h s
  gives-goes (callee.Builtin builtin.HashData) g h s = absurd g
  gives-goes (callee.Builtin builtin.Synthetic) g h s = absurd g
  gives-goes (callee.Builtin builtin.Ban) g h s = absurd g

call-goes : (calls : ℕ → Doing) (o : Option ℕ) (k : ℕ) → o ≡ Some k → Goes (calls k) → Goes (call_on calls o)
call-goes calls (Some i) k e h s = subst (λ (j : ℕ). Holds Done (calls j s)) (sym (same_Some i k e)) (h s)
call-goes calls None k e h s = absurd (none-some k e)

module _ (t : Text) (stands : (c : Context) → Stands t.known (scene_in t c)) (roots : List Subroutine) (root : Subroutine)
    (reached : Contains roots root) (traffic : has scope.Init root ≡ false) (calls' : ℕ → Doing) where
  -- what a statement and a name may do from the subroutine from which it is reached
  stands-there : (f : _) (a b : Seen) → misplaced roots f a b ≡ None → may_stand f b.meaning root ≡ true
  stands-there f a b e =
      let all = both-true (list_all (λ x. may_stand f b.meaning x) roots) (is_reached roots || not (is_new f)) (unless-none (may_stand_in roots f b.meaning) a.first e) in
      all-contained (λ x. may_stand f b.meaning x) roots root all.0 reached.0 reached.1 reached.2

  used-there : (u : Use) (place : ℕ) (name : List ℕ) → Clean t.known roots (Name u) (Named place name) → may_use u (meaning_of t.known u name) root ≡ true
  used-there u place name c =
      let m = meaning_of t.known u name in
      let all = both-true (list_all (λ x. may_use u m x) roots) (is_reached roots || not (is_for_init u m))
      (unless-none (may_be_used roots u m) place (used-name t.known roots (Name u) place name c)) in
      all-contained (λ x. may_use u m x) roots root all.0 reached.0 reached.1 reached.2

  -- expressions, whatever the variables are
  abbrev FineIn : Context → Phrase → Type 0
  FineIn c e = Fine t.known (scene_in t c) (stands c) roots root reached e

  abbrev Fines : Phrase → Type 0
  Fines e = (c : Context) → FineIn c e

  abbrev TypedIn : Context → Kind → Phrase → Type 0
  TypedIn c k e = Typed (scene_in t c) t.known k e

  abbrev SortOf : Phrase → Sort
  SortOf e = (view_of t.known Value e).sort

  -- what statements do with a value
  with-goes : (P : Kind → Type 0) (e : Phrase) (next : Worth → Doing) → ((c : Context) → (k : Kind) × P k × TypedIn c k e) → ((k : Kind) → P k → (v : Worth) → IsOf k v → Goes (next v))
      → Goes (with_value t e next)
  with-goes P e next typed h s =
      let x = typed s.context in
      then-goes (IsOf x.0) (value_of t.known (scene_in t s.context) e) next s (x.2 s.answers) (λ v p. h x.0 x.1 v p)

  -- what is set and added to
  abbrev SetsTo : Row → Kind → Type 0
  SetsTo v k = accepts v.kind (sort.Value (Some k)) ≡ true

  set-target : (v : Row) (w : Target) (e : Phrase) → TargetOf v w → has v.set root ≡ true → ((c : Context) → (k : Kind) × SetsTo v k × TypedIn c k e) → Goes (set_target t w e)
  set-target v (Plain w) e is h typed s =
      with-goes (SetsTo v) e (λ x z. set_due (set_to w x z.context) z) typed
      (λ k a x p z. due-goes (set_to w x z.context) (variable-set w (is-set v w root is h) k (subst (λ (l : Kind). accepts l (sort.Value (Some k)) ≡ true) (sym is.kind) a) x p z.context) z) s
  set-target v (Field message name) e is h typed s =
      with-goes (SetsTo v) e (λ x z. set_due (field_to message name x z.context) z) typed (λ k a x p z. due-goes (field_to message name x z.context) (field-set message name x z.context) z) s
  set-target v NoTarget e is h typed s = absurd is

  append-target : (name : List ℕ) (v : Row) (w : Target) (e : Phrase) → variable_named name ≡ Some v → target_of name ≡ w → TargetOf v w → is_text v.kind ≡ true → has v.append root ≡ true
      → ((c : Context) → (k : Kind) × Unit {0} × TypedIn c k e) → Goes (append_target t w e)
  append-target name v (Plain w) e named target is text h typed s =
      with-goes (λ k. Unit {0}) e (λ x z. set_due (append_to w x z.context) z) typed
      (λ k a x p z. due-goes (append_to w x z.context) (variable-appended w (is-set-too name v w root named target is h) (is.kind ∙ text-kind v.kind text) x z.context) z) s
  append-target name v (Field message own) e named target is text h typed s =
      with-goes (λ k. Unit {0}) e (λ x z. set_due (append_field message own x z.context) z) typed
      (λ k a x p z. due-goes (append_field message own x z.context) (field-appended message own x z.context) z) s
  append-target name v NoTarget e named target is text h typed s = absurd is

  abbrev StatementGoes : Phrase → Type 0
  StatementGoes e = Goes (statement_of t calls' e)

  set-goes : (p q : ℕ) (name : List ℕ) {e : Phrase} → Fines e → Clean t.known roots Statement (Node Set (At p) (Node Bound (Named q name) e))
      → StatementGoes (Node Set (At p) (Node Bound (Named q name) e))
  unfolding statement_of meaning_of
  set-goes p q name {e} f c =
      let b = Node Bound (Named q name) e in
      let bound = right-clean t.known roots Statement Set (At p) b c in
      let name-clean = left-clean t.known roots (Assignment use'.Set) Bound (Named q name) e bound in
      let value-clean = right-clean t.known roots (Assignment use'.Set) Bound (Named q name) e bound in
      let v = known-variable (variable_named name) (known-name t.known roots (Name use'.Set) use'.Set q name refl name-clean) in
      let M : Option Row → Type 0 = λ o. ill_set (of_variable o) (view_of t.known (Assignment use'.Set) b) ≡ None in
      let U : Option Row → Type 0 = λ o. may_use use'.Set (of_variable o) root ≡ true in
      let fit = unless-none (accepts v.0.kind (SortOf e)) (view_of t.known Value e).first (subst M v.1 (fits t.known roots Statement Set (At p) b c)) in
      set-target v.0 (target_of name) e (target-is name v.0 v.1) (subst U v.1 (used-there use'.Set q name name-clean))
      (λ k. accepted t.known (scene_in t k) (stands k) roots root reached v.0.kind (SortOf e) e fit (f k value-clean))

  append-goes : (p q : ℕ) (name : List ℕ) {e : Phrase} → Fines e → Clean t.known roots Statement (Node Append (At p) (Node Bound (Named q name) e))
      → StatementGoes (Node Append (At p) (Node Bound (Named q name) e))
  unfolding statement_of meaning_of
  append-goes p q name {e} f c =
      let b = Node Bound (Named q name) e in
      let bound = right-clean t.known roots Statement Append (At p) b c in
      let name-clean = left-clean t.known roots (Assignment use'.Append) Bound (Named q name) e bound in
      let value-clean = right-clean t.known roots (Assignment use'.Append) Bound (Named q name) e bound in
      let v = known-variable (variable_named name) (known-name t.known roots (Name use'.Append) use'.Append q name refl name-clean) in
      let M : Option Row → Type 0 = λ o. ill_appended (of_variable o) (view_of t.known (Assignment use'.Append) b) ≡ None in
      let U : Option Row → Type 0 = λ o. may_use use'.Append (of_variable o) root ≡ true in
      let fit = unless-none (is_text v.0.kind && is_value (SortOf e)) (view_of t.known Value e).first (subst M v.1 (fits t.known roots Statement Append (At p) b c)) in
      let both = both-true (is_text v.0.kind) (is_value (SortOf e)) fit in
      append-target name v.0 (target_of name) e v.1 refl (target-is name v.0 v.1) both.0 (subst U v.1 (used-there use'.Append q name name-clean))
      (λ k. let x = valued t.known (scene_in t k) (stands k) roots root reached (SortOf e) e both.1 (f k value-clean) in (x.0, tt, x.2))

  unset-target : (w : Target) → IsField w → Goes (unset_target w)
  unset-target (Field message name) h s = tt
  unset-target (Plain w) h s = absurd h
  unset-target NoTarget h s = absurd h

  unset-goes : (p q : ℕ) (name : List ℕ) → Clean t.known roots Statement (Node Unset (At p) (Named q name)) → StatementGoes (Node Unset (At p) (Named q name))
  unfolding statement_of meaning_of
  unset-goes p q name c =
      let name-clean = right-clean t.known roots Statement Unset (At p) (Named q name) c in
      let v = known-variable (variable_named name) (known-name t.known roots (Name use'.Unset) use'.Unset q name refl name-clean) in
      let M : Option Row → Type 0 = λ o. may_use use'.Unset (of_variable o) root ≡ true in
      unset-target (target_of name) (field-unset name v.0 root v.1 (subst M v.1 (used-there use'.Unset q name name-clean)))

  -- calls of subroutines that do the same
  abbrev pub Leads : List ℕ → Type 0
  Leads name = is_known (meaning_of t.known use'.Subroutine name) ≡ true → (k : ℕ) → subroutine_of t.known name ≡ Some k → Goes (calls' k)

  jump-goes : (p q : ℕ) (name : List ℕ) → Clean t.known roots Statement (Node Jump (At p) (Named q name)) → Leads name → StatementGoes (Node Jump (At p) (Named q name))
  unfolding statement_of
  jump-goes p q name c h s =
      let name-clean = right-clean t.known roots Statement Jump (At p) (Named q name) c in
      let is = known-name t.known roots (Name use'.Subroutine) use'.Subroutine q name refl name-clean in
      let k = known-subroutine t.known name is in
      call-goes calls' (subroutine_of t.known name) k.0 k.1 (h is k.0 k.1) s

  -- `new` doesn't stand there
  new-nowhere : (p : ℕ) (b : Phrase) → Clean t.known roots Statement (Node New (At p) b) → ⊥
  new-nowhere p b c = false-true (sym traffic ∙ stands-there form.New (view_of t.known Unread (At p)) (view_of t.known Object b) (placed t.known roots Statement New (At p) b c))

  -- words of return, by how many arguments they are used with
  ill-answer : (o : Option Word) (w : Word) (r : ReturnWord) (given : List (Option Argument)) (place : ℕ) → o ≡ Some w → IsWord w r → ill_answer roots (of_word o) given place ≡ None
      → ill_called (if is_one given && not (is_untimed r) then one (parameter.Value kind.Duration) else takes_of r) given place ≡ None
  ill-answer o w r given place e is h =
      let M : Option Word → Type 0 = λ x. ill_answer roots (of_word x) given place ≡ None in
      let i = not-other (list_any (λ x. has (other_scope w given) x) roots) place (ill_called (answer_takes w given) given place) (subst M e h) in
      let T : Bool → List Slot → Type 0 = λ b x. ill_called (if is_one given && not b then one (parameter.Value kind.Duration) else x) given place ≡ None in
      subst (λ (b : Bool). T b (takes_of r)) is.timed (subst (λ (x : List Slot). T (is_nowhere w.timed) x) is.takes i)

  stands-alone : (r : ReturnWord) (place : ℕ) → ill_called (takes_of r) NO_ARGUMENTS place ≡ None → StandsAlone r
  stands-alone word.Synth place i = absurd (not-none place i)
  stands-alone _ place i = tt

  -- one value and two
  abbrev SeenOf : Phrase → Argument
  SeenOf e = argument_of (view_of t.known Value e)

  abbrev Wanted : Kind → Phrase → Type 0
  Wanted k e = mistyped (Some (parameter.Value k)) (SeenOf e) ≡ None

  exactly : (k : Kind) (e : Phrase) → ((s : Sort) → accepts k s ≡ alike (sort.Value (Some k)) s) → Wanted k e → (c : Context) → FineIn c e → Clean t.known roots Value e → TypedIn c k e
  exactly k e strict m c f clean =
      let a = unless-none (accepts k (SortOf e)) (view_of t.known Value e).first m in
      let x = accepted t.known (scene_in t c) (stands c) roots root reached k (SortOf e) e a (f clean) in
      let same : x.0 ≡ k = same-kind k x.0 (sym (strict (sort.Value (Some x.0))) ∙ x.1) in
      subst (λ (l : Kind). TypedIn c l e) same x.2

  one-wanted : (r : ReturnWord) (x : Argument) (place : ℕ) → ill_called (if not (is_untimed r) then one (parameter.Value kind.Duration) else takes_of r) (Some x ∷ None ∷ None ∷ None ∷ []) place ≡ None
      → (k : Kind) × ((s : Sort) → accepts k s ≡ alike (sort.Value (Some k)) s) × (mistyped (Some (parameter.Value k)) x ≡ None) × TakesOne r k
  one-wanted word.Synth x place i = (kind.Int, λ s. refl, (or-none (mistyped (Some (parameter.Value kind.Int)) x) None i).0, refl)
  one-wanted word.Error x place i = (kind.Int, λ s. refl, (or-none (mistyped (Some (parameter.Value kind.Int)) x) None i).0, refl)
  one-wanted word.Pass x place i = (kind.Duration, λ s. refl, (or-none (mistyped (Some (parameter.Value kind.Duration)) x) None i).0, refl)
  one-wanted _ x place i = absurd (not-none place i)

  both-wanted : (x y : Argument) → or_else (mistyped (Some (parameter.Value kind.Int)) x) (or_else (mistyped (Some (parameter.Value kind.String)) y) None) ≡ None
      → (mistyped (Some (parameter.Value kind.Int)) x ≡ None) × (mistyped (Some (parameter.Value kind.String)) y ≡ None) × (kind.Int ≡ kind.Int)
  both-wanted x y i =
      let m = or-none (mistyped (Some (parameter.Value kind.Int)) x) (or_else (mistyped (Some (parameter.Value kind.String)) y) None) i in
      (m.0, (or-none (mistyped (Some (parameter.Value kind.String)) y) None m.1).0, refl)

  two-wanted : (r : ReturnWord) (x y : Argument) (place : ℕ) → ill_called (takes_of r) (Some x ∷ Some y ∷ None ∷ None ∷ []) place ≡ None
      → (mistyped (Some (parameter.Value kind.Int)) x ≡ None) × (mistyped (Some (parameter.Value kind.String)) y ≡ None) × TakesTwo r kind.Int
  two-wanted word.Synth x y place i = both-wanted x y i
  two-wanted word.Error x y place i = both-wanted x y i
  two-wanted _ x y place i = absurd (not-none place i)

  three-wanted : (r : ReturnWord) (x y z : Argument) (last : Option Argument) (place : ℕ) → ill_called (takes_of r) (Some x ∷ Some y ∷ Some z ∷ last ∷ []) place ≡ None → ⊥
  three-wanted word.Synth x y z last place i = not-none place i
  three-wanted word.Error x y z last place i = not-none place i
  three-wanted _ x y z last place i = not-none place i

  abbrev AreFines : Phrase → Type 0
  AreFines l = (c : Context) → AreFine t.known (scene_in t c) (stands c) roots root reached l

  abbrev ListedOf : Phrase → List (Option Argument)
  ListedOf l = (view_of t.known Arguments l).arguments

  abbrev ReturnedGoes : ReturnWord → Phrase → State → Type 0
  ReturnedGoes r l s = Holds Done (returned (Some r) (operands_of t.known (scene_in t s.context) l) s)

  with-arguments : (r : ReturnWord) (place : ℕ) (s : State) {l : Phrase} → AreFine t.known (scene_in t s.context) (stands s.context) roots root reached l → Clean t.known roots Arguments l
      → ill_called (if is_one (ListedOf l) && not (is_untimed r) then one (parameter.Value kind.Duration) else takes_of r) (ListedOf l) place ≡ None → ReturnedGoes r l s
  unfolding operands_of
  with-arguments r place s none c i = returned-alone r (stands-alone r place i) s
  with-arguments r place s (more {e = x} none f) c i =
      let m = one-wanted r (SeenOf x) place i in
      let a = exactly m.0 x m.1 m.2 s.context f (right-clean t.known roots Arguments More Nothing x c) in
      returned-one r m.0 (value_of t.known (scene_in t s.context) x) m.3 a s
  with-arguments r place s (more {e = y} (more {e = x} none f) g) c i =
      let front = left-clean t.known roots Arguments More (Node More Nothing x) y c in
      let m = two-wanted r (SeenOf x) (SeenOf y) place i in
      let a = exactly kind.Int x (λ z. refl) m.0 s.context f (right-clean t.known roots Arguments More Nothing x front) in
      let b = accepted t.known (scene_in t s.context) (stands s.context) roots root reached kind.String (SortOf y) y (unless-none (accepts kind.String (SortOf y)) (view_of t.known Value y).first m.1)
      (g (right-clean t.known roots Arguments More (Node More Nothing x) y c)) in
      let by : Phrase → Operand = λ p. value_of t.known (scene_in t s.context) p in
      returned-two r kind.Int b.0 (by x) (by y) m.2 a b.2 s
  with-arguments r place s (more {e = z} (more {e = y} (more {e = x} none f) g) h) c i = absurd (three-wanted r (SeenOf x) (SeenOf y) (SeenOf z) None place i)
  with-arguments r place s (more (more (more (more m d) f) g) h) c i =
      let four = are-four t.known (scene_in t s.context) (stands s.context) roots root reached m c in
      let P : List (Option Argument) → Type 0 = λ q. ill_called (if is_one q && not (is_untimed r) then one (parameter.Value kind.Duration) else takes_of r) q place ≡ None in
      absurd (three-wanted r four.0 four.1 four.2 (Some four.3) place (subst P four.4 i))

  word-of : (o p : Option ReturnWord) (r : ReturnWord) → o ≡ Some r → (s : State) (xs : List Operand) → p ≡ o → Holds Done (returned (Some r) xs s) → Holds Done (returned p xs s)
  word-of o p r e s xs f h = subst (λ (q : Option ReturnWord). Holds Done (returned q xs s)) (sym (f ∙ e)) h

  return-goes : (p q : ℕ) (name : List ℕ) → Clean t.known roots Statement (Node Answers (At p) (Named q name)) → StatementGoes (Node Answers (At p) (Named q name))
  unfolding statement_of meaning_of
  return-goes p q name c s =
      let name-clean = right-clean t.known roots Statement Answers (At p) (Named q name) c in
      let w = known-one (word_named name) (known-name t.known roots Answer use'.Word q name refl name-clean) in
      let r = word-found name w.0 w.1 in
      let i = ill-answer (word_named name) w.0 r.0 NO_ARGUMENTS q w.1 r.2 (fits t.known roots Statement Answers (At p) (Named q name) c) in
      word-of (word_of name) (word_of name) r.0 r.1 s [] refl (returned-alone r.0 (stands-alone r.0 q i) s)

  answer-goes : (p q : ℕ) (name : List ℕ) {l : Phrase} → AreFines l → Clean t.known roots Statement (Node Answers (At p) (Node Called (Named q name) l))
      → StatementGoes (Node Answers (At p) (Node Called (Named q name) l))
  unfolding statement_of meaning_of
  answer-goes p q name {l} g c s =
      let b = Node Called (Named q name) l in
      let answer = right-clean t.known roots Statement Answers (At p) b c in
      let name-clean = left-clean t.known roots Answer Called (Named q name) l answer in
      let w = known-one (word_named name) (known-name t.known roots (Name use'.Word) use'.Word q name refl name-clean) in
      let r = word-found name w.0 w.1 in
      let i = ill-answer (word_named name) w.0 r.0 (ListedOf l) q w.1 r.2 (fits t.known roots Statement Answers (At p) b c) in
      word-of (word_of name) (word_of name) r.0 r.1 s (operands_of t.known (scene_in t s.context) l) refl
      (with-arguments r.0 q s (g s.context) (right-clean t.known roots Answer Called (Named q name) l answer) i)

  -- a function that is called as a statement
  abbrev PerformedGoes : Callee → Phrase → State → Type 0
  PerformedGoes x l s = Holds Done (performed (scene_in t s.context) x (second_string l) (operands_of t.known (scene_in t s.context) l) s)

  performed-goes : (s : State) (f : Function) (name : List ℕ) (l : Phrase) → has f.scope root ≡ true → Call t.known (scene_in t s.context) (stands s.context) roots root reached f name l
      → PerformedGoes (callee_of t.known name) l s
  performed-goes s f name l h (does x e p n g) =
      let scene = scene_in t s.context in
      subst (λ (y : Callee). PerformedGoes y l s) (sym e)
      (performs-goes scene kind.String x p (second_string l) (operands_of t.known scene l) g s)
  performed-goes s f name l h (yields k x e p n g) =
      let scene = scene_in t s.context in
      subst (λ (y : Callee). PerformedGoes y l s) (sym e) (gives-goes scene k (second_string l) (operands_of t.known scene l) x p g s)
  performed-goes s f name l h (changes k i e n g) =
      let scene = scene_in t s.context in
      subst (λ (y : Callee). PerformedGoes y l s) (sym e) (changes-goes scene k (second_string l) (operands_of t.known scene l) i g s)
  performed-goes s f name l h (enrols way same) = absurd (false-true (sym traffic ∙ subst (λ (x : Function). has x.scope root ≡ true) same h))

  run-goes : (place : ℕ) (name : List ℕ) {l : Phrase} → AreFines l → Clean t.known roots Statement (Node Called (Named place name) l) → StatementGoes (Node Called (Named place name) l)
  unfolding statement_of
  run-goes place name {l} g c s =
      let name-clean = left-clean t.known roots Statement Called (Named place name) l c in
      let scene = scene_in t s.context in
      let k = function-does t.known scene (stands s.context) name (known-name t.known roots (Name use'.Function) use'.Function place name refl name-clean) in
      let T : Meaning → Type 0 = λ m. may_use use'.Function m root ≡ true in
      let I : Meaning → Type 0 = λ m. ill_function m (ListedOf l) place ≡ None in
      let U : Meaning → Type 0 = λ m. unwritten_call m (ListedOf l) ≡ None in
      let i = subst I k.1 (fits t.known roots Statement Called (Named place name) l c) in
      let u = subst U k.1 (written t.known roots Statement Called (Named place name) l c) in
      performed-goes s k.0 name l (subst T k.1 (used-there use'.Function place name name-clean))
      (calls t.known scene (stands s.context) roots root reached k.0 name k.2 (g s.context) (right-clean t.known roots Statement Called (Named place name) l c) place i u)

  -- conditions, branches and blocks
  abbrev pub BlockGoes : Phrase → Type 0
  BlockGoes b = Clean t.known roots Block b → AllCall Leads b → Goes (block_of t calls' b)

  abbrev StatementFine : Phrase → Type 0
  StatementFine e = Clean t.known roots Statement e → AllCall Leads e → StatementGoes e

  abbrev BranchFine : Phrase → Type 0
  BranchFine b = Clean t.known roots Branch b → AllCall Leads b → (f : Doing) → Goes f → Goes (branch_of t calls' b f)

  abbrev ConditionalFine : Phrase → Type 0
  ConditionalFine e = Clean t.known roots Statement e → AllCall Leads e → ((f : Doing) → Goes f → Goes (branches_of t calls' e f)) × StatementGoes e

  branch-fine : {e b : Phrase} → Fines e → BlockGoes b → BranchFine (Node phrase.Branch e b)
  unfolding branch_of
  branch-fine {e} {b} f g c calls f' h s =
      let view = view_of t.known Value e in
      let fit = unless-none (is_condition view.sort) view.first (fits t.known roots Branch phrase.Branch e b c) in
      let Q : Kind → Type 0 = λ k. is_condition (sort.Value (Some k)) ≡ true in
      let block = g (right-clean t.known roots Branch phrase.Branch e b c) calls in
      with-goes Q e (λ v. either_by (truth_of v) (block_of t calls' b) f')
      (λ x. conditional t.known (scene_in t x) (stands x) roots root reached view.sort e fit (f x (left-clean t.known roots Branch phrase.Branch e b c)))
      (λ k q v p. let b' = truth-has k v p q in either-goes (truth_of v) b'.0 b'.1 (block_of t calls' b) f' block h) s

  if-fine : (place : ℕ) {b : Phrase} → BranchFine b → ConditionalFine (Node If (At place) b)
  unfolding statement_of branches_of
  if-fine place {b} f c calls =
      let arm = f (right-clean t.known roots Statement If (At place) b c) calls in
      (arm, arm nothing nothing-goes)

  else-if-fine : {e b : Phrase} → ConditionalFine e → BranchFine b → ConditionalFine (Node ElseIf e b)
  unfolding statement_of branches_of
  else-if-fine {e} {b} f g c calls =
      let front = (f (left-clean t.known roots Statement ElseIf e b c) calls.0).0 in
      let arm = g (right-clean t.known roots Statement ElseIf e b c) calls.1 in (
        λ x h. front (branch_of t calls' b x) (arm x h),
        front (branch_of t calls' b nothing) (arm nothing nothing-goes),
      )

  else-fine : {e b : Phrase} → ConditionalFine e → BlockGoes b → StatementFine (Node Else e b)
  unfolding statement_of
  else-fine {e} {b} f g c calls =
      let front = (f (left-clean t.known roots Statement Else e b c) calls.0).0 in
      front (block_of t calls' b) (g (right-clean t.known roots Statement Else e b c) calls.1)

  none-fine : BlockGoes Nothing
  unfolding block_of
  none-fine c calls s = tt

  more-fine : {l e : Phrase} → BlockGoes l → StatementFine e → BlockGoes (Node More l e)
  unfolding block_of
  more-fine {l} {e} f g c calls s =
      let front = f (left-clean t.known roots Block More l e c) calls.0 in
      let last = counted-goes (statement_of t calls' e) (g (right-clean t.known roots Block More l e c) calls.1) in
      bind-holds Done Done (block_of t calls' l s) (λ done. counted (statement_of t calls' e)) (front s) (λ done p z. last z)

  set-fine : {n e : Phrase} {x : Token} (p : ℕ) → IsName n x → Fines e → StatementFine (Node Set (At p) (Node Bound n e))
  set-fine p (plain_name {p = q} {t = n}) f c h = set-goes p q n f c
  set-fine p (word_name {p = q} {t = n}) f c h = set-goes p q n f c

  append-fine : {n e : Phrase} {x : Token} (p : ℕ) → IsName n x → Fines e → StatementFine (Node Append (At p) (Node Bound n e))
  append-fine p (plain_name {p = q} {t = n}) f c h = append-goes p q n f c
  append-fine p (word_name {p = q} {t = n}) f c h = append-goes p q n f c

  unset-fine : {n : Phrase} {x : Token} (p : ℕ) → IsName n x → StatementFine (Node Unset (At p) n)
  unset-fine p (plain_name {p = q} {t = n}) c h = unset-goes p q n c
  unset-fine p (word_name {p = q} {t = n}) c h = unset-goes p q n c

  jump-fine : {n : Phrase} {x : Token} (p : ℕ) → IsName n x → StatementFine (Node Jump (At p) n)
  jump-fine p (plain_name {p = q} {t = n}) c h = jump-goes p q n c h
  jump-fine p (word_name {p = q} {t = n}) c h = jump-goes p q n c h

  return-fine : {n : Phrase} {x : Token} (p : ℕ) → IsName n x → StatementFine (Node Answers (At p) n)
  return-fine p (plain_name {p = q} {t = n}) c h = return-goes p q n c
  return-fine p (word_name {p = q} {t = n}) c h = return-goes p q n c

  answer-fine : {n l : Phrase} {x : Token} (p : ℕ) → IsName n x → AreFines l → StatementFine (Node Answers (At p) (Node Called n l))
  answer-fine p (plain_name {p = q} {t = n}) g c h = answer-goes p q n g c
  answer-fine p (word_name {p = q} {t = n}) g c h = answer-goes p q n g c

  expressions : {e : Phrase} {ts rest : List Token} → IsExpression e ts rest → Fines e
  expressions h c = expression-fine t.known (scene_in t c) (stands c) roots root reached h

  arguments : {b : Bool} {l : Phrase} {ts rest : List Token} → IsArguments b l ts rest → AreFines l
  arguments h c = arguments-fine t.known (scene_in t c) (stands c) roots root reached h

  mutual
    pub block-goes : {b : Phrase} {ts rest : List Token} → IsBlock b ts rest → BlockGoes b
    block-goes (grammar.block h) = statements-fine h

    statements-fine : {l : Phrase} {ts rest : List Token} → IsStatements l ts rest → BlockGoes l
    statements-fine grammar.no_statements = none-fine
    statements-fine (grammar.more_statements h k) = more-fine (statements-fine h) (statement-fine k)

    statement-fine : {e : Phrase} {ts rest : List Token} → IsStatement e ts rest → StatementFine e
    statement-fine (grammar.set {p = p} h k) = set-fine p h (expressions k)
    statement-fine (grammar.append {p = p} h k) = append-fine p h (expressions k)
    statement-fine (grammar.unset {p = p} h) = unset-fine p h
    statement-fine (grammar.jump {p = p} h) = jump-fine p h
    statement-fine (grammar.new {p = p} h k l) = λ c. absurd (new-nowhere p _ c)
    statement-fine (grammar.conditional h) = λ c calls. (conditional-fine h c calls).1
    statement-fine (grammar.otherwise h k) = else-fine (conditional-fine h) (block-goes k)
    statement-fine (grammar.return {p = p} h) = return-fine p h
    statement-fine (grammar.return_with {p = p} h k) = answer-fine p h (arguments k)
    statement-fine (grammar.run {p = p} {t = n} h) = λ c calls. run-goes p n (arguments h) c

    conditional-fine : {e : Phrase} {ts rest : List Token} → IsConditional e ts rest → ConditionalFine e
    conditional-fine (grammar.first_branch {p = p} h) = if-fine p (branch-is-fine h)
    conditional-fine (grammar.else_if h k) = else-if-fine (conditional-fine h) (branch-is-fine k)
    conditional-fine (grammar.else_then_if h k) = else-if-fine (conditional-fine h) (branch-is-fine k)

    branch-is-fine : {b : Phrase} {ts rest : List Token} → IsBranch b ts rest → BranchFine b
    branch-is-fine (grammar.branch h k) = branch-fine (expressions h) (block-goes k)
