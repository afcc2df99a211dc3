-- What goes on is as it is due, and nothing is stuck.
use Rattle.std.proofs.Common.{◌≡◌, refl, subst, List, Option, Some, None, option_map, Result, Ok, Err}
use Rattle.std.proofs.lemmas.Option.{none-some, same_Some}
use Rattle.vcl_values.specs.declared.sums.ValueError.{ValueError}
use Rattle.vcl_values.specs.declared.sums.ValueError.TheVariants as errors
use Rattle.vcl_values.specs.declared.value.Kind.{Kind}
use Rattle.vcl_values.specs.declared.value.Value.{Value}
use Rattle.vcl_values.specs.Values.{kind_of}
use Rattle.vcl_context.specs.declared.context.Context.{Context}
use Rattle.vcl_context.specs.declared.turn.Answer.{Answer}
use Rattle.vcl_context.specs.declared.turn.Return.{Return}
use Rattle.vcl_operands.specs.Outs.{Out, On, Ends, Asks, Stuck, and_then, known_on, made_on, IsSure}
use Rattle.vcl_operands.specs.Meaning.{Operand}
use Rattle.vcl_operands.specs.Values.{in_range}
use Rattle.vcl_eval.specs.States.{State, Doing, in_state, set_on, set_due, ends_on, ends_due}
use Rattle.vcl_meaning.specs.Meaning.{then_with}

abbrev pub Holds : {S A : Type 0} → (A → Type 0) → Out S A → Type 0
Holds P (On a s) = P a
Holds P (Ends word s) = Unit {0}
Holds P (Asks command) = Unit {0}
Holds P Stuck = ⊥

pub holds-sure : {S A : Type 0} (P : A → Type 0) (x : Out S A) → Holds P x → IsSure x
holds-sure P (On a s) h = tt
holds-sure P (Ends word s) h = tt
holds-sure P (Asks command) h = tt
holds-sure P Stuck h = h

-- of this type
abbrev pub IsOf : Kind → Value → Type 0
IsOf k v = kind_of v ≡ k

-- one part and then another
pub bind-holds : {S A B : Type 0} (P : A → Type 0) (Q : B → Type 0) (x : Out S A) (f : A → S → Out S B) → Holds P x → ((a : A) → P a → (s : S) → Holds Q (f a s)) → Holds Q (and_then x f)
bind-holds P Q (On a s) f h k = k a h s
bind-holds P Q (Ends word s) f h k = tt
bind-holds P Q (Asks command) f h k = tt
bind-holds P Q Stuck f h k = h

-- what is made of values
abbrev pub Makes : {A : Type 0} → (A → Type 0) → Option (Option A) → Type 0
Makes P (Some (Some a)) = P a
Makes P (Some None) = Unit {0}
Makes P None = ⊥

pub made-holds : {S A : Type 0} (P : A → Type 0) (o : Option (Option A)) → Makes P o → (s : S) → Holds P (made_on o s)
made-holds P (Some (Some a)) h s = h
made-holds P (Some None) h s = tt
made-holds P None h s = h

pub known-makes : {A : Type 0} (P : A → Type 0) (o : Option A) → ((a : A) → o ≡ Some a → P a) → Makes P (Some o)
known-makes P (Some a) h = h a refl
known-makes P None h = tt

pub known-holds : {S A : Type 0} (P : A → Type 0) (o : Option A) → ((a : A) → o ≡ Some a → P a) → (s : S) → Holds P (known_on o s)
known-holds P (Some a) h s = h a refl
known-holds P None h s = tt

-- a sum or a difference
abbrev pub IsGiven : Kind → Result Value ValueError → Type 0
IsGiven k (Ok v) = IsOf k v
IsGiven k (Err errors.Kind) = ⊥
IsGiven k (Err _) = Unit {0}

pub given-makes : (k : Kind) (r : Result Value ValueError) → IsGiven k r → Makes (IsOf k) (in_range r)
given-makes k (Ok v) h = h
given-makes k (Err errors.Kind) h = h
given-makes k (Err errors.NoMemory) h = tt
given-makes k (Err errors.Range) h = tt
given-makes k (Err errors.TooLong) h = tt

-- in a run of statements
pub state-holds : {A : Type 0} (P : A → Type 0) (s : State) (x : Out (List Answer) A) → Holds P x → Holds P (in_state s x)
state-holds P s (On a answers) h = h
state-holds P s (Ends word answers) h = tt
state-holds P s (Asks command) h = tt
state-holds P s Stuck h = h

-- statements ask nothing of what they end with
abbrev pub Done : Unit {0} → Type 0
Done done = Unit {0}

abbrev pub Goes : Doing → Type 0
Goes f = (s : State) → Holds Done (f s)

pub then-goes : (P : Value → Type 0) (f : Operand) (next : Value → Doing) (s : State) → Holds P (f s.answers) → ((v : Value) → P v → Goes (next v)) → Holds Done (then_with f next s)
then-goes P f next s h k = bind-holds P Done (in_state s (f s.answers)) next (state-holds P s (f s.answers) h) k

pub set-goes : (o : Option Context) → Goes (set_on o)
set-goes (Some c) s = tt
set-goes None s = tt

pub ends-goes : (o : Option Return) → Goes (ends_on o)
ends-goes (Some word) s = tt
ends-goes None s = tt

-- there is something due
abbrev pub IsDue : {A : Type 0} → Option A → Type 0
IsDue (Some a) = Unit {0}
IsDue None = ⊥

pub due-goes : (o : Option (Option Context)) → IsDue o → Goes (set_due o)
due-goes (Some o) h s = set-goes o s
due-goes None h s = h

pub return-goes : (o : Option (Option Return)) → IsDue o → Goes (ends_due o)
return-goes (Some o) h s = ends-goes o s
return-goes None h s = h

-- a value of what is made of another
pub map-of : {A : Type 0} (k : Kind) (f : A → Value) (o : Option A) → ((a : A) → kind_of (f a) ≡ k) → (v : Value) → option_map f o ≡ Some v → IsOf k v
map-of k f None h v e = absurd (none-some v e)
map-of k f (Some a) h v e = subst (λ (x : Value). kind_of x ≡ k) (same_Some (f a) v e) (h a)
