-- With a token that a part takes, what the rest means carries over to the tokens with it: the parts of the proof.
use Rattle.std.proofs.Common.{◌≡◌, ℕ, List, ◌++◌, refl, sym, subst}
use Rattle.std.specs.Prelude.{Bool, true, false, Option, Some, None, if◌then◌else◌}
use Rattle.vcl_tree.specs.Phrase.{Phrase}
use Rattle.vcl_tree.specs.declared.token.Token.{Token}
use Rattle.vcl_tree.specs.declared.token.TokenKind.{TokenKind}
use Rattle.vcl_tree.specs.declared.token.Sign.{Sign}
use Rattle.vcl_tree.specs.Signs.{is_sign}
use Rattle.vcl_tree.specs.Tokens.{a_sign}
use Rattle.vcl_parse.specs.Machine.{Want, Config, go, or_on, at_sign, first_of}
use Rattle.vcl_parse.proofs.SameSign.{as_sign}
use Rattle.vcl_parse.proofs.Meaning.{Stack, push, pop, stack_of, Sem, whole}

abbrev pub at : ℕ → TokenKind → Token
at p k = record { kind = k; place = p }

-- what the config means of the rest leads to the goal
abbrev pub Keeps : Type 0 → List Token → Stack → Option Config → Type 0
Keeps goal ts last None = Unit {0}
Keeps goal ts last (Some c) = Sem (c.0) (stack_of (c.1)) ts last → goal

pub by : (A B : Type 0) (ts : List Token) (last : Stack) (o : Option Config) → (A → B) → Keeps A ts last o → Keeps B ts last o
by A B ts last None f h = tt
by A B ts last (Some c) f h = λ m. f (h m)

-- a sign that is taken, or else the reading goes on
taken : (goal : Token → Type 0) (t : Sign) (x : Token) (front : List Phrase) (wants s : List Want) (vs : List Phrase) (ts : List Token) (last : Stack) (on : Option Config) (b : Bool) →
    is_sign t x ≡ b → (Sem (wants ++ s) (stack_of (front ++ vs)) ts last → goal (a_sign t x.place)) → (b ≡ false → Keeps (goal x) ts last on) →
    Keeps (goal x) ts last (or_on (if b then Some (front, wants) else None) s vs on)
taken goal t x front wants s vs ts last on true e h k = λ m. as_sign goal t x e (h m)
taken goal t x front wants s vs ts last on false e h k = k refl

pub or_sign : (goal : Token → Type 0) (t : Sign) (x : Token) (front : List Phrase) (wants s : List Want) (vs : List Phrase) (ts : List Token) (last : Stack) (on : Option Config) →
    (Sem (wants ++ s) (stack_of (front ++ vs)) ts last → goal (a_sign t x.place)) → (is_sign t x ≡ false → Keeps (goal x) ts last on) →
    Keeps (goal x) ts last (or_on (at_sign t x front wants) s vs on)
or_sign goal t x front wants s vs ts last on h k = taken goal t x front wants s vs ts last on (is_sign t x) refl h k

alone : (goal : Token → Type 0) (t : Sign) (x : Token) (front : List Phrase) (wants s : List Want) (vs : List Phrase) (ts : List Token) (last : Stack) (b : Bool) →
    is_sign t x ≡ b → (Sem (wants ++ s) (stack_of (front ++ vs)) ts last → goal (a_sign t x.place)) →
    Keeps (goal x) ts last (go (if b then Some (front, wants) else None) s vs)
alone goal t x front wants s vs ts last true e h = λ m. as_sign goal t x e (h m)
alone goal t x front wants s vs ts last false e h = tt

pub at_one : (goal : Token → Type 0) (t : Sign) (x : Token) (front : List Phrase) (wants s : List Want) (vs : List Phrase) (ts : List Token) (last : Stack) →
    (Sem (wants ++ s) (stack_of (front ++ vs)) ts last → goal (a_sign t x.place)) →
    Keeps (goal x) ts last (go (at_sign t x front wants) s vs)
at_one goal t x front wants s vs ts last h = alone goal t x front wants s vs ts last (is_sign t x) refl h

either_one : (goal : Token → Type 0) (t u : Sign) (x : Token) (front other : List Phrase) (wants others s : List Want) (vs : List Phrase) (ts : List Token) (last : Stack) (a b : Bool) →
    is_sign t x ≡ a → is_sign u x ≡ b →
    (Sem (wants ++ s) (stack_of (front ++ vs)) ts last → goal (a_sign t x.place)) → (Sem (others ++ s) (stack_of (other ++ vs)) ts last → goal (a_sign u x.place)) →
    Keeps (goal x) ts last (go (first_of (if a then Some (front, wants) else None) (if b then Some (other, others) else None)) s vs)
either_one goal t u x front other wants others s vs ts last true b e f h k = λ m. as_sign goal t x e (h m)
either_one goal t u x front other wants others s vs ts last false true e f h k = λ m. as_sign goal u x f (k m)
either_one goal t u x front other wants others s vs ts last false false e f h k = tt

pub at_either : (goal : Token → Type 0) (t u : Sign) (x : Token) (front other : List Phrase) (wants others s : List Want) (vs : List Phrase) (ts : List Token) (last : Stack) →
    (Sem (wants ++ s) (stack_of (front ++ vs)) ts last → goal (a_sign t x.place)) → (Sem (others ++ s) (stack_of (other ++ vs)) ts last → goal (a_sign u x.place)) →
    Keeps (goal x) ts last (go (first_of (at_sign t x front wants) (at_sign u x other others)) s vs)
at_either goal t u x front other wants others s vs ts last h k = either_one goal t u x front other wants others s vs ts last (is_sign t x) (is_sign u x) refl refl h k

pub by_test : (goal : Type 0) (ts : List Token) (last : Stack) (a c : Option Config) (b : Bool) →
    Keeps goal ts last a → Keeps goal ts last c → Keeps goal ts last (if b then a else c)
by_test goal ts last a c true h k = h
by_test goal ts last a c false h k = k

-- a stack is what is on top and what is below
pub same_stack : (s : List Want) (v : Stack) (ts : List Token) (last : Stack) → Sem s v ts last → Sem s (push (v 0) (pop v)) ts last
same_stack s v ts last h = subst (λ w. Sem s w ts last) (sym (whole v)) h
