-- Expressions are numbered with each node above its parts.
use Rattle.std.proofs.Math.Nat.{le_refl}
use Rattle.std.proofs.lemmas.List.{length-append}
use Rattle.std.proofs.Common.{◌≡◌, ◌≤◌, ◌<◌, ◌+◌, ℕ, Bool, length, List, [], ◌∷◌, ◌++◌, refl, sym, ◌∙◌, subst, Option, Some, None, arith, suc, add-zero, zero-add}
use Rattle.vcl_tree.specs.Phrase.{Phrase, Node, String, Integer, Duration, Named, More, Either, Both, Not, Group, Compared, Added, Subtracted, Called}
use Rattle.vcl_values.specs.declared.comparisons.Comparison.{Comparison}
use Rattle.vmod_host.specs.declared.signature.JarUse.{JarUse}
use Rattle.vmod_host.specs.declared.signature.JarUse.TheVariants as jar
use Rattle.vcl_context.specs.declared.variable.Variable.TheVariants.{Jar}
use Rattle.vcl_code.specs.declared.arena.Arena.{Arena}
use Rattle.vcl_code.specs.declared.node.Node.{Node as Made}
use Rattle.vcl_code.specs.declared.node.Node.TheVariants as node
use Rattle.vcl_code.specs.declared.node.Branch.{Branch}
use Rattle.vcl_code.specs.declared.node.Arguments.{Arguments}
use Rattle.vcl_code.specs.declared.node.Arguments.TheVariants.{Zero, One, Two, Three, More as TooMany}
use Rattle.vcl_code.specs.declared.names.Callee.{Callee}
use Rattle.vcl_code.specs.declared.names.Callee.TheVariants as callee
use Rattle.vcl_code.specs.declared.callees.Builtin.TheVariants as builtin
use Rattle.vcl_code.specs.Arenas.{Numbered, with_node, with_text, with_pattern, one, two}
use Rattle.vcl_symbols.specs.Known.{Known}
use Rattle.vcl_code.specs.Names.{Plain, Field, NoTarget, Read, OfTarget, Truth, Backend, NoRead, read_of, acl_of, callee_of}
use Rattle.vcl_code.specs.Expressions.{numbered, numbered_arguments, absent, read_node, in_acl, matched, ordered_as, asks_match, compared_with, Given, given, one_more, with_argument, in_front, behind_jar, passed, stored, second_string, substitution, xkey, director, called}
use Rattle.vcl_program.specs.Falling.{AreBelow, IsAbove, AllAbove, IsFalling}

along : (n : Made) (i j : ℕ) → i ≡ j → IsAbove i n → IsAbove j n
along n i j e p = let P : ℕ → Type 0 = λ k. IsAbove k n in subst P e p

pub shift : (k m : ℕ) → k + suc m ≡ k + 1 + m
shift k m = omega arith

-- one node more at the end
above-push : (k : ℕ) (xs : List Made) (n : Made) → AllAbove k xs → IsAbove (k + length xs) n → AllAbove k (xs ++ n ∷ [])
above-push k [] n h p = (along n (k + 0) k (add-zero k) p, tt)
above-push k (x ∷ xs) n h p = (h.0, above-push (k + 1) xs n h.1 (along n (k + suc (length xs)) (k + 1 + length xs) (shift k (length xs)) p))

-- what a number and the nodes behind it keep of the nodes before
pub record Step (xs : List Made) (bs : List Branch) (n : Numbered) : Type 0 where
  pub falls : IsFalling xs → IsFalling n.arena.nodes
  pub within : n.number < length n.arena.nodes
  pub grows : length xs ≤ length n.arena.nodes
  pub branches : n.arena.branches ≡ bs

lt-le : (a b c : ℕ) → a < b → b ≤ c → a < c
lt-le a b c h k = omega arith

le-le : (a b c : ℕ) → a ≤ b → b ≤ c → a ≤ c
le-le a b c h k = omega arith

longer : (xs : List Made) (n : Made) → length (xs ++ n ∷ []) ≡ length xs + 1
longer xs n = length-append xs (n ∷ [])

lt-longer : (xs : List Made) (n : Made) → length xs < length (xs ++ n ∷ [])
lt-longer xs n = omega (arith, longer xs n)

le-longer : (xs : List Made) (n : Made) → length xs ≤ length (xs ++ n ∷ [])
le-longer xs n = omega (arith, longer xs n)

pushed : (a : Arena) (n : Made) → IsAbove (length a.nodes) n → Step a.nodes a.branches (with_node n a)
pushed a n p = record {
  falls = λ h. above-push 0 a.nodes n h (along n (length a.nodes) (0 + length a.nodes) (sym (zero-add (length a.nodes))) p);
  within = lt-longer a.nodes n;
  grows = le-longer a.nodes n;
  branches = refl;
}

-- one step and then another
after : (xs : List Made) (bs : List Branch) (f : Numbered) (n : Numbered) → Step xs bs f → Step f.arena.nodes f.arena.branches n → Step xs bs n
after xs bs f n s t = record { falls = λ h. t.falls (s.falls h); within = t.within; grows = le-le (length xs) (length f.arena.nodes) (length n.arena.nodes) s.grows t.grows; branches = t.branches ∙ s.branches }

-- a node of one part, and of two
of-one : (xs : List Made) (bs : List Branch) (f : Numbered) (make : ℕ → Made) → ((i x : ℕ) → x < i → IsAbove i (make x)) → Step xs bs f → Step xs bs (one make f)
of-one xs bs f make p s = after xs bs f (one make f) s (pushed f.arena (make f.number) (p (length f.arena.nodes) f.number s.within))

of-two : (xs : List Made) (bs : List Branch) (f : Numbered) (second : Arena → Numbered) (make : ℕ → ℕ → Made)
    → ((i x y : ℕ) → x < i → y < i → IsAbove i (make x y)) → Step xs bs f → ((a : Arena) → Step a.nodes a.branches (second a)) → Step xs bs (two make f second)
of-two xs bs f second make p s t =
    let g : Numbered = second f.arena in
    let h : Step f.arena.nodes f.arena.branches g = t f.arena in
    after xs bs g (two make f second) (after xs bs f g s h)
    (pushed g.arena (make f.number g.number) (p (length g.arena.nodes) f.number g.number (lt-le f.number (length f.arena.nodes) (length g.arena.nodes) s.within h.grows) h.within))

-- a name that is read
read-step : (r : Read) (a : Arena) → Step a.nodes a.branches (read_node r a)
read-step (OfTarget (Plain variable)) a = pushed a (node.Read variable) tt
read-step (OfTarget (Field message name)) a = pushed (with_text name a).arena (node.ReadField message (with_text name a).number) tt
read-step (OfTarget NoTarget) a = pushed a node.Absent tt
read-step (Truth truth) a = pushed a (node.Truth truth) tt
read-step (Backend k) a = pushed a (node.Backend k) tt
read-step NoRead a = pushed a node.Absent tt

-- a match
acl-step : (xs : List Made) (bs : List Branch) (truth : Bool) (f : Numbered) (acl : Option ℕ) → Step xs bs f → Step xs bs (in_acl truth f acl)
acl-step xs bs truth f None s = after xs bs f _ s (pushed f.arena node.Absent tt)
acl-step xs bs truth f (Some k) s = after xs bs f _ s (pushed f.arena (node.InAcl f.number k truth) s.within)

absent-step : (xs : List Made) (bs : List Branch) (f : Numbered) → Step xs bs f → Step xs bs (absent f.arena)
absent-step xs bs f s = after xs bs f _ s (pushed f.arena node.Absent tt)

match-step : (xs : List Made) (bs : List Branch) (known : Known) (truth : Bool) (f : Numbered) (right : Phrase) → Step xs bs f → Step xs bs (matched known truth f right)
match-step xs bs known truth f (String place source) s =
    after xs bs f _ s (pushed (with_pattern source f.arena).arena (node.Matches f.number (with_pattern source f.arena).number truth) s.within)
match-step xs bs known truth f (Named place name) s = acl-step xs bs truth f (acl_of known name) s
match-step xs bs known truth f _ s = absent-step xs bs f s

compared-step : (xs : List Made) (bs : List Branch) (known : Known) (truth : Bool) (how : Option Comparison) (f : Numbered) (right : Phrase) (second : Arena → Numbered)
    → Step xs bs f → ((a : Arena) → Step a.nodes a.branches (second a)) → Step xs bs (compared_with known truth how f right second)
compared-step xs bs known truth (Some how) f right second s t = of-two xs bs f second (node.Compare how) (λ i x y p q. (p, q)) s t
compared-step xs bs known truth None f right second s t = match-step xs bs known truth f right s

-- the same of arguments
pub record Gives (xs : List Made) (bs : List Branch) (g : Given) : Type 0 where
  pub falls : IsFalling xs → IsFalling g.arena.nodes
  pub within : AreBelow (length g.arena.nodes) g.arguments
  pub grows : length xs ≤ length g.arena.nodes
  pub branches : g.arena.branches ≡ bs

lasts : (i j : ℕ) (g : Arguments) → i ≤ j → AreBelow i g → AreBelow j g
lasts i j Zero h p = tt
lasts i j (One x) h p = lt-le x i j p h
lasts i j (Two x y) h p = (lt-le x i j p.0 h, lt-le y i j p.1 h)
lasts i j (Three x y z) h p = (lt-le x i j p.0 h, lt-le y i j p.1 h, lt-le z i j p.2 h)
lasts i j TooMany h p = tt

with-one : (i : ℕ) (g : Arguments) (x : ℕ) → AreBelow i g → x < i → AreBelow i (with_argument g x)
with-one i Zero x p h = h
with-one i (One y) x p h = (p, h)
with-one i (Two y z) x p h = (p.0, p.1, h)
with-one i (Three y z v) x p h = tt
with-one i TooMany x p h = tt

further-step : (xs : List Made) (bs : List Branch) (g : Given) (next : Arena → Numbered) → Gives xs bs g → ((a : Arena) → Step a.nodes a.branches (next a)) → Gives xs bs (one_more g next)
further-step xs bs g next s t =
    let n : Numbered = next g.arena in
    let h : Step g.arena.nodes g.arena.branches n = t g.arena in
    record {
      falls = λ p. h.falls (s.falls p);
      within = with-one (length n.arena.nodes) g.arguments n.number (lasts (length g.arena.nodes) (length n.arena.nodes) g.arguments h.grows s.within) h.within;
      grows = le-le (length xs) (length g.arena.nodes) (length n.arena.nodes) s.grows h.grows;
      branches = h.branches ∙ s.branches;
    }

-- a node behind arguments
behind : (xs : List Made) (bs : List Branch) (g : Given) (a : Arena) (n : Made) → Gives xs bs g → a.nodes ≡ g.arena.nodes → a.branches ≡ g.arena.branches
    → IsAbove (length g.arena.nodes) n → Step xs bs (with_node n a)
behind xs bs g a n s e b p =
    let P : List Made → Type 0 = λ l. Step l a.branches (with_node n a) in
    let B : List Branch → Type 0 = λ l. Step g.arena.nodes l (with_node n a) in
    let Q : List Made → Type 0 = λ l. IsAbove (length l) n in
    let t : Step g.arena.nodes g.arena.branches (with_node n a) = subst B b (subst P e (pushed a n (subst Q (sym e) p))) in
    record {
      falls = λ h. t.falls (s.falls h);
      within = t.within;
      grows = le-le (length xs) (length g.arena.nodes) (length (with_node n a).arena.nodes) s.grows t.grows;
      branches = t.branches ∙ s.branches;
    }

substitution-step : (xs : List Made) (bs : List Branch) (all : Bool) (second : Option (List ℕ)) (args : Arguments) (a : Arena) → Gives xs bs (given args a) → Step xs bs (substitution all second args a)
substitution-step xs bs all (Some source) (Three text pattern by) a s =
    behind xs bs (given (Three text pattern by) a) (with_pattern source a).arena (node.Substitute all text (with_pattern source a).number by) s refl refl (s.within.0, s.within.2)
substitution-step xs bs all (Some source) args a s = behind xs bs (given args a) a node.Absent s refl refl tt
substitution-step xs bs all None args a s = behind xs bs (given args a) a node.Absent s refl refl tt

xkey-step : (xs : List Made) (bs : List Branch) (soft : Bool) (args : Arguments) (a : Arena) → Gives xs bs (given args a) → Step xs bs (xkey soft args a)
xkey-step xs bs soft (One keys) a s = behind xs bs (given (One keys) a) a (node.Xkey soft keys) s refl refl s.within
xkey-step xs bs soft args a s = behind xs bs (given args a) a node.Absent s refl refl tt

director-step : (xs : List Made) (bs : List Branch) (k : ℕ) (args : Arguments) (a : Arena) → Gives xs bs (given args a) → Step xs bs (director k args a)
director-step xs bs k Zero a s = behind xs bs (given Zero a) a (node.Director k) s refl refl tt
director-step xs bs k (One text) a s = behind xs bs (given (One text) a) a (node.DirectorFor k text) s refl refl s.within
director-step xs bs k args a s = behind xs bs (given args a) a node.Absent s refl refl tt

-- the jar's text before arguments
front-below : (i : ℕ) (g : Arguments) (x : ℕ) → AreBelow i g → x < i → AreBelow i (in_front x g)
front-below i Zero x p h = h
front-below i (One y) x p h = (h, p)
front-below i (Two y z) x p h = (h, p.0, p.1)
front-below i (Three y z v) x p h = tt
front-below i TooMany x p h = tt

jar-step : (xs : List Made) (bs : List Branch) (g : Given) → Gives xs bs g → Gives xs bs (behind_jar g)
jar-step xs bs g s =
    let n : Numbered = with_node (node.Read Jar) g.arena in
    let h : Step g.arena.nodes g.arena.branches n = pushed g.arena (node.Read Jar) tt in
    record {
      falls = λ p. h.falls (s.falls p);
      within = front-below (length n.arena.nodes) g.arguments n.number (lasts (length g.arena.nodes) (length n.arena.nodes) g.arguments h.grows s.within) h.within;
      grows = le-le (length xs) (length g.arena.nodes) (length n.arena.nodes) s.grows h.grows;
      branches = h.branches ∙ s.branches;
    }

passed-step : (xs : List Made) (bs : List Branch) (use_of_jar : JarUse) (g : Given) → Gives xs bs g → Gives xs bs (passed use_of_jar g)
passed-step xs bs jar.None g s = s
passed-step xs bs jar.Asks g s = jar-step xs bs g s
passed-step xs bs jar.Changes g s = jar-step xs bs g s

stored-step : (xs : List Made) (bs : List Branch) (k : ℕ) (g : Given) → Gives xs bs g → Step xs bs (stored k g)
stored-step xs bs k g s = behind xs bs g g.arena (node.Stored k g.arguments) s refl refl s.within

pub call-step : (xs : List Made) (bs : List Branch) (f : Callee) (second : Option (List ℕ)) (g : Given) → Gives xs bs g → Step xs bs (called f second g)
call-step xs bs (callee.Builtin (builtin.Substitute all)) second g s = substitution-step xs bs all second g.arguments g.arena s
call-step xs bs (callee.Builtin (builtin.Xkey soft)) second g s = xkey-step xs bs soft g.arguments g.arena s
call-step xs bs (callee.Stored k use_of_jar) second g s = stored-step xs bs k (passed use_of_jar g) (passed-step xs bs use_of_jar g s)
call-step xs bs (callee.Director k) second g s = director-step xs bs k g.arguments g.arena s
call-step xs bs _ second g s = behind xs bs g g.arena node.Absent s refl refl tt

mutual
  unfolding numbered

  pub expression-step : (known : Known) (e : Phrase) (a : Arena) → Step a.nodes a.branches (numbered known e a)
  expression-step known (String place text) a = pushed (with_text text a).arena (node.Text (with_text text a).number) tt
  expression-step known (Integer place n) a = pushed a (node.Int n) tt
  expression-step known (Duration place n) a = pushed a (node.Duration n) tt
  expression-step known (Named place name) a = read-step (read_of known name) a
  expression-step known (Node Either left right) a =
      of-two a.nodes a.branches (numbered known left a) (numbered known right) node.Either (λ i x y p q. (p, q)) (expression-step known left a) (expression-step known right)
  expression-step known (Node Both left right) a =
      of-two a.nodes a.branches (numbered known left a) (numbered known right) node.Both (λ i x y p q. (p, q)) (expression-step known left a) (expression-step known right)
  expression-step known (Node Not sign e) a = of-one a.nodes a.branches (numbered known e a) node.Not (λ i x p. p) (expression-step known e a)
  expression-step known (Node Group sign e) a = expression-step known e a
  expression-step known (Node Added left right) a =
      of-two a.nodes a.branches (numbered known left a) (numbered known right) node.Sum (λ i x y p q. (p, q)) (expression-step known left a) (expression-step known right)
  expression-step known (Node Subtracted left right) a =
      of-two a.nodes a.branches (numbered known left a) (numbered known right) node.Difference (λ i x y p q. (p, q)) (expression-step known left a) (expression-step known right)
  expression-step known (Node (Compared how) left right) a =
      compared-step a.nodes a.branches known (asks_match how) (ordered_as how) (numbered known left a) right (numbered known right) (expression-step known left a) (expression-step known right)
  expression-step known (Node Called (Named place name) arguments) a =
      call-step a.nodes a.branches (callee_of known name) (second_string arguments) (numbered_arguments known arguments a) (arguments-step known arguments a)
  expression-step known _ a = pushed a node.Absent tt

  pub arguments-step : (known : Known) (e : Phrase) (a : Arena) → Gives a.nodes a.branches (numbered_arguments known e a)
  arguments-step known (Node More front e) a =
      further-step a.nodes a.branches (numbered_arguments known front a) (numbered known e) (arguments-step known front a) (expression-step known e)
  arguments-step known _ a = record { falls = λ h. h; within = tt; grows = le_refl (length a.nodes); branches = refl }
