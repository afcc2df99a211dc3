-- Numbering an expression only adds to the lists.
use Rattle.std.proofs.lemmas.List.{append_assoc, append-nil}
use Rattle.std.proofs.Common.{◌≡◌, ℕ, zero, suc, Bool, List, [], ◌∷◌, ◌++◌, length, Option, Some, None, refl, sym, ap, ◌∙◌, slice_get}
use Rattle.vcl_tree.specs.Phrase.{Phrase, Node, String, Integer, Duration, Named, More, Either, Both, Not, Group, Compared, Added, Subtracted, Called}
use Rattle.vcl_values.specs.declared.comparisons.Comparison.{Comparison}
use Rattle.vmod_host.specs.declared.signature.JarUse.{JarUse}
use Rattle.vmod_host.specs.declared.signature.JarUse.TheVariants as jar
use Rattle.vcl_context.specs.declared.variable.Variable.TheVariants.{Jar}
use Rattle.vcl_code.specs.declared.arena.Arena.{Arena}
use Rattle.vcl_code.specs.declared.node.Node.{Node as Made}
use Rattle.vcl_code.specs.declared.node.Arguments.{Arguments}
use Rattle.vcl_code.specs.declared.node.Arguments.TheVariants.{Zero, One, Three}
use Rattle.vcl_code.specs.declared.names.Callee.{Callee}
use Rattle.vcl_code.specs.declared.names.Callee.TheVariants as callee
use Rattle.vcl_code.specs.declared.callees.Builtin.TheVariants as builtin
use Rattle.vcl_code.specs.declared.node.Node.TheVariants as node
use Rattle.vcl_code.specs.declared.node.Block.{Block}
use Rattle.vcl_code.specs.declared.node.Branch.{Branch}
use Rattle.vcl_code.specs.Arenas.{Numbered, with_node, with_block, with_branch, with_text, with_pattern, one, two}
use Rattle.vcl_symbols.specs.Known.{Known}
use Rattle.vcl_code.specs.Names.{Plain, Field, NoTarget, Read, OfTarget, Truth, Backend, NoRead, read_of, acl_of, callee_of}
use Rattle.vcl_code.specs.Expressions.{numbered, numbered_arguments, read_node, in_acl, matched, ordered_as, asks_match, compared_with, Given, second_string, substitution, xkey, director, called, behind_jar, passed, stored}
use Rattle.vcl_operands.specs.Later.{Begins, Later}

pub begins-self : {T : Type 0} (xs : List T) → Begins xs xs
begins-self xs = ([], sym (append-nil xs))

pub begins-trans : {T : Type 0} (xs ys zs : List T) → Begins xs ys → Begins ys zs → Begins xs zs
begins-trans {T} xs ys zs p q = (p.0 ++ q.0, q.1 ∙ ap (λ (l : List T). l ++ q.0) p.1 ∙ append_assoc xs p.0 q.0)

pub begins-one : {T : Type 0} (xs : List T) (x : T) → Begins xs (xs ++ x ∷ [])
begins-one xs x = (x ∷ [], refl)

-- what stood at a place stands there later
get-front : {T : Type 0} (xs ys : List T) (i : ℕ) (x : T) → slice_get xs i ≡ Some x → slice_get (xs ++ ys) i ≡ Some x
get-front [] ys i x e = absurd (let q : ⊥ = cc in q)
get-front (z ∷ zs) ys zero x e = e
get-front (z ∷ zs) ys (suc i) x e = get-front zs ys i x e

pub get-later : {T : Type 0} (xs ys : List T) (i : ℕ) (x : T) → Begins xs ys → slice_get xs i ≡ Some x → slice_get ys i ≡ Some x
get-later {T} xs ys i x b e = ap (λ (l : List T). slice_get l i) b.1 ∙ get-front xs b.0 i x e

get-last : {T : Type 0} (xs : List T) (x : T) → slice_get (xs ++ x ∷ []) (length xs) ≡ Some x
get-last [] x = refl
get-last (y ∷ ys) x = get-last ys x

pub get-pushed : {T : Type 0} (xs ys : List T) (x : T) → Begins (xs ++ x ∷ []) ys → slice_get ys (length xs) ≡ Some x
get-pushed xs ys x b = get-later (xs ++ x ∷ []) ys (length xs) x b (get-last xs x)

pub later-self : (a : Arena) → Later a a
later-self a = record {
  nodes = begins-self a.nodes;
  texts = begins-self a.texts;
  patterns = begins-self a.patterns;
  blocks = begins-self a.blocks;
  branches = begins-self a.branches;
}

pub later-trans : (a b c : Arena) → Later a b → Later b c → Later a c
later-trans a b c p q = record {
  nodes = begins-trans a.nodes b.nodes c.nodes p.nodes q.nodes;
  texts = begins-trans a.texts b.texts c.texts p.texts q.texts;
  patterns = begins-trans a.patterns b.patterns c.patterns p.patterns q.patterns;
  blocks = begins-trans a.blocks b.blocks c.blocks p.blocks q.blocks;
  branches = begins-trans a.branches b.branches c.branches p.branches q.branches;
}

pub later-node : (n : Made) (a : Arena) → Later a (with_node n a).arena
later-node n a = record {
  nodes = begins-one a.nodes n;
  texts = begins-self a.texts;
  patterns = begins-self a.patterns;
  blocks = begins-self a.blocks;
  branches = begins-self a.branches;
}

pub later-text : (t : List ℕ) (a : Arena) → Later a (with_text t a).arena
later-text t a = record {
  nodes = begins-self a.nodes;
  texts = begins-one a.texts t;
  patterns = begins-self a.patterns;
  blocks = begins-self a.blocks;
  branches = begins-self a.branches;
}

pub later-block : (b : Block) (a : Arena) → Later a (with_block b a).arena
later-block b a = record {
  nodes = begins-self a.nodes;
  texts = begins-self a.texts;
  patterns = begins-self a.patterns;
  blocks = begins-one a.blocks b;
  branches = begins-self a.branches;
}

pub later-branch : (b : Branch) (a : Arena) → Later a (with_branch b a).arena
later-branch b a = record {
  nodes = begins-self a.nodes;
  texts = begins-self a.texts;
  patterns = begins-self a.patterns;
  blocks = begins-self a.blocks;
  branches = begins-one a.branches b;
}

pub later-pattern : (t : List ℕ) (a : Arena) → Later a (with_pattern t a).arena
later-pattern t a = record {
  nodes = begins-self a.nodes;
  texts = begins-self a.texts;
  patterns = begins-one a.patterns t;
  blocks = begins-self a.blocks;
  branches = begins-self a.branches;
}

read-later : (r : Read) (a : Arena) → Later a (read_node r a).arena
read-later (OfTarget (Plain variable)) a = later-node (node.Read variable) a
read-later (OfTarget (Field message name)) a =
    later-trans a (with_text name a).arena _ (later-text name a) (later-node (node.ReadField message (with_text name a).number) (with_text name a).arena)
read-later (OfTarget NoTarget) a = later-node node.Absent a
read-later (Truth truth) a = later-node (node.Truth truth) a
read-later (Backend k) a = later-node (node.Backend k) a
read-later NoRead a = later-node node.Absent a

acl-later : (truth : Bool) (f : Numbered) (acl : Option ℕ) → Later f.arena (in_acl truth f acl).arena
acl-later truth f None = later-node node.Absent f.arena
acl-later truth f (Some k) = later-node (node.InAcl f.number k truth) f.arena

matched-later : (known : Known) (truth : Bool) (f : Numbered) (right : Phrase) → Later f.arena (matched known truth f right).arena
matched-later known truth f (String place source) =
    later-trans f.arena (with_pattern source f.arena).arena _ (later-pattern source f.arena)
    (later-node (node.Matches f.number (with_pattern source f.arena).number truth) (with_pattern source f.arena).arena)
matched-later known truth f (Named place name) = acl-later truth f (acl_of known name)
matched-later known truth f _ = later-node node.Absent f.arena

pub one-later : (make : ℕ → Made) (a : Arena) (f : Numbered) → Later a f.arena → Later a (one make f).arena
one-later make a f p = later-trans a f.arena (one make f).arena p (later-node (make f.number) f.arena)

pub two-later : (make : ℕ → ℕ → Made) (a : Arena) (f : Numbered) (second : Arena → Numbered) → Later a f.arena → ((b : Arena) → Later b (second b).arena) → Later a (two make f second).arena
two-later make a f second p q =
    later-trans a f.arena (two make f second).arena p
    (later-trans f.arena (second f.arena).arena (two make f second).arena (q f.arena) (later-node (make f.number (second f.arena).number) (second f.arena).arena))

compared-later : (known : Known) (truth : Bool) (how : Option Comparison) (a : Arena) (f : Numbered) (right : Phrase) (second : Arena → Numbered)
    → Later a f.arena → ((b : Arena) → Later b (second b).arena) → Later a (compared_with known truth how f right second).arena
compared-later known truth (Some how) a f right second p q = two-later (node.Compare how) a f second p q
compared-later known truth None a f right second p q = later-trans a f.arena _ p (matched-later known truth f right)

substitution-later : (all : Bool) (second : Option (List ℕ)) (args : Arguments) (a : Arena) → Later a (substitution all second args a).arena
substitution-later all (Some source) (Three text pattern by) a =
    later-trans a (with_pattern source a).arena _ (later-pattern source a) (later-node (node.Substitute all text (with_pattern source a).number by) (with_pattern source a).arena)
substitution-later all (Some source) args a = later-node node.Absent a
substitution-later all None args a = later-node node.Absent a

xkey-later : (soft : Bool) (args : Arguments) (a : Arena) → Later a (xkey soft args a).arena
xkey-later soft (One keys) a = later-node (node.Xkey soft keys) a
xkey-later soft args a = later-node node.Absent a

director-later : (k : ℕ) (args : Arguments) (a : Arena) → Later a (director k args a).arena
director-later k Zero a = later-node (node.Director k) a
director-later k (One text) a = later-node (node.DirectorFor k text) a
director-later k args a = later-node node.Absent a

jar-later : (g : Given) → Later g.arena (behind_jar g).arena
jar-later g = later-node (node.Read Jar) g.arena

pub passed-later : (use_of_jar : JarUse) (g : Given) → Later g.arena (passed use_of_jar g).arena
passed-later jar.None g = later-self g.arena
passed-later jar.Asks g = jar-later g
passed-later jar.Changes g = jar-later g

stored-later : (k : ℕ) (g : Given) → Later g.arena (stored k g).arena
stored-later k g = later-node (node.Stored k g.arguments) g.arena

pub called-later : (f : Callee) (second : Option (List ℕ)) (g : Given) → Later g.arena (called f second g).arena
called-later (callee.Builtin (builtin.Substitute all)) second g = substitution-later all second g.arguments g.arena
called-later (callee.Builtin (builtin.Xkey soft)) second g = xkey-later soft g.arguments g.arena
called-later (callee.Stored k use_of_jar) second g =
    later-trans g.arena (passed use_of_jar g).arena (stored k (passed use_of_jar g)).arena (passed-later use_of_jar g) (stored-later k (passed use_of_jar g))
called-later (callee.Director k) second g = director-later k g.arguments g.arena
called-later _ second g = later-node node.Absent g.arena

mutual
  unfolding numbered

  pub expression-later : (known : Known) (e : Phrase) (a : Arena) → Later a (numbered known e a).arena
  expression-later known (String place text) a =
      later-trans a (with_text text a).arena _ (later-text text a) (later-node (node.Text (with_text text a).number) (with_text text a).arena)
  expression-later known (Integer place n) a = later-node (node.Int n) a
  expression-later known (Duration place n) a = later-node (node.Duration n) a
  expression-later known (Named place name) a = read-later (read_of known name) a
  expression-later known (Node Either left right) a = two-later node.Either a (numbered known left a) (numbered known right) (expression-later known left a) (expression-later known right)
  expression-later known (Node Both left right) a = two-later node.Both a (numbered known left a) (numbered known right) (expression-later known left a) (expression-later known right)
  expression-later known (Node Not sign e) a = one-later node.Not a (numbered known e a) (expression-later known e a)
  expression-later known (Node Group sign e) a = expression-later known e a
  expression-later known (Node Added left right) a = two-later node.Sum a (numbered known left a) (numbered known right) (expression-later known left a) (expression-later known right)
  expression-later known (Node Subtracted left right) a =
      two-later node.Difference a (numbered known left a) (numbered known right) (expression-later known left a) (expression-later known right)
  expression-later known (Node (Compared how) left right) a =
      compared-later known (asks_match how) (ordered_as how) a (numbered known left a) right (numbered known right) (expression-later known left a) (expression-later known right)
  expression-later known (Node Called (Named place name) arguments) a =
      later-trans a (numbered_arguments known arguments a).arena _ (arguments-later known arguments a) (called-later (callee_of known name) (second_string arguments) (numbered_arguments known arguments a))
  expression-later known _ a = later-node node.Absent a

  pub arguments-later : (known : Known) (e : Phrase) (a : Arena) → Later a (numbered_arguments known e a).arena
  arguments-later known (Node More front e) a =
      later-trans a (numbered_arguments known front a).arena _ (arguments-later known front a) (expression-later known e (numbered_arguments known front a).arena)
  arguments-later known _ a = later-self a
