-- An expression in numbers is worth what the expression is worth.
use Rattle.std.proofs.Common.{◌≡◌, ◌<◌, ℕ, Bool, true, false, List, [], ◌∷◌, ◌++◌, length, Option, Some, None, option_map, option_and_then, refl, sym, ap, ◌∙◌, arith, slice_get, nat_lt, if◌then◌else◌}
use Rattle.std.proofs.Math.Path.{fun_ext}
use Rattle.vcl_tree.specs.Phrase.{Phrase, Node, String, Integer, Duration, Named, More, Either, Both, Not, Group, Compared, Added, Subtracted, Called}
use Rattle.vcl_values.specs.declared.comparisons.Comparison.{Comparison}
use Rattle.vcl_values.specs.declared.value.Value.{Value}
use Rattle.vmod_host.specs.declared.signature.JarUse.{JarUse}
use Rattle.vmod_host.specs.declared.signature.JarUse.TheVariants as jar
use Rattle.vcl_context.specs.declared.variable.Variable.TheVariants.{Jar}
use Rattle.vcl_code.specs.declared.arena.Arena.{Arena}
use Rattle.vcl_code.specs.declared.node.Node.{Node as Made}
use Rattle.vcl_code.specs.declared.node.Node.TheVariants as node
use Rattle.vcl_code.specs.declared.node.Arguments.{Arguments}
use Rattle.vcl_code.specs.declared.node.Arguments.TheVariants.{Zero, One, Two, Three, More as TooMany}
use Rattle.vcl_code.specs.declared.names.Callee.{Callee}
use Rattle.vcl_code.specs.declared.names.Callee.TheVariants as callee
use Rattle.vcl_code.specs.declared.callees.Builtin.TheVariants as builtin
use Rattle.vcl_code.specs.Arenas.{Numbered, with_node, with_text, with_pattern, one, two}
use Rattle.vcl_symbols.specs.Known.{Known}
use Rattle.vcl_code.specs.Names.{Plain, Field, NoTarget, Read, OfTarget, Truth, Backend, NoRead, read_of, acl_of, callee_of}
use Rattle.vcl_code.specs.Expressions.{text_node, numbered, numbered_arguments, absent, read_node, in_acl, searched, matched, ordered_as, asks_match, compared_with, Given, with_argument, in_front, behind_jar, passed, stored, second_string, substitution, xkey, director, called}
use Rattle.vcl_context.specs.declared.turn.Answer.{Answer}
use Rattle.vcl_operands.specs.Outs.{On, Stuck, and_then, known_on, made_on}
use Rattle.vcl_operands.specs.Falls.{Falls}
use Rattle.vcl_operands.specs.Later.{Later}
use Rattle.vcl_operands.specs.Meaning.{Scene, scene, Operand, named_value, decides, sought_in, matched_in, comparison, values_of, all_values, jar_text, with_jar, stored_value, value_of, operands_of}
use Rattle.vcl_operands.specs.Meaning.{called as call_value}
use Rattle.vcl_operands.specs.Nodes.{World, node_value, value_at, with_rest}
use Rattle.vcl_context.specs.Fields.{field_value}
use Rattle.vcl_values.specs.Operators.{text_value}
use Rattle.std.proofs.lemmas.List.{length-append}
use Rattle.std.proofs.lemmas.Bool.Decides.{nat_tests}
use Rattle.vcl_operands.specs.Values.{ok_of, opposite, ordered, summed, lessened, substituted, applied}
use Rattle.vcl_operands.specs.Values.{matched as match_value, sought as sought_value}
use Rattle.vcl_operands.proofs.Binds.{bind_bind, and-then-same}
use Rattle.vcl_operands.proofs.Depths.{at-node}
use Rattle.vcl_operands.proofs.Growing.{get-pushed, later-trans, later-node, later-pattern, expression-later, called-later}

abbrev pub scene_of : World → Scene
scene_of w = scene w.code w.stored w.context

-- a node that was put in
pub node-is : (w : World) → Falls w.code.arena.nodes → (n : Made) (a : Arena) → Later (with_node n a).arena w.code.arena → value_at w (length a.nodes) ≡ node_value w (value_at w) n
node-is w falls n a later = fun_ext (at-node w falls (length a.nodes) n (get-pushed a.nodes w.code.arena.nodes n later.nodes))

absent-is : (w : World) → Falls w.code.arena.nodes → (a : Arena) → Later (absent a).arena w.code.arena → value_at w (length a.nodes) ≡ (λ s. Stuck)
absent-is w falls a later = node-is w falls node.Absent a later

-- a node of one part, and of two
one-is : (w : World) → Falls w.code.arena.nodes → (make : ℕ → Made) (F : Operand → Operand) (f : Numbered) (p : Operand)
    → ((x : ℕ) → node_value w (value_at w) (make x) ≡ F (value_at w x)) → Later (one make f).arena w.code.arena
    → (Later f.arena w.code.arena → value_at w f.number ≡ p) → value_at w (one make f).number ≡ F p
one-is w falls make F f p same later ih =
    node-is w falls (make f.number) f.arena later ∙ same f.number ∙ ap F (ih (later-trans f.arena (one make f).arena w.code.arena (later-node (make f.number) f.arena) later))

two-is : (w : World) → Falls w.code.arena.nodes → (make : ℕ → ℕ → Made) (F : Operand → Operand → Operand) (f : Numbered) (second : Arena → Numbered) (p q : Operand)
    → ((x y : ℕ) → node_value w (value_at w) (make x y) ≡ F (value_at w x) (value_at w y)) → Later (two make f second).arena w.code.arena
    → (Later f.arena w.code.arena → value_at w f.number ≡ p) → ((a : Arena) → Later a (second a).arena)
    → ((a : Arena) → Later (second a).arena w.code.arena → value_at w (second a).number ≡ q) → value_at w (two make f second).number ≡ F p q
two-is w falls make F f second p q same later ih grows jh =
    let g : Numbered = second f.arena in
    let last : Later g.arena w.code.arena = later-trans g.arena (two make f second).arena w.code.arena (later-node (make f.number g.number) g.arena) later in
    let front : Later f.arena w.code.arena = later-trans f.arena g.arena w.code.arena (grows f.arena) last in
    node-is w falls (make f.number g.number) g.arena later ∙ same f.number g.number ∙ ap (λ (x : Operand). F x (value_at w g.number)) (ih front) ∙ ap (F p) (jh f.arena last)

-- names that are read
read-is : (w : World) → Falls w.code.arena.nodes → (r : Read) (a : Arena) → Later (read_node r a).arena w.code.arena → value_at w (read_node r a).number ≡ (λ s. made_on (named_value (scene_of w) r) s)
read-is w falls (OfTarget (Plain variable)) a later = node-is w falls (node.Read variable) a later
read-is w falls (OfTarget (Field message name)) a later =
    node-is w falls (node.ReadField message (length a.texts)) (with_text name a).arena later
    ∙ ap {B = Operand} (λ (o : Option (List ℕ)) (s : List Answer). made_on (option_map (λ t. Some (field_value message t w.context)) o) s) (get-pushed a.texts w.code.arena.texts name later.texts)
read-is w falls (OfTarget NoTarget) a later = absent-is w falls a later
read-is w falls (Truth truth) a later = node-is w falls (node.Truth truth) a later
read-is w falls (Backend k) a later = node-is w falls (node.Backend k) a later
read-is w falls NoRead a later = absent-is w falls a later

text-is : (w : World) → Falls w.code.arena.nodes → (t : List ℕ) (a : Arena) → Later (text_node t a).arena w.code.arena → value_at w (text_node t a).number ≡ (λ s. known_on (ok_of (text_value t)) s)
text-is w falls t a later =
    node-is w falls (node.Text (length a.texts)) (with_text t a).arena later
    ∙ ap {B = Operand} (λ (o : Option (List ℕ)) (s : List Answer). made_on (option_map (λ x. ok_of (text_value x)) o) s) (get-pushed a.texts w.code.arena.texts t later.texts)

-- `~` and `!~`
acl-is : (w : World) → Falls w.code.arena.nodes → (wanted : Bool) (f : Numbered) (acl : Option ℕ) (p : Operand) → Later (in_acl wanted f acl).arena w.code.arena
    → (Later f.arena w.code.arena → value_at w f.number ≡ p) → value_at w (in_acl wanted f acl).number ≡ sought_in (scene_of w) wanted p acl
acl-is w falls wanted f None p later ih = absent-is w falls f.arena later
acl-is w falls wanted f (Some k) p later ih =
    node-is w falls (node.InAcl f.number k wanted) f.arena later
    ∙ ap {B = Operand} (λ (x : Operand) (s : List Answer). and_then (x s) (λ v. made_on (option_and_then (λ entries. sought_value entries wanted v) (slice_get w.code.acls k))))
    (ih (later-trans f.arena _ w.code.arena (later-node (node.InAcl f.number k wanted) f.arena) later))

searched-is : (w : World) → Falls w.code.arena.nodes → (wanted : Bool) (f : Numbered) (source : List ℕ) (p : Operand) → Later (searched wanted f source).arena w.code.arena
    → (Later f.arena w.code.arena → value_at w f.number ≡ p) → value_at w (searched wanted f source).number ≡ (λ s. and_then (p s) (λ v. known_on (match_value source wanted v)))
searched-is w falls wanted f source p later ih =
    let b : Arena = (with_pattern source f.arena).arena in
    let n : Made = node.Matches f.number (length f.arena.patterns) wanted in
    node-is w falls n b later
    ∙ ap {B = Operand} (λ (o : Option (List ℕ)) (s : List Answer). and_then (value_at w f.number s) (λ v. made_on (option_map (λ pattern. match_value pattern wanted v) o)))
    (get-pushed f.arena.patterns w.code.arena.patterns source later.patterns)
    ∙ ap {B = Operand} (λ (x : Operand) (s : List Answer). and_then (x s) (λ v. known_on (match_value source wanted v)))
    (ih (later-trans f.arena b w.code.arena (later-pattern source f.arena) (later-trans b (with_node n b).arena w.code.arena (later-node n b) later)))

matched-is : (w : World) → Falls w.code.arena.nodes → (known : Known) (wanted : Bool) (f : Numbered) (right : Phrase) (p : Operand) → Later (matched known wanted f right).arena w.code.arena
    → (Later f.arena w.code.arena → value_at w f.number ≡ p) → value_at w (matched known wanted f right).number ≡ matched_in known (scene_of w) wanted p right
matched-is w falls known wanted f (String place source) p later ih = searched-is w falls wanted f source p later ih
matched-is w falls known wanted f (Named place name) p later ih = acl-is w falls wanted f (acl_of known name) p later ih
matched-is w falls known wanted f _ p later ih = absent-is w falls f.arena later

compared-is : (w : World) → Falls w.code.arena.nodes → (known : Known) (wanted : Bool) (how : Option Comparison) (f : Numbered) (right : Phrase) (second : Arena → Numbered) (p q : Operand)
    → Later (compared_with known wanted how f right second).arena w.code.arena → (Later f.arena w.code.arena → value_at w f.number ≡ p) → ((a : Arena) → Later a (second a).arena)
    → ((a : Arena) → Later (second a).arena w.code.arena → value_at w (second a).number ≡ q)
    → value_at w (compared_with known wanted how f right second).number ≡ comparison known (scene_of w) wanted how p right q
compared-is w falls known wanted (Some how) f right second p q later ih grows jh =
    two-is w falls (node.Compare how) (λ (x y : Operand) (s : List Answer). and_then (x s) (λ v s. and_then (y s) (λ u. made_on (ordered how v u)))) f second p q (λ x y. refl) later ih grows jh
compared-is w falls known wanted None f right second p q later ih grows jh = matched-is w falls known wanted f right p later ih

-- arguments by their numbers
abbrev pub ArgumentsMean : World → Arguments → List Operand → Type 0
ArgumentsMean w Zero ops = ops ≡ []
ArgumentsMean w (One x) ops = ops ≡ value_at w x ∷ []
ArgumentsMean w (Two x y) ops = ops ≡ value_at w x ∷ value_at w y ∷ []
ArgumentsMean w (Three x y z) ops = ops ≡ value_at w x ∷ value_at w y ∷ value_at w z ∷ []
ArgumentsMean w TooMany ops = 3 < length ops

one-more-mean : (w : World) (g : Arguments) (ops : List Operand) (x : ℕ) (p : Operand) → ArgumentsMean w g ops → value_at w x ≡ p → ArgumentsMean w (with_argument g x) (ops ++ p ∷ [])
one-more-mean w Zero ops x p h e = ap (λ (l : List Operand). l ++ p ∷ []) h ∙ ap (λ (o : Operand). o ∷ []) (sym e)
one-more-mean w (One y) ops x p h e = ap (λ (l : List Operand). l ++ p ∷ []) h ∙ ap (λ (o : Operand). value_at w y ∷ o ∷ []) (sym e)
one-more-mean w (Two y z) ops x p h e = ap (λ (l : List Operand). l ++ p ∷ []) h ∙ ap (λ (o : Operand). value_at w y ∷ value_at w z ∷ o ∷ []) (sym e)
one-more-mean w (Three y z u) ops x p h e = let n : length ops ≡ 3 = ap length h in omega (arith, length-append ops (p ∷ []))
one-more-mean w TooMany ops x p h e = omega (arith, length-append ops (p ∷ []))

lt-test : (m n : ℕ) → m < n → nat_lt m n ≡ true
lt-test m n h = grind (arith, nat_tests)

-- operands one after another
values-cons : (p : Operand) (ops : List Operand) (next : List Value → Operand) (s : List Answer)
    → and_then (values_of (p ∷ ops) s) next ≡ and_then (p s) (λ v s. and_then (values_of ops s) (λ vs. next (v ∷ vs)))
values-cons p ops next s =
    bind_bind (p s) (λ v s. and_then (values_of ops s) (λ vs. On (v ∷ vs))) next ∙ and-then-same (p s) (λ v t. bind_bind (values_of ops t) (λ vs. On (v ∷ vs)) next)

rest-is : (w : World) (k : ℕ) (args : Arguments) (ops : List Operand) (s : List Answer) → ArgumentsMean w args ops
    → with_rest w.stored (value_at w) k args [] s ≡ and_then (all_values ops s) (λ values. made_on (applied w.stored k values))
rest-is w k Zero ops s h = sym (ap (λ (l : List Operand). and_then (all_values l s) (λ values. made_on (applied w.stored k values))) h)
rest-is w k (One x) ops s h =
    sym (ap (λ (l : List Operand). and_then (all_values l s) (λ values. made_on (applied w.stored k values))) h
    ∙ values-cons (value_at w x) [] (λ values. made_on (applied w.stored k values)) s)
rest-is w k (Two x y) ops s h =
    sym (ap (λ (l : List Operand). and_then (all_values l s) (λ values. made_on (applied w.stored k values))) h
    ∙ values-cons (value_at w x) (value_at w y ∷ []) (λ values. made_on (applied w.stored k values)) s
    ∙ and-then-same (value_at w x s) (λ v t. values-cons (value_at w y) [] (λ values. made_on (applied w.stored k (v ∷ values))) t))
rest-is w k (Three x y z) ops s h =
    sym (ap (λ (l : List Operand). and_then (all_values l s) (λ values. made_on (applied w.stored k values))) h
    ∙ values-cons (value_at w x) (value_at w y ∷ value_at w z ∷ []) (λ values. made_on (applied w.stored k values)) s
    ∙ and-then-same (value_at w x s) (λ v t. values-cons (value_at w y) (value_at w z ∷ []) (λ values. made_on (applied w.stored k (v ∷ values))) t
    ∙ and-then-same (value_at w y t) (λ u r. values-cons (value_at w z) [] (λ values. made_on (applied w.stored k (v ∷ u ∷ values))) r)))
rest-is w k TooMany ops s h = sym (ap (λ (b : Bool). and_then (if b then Stuck else values_of ops s) (λ values. made_on (applied w.stored k values))) (lt-test 3 (length ops) h))

-- the jar's text before arguments
jar-front-mean : (w : World) (x : ℕ) (p : Operand) (args : Arguments) (ops : List Operand) → value_at w x ≡ p → ArgumentsMean w args ops → ArgumentsMean w (in_front x args) (p ∷ ops)
jar-front-mean w x p Zero ops e h = ap (λ (l : List Operand). p ∷ l) h ∙ ap (λ (o : Operand). o ∷ []) (sym e)
jar-front-mean w x p (One y) ops e h = ap (λ (l : List Operand). p ∷ l) h ∙ ap (λ (o : Operand). o ∷ value_at w y ∷ []) (sym e)
jar-front-mean w x p (Two y z) ops e h = ap (λ (l : List Operand). p ∷ l) h ∙ ap (λ (o : Operand). o ∷ value_at w y ∷ value_at w z ∷ []) (sym e)
jar-front-mean w x p (Three y z u) ops e h = let n : length ops ≡ 3 = ap length h in omega arith
jar-front-mean w x p TooMany ops e h = omega arith

jar-is : (w : World) → Falls w.code.arena.nodes → (g : Given) (ops : List Operand) → ArgumentsMean w g.arguments ops → Later (behind_jar g).arena w.code.arena
    → ArgumentsMean w (behind_jar g).arguments (jar_text (scene_of w) ∷ ops)
jar-is w falls g ops h later =
    jar-front-mean w (length g.arena.nodes) (jar_text (scene_of w)) g.arguments ops (node-is w falls (node.Read Jar) g.arena later) h

passed-is : (w : World) → Falls w.code.arena.nodes → (use_of_jar : JarUse) (g : Given) (ops : List Operand) → ArgumentsMean w g.arguments ops → Later (passed use_of_jar g).arena w.code.arena
    → ArgumentsMean w (passed use_of_jar g).arguments (with_jar (scene_of w) use_of_jar ops)
passed-is w falls jar.None g ops h later = h
passed-is w falls jar.Asks g ops h later = jar-is w falls g ops h later
passed-is w falls jar.Changes g ops h later = jar-is w falls g ops h later

stored-is : (w : World) → Falls w.code.arena.nodes → (k : ℕ) (g : Given) (ops : List Operand) → ArgumentsMean w g.arguments ops → Later (stored k g).arena w.code.arena
    → value_at w (stored k g).number ≡ stored_value (scene_of w) k ops
stored-is w falls k g ops h later = node-is w falls (node.Stored k g.arguments) g.arena later ∙ fun_ext (λ s. rest-is w k g.arguments ops s h)

-- more arguments than any function takes
many-substituted : (sc : Scene) (all : Bool) (source : List ℕ) (ops : List Operand) → 3 < length ops → call_value sc (callee.Builtin (builtin.Substitute all)) (Some source) ops ≡ (λ s. Stuck)
many-substituted sc all source [] h = absurd (omega arith)
many-substituted sc all source (a ∷ []) h = absurd (omega arith)
many-substituted sc all source (a ∷ b ∷ []) h = absurd (omega arith)
many-substituted sc all source (a ∷ b ∷ c ∷ []) h = absurd (omega arith)
many-substituted sc all source (a ∷ b ∷ c ∷ d ∷ rest) h = refl

many-purged : (sc : Scene) (soft : Bool) (second : Option (List ℕ)) (ops : List Operand) → 3 < length ops → call_value sc (callee.Builtin (builtin.Xkey soft)) second ops ≡ (λ s. Stuck)
many-purged sc soft second [] h = absurd (omega arith)
many-purged sc soft second (a ∷ []) h = absurd (omega arith)
many-purged sc soft second (a ∷ b ∷ rest) h = refl

many-directed : (sc : Scene) (k : ℕ) (second : Option (List ℕ)) (ops : List Operand) → 3 < length ops → call_value sc (callee.Director k) second ops ≡ (λ s. Stuck)
many-directed sc k second [] h = absurd (omega arith)
many-directed sc k second (a ∷ []) h = absurd (omega arith)
many-directed sc k second (a ∷ b ∷ rest) h = refl

substitution-is : (w : World) → Falls w.code.arena.nodes → (all : Bool) (second : Option (List ℕ)) (args : Arguments) (a : Arena) (ops : List Operand) → ArgumentsMean w args ops
    → Later (substitution all second args a).arena w.code.arena
    → value_at w (substitution all second args a).number ≡ call_value (scene_of w) (callee.Builtin (builtin.Substitute all)) second ops
substitution-is w falls all (Some source) (Three x y z) a ops h later =
    node-is w falls (node.Substitute all x (length a.patterns) z) (with_pattern source a).arena later
    ∙ ap {B = Operand} (λ (o : Option (List ℕ)) (s : List Answer). and_then (value_at w x s) (λ v s. and_then (value_at w z s) (λ u. made_on (option_map (λ pattern. substituted pattern all v u) o))))
    (get-pushed a.patterns w.code.arena.patterns source later.patterns)
    ∙ sym (ap (λ (l : List Operand). call_value (scene_of w) (callee.Builtin (builtin.Substitute all)) (Some source) l) h)
substitution-is w falls all (Some source) Zero a ops h later =
    absent-is w falls a later ∙ sym (ap (λ (l : List Operand). call_value (scene_of w) (callee.Builtin (builtin.Substitute all)) (Some source) l) h)
substitution-is w falls all (Some source) (One x) a ops h later =
    absent-is w falls a later ∙ sym (ap (λ (l : List Operand). call_value (scene_of w) (callee.Builtin (builtin.Substitute all)) (Some source) l) h)
substitution-is w falls all (Some source) (Two x y) a ops h later =
    absent-is w falls a later ∙ sym (ap (λ (l : List Operand). call_value (scene_of w) (callee.Builtin (builtin.Substitute all)) (Some source) l) h)
substitution-is w falls all (Some source) TooMany a ops h later = absent-is w falls a later ∙ sym (many-substituted (scene_of w) all source ops h)
substitution-is w falls all None args a ops h later = absent-is w falls a later

xkey-is : (w : World) → Falls w.code.arena.nodes → (soft : Bool) (second : Option (List ℕ)) (args : Arguments) (a : Arena) (ops : List Operand) → ArgumentsMean w args ops
    → Later (xkey soft args a).arena w.code.arena → value_at w (xkey soft args a).number ≡ call_value (scene_of w) (callee.Builtin (builtin.Xkey soft)) second ops
xkey-is w falls soft second (One x) a ops h later =
    node-is w falls (node.Xkey soft x) a later ∙ sym (ap (λ (l : List Operand). call_value (scene_of w) (callee.Builtin (builtin.Xkey soft)) second l) h)
xkey-is w falls soft second Zero a ops h later = absent-is w falls a later ∙ sym (ap (λ (l : List Operand). call_value (scene_of w) (callee.Builtin (builtin.Xkey soft)) second l) h)
xkey-is w falls soft second (Two x y) a ops h later = absent-is w falls a later ∙ sym (ap (λ (l : List Operand). call_value (scene_of w) (callee.Builtin (builtin.Xkey soft)) second l) h)
xkey-is w falls soft second (Three x y z) a ops h later = absent-is w falls a later ∙ sym (ap (λ (l : List Operand). call_value (scene_of w) (callee.Builtin (builtin.Xkey soft)) second l) h)
xkey-is w falls soft second TooMany a ops h later = absent-is w falls a later ∙ sym (many-purged (scene_of w) soft second ops h)

director-is : (w : World) → Falls w.code.arena.nodes → (k : ℕ) (second : Option (List ℕ)) (args : Arguments) (a : Arena) (ops : List Operand) → ArgumentsMean w args ops
    → Later (director k args a).arena w.code.arena → value_at w (director k args a).number ≡ call_value (scene_of w) (callee.Director k) second ops
director-is w falls k second Zero a ops h later =
    node-is w falls (node.Director k) a later ∙ sym (ap (λ (l : List Operand). call_value (scene_of w) (callee.Director k) second l) h)
director-is w falls k second (One x) a ops h later =
    node-is w falls (node.DirectorFor k x) a later ∙ sym (ap (λ (l : List Operand). call_value (scene_of w) (callee.Director k) second l) h)
director-is w falls k second (Two x y) a ops h later = absent-is w falls a later ∙ sym (ap (λ (l : List Operand). call_value (scene_of w) (callee.Director k) second l) h)
director-is w falls k second (Three x y z) a ops h later = absent-is w falls a later ∙ sym (ap (λ (l : List Operand). call_value (scene_of w) (callee.Director k) second l) h)
director-is w falls k second TooMany a ops h later = absent-is w falls a later ∙ sym (many-directed (scene_of w) k second ops h)

-- what is called with which arguments
pub call-is : (w : World) → Falls w.code.arena.nodes → (f : Callee) (second : Option (List ℕ)) (g : Given) (ops : List Operand) → ArgumentsMean w g.arguments ops
    → Later (called f second g).arena w.code.arena → value_at w (called f second g).number ≡ call_value (scene_of w) f second ops
call-is w falls (callee.Builtin (builtin.Substitute all)) second g ops h later = substitution-is w falls all second g.arguments g.arena ops h later
call-is w falls (callee.Builtin (builtin.Xkey soft)) second g ops h later = xkey-is w falls soft second g.arguments g.arena ops h later
call-is w falls (callee.Stored k use_of_jar) second g ops h later =
    let all : Given = passed use_of_jar g in
    stored-is w falls k all (with_jar (scene_of w) use_of_jar ops)
    (passed-is w falls use_of_jar g ops h (later-trans all.arena (stored k all).arena w.code.arena (later-node (node.Stored k all.arguments) all.arena) later)) later
call-is w falls (callee.Director k) second g ops h later = director-is w falls k second g.arguments g.arena ops h later
call-is w falls _ second g ops h later = absent-is w falls g.arena later

mutual
  unfolding numbered value_of

  pub expression-is : (w : World) → Falls w.code.arena.nodes → (known : Known) (e : Phrase) (a : Arena) → Later (numbered known e a).arena w.code.arena
      → value_at w (numbered known e a).number ≡ value_of known (scene_of w) e
  expression-is w falls known (String place text) a later = text-is w falls text a later
  expression-is w falls known (Integer place n) a later = node-is w falls (node.Int n) a later
  expression-is w falls known (Duration place n) a later = node-is w falls (node.Duration n) a later
  expression-is w falls known (Named place name) a later = read-is w falls (read_of known name) a later
  expression-is w falls known (Node Either left right) a later =
      two-is w falls node.Either (λ (x y : Operand) (s : List Answer). and_then (x s) (decides true y)) (numbered known left a) (numbered known right) (value_of known (scene_of w) left)
      (value_of known (scene_of w) right) (λ x y. refl) later (expression-is w falls known left a) (expression-later known right) (expression-is w falls known right)
  expression-is w falls known (Node Both left right) a later =
      two-is w falls node.Both (λ (x y : Operand) (s : List Answer). and_then (x s) (decides false y)) (numbered known left a) (numbered known right) (value_of known (scene_of w) left)
      (value_of known (scene_of w) right) (λ x y. refl) later (expression-is w falls known left a) (expression-later known right) (expression-is w falls known right)
  expression-is w falls known (Node Not sign e) a later =
      one-is w falls node.Not (λ (x : Operand) (s : List Answer). and_then (x s) (λ v. made_on (opposite v))) (numbered known e a) (value_of known (scene_of w) e) (λ x. refl) later
      (expression-is w falls known e a)
  expression-is w falls known (Node Group sign e) a later = expression-is w falls known e a later
  expression-is w falls known (Node Added left right) a later =
      two-is w falls node.Sum (λ (x y : Operand) (s : List Answer). and_then (x s) (λ v s. and_then (y s) (λ u. made_on (summed v u)))) (numbered known left a) (numbered known right)
      (value_of known (scene_of w) left) (value_of known (scene_of w) right) (λ x y. refl) later (expression-is w falls known left a) (expression-later known right)
      (expression-is w falls known right)
  expression-is w falls known (Node Subtracted left right) a later =
      two-is w falls node.Difference (λ (x y : Operand) (s : List Answer). and_then (x s) (λ v s. and_then (y s) (λ u. made_on (lessened v u)))) (numbered known left a) (numbered known right)
      (value_of known (scene_of w) left) (value_of known (scene_of w) right) (λ x y. refl) later (expression-is w falls known left a) (expression-later known right)
      (expression-is w falls known right)
  expression-is w falls known (Node (Compared how) left right) a later =
      compared-is w falls known (asks_match how) (ordered_as how) (numbered known left a) right (numbered known right) (value_of known (scene_of w) left) (value_of known (scene_of w) right) later
      (expression-is w falls known left a) (expression-later known right) (expression-is w falls known right)
  expression-is w falls known (Node Called (Named place name) arguments) a later =
      call-is w falls (callee_of known name) (second_string arguments) (numbered_arguments known arguments a) (operands_of known (scene_of w) arguments)
      (arguments-are w falls known arguments a (later-trans (numbered_arguments known arguments a).arena _ w.code.arena
      (called-later (callee_of known name) (second_string arguments) (numbered_arguments known arguments a)) later)) later
  expression-is w falls known _ a later = absent-is w falls a later

  pub arguments-are : (w : World) → Falls w.code.arena.nodes → (known : Known) (e : Phrase) (a : Arena) → Later (numbered_arguments known e a).arena w.code.arena
      → ArgumentsMean w (numbered_arguments known e a).arguments (operands_of known (scene_of w) e)
  arguments-are w falls known (Node More front e) a later =
      one-more-mean w (numbered_arguments known front a).arguments (operands_of known (scene_of w) front) (numbered known e (numbered_arguments known front a).arena).number
      (value_of known (scene_of w) e)
      (arguments-are w falls known front a (later-trans (numbered_arguments known front a).arena (numbered known e (numbered_arguments known front a).arena).arena w.code.arena
      (expression-later known e (numbered_arguments known front a).arena) later))
      (expression-is w falls known e (numbered_arguments known front a).arena later)
  arguments-are w falls known _ a later = refl
