-- Chains of operands and lists of arguments, numbered as a loop over their items numbers them.
use Rattle.std.proofs.lemmas.List.{at_drop_all}
use Rattle.std.proofs.Common.{◌≡◌, ◌≤◌, ℕ, length, drop, List, [], ◌∷◌, refl, sym, ap, ◌∙◌, None, ◌<◌, ◌+◌, ◌*◌, zero, suc, get_or, arith}
use Rattle.vcl_tree.specs.Phrase.{Phrase, Label, Node, Nothing, Either, Both, More, chain, list_of, phrase_size}
use Rattle.vcl_tree.specs.ExpressionFalls.{chain_longer}
use Rattle.vcl_tree.specs.ExpressionView.{sum_of, sum_label}
use Rattle.vcl_tree.specs.declared.expression.Addend.{Addend}
use Rattle.vcl_tree.specs.declared.expression.Addition.{Addition}
use Rattle.vcl_tree.specs.declared.expression.Addition.TheVariants.{Plus, Minus}
use Rattle.vcl_code.specs.declared.arena.Arena.{Arena}
use Rattle.vcl_code.specs.declared.expressions.Junction.{Junction}
use Rattle.vcl_code.specs.declared.expressions.Junction.TheVariants.{Any, All}
use Rattle.vcl_code.specs.declared.node.Node.{Node as Made}
use Rattle.vcl_code.specs.declared.node.Node.TheVariants as node
use Rattle.vcl_code.specs.declared.node.Arguments.TheVariants.{Zero}
use Rattle.vcl_code.specs.Arenas.{Numbered, at, with_node, two}
use Rattle.vcl_symbols.specs.Known.{Known}
use Rattle.vcl_code.specs.Expressions.{numbered, numbered_arguments, Given, given, one_more, joined, label_of, operands_of, summed, second_string, string_of}

-- a node of two parts that were numbered one after the other
pub two-is : (make : ℕ → ℕ → Made) (f : Numbered) (second : Arena → Numbered) (l r n : ℕ) (x y z : Arena)
    → f ≡ at l x → second x ≡ at r y → with_node (make l r) y ≡ at n z → two make f second ≡ at n z
two-is make f second l r n x y z e g h = rw (e, g) h

-- operands, from what is numbered before them on
abbrev pub operands : Known → (ℕ → ℕ → Made) → Numbered → List Phrase → Numbered
operands known make f [] = f
operands known make f (p ∷ ps) = operands known make (two make f (numbered known p)) ps

either-chain : (known : Known) (front : Phrase) (a : Arena) (items : List Phrase)
    → operands known node.Either (numbered known front a) items ≡ numbered known (chain Either front items) a
unfolding numbered
either-chain known front a [] = refl
either-chain known front a (p ∷ ps) = either-chain known (Node Either front p) a ps

both-chain : (known : Known) (front : Phrase) (a : Arena) (items : List Phrase)
    → operands known node.Both (numbered known front a) items ≡ numbered known (chain Both front items) a
unfolding numbered
both-chain known front a [] = refl
both-chain known front a (p ∷ ps) = both-chain known (Node Both front p) a ps

joined-chain : (known : Known) (tie : Junction) (front : Phrase) (a : Arena) (items : List Phrase)
    → operands known (joined tie) (numbered known front a) items ≡ numbered known (chain (label_of tie) front items) a
joined-chain known Any front a items = either-chain known front a items
joined-chain known All front a items = both-chain known front a items

joined-two : (known : Known) (tie : Junction) (x y : Phrase) (a : Arena)
    → numbered known (Node (label_of tie) x y) a ≡ two (joined tie) (numbered known x a) (numbered known y)
unfolding numbered
joined-two known Any x y a = refl
joined-two known All x y a = refl

-- what a loop over the operands ends with: the first two were numbered before it
pub junction-end : (known : Known) (tie : Junction) (x y : Phrase) (a : Arena) (items : List Phrase) (i : ℕ) (l r n k : ℕ) (a1 a2 a3 b : Arena)
    → numbered known x a ≡ at l a1 → numbered known y a1 ≡ at r a2 → with_node (joined tie l r) a2 ≡ at n a3
    → operands known (joined tie) (at k b) (drop i items) ≡ operands known (joined tie) (at n a3) items → length items ≤ i
    → numbered known (operands_of tie x y items) a ≡ at k b
junction-end known tie x y a items i l r n k a1 a2 a3 b e f g h ended =
    sym (joined-chain known tie (Node (label_of tie) x y) a items)
    ∙ ap (λ (s : Numbered). operands known (joined tie) s items) (joined-two known tie x y a ∙ two-is (joined tie) (numbered known x a) (numbered known y) l r n a1 a2 a3 e f g) ∙ sym h
    ∙ at_drop_all (λ (ps : List Phrase). operands known (joined tie) (at k b) ps) items i ended

-- further terms of a sum
abbrev pub terms : Known → Numbered → List Addend → Numbered
terms known f [] = f
terms known f (x ∷ xs) = terms known (two (summed x.sign) f (numbered known x.term)) xs

pub sum-two : (known : Known) (s : Addition) (x y : Phrase) (a : Arena)
    → numbered known (Node (sum_label s) x y) a ≡ two (summed s) (numbered known x a) (numbered known y)
unfolding numbered
sum-two known Plus x y a = refl
sum-two known Minus x y a = refl

sum-chain : (known : Known) (front : Phrase) (a : Arena) (items : List Addend)
    → terms known (numbered known front a) items ≡ numbered known (sum_of front items) a
sum-chain known front a [] = refl
sum-chain known front a (x ∷ xs) =
    ap (λ (s : Numbered). terms known s xs) (sym (sum-two known x.sign front x.term a)) ∙ sum-chain known (Node (sum_label x.sign) front x.term) a xs

pub sum-end : (known : Known) (sign : Addition) (x y : Phrase) (a : Arena) (items : List Addend) (i : ℕ) (l r n k : ℕ) (a1 a2 a3 b : Arena)
    → numbered known x a ≡ at l a1 → numbered known y a1 ≡ at r a2 → with_node (summed sign l r) a2 ≡ at n a3
    → terms known (at k b) (drop i items) ≡ terms known (at n a3) items → length items ≤ i
    → numbered known (sum_of (Node (sum_label sign) x y) items) a ≡ at k b
sum-end known sign x y a items i l r n k a1 a2 a3 b e f g h ended =
    sym (sum-chain known (Node (sum_label sign) x y) a items)
    ∙ ap (λ (s : Numbered). terms known s items) (sum-two known sign x y a ∙ two-is (summed sign) (numbered known x a) (numbered known y) l r n a1 a2 a3 e f g) ∙ sym h
    ∙ at_drop_all (λ (ps : List Addend). terms known (at k b) ps) items i ended

-- further arguments
abbrev pub further : Known → Given → List Phrase → Given
further known g [] = g
further known g (p ∷ ps) = further known (one_more g (numbered known p)) ps

arguments-chain : (known : Known) (front : Phrase) (a : Arena) (items : List Phrase)
    → further known (numbered_arguments known front a) items ≡ numbered_arguments known (chain More front items) a
unfolding numbered_arguments
arguments-chain known front a [] = refl
arguments-chain known front a (p ∷ ps) = arguments-chain known (Node More front p) a ps

arguments-none : (known : Known) (a : Arena) → given Zero a ≡ numbered_arguments known Nothing a
unfolding numbered_arguments
arguments-none known a = refl

pub arguments-end : (known : Known) (a : Arena) (items : List Phrase) (i : ℕ) (after : Given)
    → further known after (drop i items) ≡ further known (given Zero a) items → length items ≤ i
    → numbered_arguments known (list_of items) a ≡ after
arguments-end known a items i after h ended =
    sym (arguments-chain known Nothing a items) ∙ ap (λ (s : Given). further known s items) (sym (arguments-none known a)) ∙ sym h
    ∙ at_drop_all (λ (ps : List Phrase). further known after ps) items i ended

-- a list of other than three has no second of three
deep : (f a b c d : Phrase) (items : List Phrase) → second_string (chain More (Node More (Node More (Node More (Node More f a) b) c) d) items) ≡ None
deep f a b c d [] = refl
deep f a b c d (e ∷ es) = deep (Node More f a) b c d e es

pub second-other : (items : List Phrase) → (length items ≡ 3 → ⊥) → second_string (list_of items) ≡ None
second-other [] h = refl
second-other (a ∷ []) h = refl
second-other (a ∷ b ∷ []) h = refl
second-other (a ∷ b ∷ c ∷ []) h = absurd (h refl)
second-other (a ∷ b ∷ c ∷ d ∷ more) h = deep Nothing a b c d more

pub second-three : (items : List Phrase) → 3 ≤ length items → length items < 4 → (x : Phrase) → x ≡ get_or items 1 x → string_of x ≡ second_string (list_of items)
second-three [] low high x e = absurd (omega arith)
second-three (a ∷ []) low high x e = absurd (omega arith)
second-three (a ∷ b ∷ []) low high x e = absurd (omega arith)
second-three (a ∷ b ∷ c ∷ []) low high x e = ap string_of e
second-three (a ∷ b ∷ c ∷ d ∷ more) low high x e = absurd (omega arith)

-- an operand, a term or an argument has fewer parts than the chain that it stands in
operand-less : (label : Label) (front : Phrase) (items : List Phrase) (i : ℕ) (d : Phrase) → i < length items
    → phrase_size (get_or items i d) + phrase_size front < phrase_size (chain label front items)
operand-less label front [] i d h = absurd (omega arith)
operand-less label front (p ∷ ps) zero d h = omega (arith, chain_longer label (Node label front p) ps)
operand-less label front (p ∷ ps) (suc i) d h = omega (arith, operand-less label (Node label front p) ps i d (omega arith))

sum_longer : (front : Phrase) (addends : List Addend) → phrase_size front ≤ phrase_size (sum_of front addends)
sum_longer front [] = omega arith
sum_longer front (a ∷ addends) = omega (arith, sum_longer (Node (sum_label a.sign) front a.term) addends)

term-less : (front : Phrase) (addends : List Addend) (i : ℕ) (d : Addend) → i < length addends
    → phrase_size (get_or addends i d).term + phrase_size front < phrase_size (sum_of front addends)
term-less front [] i d h = absurd (omega arith)
term-less front (a ∷ more) zero d h = omega (arith, sum_longer (Node (sum_label a.sign) front a.term) more)
term-less front (a ∷ more) (suc i) d h = omega (arith, term-less (Node (sum_label a.sign) front a.term) more i d (omega arith))

-- the measures of a recursion into expressions
pub operand-falls : (tie : Junction) (a b : Phrase) (items : List Phrase) (i t : ℕ) (x : Phrase) → i < length items → x ≡ get_or items i x
    → 2 * phrase_size (operands_of tie a b items) ≡ t → 2 * phrase_size x + 1 < t
operand-falls tie a b items i t x h e whole = omega (arith, operand-less (label_of tie) (Node (label_of tie) a b) items i x h, ap phrase_size e, whole)

pub first-falls : (tie : Junction) (a b : Phrase) (items : List Phrase) (t : ℕ) → 2 * phrase_size (operands_of tie a b items) ≡ t
    → (2 * phrase_size a + 1 < t) × (2 * phrase_size b + 1 < t)
first-falls tie a b items t whole =
    let longer = chain_longer (label_of tie) (Node (label_of tie) a b) items in (omega (arith, longer, whole), omega (arith, longer, whole))

pub term-falls : (s : Addition) (a b : Phrase) (addends : List Addend) (i t : ℕ) (x : Addend) → i < length addends → x ≡ get_or addends i x
    → 2 * phrase_size (sum_of (Node (sum_label s) a b) addends) ≡ t → 2 * phrase_size x.term + 1 < t
term-falls s a b addends i t x h e whole =
    omega (arith, term-less (Node (sum_label s) a b) addends i x h, ap (λ (y : Addend). phrase_size y.term) e, whole)

pub first-terms-fall : (s : Addition) (a b : Phrase) (addends : List Addend) (t : ℕ) → 2 * phrase_size (sum_of (Node (sum_label s) a b) addends) ≡ t
    → (2 * phrase_size a + 1 < t) × (2 * phrase_size b + 1 < t)
first-terms-fall s a b addends t whole =
    let longer = sum_longer (Node (sum_label s) a b) addends in (omega (arith, longer, whole), omega (arith, longer, whole))

pub argument-falls : (items : List Phrase) (i t : ℕ) (x : Phrase) → i < length items → x ≡ get_or items i x
    → 2 * phrase_size (list_of items) ≡ t → 2 * phrase_size x + 1 < t
argument-falls items i t x h e whole = omega (arith, operand-less More Nothing items i x h, ap phrase_size e, whole)
