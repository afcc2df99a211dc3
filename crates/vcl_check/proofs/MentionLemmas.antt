-- What chains of parts mention, as a loop over their items does it.
use Rattle.std.proofs.lemmas.List.{at_drop_all}
use Rattle.std.proofs.Common.{◌≡◌, ◌≤◌, ℕ, length, drop, List, [], ◌∷◌, refl, sym, ap, ◌∙◌, Option, None}
use Rattle.vcl_tree.specs.Phrase as phrase
use Rattle.vcl_tree.specs.Phrase.{Phrase, Label, Node, chain, list_of}
use Rattle.vcl_tree.specs.ExpressionView.{sum_of, sum_label}
use Rattle.vcl_tree.specs.declared.expression.Addend.{Addend}
use Rattle.vcl_tree.specs.declared.expression.Addition.{Addition}
use Rattle.vcl_tree.specs.declared.expression.Addition.TheVariants.{Plus, Minus}
use Rattle.vcl_check.specs.Mentions.{Said, said_string, own_string, with_found, with_strings, with_mentions}

abbrev pub with_each : List Said → List Phrase → List Said
with_each before [] = before
with_each before (p ∷ ps) = with_each (with_strings before p) ps

pub chain-strings : (label : Label) → ((a b : Phrase) → own_string label a b ≡ None) → (before : List Said) (front : Phrase) (items : List Phrase)
    → with_each (with_strings before front) items ≡ with_strings before (chain label front items)
chain-strings label h before front [] = refl
chain-strings label h before front (p ∷ ps) =
    ap (λ (o : Option Said). with_each (with_found (with_strings (with_strings before front) p) o) ps) (sym (h front p))
    ∙ chain-strings label h before (Node label front p) ps

abbrev pub with_addends : List Said → List Addend → List Said
with_addends before [] = before
with_addends before (a ∷ more) = with_addends (with_strings before a.term) more

sum-none : (s : Addition) (a b : Phrase) → own_string (sum_label s) a b ≡ None
sum-none Plus a b = refl
sum-none Minus a b = refl

pub sum-strings : (before : List Said) (front : Phrase) (addends : List Addend) → with_addends (with_strings before front) addends ≡ with_strings before (sum_of front addends)
sum-strings before front [] = refl
sum-strings before front (a ∷ more) =
    ap (λ (o : Option Said). with_addends (with_found (with_strings (with_strings before front) a.term) o) more) (sym (sum-none a.sign front a.term))
    ∙ sum-strings before (Node (sum_label a.sign) front a.term) more

pub sum-two : (before : List Said) (s : Addition) (a b : Phrase) → with_strings (with_strings before a) b ≡ with_strings before (Node (sum_label s) a b)
sum-two before s a b = ap (λ (o : Option Said). with_found (with_strings (with_strings before a) b) o) (sym (sum-none s a b))

-- a chain is no string
pub chain-string : (label l : Label) (a b : Phrase) (items : List Phrase) → said_string (chain label (Node l a b) items) ≡ None
chain-string label l a b [] = refl
chain-string label l a b (p ∷ ps) = chain-string label label (Node l a b) p ps

pub sum-string : (l : Label) (a b : Phrase) (addends : List Addend) → said_string (sum_of (Node l a b) addends) ≡ None
sum-string l a b [] = refl
sum-string l a b (x ∷ xs) = sum-string (sum_label x.sign) (Node l a b) x.term xs

abbrev pub with_all : List ℕ → List Said → List Phrase → List Said
with_all owner before [] = before
with_all owner before (p ∷ ps) = with_all owner (with_mentions owner before p) ps

pub block-mentions : (owner : List ℕ) (before : List Said) (front : Phrase) (items : List Phrase)
    → with_all owner (with_mentions owner before front) items ≡ with_mentions owner before (chain phrase.More front items)
block-mentions owner before front [] = refl
block-mentions owner before front (p ∷ ps) = block-mentions owner before (Node phrase.More front p) ps

pub branch-mentions : (owner : List ℕ) (before : List Said) (front : Phrase) (items : List Phrase)
    → with_all owner (with_mentions owner before front) items ≡ with_mentions owner before (chain phrase.ElseIf front items)
branch-mentions owner before front [] = refl
branch-mentions owner before front (p ∷ ps) = branch-mentions owner before (Node phrase.ElseIf front p) ps

-- what a loop over the items ends with, behind the last item
pub strings-end : (label : Label) → ((a b : Phrase) → own_string label a b ≡ None) → (before : List Said) (a b : Phrase) (items : List Phrase) (i : ℕ) (initial after : List Said)
    → initial ≡ with_strings (with_strings before a) b → with_each after (drop i items) ≡ with_each initial items → length items ≤ i
    → after ≡ with_strings before (chain label (Node label a b) items)
strings-end label none before a b items i initial after e h ended =
    sym (at_drop_all (λ (ps : List Phrase). with_each after ps) items i ended) ∙ h
    ∙ ap (λ (s : List Said). with_each s items) (e ∙ ap (λ (o : Option Said). with_found (with_strings (with_strings before a) b) o) (sym (none a b)))
    ∙ chain-strings label none before (Node label a b) items

pub sum-strings-end : (before : List Said) (s : Addition) (a b : Phrase) (addends : List Addend) (i : ℕ) (initial after : List Said)
    → initial ≡ with_strings (with_strings before a) b → with_addends after (drop i addends) ≡ with_addends initial addends → length addends ≤ i
    → after ≡ with_strings before (sum_of (Node (sum_label s) a b) addends)
sum-strings-end before s a b addends i initial after e h ended =
    sym (at_drop_all (λ (rest : List Addend). with_addends after rest) addends i ended) ∙ h
    ∙ ap (λ (x : List Said). with_addends x addends) (e ∙ sum-two before s a b) ∙ sum-strings before (Node (sum_label s) a b) addends

pub list-strings-end : (before : List Said) (items : List Phrase) (i : ℕ) (initial after : List Said)
    → initial ≡ before → with_each after (drop i items) ≡ with_each initial items → length items ≤ i → after ≡ with_strings before (list_of items)
list-strings-end before items i initial after e h ended =
    sym (at_drop_all (λ (ps : List Phrase). with_each after ps) items i ended) ∙ h
    ∙ ap (λ (s : List Said). with_each s items) e ∙ chain-strings phrase.More (λ a b. refl) before phrase.Nothing items

pub block-mentions-end : (owner : List ℕ) (before : List Said) (items : List Phrase) (i : ℕ) (initial after : List Said)
    → initial ≡ before → with_all owner after (drop i items) ≡ with_all owner initial items → length items ≤ i → after ≡ with_mentions owner before (list_of items)
block-mentions-end owner before items i initial after e h ended =
    sym (at_drop_all (λ (ps : List Phrase). with_all owner after ps) items i ended) ∙ h
    ∙ ap (λ (s : List Said). with_all owner s items) e ∙ block-mentions owner before phrase.Nothing items

pub branch-mentions-end : (owner : List ℕ) (before : List Said) (front : Phrase) (items : List Phrase) (i : ℕ) (initial after : List Said)
    → initial ≡ with_mentions owner before front → with_all owner after (drop i items) ≡ with_all owner initial items → length items ≤ i
    → after ≡ with_mentions owner before (chain phrase.ElseIf front items)
branch-mentions-end owner before front items i initial after e h ended =
    sym (at_drop_all (λ (ps : List Phrase). with_all owner after ps) items i ended) ∙ h
    ∙ ap (λ (s : List Said). with_all owner s items) e ∙ branch-mentions owner before front items
