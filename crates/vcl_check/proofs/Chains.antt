-- Chains tied one after another, as a loop over their items does it.
use Rattle.std.proofs.Common.{◌≡◌, ◌≤◌, ◌<◌, ◌+◌, ◌*◌, ℕ, zero, suc, get_or, arith, List, [], ◌∷◌, length, drop, refl, sym, ap, ◌∙◌}
use Rattle.std.proofs.lemmas.List.{at_drop_all}
use Rattle.vcl_language.specs.declared.scope.Subroutine.{Subroutine}
use Rattle.vcl_tree.specs.Phrase.{Phrase, Label, Node, Nothing, More, Either, Both, ElseIf, chain, list_of, phrase_size}
use Rattle.vcl_tree.specs.ExpressionFalls.{chain_longer}
use Rattle.vcl_tree.specs.ExpressionView.{sum_of, sum_label}
use Rattle.vcl_tree.specs.declared.expression.Addend.{Addend}
use Rattle.vcl_tree.specs.declared.expression.Addition.{Addition}
use Rattle.vcl_tree.specs.declared.expression.Addition.TheVariants.{Plus, Minus}
use Rattle.vcl_check.specs.declared.form.Form.{Form}
use Rattle.vcl_check.specs.declared.seen.Told.{Told}
use Rattle.vcl_symbols.specs.Known.{Known}
use Rattle.vcl_check.specs.declared.form.Form.TheVariants.{Junction, Argument, Apart}
use Rattle.vcl_check.specs.Roles.{Role, Value, Arguments, Block, Statement, Branch, left_role, right_role, form_of}
use Rattle.vcl_check.specs.Least.{tied, told_of}

-- the items tied to what is told of a front
abbrev pub chain_told : Known → List Subroutine → Form → Role → Told → List Phrase → Told
chain_told known roots form role front [] = front
chain_told known roots form role front (p ∷ ps) = chain_told known roots form role (tied roots form front (told_of known roots role p)) ps

pub chain-told : (known : Known) (roots : List Subroutine) (role : Role) (label : Label) → left_role role label ≡ role → (front : Phrase) (items : List Phrase)
    → chain_told known roots (form_of role label) (right_role role label) (told_of known roots role front) items ≡ told_of known roots role (chain label front items)
chain-told known roots role label e front [] = refl
chain-told known roots role label e front (p ∷ ps) =
    ap (λ (r : Role). chain_told known roots (form_of role label) (right_role role label) (tied roots (form_of role label) (told_of known roots r front) (told_of known roots (right_role role label) p)) ps) (sym e)
    ∙ chain-told known roots role label e (Node label front p) ps

abbrev pub sum_told : Known → List Subroutine → Told → List Addend → Told
sum_told known roots front [] = front
sum_told known roots front (a ∷ more) = sum_told known roots (tied roots (form_of Value (sum_label a.sign)) front (told_of known roots Value a.term)) more

left-value : (s : Addition) → left_role Value (sum_label s) ≡ Value
left-value Plus = refl
left-value Minus = refl

right-value : (s : Addition) → right_role Value (sum_label s) ≡ Value
right-value Plus = refl
right-value Minus = refl

pub sum-tied : (known : Known) (roots : List Subroutine) (s : Addition) (front p : Phrase)
    → tied roots (form_of Value (sum_label s)) (told_of known roots Value front) (told_of known roots Value p) ≡ told_of known roots Value (Node (sum_label s) front p)
sum-tied known roots s front p =
    ap (λ (r : Role). tied roots (form_of Value (sum_label s)) (told_of known roots r front) (told_of known roots Value p)) (sym (left-value s))
    ∙ ap (λ (r : Role). tied roots (form_of Value (sum_label s)) (told_of known roots (left_role Value (sum_label s)) front) (told_of known roots r p)) (sym (right-value s))

pub sum-told : (known : Known) (roots : List Subroutine) (front : Phrase) (addends : List Addend) → sum_told known roots (told_of known roots Value front) addends ≡ told_of known roots Value (sum_of front addends)
sum-told known roots front [] = refl
sum-told known roots front (a ∷ more) =
    ap (λ (t : Told). sum_told known roots t more) (sum-tied known roots a.sign front a.term) ∙ sum-told known roots (Node (sum_label a.sign) front a.term) more

-- what a loop over the items ends with, behind the last item
pub either-end : (known : Known) (roots : List Subroutine) (a b : Phrase) (items : List Phrase) (i : ℕ) (initial told : Told)
    → initial ≡ tied roots Junction (told_of known roots Value a) (told_of known roots Value b)
    → chain_told known roots Junction Value told (drop i items) ≡ chain_told known roots Junction Value initial items → length items ≤ i
    → told ≡ told_of known roots Value (chain Either (Node Either a b) items)
either-end known roots a b items i initial told e h ended =
    sym (at_drop_all (λ (ps : List Phrase). chain_told known roots Junction Value told ps) items i ended) ∙ h
    ∙ ap (λ (t : Told). chain_told known roots Junction Value t items) e ∙ chain-told known roots Value Either refl (Node Either a b) items

pub both-end : (known : Known) (roots : List Subroutine) (a b : Phrase) (items : List Phrase) (i : ℕ) (initial told : Told)
    → initial ≡ tied roots Junction (told_of known roots Value a) (told_of known roots Value b)
    → chain_told known roots Junction Value told (drop i items) ≡ chain_told known roots Junction Value initial items → length items ≤ i
    → told ≡ told_of known roots Value (chain Both (Node Both a b) items)
both-end known roots a b items i initial told e h ended =
    sym (at_drop_all (λ (ps : List Phrase). chain_told known roots Junction Value told ps) items i ended) ∙ h
    ∙ ap (λ (t : Told). chain_told known roots Junction Value t items) e ∙ chain-told known roots Value Both refl (Node Both a b) items

pub sum-end : (known : Known) (roots : List Subroutine) (s : Addition) (a b : Phrase) (items : List Addend) (i : ℕ) (initial told : Told)
    → initial ≡ tied roots (form_of Value (sum_label s)) (told_of known roots Value a) (told_of known roots Value b)
    → sum_told known roots told (drop i items) ≡ sum_told known roots initial items → length items ≤ i
    → told ≡ told_of known roots Value (sum_of (Node (sum_label s) a b) items)
sum-end known roots s a b items i initial told e h ended =
    sym (at_drop_all (λ (ps : List Addend). sum_told known roots told ps) items i ended) ∙ h
    ∙ ap (λ (t : Told). sum_told known roots t items) (e ∙ sum-tied known roots s a b) ∙ sum-told known roots (Node (sum_label s) a b) items

pub arguments-end : (known : Known) (roots : List Subroutine) (items : List Phrase) (i : ℕ) (initial told : Told)
    → initial ≡ told_of known roots Arguments Nothing
    → chain_told known roots Argument Value told (drop i items) ≡ chain_told known roots Argument Value initial items → length items ≤ i
    → told ≡ told_of known roots Arguments (list_of items)
arguments-end known roots items i initial told e h ended =
    sym (at_drop_all (λ (ps : List Phrase). chain_told known roots Argument Value told ps) items i ended) ∙ h
    ∙ ap (λ (t : Told). chain_told known roots Argument Value t items) e ∙ chain-told known roots Arguments More refl Nothing items

pub block-end : (known : Known) (roots : List Subroutine) (items : List Phrase) (i : ℕ) (initial told : Told)
    → initial ≡ told_of known roots Block Nothing
    → chain_told known roots Apart Statement told (drop i items) ≡ chain_told known roots Apart Statement initial items → length items ≤ i
    → told ≡ told_of known roots Block (list_of items)
block-end known roots items i initial told e h ended =
    sym (at_drop_all (λ (ps : List Phrase). chain_told known roots Apart Statement told ps) items i ended) ∙ h
    ∙ ap (λ (t : Told). chain_told known roots Apart Statement t items) e ∙ chain-told known roots Block More refl Nothing items

pub branches-end : (known : Known) (roots : List Subroutine) (front : Phrase) (items : List Phrase) (i : ℕ) (initial told : Told)
    → initial ≡ told_of known roots Statement front
    → chain_told known roots Apart Branch told (drop i items) ≡ chain_told known roots Apart Branch initial items → length items ≤ i
    → told ≡ told_of known roots Statement (chain ElseIf front items)
branches-end known roots front items i initial told e h ended =
    sym (at_drop_all (λ (ps : List Phrase). chain_told known roots Apart Branch told ps) items i ended) ∙ h
    ∙ ap (λ (t : Told). chain_told known roots Apart Branch t items) e ∙ chain-told known roots Statement ElseIf refl front items

-- an operand, a term or an argument has fewer parts than the chain that it stands in
operand-less : (label : Label) (front : Phrase) (items : List Phrase) (i : ℕ) (d : Phrase) → i < length items
    → phrase_size (get_or items i d) + phrase_size front < phrase_size (chain label front items)
operand-less label front [] i d h = absurd (omega arith)
operand-less label front (p ∷ ps) zero d h = omega (arith, chain_longer label (Node label front p) ps)
operand-less label front (p ∷ ps) (suc i) d h = omega (arith, operand-less label (Node label front p) ps i d (omega arith))

sum_longer : (front : Phrase) (addends : List Addend) → phrase_size front ≤ phrase_size (sum_of front addends)
sum_longer front [] = omega arith
sum_longer front (a ∷ addends) = omega (arith, sum_longer (Node (sum_label a.sign) front a.term) addends)

term-less : (front : Phrase) (addends : List Addend) (i : ℕ) (d : Addend) → i < length addends
    → phrase_size (get_or addends i d).term + phrase_size front < phrase_size (sum_of front addends)
term-less front [] i d h = absurd (omega arith)
term-less front (a ∷ more) zero d h = omega (arith, sum_longer (Node (sum_label a.sign) front a.term) more)
term-less front (a ∷ more) (suc i) d h = omega (arith, term-less (Node (sum_label a.sign) front a.term) more i d (omega arith))

-- chains of other labels are as long
chain-size : (label other : Label) (front start : Phrase) (items : List Phrase) → phrase_size front ≡ phrase_size start
    → phrase_size (chain label front items) ≡ phrase_size (chain other start items)
chain-size label other front start [] e = e
chain-size label other front start (p ∷ ps) e = chain-size label other (Node label front p) (Node other start p) ps (omega (arith, e))

-- the measures of a recursion into expressions
pub operand-falls : (a b : Phrase) (items : List Phrase) (i t : ℕ) (x : Phrase) → i < length items → x ≡ get_or items i x
    → 2 * phrase_size (chain Either (Node Either a b) items) ≡ t → 2 * phrase_size x + 1 < t
operand-falls a b items i t x h e whole = omega (arith, operand-less Either (Node Either a b) items i x h, ap phrase_size e, whole)

pub first-falls : (a b : Phrase) (items : List Phrase) (t : ℕ) → 2 * phrase_size (chain Either (Node Either a b) items) ≡ t
    → (2 * phrase_size a + 1 < t) × (2 * phrase_size b + 1 < t)
first-falls a b items t whole =
    (omega (arith, chain_longer Either (Node Either a b) items, whole), omega (arith, chain_longer Either (Node Either a b) items, whole))

pub all-falls : (a b x y : Phrase) (items others : List Phrase) (t : ℕ) → x ≡ a → y ≡ b → others ≡ items
    → 2 * phrase_size (chain Both (Node Both a b) items) + 1 ≡ t → 2 * phrase_size (chain Either (Node Either x y) others) < t
all-falls a b x y items others t d e f whole =
    rw (d, e, f) (omega (arith, whole, chain-size Either Both (Node Either a b) (Node Both a b) items refl))

pub term-falls : (s : Addition) (a b : Phrase) (addends : List Addend) (i t : ℕ) (x : Addend) → i < length addends → x ≡ get_or addends i x
    → 2 * phrase_size (sum_of (Node (sum_label s) a b) addends) ≡ t → 2 * phrase_size x.term + 1 < t
term-falls s a b addends i t x h e whole =
    omega (arith, term-less (Node (sum_label s) a b) addends i x h, ap (λ (y : Addend). phrase_size y.term) e, whole)

pub first-terms-fall : (s : Addition) (a b : Phrase) (addends : List Addend) (t : ℕ) → 2 * phrase_size (sum_of (Node (sum_label s) a b) addends) ≡ t
    → (2 * phrase_size a + 1 < t) × (2 * phrase_size b + 1 < t)
first-terms-fall s a b addends t whole =
    (omega (arith, sum_longer (Node (sum_label s) a b) addends, whole), omega (arith, sum_longer (Node (sum_label s) a b) addends, whole))

pub argument-falls : (items : List Phrase) (i t : ℕ) (x : Phrase) → i < length items → x ≡ get_or items i x
    → 2 * phrase_size (list_of items) ≡ t → 2 * phrase_size x + 1 < t
argument-falls items i t x h e whole = omega (arith, operand-less More Nothing items i x h, ap phrase_size e, whole)
