-- Lists of statements, as loops over them take them.
use Rattle.std.proofs.lemmas.List.{at_drop_all, append-nil, append_assoc}
use Rattle.std.proofs.Math.Seq.{take-suc}
use Rattle.std.proofs.Common.{◌≡◌, ◌≤◌, ◌<◌, ◌+◌, ℕ, length, drop, take, get_or, List, [], ◌∷◌, ◌++◌, refl, sym, ap, ◌∙◌, add-one, ◌-◌, arith, None, Some, Option}
use Rattle.vcl_tree.specs.Phrase.{Phrase, Node, Nothing, More, Either, Both, Named, Called, If, ElseIf, chain, list_of}
use Rattle.vcl_tree.specs.StatementView.{with_else}
use Rattle.vcl_tree.specs.ExpressionView.{sum_of, sum_label}
use Rattle.vcl_tree.specs.declared.expression.Addend.{Addend}
use Rattle.vcl_tree.specs.declared.expression.Addition.{Addition}
use Rattle.vcl_tree.specs.declared.expression.Addition.TheVariants.{Plus, Minus}
use Rattle.vcl_tree.specs.declared.item.Item.{Item}
use Rattle.vcl_check.specs.Mentions.{parts}
use Rattle.vcl_symbols.specs.Known.{Known}
use Rattle.vcl_program.specs.declared.code.Member.{Member}
use Rattle.vcl_program.specs.Declarations.{one_more}
use Rattle.vcl_program.specs.Members.{member_of, with_block, backend_in, added_to, added_with}
use Rattle.vcl_program.specs.Blocks.{Heads, with_body, all_bodies}

-- further members
abbrev pub further_members : Known → List Member → List Phrase → List Member
further_members known before [] = before
further_members known before (p ∷ ps) = further_members known (one_more before (member_of known p)) ps

members-chain : (known : Known) (before : List Member) (front : Phrase) (items : List Phrase)
    → further_members known (with_block known before front) items ≡ with_block known before (chain More front items)
unfolding with_block
members-chain known before front [] = refl
members-chain known before front (p ∷ ps) = members-chain known before (Node More front p) ps

members-none : (known : Known) (before : List Member) → before ≡ with_block known before Nothing
unfolding with_block
members-none known before = refl

pub members-end : (known : Known) (before after : List Member) (items : List Phrase) (i : ℕ)
    → further_members known after (drop i items) ≡ further_members known before items → length items ≤ i
    → after ≡ with_block known before (list_of items)
members-end known before after items i h ended =
    sym (at_drop_all (λ (ps : List Phrase). further_members known after ps) items i ended) ∙ h
    ∙ ap (λ (s : List Member). further_members known s items) (members-none known before) ∙ members-chain known before Nothing items

-- the parts of a list are its items
parts-chain : (front : Phrase) (items : List Phrase) → parts (chain More front items) ≡ parts front ++ items
parts-chain front [] = sym (append-nil (parts front))
parts-chain front (p ∷ ps) = parts-chain (Node More front p) ps ∙ append_assoc (parts front) (p ∷ []) ps

pub parts-list : (items : List Phrase) → parts (list_of items) ≡ items
parts-list items = parts-chain Nothing items

-- bodies are put in from the last item on
bodies-push : (known : Known) (xs : List Item) (x : Item) (h : Heads) → all_bodies known (xs ++ x ∷ []) h ≡ all_bodies known xs (with_body known x h)
bodies-push known [] x h = refl
bodies-push known (y ∷ ys) x h = ap (λ (r : Heads). with_body known y r) (bodies-push known ys x h)

pub bodies-step : (known : Known) (items : List Item) (i : ℕ) (x : Item) (h k : Heads) → i < length items → x ≡ get_or items i x → with_body known x h ≡ k
    → all_bodies known (take i items) k ≡ all_bodies known (take (i + 1) items) h
bodies-step known items i x h k low e f =
    sym (ap (λ (l : List Item). all_bodies known l h) (ap (λ (n : ℕ). take n items) (add-one i) ∙ take-suc items i x low)
    ∙ bodies-push known (take i items) (get_or items i x) h
    ∙ ap (λ (y : Item). all_bodies known (take i items) (with_body known y h)) (sym e)
    ∙ ap (λ (s : Heads). all_bodies known (take i items) s) f)

pub bodies-before : (known : Known) (items : List Item) (n : ℕ) (x : Item) (h k : Heads) → 0 < n → n ≤ length items → x ≡ get_or items (n - 1) x → with_body known x h ≡ k
    → all_bodies known (take (n - 1) items) k ≡ all_bodies known (take n items) h
bodies-before known items n x h k low high e f =
    let one : n - 1 + 1 ≡ n = omega arith in
    bodies-step known items (n - 1) x h k (omega arith) e f ∙ ap (λ (m : ℕ). all_bodies known (take m items) h) one

-- a chain of operands is no backend's name
pub either-none : (known : Known) (a b : Phrase) (items : List Phrase) → None ≡ backend_in known (chain Either (Node Either a b) items)
either-none known a b [] = refl
either-none known a b (p ∷ ps) = either-none known (Node Either a b) p ps

pub both-none : (known : Known) (a b : Phrase) (items : List Phrase) → None ≡ backend_in known (chain Both (Node Both a b) items)
both-none known a b [] = refl
both-none known a b (p ∷ ps) = both-none known (Node Both a b) p ps

pub sum-none : (known : Known) (sign : Addition) (a b : Phrase) (items : List Addend) → None ≡ backend_in known (sum_of (Node (sum_label sign) a b) items)
sum-none known Plus a b [] = refl
sum-none known Minus a b [] = refl
sum-none known sign a b (x ∷ xs) = sum-none known x.sign (Node (sum_label sign) a b) x.term xs

-- an `if` adds no member
elseif-none : (known : Known) (front x : Phrase) (items : List Phrase) → None ≡ member_of known (chain ElseIf (Node ElseIf front x) items)
elseif-none known front x [] = refl
elseif-none known front x (p ∷ ps) = elseif-none known (Node ElseIf front x) p ps

pub if-none : (known : Known) (sign first : Phrase) (items : List Phrase) (other : Option Phrase) → None ≡ member_of known (with_else (chain ElseIf (Node If sign first) items) other)
if-none known sign first items (Some block) = refl
if-none known sign first [] None = refl
if-none known sign first (p ∷ ps) None = elseif-none known (Node If sign first) p ps

-- a call that adds a member
pub member-run : (known : Known) (place : ℕ) (name : List ℕ) (items : List Phrase) (d : Option ℕ) (r : Option Member) → d ≡ added_to known name → r ≡ added_with known d items
    → r ≡ member_of known (Node Called (Named place name) (list_of items))
member-run known place name items d r e f =
    f ∙ ap (λ (x : Option ℕ). added_with known x items) e ∙ ap (λ (l : List Phrase). added_with known (added_to known name) l) (sym (parts-list items))
