-- A text comes to one thing.
use Rattle.std.proofs.Common.{◌≡◌, inl, inr, ℕ, ◌≤◌, ◌<◌, List, ◌++◌, length, refl, sym, ◌∙◌, ap, subst, arith}
use Rattle.std.specs.Prelude.{Result, Ok, Err}
use Rattle.std.proofs.Math.Logic.{∥∥₁_elim}
use Rattle.vcl_tree.specs.declared.error.Refusal.{Refusal}
use Rattle.vcl_tree.specs.declared.error.VclError.{VclError}
use Rattle.vcl_tree.specs.declared.error.VclError.TheVariants.{NoMemory, Refused}
use Rattle.vcl_tree.specs.declared.item.Item.{Item}
use Rattle.vcl_tree.specs.declared.item.Tree.{Tree}
use Rattle.vcl_tree.specs.declared.token.Token.{Token}
use Rattle.vcl_tokens.specs.Reading.{text_limit}
use Rattle.vcl_tokens.proofs.ReadingLemmas.{faultless, one, one_fault}
use Rattle.vcl_parse.specs.Parsing.{IsFault, IsTree, IsWrong}
use Rattle.vcl_parse.proofs.Faults.{same_fault}
use Rattle.vcl_parse.proofs.Trees.{not_wrong}
use Rattle.vmod_host.specs.declared.signature.Stored.{Stored}
use Rattle.vcl_check.specs.Texts.{IsRefused, IsSound}
use Rattle.vcl_store.specs.Joined.{built_in_text, IsJoined, IsTreeOf, IsUnreadable}
use Rattle.vcl_store.specs.Refusals.{IsRefusalOf}
use Rattle.vcl_refusals.specs.Outcomes.{ComesTo, HasNoDeepPattern, IsPlainText}
use Rattle.vcl_store.proofs.BuiltIn.{built-in, is-read}
use Rattle.vcl_refusals.proofs.OneFault.{IsOne, refused-one, sound-or-refused}
use Rattle.vcl_refusals.proofs.OneTree.{joined-one, tree-one}
use Rattle.vcl_refusals.proofs.Shallow.{joined-shallow}

too-long : (n : ℕ) → n ≤ text_limit → text_limit < n → ⊥
too-long n h k = omega (arith, h, k)

read-or-faulty : (text : List ℕ) (tree : Tree) (why : Refusal) (place : ℕ) → IsTreeOf text tree → IsFault text (Refused why place) → ⊥
read-or-faulty text tree why place p (inl (inl long)) = too-long (length text) p.3 long.0
read-or-faulty text tree why place p (inl (inr fault)) = faultless p.1 fault.2 refl refl
read-or-faulty text tree why place p (inr wrong) =
    let here : IsTree wrong.0 tree = subst (λ (ts : List Token). IsTree ts tree) (one p.1 wrong.1 refl refl) p.2 in
    not_wrong (length text) wrong.0 tree why place here wrong.2

fault-one : (text : List ℕ) (why other : Refusal) (place elsewhere : ℕ) → IsFault text (Refused why place) → IsFault text (Refused other elsewhere) → IsOne why place other elsewhere
fault-one text why other place elsewhere (inl (inl p)) (inl (inl q)) = (q.1 ∙ sym p.1, q.2 ∙ sym p.2)
fault-one text why other place elsewhere (inl (inl p)) (inl (inr q)) = absurd (too-long (length text) q.0 p.0)
fault-one text why other place elsewhere (inl (inl p)) (inr q) = absurd (too-long (length text) q.3 p.0)
fault-one text why other place elsewhere (inl (inr p)) (inl (inl q)) = absurd (too-long (length text) p.0 q.0)
fault-one text why other place elsewhere (inl (inr p)) (inl (inr q)) = (q.1 ∙ sym p.1, one_fault q.2 p.2 refl refl)
fault-one text why other place elsewhere (inl (inr p)) (inr q) = absurd (faultless q.1 p.2 refl refl)
fault-one text why other place elsewhere (inr p) (inl (inl q)) = absurd (too-long (length text) p.3 q.0)
fault-one text why other place elsewhere (inr p) (inl (inr q)) = absurd (faultless p.1 q.2 refl refl)
fault-one text why other place elsewhere (inr p) (inr q) =
    same_fault (length text) p.0 other why elsewhere place (subst (λ (ts : List Token). IsWrong (length text) ts other elsewhere) (one q.1 p.1 refl refl) q.2) p.2

-- only its own fault makes a text unreadable
own-fault : (text : List ℕ) (why : Refusal) (place : ℕ) → IsUnreadable text (Refused why place) → IsFault text (Refused why place)
own-fault text why place (inl p) = p
own-fault text why place (inr p) = absurd (read-or-faulty built_in_text built-in why place is-read p)

unreadable-or-joined : (text : List ℕ) (joined : Tree) (why : Refusal) (place : ℕ) → IsJoined text joined → IsUnreadable text (Refused why place) → ⊥
unreadable-or-joined text joined why place p q = read-or-faulty text p.own why place p.is_own (own-fault text why place q)

-- a joined tree has no deep pattern, since neither the text nor the built-in text has one
no-deep : (text : List ℕ) (joined : Tree) → IsPlainText text → IsJoined text joined → HasNoDeepPattern joined.items
no-deep text joined plain p =
    let same : p.built_in ≡ built-in = tree-one built_in_text built-in p.built_in is-read p.is_built_in in
    let items : joined.items ≡ p.own.items ++ built-in.items = p.items ∙ ap (λ (t : Tree). p.own.items ++ t.items) same in
    subst (λ (is : List Item). HasNoDeepPattern is) (sym items) (joined-shallow p.own.items (plain p.own p.is_own))

-- a text is refused for one cause at one place
pub refusal-one : (text : List ℕ) (stored : List Stored) (why other : Refusal) (place elsewhere : ℕ) → IsPlainText text
    → IsRefusalOf text stored (Refused why place) → IsRefusalOf text stored (Refused other elsewhere) → IsOne why place other elsewhere
refusal-one text stored why other place elsewhere plain (inl p) (inl q) = fault-one text why other place elsewhere (own-fault text why place p) (own-fault text other elsewhere q)
refusal-one text stored why other place elsewhere plain (inl p) (inr q) = absurd (unreadable-or-joined text q.0 why place q.1 p)
refusal-one text stored why other place elsewhere plain (inr p) (inl q) = absurd (unreadable-or-joined text p.0 other elsewhere p.1 q)
refusal-one text stored why other place elsewhere plain (inr p) (inr q) =
    let same : q.0 ≡ p.0 = joined-one text p.0 q.0 p.1 q.1 in
    let here : IsRefused p.0.items stored (Refused other elsewhere) = subst (λ (t : Tree). IsRefused t.items stored (Refused other elsewhere)) same q.2 in
    refused-one p.0.items stored (no-deep text p.0 plain p.1) why other place elsewhere p.2 here

sound-text : (text : List ℕ) (stored : List Stored) (joined : Tree) (why : Refusal) (place : ℕ) → IsPlainText text
    → IsJoined text joined → IsSound joined.items stored → IsRefusalOf text stored (Refused why place) → ⊥
sound-text text stored joined why place plain p sound (inl q) = unreadable-or-joined text joined why place p q
sound-text text stored joined why place plain p sound (inr q) =
    let same : q.0 ≡ joined = joined-one text joined q.0 p q.1 in
    let here : IsRefused joined.items stored (Refused why place) = subst (λ (t : Tree). IsRefused t.items stored (Refused why place)) same q.2 in
    sound-or-refused joined.items stored (no-deep text joined plain p) why place sound here

-- a text that is sound isn't refused
pub accepted-or-refused : (text : List ℕ) (stored : List Stored) (joined : Tree) (why : Refusal) (place : ℕ) → IsPlainText text
    → IsJoined text joined → ∥ IsSound joined.items stored ∥₁ → IsRefusalOf text stored (Refused why place) → ⊥
accepted-or-refused text stored joined why place plain p sound q =
    ∥∥₁_elim sound (λ x y. absurd x) (λ s. sound-text text stored joined why place plain p s q)

abbrev refusal : Refusal → ℕ → Result Tree VclError
refusal why place = Err (Refused why place)

same-refusal : (why other : Refusal) (place elsewhere : ℕ) → IsOne why place other elsewhere → refusal other elsewhere ≡ refusal why place
same-refusal why other place elsewhere same =
    ap (λ (r : Refusal). refusal r elsewhere) same.0 ∙ ap (λ (n : ℕ). refusal why n) same.1

pub outcome-one : (text : List ℕ) (stored : List Stored) (one other : Result Tree VclError) → IsPlainText text → ComesTo text stored one → ComesTo text stored other → other ≡ one
outcome-one text stored (Ok one) (Ok other) plain p q = ap Ok (joined-one text one other p.0 q.0)
outcome-one text stored (Ok one) (Err NoMemory) plain p q = absurd q
outcome-one text stored (Ok one) (Err (Refused why place)) plain p q = absurd (accepted-or-refused text stored one why place plain p.0 p.1 q)
outcome-one text stored (Err NoMemory) other plain p q = absurd p
outcome-one text stored (Err (Refused why place)) (Ok other) plain p q = absurd (accepted-or-refused text stored other why place plain q.0 q.1 p)
outcome-one text stored (Err (Refused why place)) (Err NoMemory) plain p q = absurd q
outcome-one text stored (Err (Refused why place)) (Err (Refused other elsewhere)) plain p q =
    same-refusal why other place elsewhere (refusal-one text stored why other place elsewhere plain p q)
