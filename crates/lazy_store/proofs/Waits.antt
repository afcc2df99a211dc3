-- How many objects wait for the lurker, where one goes or is tested.
use Rattle.std.proofs.Common.{◌≡◌, ◌≤◌, ◌<◌, ◌+◌, ◌-◌, ◌⊎◌, inl, inr, ℕ, Bool, true, false, not, cond, ◌&&◌, refl, arith, sym, ap, ◌∙◌}
use Rattle.std.specs.Prelude.{nat_lt}
use Rattle.std.proofs.lemmas.Bool.{false≢true, ltb-true, lt-ltb, le-ltb}
use Rattle.lazy_store.specs.Changes.{fewer, is_waiting, with_mark}
use Rattle.lazy_store.proofs.Splits.{one_if}

and_none : (b : Bool) → (b && false) ≡ false
and_none true = refl
and_none false = refl

some_waits : (unswept : ℕ) (b : Bool) → 0 < unswept → (nat_lt 0 unswept && b) ≡ b
some_waits unswept b some = ap (λ (x : Bool). x && b) (lt-ltb 0 unswept some)

none_waits : (unswept : ℕ) (b : Bool) → unswept ≡ 0 → (nat_lt 0 unswept && b) ≡ false
none_waits unswept b none = ap (λ (x : Bool). x && b) (le-ltb 0 unswept (omega arith))

-- whether one waits, by how many do beside it
waits_so : (unswept rest : ℕ) (w b : Bool) → unswept ≡ one_if w + rest → (unswept ≡ 0) ⊎ (w ≡ b) → (nat_lt 0 unswept && b) ≡ w
waits_so unswept rest true b count (inl none) = absurd (omega arith)
waits_so unswept rest false b count (inl none) = none_waits unswept b none
waits_so unswept rest true b count (inr same) = some_waits unswept b (omega arith) ∙ sym same
waits_so unswept rest false b count (inr same) = ap (λ (x : Bool). nat_lt 0 unswept && x) (sym same) ∙ and_none (nat_lt 0 unswept)

pub waits_is : (unswept newest mark rest : ℕ) (w : Bool) → unswept ≡ one_if w + rest → (unswept ≡ 0) ⊎ (w ≡ nat_lt mark newest) → is_waiting unswept newest mark ≡ w
waits_is unswept newest mark rest w count alone = waits_so unswept rest w (nat_lt mark newest) count alone

fewer_case : (unswept rest : ℕ) (w b : Bool) → unswept ≡ one_if w + rest → b ≡ w → cond b (unswept - 1) unswept ≡ rest
fewer_case unswept rest true true count same = omega arith
fewer_case unswept rest false false count same = omega arith
fewer_case unswept rest true false count same = absurd (false≢true same)
fewer_case unswept rest false true count same = absurd (false≢true (sym same))

pub fewer_is : (unswept newest mark rest : ℕ) (w : Bool) → unswept ≡ one_if w + rest → (unswept ≡ 0) ⊎ (w ≡ nat_lt mark newest) → fewer unswept newest mark ≡ rest
fewer_is unswept newest mark rest w count alone =
    fewer_case unswept rest w (is_waiting unswept newest mark) count (waits_is unswept newest mark rest w count alone)

-- ---- of a later mark

later_lt : (mark later newest : ℕ) → mark ≤ later → nat_lt later newest ≡ true → nat_lt mark newest ≡ true
later_lt mark later newest less e = let newer = ltb-true later newest e in lt-ltb mark newest (omega arith)

turned_none : (a b : Bool) → (b ≡ true → a ≡ true) → a ≡ false → b ≡ false
turned_none a true more e = absurd (false≢true (sym e ∙ more refl))
turned_none a false more e = refl

pub waits_later : (unswept newest mark later rest : ℕ) (w x : Bool) → unswept ≡ one_if w + rest → mark ≤ later → (x ≡ true → w ≡ true)
    → (unswept ≡ 0) ⊎ ((w ≡ nat_lt mark newest) × (x ≡ nat_lt later newest)) → is_waiting unswept newest later ≡ x
waits_later unswept newest mark later rest true x count less more (inl none) = absurd (omega arith)
waits_later unswept newest mark later rest false x count less more (inl none) =
    none_waits unswept (nat_lt later newest) none ∙ sym (turned_none false x more refl)
waits_later unswept newest mark later rest true x count less more (inr same) = some_waits unswept (nat_lt later newest) (omega arith) ∙ sym same.1
waits_later unswept newest mark later rest false x count less more (inr same) =
    let not_later : x ≡ false = turned_none false x more refl in
    ap (λ (b : Bool). nat_lt 0 unswept && b) (sym same.1 ∙ not_later) ∙ and_none (nat_lt 0 unswept) ∙ sym not_later

with_case : (unswept rest : ℕ) (w x a b : Bool) → unswept ≡ one_if w + rest → (x ≡ true → w ≡ true) → a ≡ w → b ≡ x → cond (a && not b) (unswept - 1) unswept ≡ one_if x + rest
with_case unswept rest true true true true count more e f = omega arith
with_case unswept rest true false true false count more e f = omega arith
with_case unswept rest false false false false count more e f = omega arith
with_case unswept rest false true a b count more e f = absurd (false≢true (more refl))
with_case unswept rest true x false b count more e f = absurd (false≢true e)
with_case unswept rest false x true b count more e f = absurd (false≢true (sym e))
with_case unswept rest w true a false count more e f = absurd (false≢true f)
with_case unswept rest w false a true count more e f = absurd (false≢true (sym f))

pub with_mark_is : (unswept newest mark later rest : ℕ) (w x : Bool) → unswept ≡ one_if w + rest → mark ≤ later → (x ≡ true → w ≡ true)
    → (unswept ≡ 0) ⊎ ((w ≡ nat_lt mark newest) × (x ≡ nat_lt later newest)) → with_mark unswept newest mark later ≡ one_if x + rest
with_mark_is unswept newest mark later rest w x count less more alone =
    with_case unswept rest w x (is_waiting unswept newest mark) (is_waiting unswept newest later) count more
    (waits_is unswept newest mark rest w count (elim alone [ inl none ↦ inl none | inr same ↦ inr same.0 ]))
    (waits_later unswept newest mark later rest w x count less more alone)

-- where none waits, none does then
pub with_none : (unswept newest mark later : ℕ) → unswept ≡ 0 → with_mark unswept newest mark later ≡ 0
with_none unswept newest mark later none =
    ap (λ (b : Bool). cond (b && not (is_waiting unswept newest later)) (unswept - 1) unswept) (none_waits unswept (nat_lt mark newest) none) ∙ none

pub fewer_none : (unswept newest mark : ℕ) → unswept ≡ 0 → fewer unswept newest mark ≡ 0
fewer_none unswept newest mark none = ap (λ (b : Bool). cond b (unswept - 1) unswept) (none_waits unswept (nat_lt mark newest) none) ∙ none
