-- Calls, and the rows that have them by their callers.
use Rattle.std.proofs.Common.{◌≡◌, ℕ, zero, suc, ◌+◌, ◌<◌, ◌==◌, Bool, true, false, cond, List, [], ◌∷◌, ◌++◌, length, map, filter, get_or, set, sym, ◌∙◌, ap, subst, refl, inl, inr, arith, get_or-set_same, get_or-set_other, length-set}
use Rattle.std.proofs.lemmas.List.{length_push, get_or_past, append-nil}
use Rattle.std.proofs.lemmas.Bool.{cases_eq, cases_lt, eqb-true, eq-eqb, ne_eqb}
use Rattle.vcl_symbols.specs.declared.call_graph.Call.{Call}
use Rattle.vcl_symbols.specs.Calls.{Calls, AreWithin}
use Rattle.vcl_symbols.specs.Visits.{callees_of, AreRows, Among}

-- a call is seen in the row of its caller
Among-later : (c : Call) (cs : List Call) (v w : ℕ) → Among (callees_of cs v) w → Among (callees_of (c ∷ cs) v) w
Among-later c cs v w h =
    elim (c.from == v) as (λ b. Among (map (λ call. call.to) (cond b (c ∷ filter (λ call. call.from == v) cs) (filter (λ call. call.from == v) cs))) w) [
      | true ↦ inr h
      | false ↦ h
    ]

Among-contained : (calls : List Call) (call : Call) (k : ℕ) → k < length calls → get_or calls k call ≡ call → Among (callees_of calls call.from) call.to
Among-contained [] call k within is = absurd (omega arith)
Among-contained (c ∷ cs) call zero within is =
    let own : Among (callees_of (call ∷ cs) call.from) call.to = (
    let same = eq-eqb call.from call.from refl in
    let P : Bool → Type 0 = λ b. Among (map (λ other. other.to) (cond b (call ∷ filter (λ other. other.from == call.from) cs) (filter (λ other. other.from == call.from) cs))) call.to in
    subst P (sym same) (inl refl)) in
    let P : Call → Type 0 = λ first. Among (callees_of (first ∷ cs) call.from) call.to in
    subst P (sym is) own
Among-contained (c ∷ cs) call (suc k) within is = Among-later c cs call.from call.to (Among-contained cs call k (omega arith) is)

pub Among-from_Calls : (calls : List Call) (v w : ℕ) → Calls calls v w → Among (callees_of calls v) w
Among-from_Calls calls v w h =
    let own = Among-contained calls h.0 h.1.0 h.1.1 h.1.2 in
    let P : ℕ → Type 0 = λ u. Among (callees_of calls u) h.0.to in
    let Q : ℕ → Type 0 = λ u. Among (callees_of calls v) u in
    subst Q h.3 (subst P h.2 own)

Calls-later : (c : Call) (cs : List Call) (v w : ℕ) → Calls cs v w → Calls (c ∷ cs) v w
Calls-later c cs v w h = (h.0, (suc h.1.0, omega (arith, h.1.1), h.1.2), h.2, h.3)

Calls-first : (c : Call) (cs : List Call) (v w : ℕ) (b : Bool) → (c.from == v) ≡ b → ((v' w' : ℕ) → Among (callees_of cs v') w' → Calls cs v' w') → Among (map (λ call. call.to) (cond b (c ∷ filter (λ call. call.from == v) cs) (filter (λ call. call.from == v) cs))) w → Calls (c ∷ cs) v w
Calls-first c cs v w true e later (inl is) = (c, (0, omega arith, refl), eqb-true _ _ e, is)
Calls-first c cs v w true e later (inr h) = Calls-later c cs v w (later v w h)
Calls-first c cs v w false e later h = Calls-later c cs v w (later v w h)

pub Calls-from_Among : (calls : List Call) (v w : ℕ) → Among (callees_of calls v) w → Calls calls v w
Calls-from_Among [] v w h = absurd h
Calls-from_Among (c ∷ cs) v w h = Calls-first c cs v w (c.from == v) refl (λ v' w'. Calls-from_Among cs v' w') h

-- a call is between subroutines that there are
pub Calls-within : (calls : List Call) (count v w : ℕ) → AreWithin count calls → Calls calls v w → w < count
Calls-within calls count v w within h =
    let P : Call → Type 0 = λ call. (call.from < count) × (call.to < count) in
    let bounds = subst P h.1.2 (within h.1.0 h.0 h.1.1) in
    omega (arith, bounds.1, h.3)

callees-push : (calls : List Call) (call : Call) (v : ℕ) → callees_of (calls ++ call ∷ []) v ≡ callees_of calls v ++ cond (call.from == v) (call.to ∷ []) []
callees-push [] call v =
    elim (call.from == v) as (λ b. map (λ other. other.to) (cond b (call ∷ []) []) ≡ cond b (call.to ∷ []) []) [ true ↦ refl | false ↦ refl ]
callees-push (c ∷ cs) call v =
    let more = callees-push cs call v in
    let P : Call → Bool = λ other. other.from == v in
    elim (c.from == v) as (λ b. map (λ other. other.to) (cond b (c ∷ filter P (cs ++ call ∷ [])) (filter P (cs ++ call ∷ []))) ≡ map (λ other. other.to) (cond b (c ∷ filter P cs) (filter P cs)) ++ cond (call.from == v) (call.to ∷ []) []) [
      | true ↦ ap (λ row. c.to ∷ row) more
      | false ↦ more
    ]

get_or-padded : (rows : List (List ℕ)) (v : ℕ) → get_or (rows ++ [] ∷ []) v [] ≡ get_or rows v []
get_or-padded [] zero = refl
get_or-padded [] (suc v) = refl
get_or-padded (row ∷ rows) zero = refl
get_or-padded (row ∷ rows) (suc v) = get_or-padded rows v

none_called : (rows : List (List ℕ)) (count : ℕ) → AreRows rows [] count → (v : ℕ) → get_or rows v [] ≡ []
none_called rows count are v = elim (cases_lt v count) [ inl h ↦ are.each v h | inr h ↦ get_or_past rows v [] (omega (arith, are.long)) ]

pub AreRows-row : (rows : List (List ℕ)) (count : ℕ) → AreRows rows [] count → AreRows (rows ++ [] ∷ []) [] (count + 1)
AreRows-row rows count are = record {
  long = length_push rows [] ∙ ap (λ n. n + 1) are.long;
  each = λ v h. get_or-padded rows v ∙ none_called rows count are v;
}

pub AreRows-call : (rows : List (List ℕ)) (calls : List Call) (count : ℕ) (call : Call) → AreRows rows calls count → call.from < count → AreRows (set rows call.from (get_or rows call.from [] ++ call.to ∷ [])) (calls ++ call ∷ []) count
AreRows-call rows calls count call are within = record {
  long = length-set _ _ _ ∙ are.long;
  each = λ v h. elim (cases_eq call.from v) [
    | inl e ↦ let P : ℕ → Type 0 = λ u. get_or (set rows call.from (get_or rows call.from [] ++ call.to ∷ [])) u [] ≡ callees_of (calls ++ call ∷ []) u in
        let row : get_or rows call.from [] ≡ callees_of calls call.from = are.each call.from within in
        let pushed : callees_of (calls ++ call ∷ []) call.from ≡ callees_of calls call.from ++ call.to ∷ [] = callees-push calls call call.from ∙ rw (eq-eqb call.from call.from refl) refl in
        subst P e (get_or-set_same rows call.from (get_or rows call.from [] ++ call.to ∷ []) [] (omega (arith, are.long)) ∙ rw row (sym pushed))
    | inr ne ↦
        let pushed : callees_of (calls ++ call ∷ []) v ≡ callees_of calls v = callees-push calls call v ∙ rw (ne_eqb call.from v ne) (append-nil (callees_of calls v)) in
        get_or-set_other rows call.from v (get_or rows call.from [] ++ call.to ∷ []) [] (λ e. ne (sym e)) ∙ are.each v h ∙ sym pushed
  ];
}
