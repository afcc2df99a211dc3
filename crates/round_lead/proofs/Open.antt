-- Whether a caller's round is open, call by call.
use Rattle.std.proofs.Common.{◌≡◌, ℕ, Bool, true, false, not, cond, List, [], ◌∷◌, ◌++◌, ◌||◌, ◌&&◌, ◌==◌, Option, Some, Result, Ok, Err, refl, sym, ap, ◌∙◌, subst}
use Rattle.std.specs.Option.{option_map_or}
use Rattle.std.specs.Result.{IsOk, OnOk, OnErr, MatchResult}
use Rattle.std.proofs.lemmas.Bool.{true≢false, false≢true, eq-eqb, ne_eqb, eqb-true}
use Rattle.std.proofs.lemmas.List.Elements.{All-head, All-tail}
use Rattle.cache_law.specs.declared.call.Call.{Call}
use Rattle.cache_law.specs.declared.call.Call.TheVariants.{Begin, Draw, Lookup, Pick, Insert, Ban, BanList, Purge, Xkey, SetHealth, Load, Switch, Discard, VclList, Drop, End}
use Rattle.cache_law.specs.declared.call.Reply.{Reply}
use Rattle.cache_law.specs.declared.call.Entry.{Entry}
use Rattle.cache_law.specs.declared.cache.Told.{Told}
use Rattle.cache_law.specs.declared.cache.StepError.{StepError}
use Rattle.cache_law.specs.declared.cache.StepError.TheVariants.{HistoryFull, NoMemory, SegmentFull}
use Rattle.cache_law.specs.declared.state.OpenRound.{OpenRound}
use Rattle.cache_law.specs.Beginning.{Beginning}
use Rattle.cache_law.specs.Core.{entry_of}
use Rattle.cache_law.proofs.Segmenting.{never_full}
use Rattle.cache_law.specs.History.{Follows, Legal, next_state, reached_from, reached}
use Rattle.cache_law.specs.Law.{Step, answered, begun, ended, refused, behind}
use Rattle.cache_law.specs.State.{State, at_moment, has_round, has_fetch, remembering, with_wait, without_round_of}
use Rattle.cache_law.proofs.Growth.{behind_either}
use Rattle.cache_law.proofs.Histories.{reached-push}
use Rattle.cache_law.proofs.Leaves.{either, either_known, looked_leaf, picked_leaf, inserted_leaf, health_leaf, loaded_leaf, switched_leaf, discarded_leaf}
use Rattle.cache_law.proofs.Reserve.{ending_fits}
use Rattle.turnstile.specs.Knowledge.{saw, Grown}
use Rattle.turnstile.proofs.Places.{Lacks, silent_lacks}
use Rattle.shared_cache.specs.Sharing.{CallerKnows, caller_of, SeesLegal, Called, Declined, Cause}
use Rattle.std.proofs.Common.{inl}
use Rattle.round_lead.specs.Seen.{has_open, opened_by}

-- ---- the rounds behind one call

remembering_caller : (other : ℕ) (token : Option ℕ) (own : OpenRound) → (remembering other token own).caller ≡ own.caller
remembering_caller other token own = by_own (own.caller == other)
  where
    by_own : (b : Bool) → (cond b (record own { waits = token }) own).caller ≡ own.caller
    by_own true = refl
    by_own false = refl

has-wait : (other n : ℕ) (token : Option ℕ) (rounds : List OpenRound) → has_round (with_wait other token rounds) n ≡ has_round rounds n
has-wait other n token [] = refl
has-wait other n token (own ∷ rounds) =
    let head : ((remembering other token own).caller == n) ≡ (own.caller == n) = ap (λ (k : ℕ). k == n) (remembering_caller other token own) in
    rw (head, has-wait other n token rounds) refl

drop_own : (a b h : Bool) → a ≡ b → (not b && h) ≡ (not b && (a || h))
drop_own a true h same = refl
drop_own true false h same = absurd (true≢false same)
drop_own false false h same = refl

keep_own : (a b h : Bool) → (a ≡ true → b ≡ true → ⊥) → (a || (not b && h)) ≡ (not b && (a || h))
keep_own true true h both = absurd (both refl refl)
keep_own false true h both = refl
keep_own a false h both = refl

without_step : (own : OpenRound) (other n : ℕ) (kept : List OpenRound) (h theirs a b : Bool) → theirs ≡ (own.caller == other) → a ≡ (own.caller == n) → b ≡ (other == n)
    → has_round kept n ≡ (not b && h) → has_round (cond (not theirs) (own ∷ kept) kept) n ≡ (not b && (a || h))
without_step own other n kept h true a b theirs_is a_is b_is ih =
    ih ∙ drop_own a b h (a_is ∙ (ap (λ (k : ℕ). k == n) (eqb-true own.caller other (sym theirs_is)) ∙ sym b_is))
without_step own other n kept h false a b theirs_is a_is b_is ih =
    ap (λ (v : Bool). v || has_round kept n) (sym a_is) ∙ (ap (λ (v : Bool). a || v) ih ∙ keep_own a b h both)
  where
    both : a ≡ true → b ≡ true → ⊥
    both x y = true≢false (sym (eq-eqb own.caller other (eqb-true own.caller n (sym a_is ∙ x) ∙ sym (eqb-true other n (sym b_is ∙ y)))) ∙ sym theirs_is)

has-without : (other n : ℕ) (rounds : List OpenRound) → has_round (without_round_of other rounds) n ≡ (not (other == n) && has_round rounds n)
has-without other n [] = none_of (not (other == n))
  where
    none_of : (b : Bool) → false ≡ (b && false)
    none_of true = refl
    none_of false = refl
has-without other n (own ∷ rounds) =
    without_step own other n (without_round_of other rounds) (has_round rounds n) (own.caller == other) (own.caller == n) (other == n) refl refl refl (has-without other n rounds)

-- ---- what a call makes of it

abbrev OpensTo : ℕ → ℕ → Call → Bool → State → Type 0
OpensTo other n call before state = has_round state.rounds n ≡ opened_by call (other == n) before

abbrev StepOpens : State → ℕ → ℕ → Call → Step → Type 0
StepOpens old other n call step = OpensTo other n call (has_round old.rounds n) step.state

-- a round that is open, or isn't, as its caller
had : (other n : ℕ) (rounds : List OpenRound) (own : Bool) → own ≡ (other == n) → has_round rounds other ≡ true → has_round rounds n ≡ (own || has_round rounds n)
had other n rounds true own_is has = subst (λ (k : ℕ). has_round rounds k ≡ true) (eqb-true other n (sym own_is)) has
had other n rounds false own_is has = refl

lacked : (other n : ℕ) (rounds : List OpenRound) (own : Bool) → own ≡ (other == n) → has_round rounds other ≡ false → has_round rounds n ≡ (not own && has_round rounds n)
lacked other n rounds true own_is none_ = subst (λ (k : ℕ). has_round rounds k ≡ false) (eqb-true other n (sym own_is)) none_
lacked other n rounds false own_is none_ = refl

answered_opens : (room : ℕ) (state : State) (other n : ℕ) (call : Call) → StepOpens state other n call (answered room state other call)
answered_opens room state other n Begin =
    either_known (StepOpens state other n Begin) (has_round state.rounds other) _ _ (λ has. had other n state.rounds (other == n) refl has) (λ none_. refl)
answered_opens room state other n Draw = either (StepOpens state other n Draw) (has_round state.rounds other) _ _ refl refl
answered_opens room state other n (Lookup query) =
    looked_leaf (StepOpens state other n (Lookup query)) state other query refl (record {
      misses = λ objects stale. has-wait other n _ state.rounds;
      hits = λ objects view. has-wait other n _ state.rounds;
      hits_miss = λ objects view. has-wait other n _ state.rounds;
      passes = λ objects view. has-wait other n _ state.rounds;
      graces = λ objects view. has-wait other n _ state.rounds;
      graces_alone = λ objects view. has-wait other n _ state.rounds;
      waits = λ objects token. has-wait other n _ state.rounds;
    })
answered_opens room state other n (Pick vcl target word) = picked_leaf (StepOpens state other n (Pick vcl target word)) state vcl target word refl (λ place. refl)
answered_opens room state other n (Insert token object stale) =
    inserted_leaf (StepOpens state other n (Insert token object stale)) room state other token object stale
    (record { opens_not = refl; gone = refl; late = refl; full = refl; stores = refl })
answered_opens room state other n (Ban ban) = refl
answered_opens room state other n BanList = refl
answered_opens room state other n (Purge key) = refl
answered_opens room state other n (Xkey keys soft) = refl
answered_opens room state other n (SetHealth backend given) = health_leaf (StepOpens state other n (SetHealth backend given)) state backend given refl refl
answered_opens room state other n (Load source) = loaded_leaf (StepOpens state other n (Load source)) state source refl refl
answered_opens room state other n (Switch name) = switched_leaf (StepOpens state other n (Switch name)) state name refl (λ vcl. refl)
answered_opens room state other n (Discard name) = discarded_leaf (StepOpens state other n (Discard name)) state name refl refl (λ number. refl)
answered_opens room state other n VclList = refl
answered_opens room state other n (Drop token) = either (StepOpens state other n (Drop token)) (has_fetch state.fetches other token) _ _ refl refl
answered_opens room state other n End =
    either_known (StepOpens state other n End) (has_round state.rounds other) _ _ (λ has. has-without other n state.rounds)
    (λ none_. lacked other n state.rounds (other == n) refl none_)

-- a refused call leaves the rounds
refused_opens : (state : State) (n : ℕ) (call : Call) → has_round (refused state call).rounds n ≡ has_round state.rounds n
refused_opens state n (Insert token object stale) = refl
refused_opens state n call = refl

another's : (call : Call) (before : Bool) → opened_by call false before ≡ before
another's Begin before = refl
another's End before = refl
another's call before = refl

-- ---- an entry of another caller

foreign_opens : (beginning : Beginning) (state : State) (n : ℕ) (entry : Entry) → ¬ (entry.caller ≡ n) → has_round (next_state beginning.params state entry).rounds n ≡ has_round state.rounds n
foreign_opens beginning state n entry foreign =
    let now = at_moment entry.moment state in
    behind_either (λ (s : State). has_round s.rounds n ≡ has_round state.rounds n) entry.reply _ _ (refused_opens now n entry.call)
    (answered_opens beginning.params.room now entry.caller n entry.call
    ∙ (ap (λ (own : Bool). opened_by entry.call own (has_round state.rounds n)) (ne_eqb entry.caller n foreign) ∙ another's entry.call (has_round state.rounds n)))

foreign_all : (beginning : Beginning) (state : State) (n : ℕ) (entries : List Entry) → Lacks caller_of n entries → has_round (reached_from beginning.params state entries).rounds n ≡ has_round state.rounds n
foreign_all beginning state n [] lacks = refl
foreign_all beginning state n (entry ∷ entries) lacks =
    foreign_all beginning (next_state beginning.params state entry) n entries (All-tail (λ (e : Entry). ¬ (e.caller ≡ n)) entry entries lacks)
    ∙ foreign_opens beginning state n entry (All-head (λ (e : Entry). ¬ (e.caller ≡ n)) entry entries lacks)

reached_from-append : (beginning : Beginning) (state : State) (xs ys : List Entry) → reached_from beginning.params state (xs ++ ys) ≡ reached_from beginning.params (reached_from beginning.params state xs) ys
reached_from-append beginning state [] ys = refl
reached_from-append beginning state (x ∷ xs) ys = reached_from-append beginning (next_state beginning.params state x) xs ys

silent_opens : (beginning : Beginning) (seen between : List Entry) (n : ℕ) → Lacks caller_of n between
    → has_round (reached beginning (seen ++ between)).rounds n ≡ has_round (reached beginning seen).rounds n
silent_opens beginning seen between n lacks =
    ap (λ (s : State). has_round s.rounds n) (reached_from-append beginning beginning.base seen between) ∙ foreign_all beginning (reached beginning seen) n between lacks

-- ---- an entry of the caller's own

begin_told : (state : State) (caller : ℕ) (reply : Reply) (refusal law : State) → reply ≡ (begun state caller).reply → behind reply refusal law ≡ law
begin_told state caller reply refusal law is =
    subst (λ (r : Reply). behind r refusal law ≡ law) (sym is) (either (λ (step : Step). behind step.reply refusal law ≡ law) (has_round state.rounds caller) _ _ refl refl)

end_told : (state : State) (caller : ℕ) (reply : Reply) (refusal law : State) → reply ≡ (ended state caller).reply → behind reply refusal law ≡ law
end_told state caller reply refusal law is =
    subst (λ (r : Reply). behind r refusal law ≡ law) (sym is) (either (λ (step : Step). behind step.reply refusal law ≡ law) (has_round state.rounds caller) _ _ refl refl)

-- a call that neither begins nor ends a round
plain_opens : (beginning : Beginning) (state : State) (entry : Entry) → ((own : Bool) (before : Bool) → opened_by entry.call own before ≡ before)
    → has_round (next_state beginning.params state entry).rounds entry.caller ≡ has_round state.rounds entry.caller
plain_opens beginning state entry plain =
    let now = at_moment entry.moment state in
    behind_either (λ (s : State). has_round s.rounds entry.caller ≡ has_round state.rounds entry.caller) entry.reply _ _ (refused_opens now entry.caller entry.call)
    (answered_opens beginning.params.room now entry.caller entry.caller entry.call ∙ plain (entry.caller == entry.caller) (has_round state.rounds entry.caller))

own_opens : (beginning : Beginning) (state : State) (caller moment : ℕ) (call : Call) (reply : Reply)
    → Follows beginning.params state (record { caller = caller; moment = moment; call = call; reply = reply })
    → has_round (next_state beginning.params state (record { caller = caller; moment = moment; call = call; reply = reply })).rounds caller ≡ opened_by call true (has_round state.rounds caller)
own_opens beginning state caller moment Begin reply follows =
    let now = at_moment moment state in
    ap (λ (s : State). has_round s.rounds caller) (begin_told now caller reply _ _ follows.answer)
    ∙ (answered_opens beginning.params.room now caller caller Begin ∙ ap (λ (own : Bool). own || has_round state.rounds caller) (eq-eqb caller caller refl))
own_opens beginning state caller moment End reply follows =
    let now = at_moment moment state in
    ap (λ (s : State). has_round s.rounds caller) (end_told now caller reply _ _ follows.answer)
    ∙ (answered_opens beginning.params.room now caller caller End ∙ ap (λ (own : Bool). not own && has_round state.rounds caller) (eq-eqb caller caller refl))
own_opens beginning state caller moment call reply follows =
    plain_opens beginning state (record { caller = caller; moment = moment; call = call; reply = reply }) (λ own before. refl)

-- ---- what the caller's pass sees of it

has_open-is : (k : CallerKnows) (beginning : Beginning) → k.setting ≡ Some beginning → has_open k ≡ has_round (reached beginning k.seen).rounds k.number
has_open-is k beginning begins = ap (λ (s : Option Beginning). option_map_or (λ (b : Beginning). has_round (reached b k.seen).rounds k.number) s false) begins

setting_same : (k after : CallerKnows) (beginning : Beginning) → after ≡ saw k after.seen → k.setting ≡ Some beginning → after.setting ≡ Some beginning
setting_same k after beginning knows begins = ap (λ (z : CallerKnows). z.setting) knows ∙ begins

number_same : (k after : CallerKnows) → after ≡ saw k after.seen → after.number ≡ k.number
number_same k after knows = ap (λ (z : CallerKnows). z.number) knows

-- behind the caller's call
pub called_opens : (k after : CallerKnows) (reading : ℕ) (call : Call) (told : Told) → after ≡ saw k after.seen → Called k after reading call told
    → has_open after ≡ opened_by call true (has_open k)
called_opens k after reading call told knows made =
    let b = made.beginning in
    let quiet = silent_opens b k.seen made.between k.number (silent_lacks caller_of k k.number made.between (inl refl) made.others) in
    let there : has_round (reached b after.seen).rounds k.number ≡ opened_by call true (has_round (reached b (k.seen ++ made.between)).rounds k.number) =
    ap (λ (es : List Entry). has_round (reached b es).rounds k.number) made.entered.joined
    ∙ (ap (λ (s : State). has_round s.rounds k.number) (reached-push b (k.seen ++ made.between) (entry_of k.number call told))
    ∙ own_opens b (reached b (k.seen ++ made.between)) k.number told.moment call told.reply made.entered.follows) in
    has_open-is after b (setting_same k after b knows made.begins)
    ∙ (ap (λ (n : ℕ). has_round (reached b after.seen).rounds n) (number_same k after knows)
    ∙ (there ∙ (ap (λ (v : Bool). opened_by call true v) quiet ∙ ap (λ (v : Bool). opened_by call true v) (sym (has_open-is k b made.begins)))))

-- behind others' calls
grown_opens : (k after : CallerKnows) (b : Beginning) → after ≡ saw k after.seen → k.setting ≡ Some b → Grown caller_of k after.seen → has_round (reached b after.seen).rounds k.number ≡ has_open k
grown_opens k after b knows begins grown =
    ap (λ (es : List Entry). has_round (reached b es).rounds k.number) grown.1
    ∙ (silent_opens b k.seen grown.0 k.number (silent_lacks caller_of k k.number grown.0 (inl refl) grown.2) ∙ sym (has_open-is k b begins))

pub declined_opens : (k after : CallerKnows) (reading : ℕ) (call : Call) (error : StepError) → after ≡ saw k after.seen → Declined k after reading call error
    → has_open after ≡ has_open k
declined_opens k after reading call error knows made =
    has_open-is after made.beginning (setting_same k after made.beginning knows made.begins)
    ∙ (ap (λ (n : ℕ). has_round (reached made.beginning after.seen).rounds n) (number_same k after knows)
    ∙ grown_opens k after made.beginning knows made.begins made.grown)

-- the End of an open round isn't declined
end_fits : (k after : CallerKnows) (reading : ℕ) (error : StepError) → after ≡ saw k after.seen → SeesLegal after → has_open k ≡ true → (b : Beginning) → k.setting ≡ Some b
    → b.params.segments ≡ false → Grown caller_of k after.seen → Cause b after.seen k.number reading End error → ⊥
end_fits k after reading HistoryFull knows legal opened b begins whole grown cause =
    let same : Some b ≡ Some legal.beginning = sym (setting_same k after b knows begins) ∙ legal.begins in
    let is : b ≡ legal.beginning = cc in
    cause (ending_fits b after.seen k.number _ (subst (λ (z : Beginning). Legal z after.seen) (sym is) legal.legal) (grown_opens k after b knows begins grown ∙ opened))
end_fits k after reading NoMemory knows legal opened b begins whole grown cause = cause (grown_opens k after b knows begins grown ∙ opened)
end_fits k after reading SegmentFull knows legal opened b begins whole grown cause = absurd (false≢true (sym (never_full b.params (reached b after.seen) after.seen k.number End whole) ∙ cause))

pub end_made : (result : Result Told StepError) (k after : CallerKnows) (reading : ℕ) (call : Call) → call ≡ End → after ≡ saw k after.seen → SeesLegal after → has_open k ≡ true
    → MatchResult result (Called k after reading call) (Declined k after reading call) → IsOk result
end_made (Ok told) k after reading call is knows legal opened answer = refl
end_made (Err error) k after reading call is knows legal opened answer =
    let made = subst (λ (c : Call). Declined k after reading c error) is answer in
    absurd (end_fits k after reading error knows legal opened made.beginning made.begins made.unsegmented made.grown made.cause)

pub opened_so : (result : Result Told StepError) (k after : CallerKnows) (reading : ℕ) (call : Call) → after ≡ saw k after.seen
    → MatchResult result (Called k after reading call) (Declined k after reading call) → OnOk result (has_open after ≡ opened_by call true (has_open k))
opened_so (Ok told) k after reading call knows answer = called_opens k after reading call told knows answer
opened_so (Err error) k after reading call knows answer = tt

pub declined_so : (result : Result Told StepError) (k after : CallerKnows) (reading : ℕ) (call : Call) → after ≡ saw k after.seen
    → MatchResult result (Called k after reading call) (Declined k after reading call) → OnErr result (has_open after ≡ has_open k)
declined_so (Ok told) k after reading call knows answer = tt
declined_so (Err error) k after reading call knows answer = declined_opens k after reading call error knows answer
