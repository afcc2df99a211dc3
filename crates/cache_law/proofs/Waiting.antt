-- Who is told to wait is told a fetch that is open.
use Rattle.std.proofs.Common.{◌≡◌, ℕ, Bool, true, false, cond, List, [], ◌∷◌, ◌++◌, ◌<◌, ◌≤◌, ◌==◌, ◌⊎◌, min, Option, Some, None, inl, inr, refl, arith, sym, ◌∙◌, subst}
use Rattle.std.specs.List.{fold}
use Rattle.std.proofs.lemmas.Bool.{cases_lt, eq-eqb, or_left, or_right}
use Rattle.cache_law.specs.declared.object.Object.{Object}
use Rattle.cache_law.specs.declared.object.Object.TheVariants.{Ordinary, HitForMiss, HitForPass}
use Rattle.cache_law.specs.declared.object.ObjectView.{ObjectView}
use Rattle.cache_law.specs.declared.call.Query.{Query}
use Rattle.cache_law.specs.declared.call.Reply.TheVariants.{NoRound, Wait}
use Rattle.cache_law.specs.declared.call.Entry.{Entry}
use Rattle.cache_law.specs.declared.state.OpenFetch.{OpenFetch}
use Rattle.cache_law.specs.Object.{same_texts}
use Rattle.cache_law.specs.State.{State, Held, at_moment, has_round, is_open, least_of, least_token, least_with}
use Rattle.cache_law.specs.Lookup.{Scan, scanned}
use Rattle.cache_law.specs.Beginning.{Beginning}
use Rattle.cache_law.specs.Law.{leaving, missed, found_fresh, found_grace, waited_or_missed, busy, found_other, found, found_by, sought, remembered}
use Rattle.cache_law.specs.History.{Legal, reached}
use Rattle.cache_law.specs.LookedUp.{says_found}
use Rattle.cache_law.proofs.LookedUp.{legal_looked_up}

-- the least token of a key's open fetches is that of one

least_is : (P : ℕ → Type 0) (a b : ℕ) → P a → P b → P (min a b)
least_is P a b p q = by_order (cases_lt a b)
  where
    by_order : (a < b) ⊎ (b ≤ a) → P (min a b)
    by_order (inl less) = let same : a ≡ min a b = omega (arith, less) in subst P same p
    by_order (inr more) = let same : b ≡ min a b = omega (arith, more) in subst P same q

one_least : (P : ℕ → Type 0) (b : Bool) (token : ℕ) (known : Option ℕ) → P token → ((k : ℕ) → known ≡ Some k → P k) → (k : ℕ) → cond b (Some (least_of token known)) known ≡ Some k → P k
one_least P true token None own all k e = let same : token ≡ k = cc in subst P same own
one_least P true token (Some other) own all k e = let same : min token other ≡ k = cc in subst P same (least_is P token other own (all other refl))
one_least P false token known own all k e = all k e

least_in : (key : List (List ℕ)) (whole fetches : List OpenFetch) (known : Option ℕ) (t : ℕ) → ((k : ℕ) → known ≡ Some k → is_open whole k ≡ true) → ((n : ℕ) → is_open fetches n ≡ true → is_open whole n ≡ true)
    → fold (least_with key) known fetches ≡ Some t → is_open whole t ≡ true
least_in key whole [] known t opened within e = opened t e
least_in key whole (fetch ∷ fetches) known t opened within e =
    let own : is_open whole fetch.token ≡ true = within fetch.token (or_left (fetch.token == fetch.token) (is_open fetches fetch.token) (eq-eqb fetch.token fetch.token refl)) in
    least_in key whole fetches (least_with key known fetch) t (one_least (λ (k : ℕ). is_open whole k ≡ true) (same_texts fetch.key key) fetch.token known own opened)
    (λ n f. within n (or_right (fetch.token == n) (is_open fetches n) f)) e

least_is_open : (key : List (List ℕ)) (fetches : List OpenFetch) (t : ℕ) → least_token key fetches ≡ Some t → is_open fetches t ≡ true
least_is_open key fetches t e = least_in key fetches fetches None t (λ k none_. cc) (λ n f. f) e

-- so it is with what a lookup is told

abbrev Opens : List OpenFetch → Option ℕ → Type 0
Opens fetches open_ = (t : ℕ) → open_ ≡ Some t → is_open fetches t ≡ true

missed_waits : (state : State) (caller : ℕ) (key : List (List ℕ)) (stale : Option ObjectView) (open_ : Option ℕ) (token : ℕ) → Opens state.fetches open_ → (waited_or_missed state caller key stale open_).reply ≡ Wait token → is_open state.fetches token ≡ true
missed_waits state caller key stale None token opens e = cc
missed_waits state caller key stale (Some t) token opens e = let same : t ≡ token = cc in subst (λ (k : ℕ). is_open state.fetches k ≡ true) same (opens t refl)

grace_waits : (state : State) (caller : ℕ) (key : List (List ℕ)) (view : ObjectView) (open_ : Option ℕ) (token : ℕ) → (found_grace state caller key view open_).reply ≡ Wait token → ⊥
grace_waits state caller key view None token e = cc
grace_waits state caller key view (Some t) token e = cc

fresh_waits : (state : State) (caller : ℕ) (key : List (List ℕ)) (view : ObjectView) (object : Object) (token : ℕ) → (found_fresh state caller key view object).reply ≡ Wait token → ⊥
fresh_waits state caller key view (Ordinary response) token e = cc
fresh_waits state caller key view (HitForMiss marker) token e = cc
fresh_waits state caller key view (HitForPass marker) token e = cc

busy_opens : (fetches : List OpenFetch) (ignores : Bool) (open_ : Option ℕ) → Opens fetches open_ → Opens fetches (cond ignores None open_)
busy_opens fetches true open_ opens t e = cc
busy_opens fetches false open_ opens t e = opens t e

other_waits : (state : State) (caller : ℕ) (query : Query) (grace stale : Option ObjectView) (token : ℕ) → (found_other state caller query grace stale).reply ≡ Wait token → is_open state.fetches token ≡ true
other_waits state caller query (Some view) stale token e = absurd (grace_waits state caller query.key view (least_token query.key state.fetches) token e)
other_waits state caller query None stale token e =
    missed_waits state caller query.key stale (busy query (least_token query.key state.fetches)) token
    (busy_opens state.fetches query.options.ignore_busy (least_token query.key state.fetches) (λ t f. least_is_open query.key state.fetches t f)) e

found_waits : (state : State) (caller : ℕ) (query : Query) (fresh grace stale : Option ObjectView) (token : ℕ) → (found state caller query fresh grace stale).reply ≡ Wait token → is_open state.fetches token ≡ true
found_waits state caller query (Some view) grace stale token e = absurd (fresh_waits state caller query.key view view.object token e)
found_waits state caller query None grace stale token e = other_waits state caller query grace stale token e

sought_waits : (state : State) (caller : ℕ) (query : Query) (misses : Bool) (token : ℕ) → (cond misses (missed state caller query.key None) (found_by state caller query (scanned state.moment query state.objects))).reply ≡ Wait token → is_open state.fetches token ≡ true
sought_waits state caller query true token e = cc
sought_waits state caller query false token e =
    let scan : Scan Held = scanned state.moment query state.objects in
    found_waits (record state { objects = scan.objects }) caller query scan.fresh scan.grace scan.stale token e

looked_waits : (state : State) (caller : ℕ) (query : Query) (opened : Bool) (token : ℕ) → (cond opened (remembered caller (sought state caller query)) (leaving state NoRound)).reply ≡ Wait token → is_open state.fetches token ≡ true
looked_waits state caller query true token e = sought_waits state caller query query.options.always_miss token e
looked_waits state caller query false token e = cc

pub waits_open : (beginning : Beginning) (before behind : List Entry) (entry : Entry) (token : ℕ) → Legal beginning (before ++ entry ∷ behind) → entry.reply ≡ Wait token → is_open (reached beginning before).fetches token ≡ true
waits_open beginning before behind entry token legal told =
    let is = legal_looked_up beginning before behind entry legal (subst (λ r. says_found r ≡ true) (sym told) refl) in
    let now : State = at_moment entry.moment (reached beginning before) in
    looked_waits now entry.caller is.query (has_round now.rounds entry.caller) token (sym is.looked ∙ told)
