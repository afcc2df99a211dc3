-- What is reserved serves the closing of what is open.
use Rattle.std.proofs.Common.{◌≡◌, ℕ, Bool, true, false, not, cond, List, [], ◌∷◌, ◌+◌, ◌*◌, ◌≤◌, inl, inr, ◌||◌, ◌&&◌, ◌==◌, Option, length, filter, refl, arith, sym, ap, ◌∙◌, subst}
use Rattle.std.specs.List.{list_any}
use Rattle.std.proofs.lemmas.Bool.{cases_Bool, cond-false, true≢false, false≢true, and_parts}
use Rattle.cache_law.specs.declared.object.Object.{Object}
use Rattle.cache_law.specs.declared.call.Call.{Call}
use Rattle.cache_law.specs.declared.call.Call.TheVariants.{Insert, BanList, Drop, End}
use Rattle.cache_law.specs.declared.call.Reply.{Reply}
use Rattle.cache_law.specs.declared.call.Reply.TheVariants.{NoRound, NotOpen, Dropped, Ended, Bans}
use Rattle.cache_law.specs.declared.call.Entry.{Entry}
use Rattle.cache_law.specs.declared.state.OpenRound.{OpenRound}
use Rattle.cache_law.specs.declared.state.OpenFetch.{OpenFetch}
use Rattle.cache_law.specs.State.{State, at_moment, count_open, reserve, has_round, has_fetch, without_fetch, without_round_of}
use Rattle.cache_law.specs.declared.setting.Params.{Params}
use Rattle.cache_law.specs.Beginning.{Beginning}
use Rattle.cache_law.specs.Law.{Step, step_of, leaving, closing, closed_of, inserted, after, IsBanList, MayAnswer}
use Rattle.cache_law.specs.History.{Fits, Legal, WithinAll, bytes_of, bytes_of_all, is_numbered, lawful_entry, most_entries, next_state, reached_from, reached}
use Rattle.cache_law.specs.Core.{FitsBehind}
use Rattle.cache_law.proofs.Histories.{bytes_of_all-cons}
use Rattle.cache_law.proofs.Lawful.{after-lawful, after-listed}
use Rattle.cache_law.proofs.Leaves.{inserted_leaf}

-- an element more or not
kept_or_not : {X : Type 0} (b : Bool) (x : X) (ys : List X) → length (cond b (x ∷ ys) ys) ≤ length ys + 1
kept_or_not true x ys = omega arith
kept_or_not false x ys = omega arith

dropped : {X : Type 0} (b : Bool) (x : X) (ys : List X) → b ≡ false → length (cond b (x ∷ ys) ys) ≡ length ys
dropped b x ys e = rw (cond-false b (x ∷ ys) ys e) refl

pub length-filter-le : {X : Type 0} (q : X → Bool) (xs : List X) → length (filter q xs) ≤ length xs
length-filter-le q [] = omega arith
length-filter-le q (x ∷ xs) = omega (arith, kept_or_not (q x) x (filter q xs), length-filter-le q xs)

rest_passes : (a b : Bool) → a ≡ false → (a || b) ≡ true → b ≡ true
rest_passes true b e h = absurd (true≢false e)
rest_passes false b e h = h

-- where an element passes p, and q passes none that does, the list is longer than what q passes
pub length-filter_not : {X : Type 0} (p q : X → Bool) → ((x : X) → p x ≡ true → q x ≡ false) → (xs : List X) → list_any p xs ≡ true → length (filter q xs) + 1 ≤ length xs
length-filter_not p q other [] any = absurd (false≢true any)
length-filter_not p q other (x ∷ xs) any =
    elim (cases_Bool (p x)) [
      | inl passes ↦ omega (arith, dropped (q x) x (filter q xs) (other x passes), length-filter-le q xs)
      | inr fails ↦ omega (arith, kept_or_not (q x) x (filter q xs), length-filter_not p q other xs (rest_passes (p x) (list_any p xs) fails any))
    ]

not_of : (b : Bool) → b ≡ true → not b ≡ false
not_of b e = ap not e

-- the round that is closed was open
pub length-without_round_of : (rounds : List OpenRound) (caller : ℕ) → has_round rounds caller ≡ true → length (without_round_of caller rounds) + 1 ≤ length rounds
length-without_round_of rounds caller any =
    length-filter_not (λ (round : OpenRound). round.caller == caller) (λ (round : OpenRound). not (round.caller == caller)) (λ round e. not_of _ e) rounds any

-- the fetch that is closed was open
pub length-without_fetch : (fetches : List OpenFetch) (caller token : ℕ) → has_fetch fetches caller token ≡ true → length (without_fetch token fetches) + 1 ≤ length fetches
length-without_fetch fetches caller token any =
    length-filter_not (λ (fetch : OpenFetch). (fetch.token == token) && (fetch.caller == caller)) (λ (fetch : OpenFetch). not (fetch.token == token)) (λ fetch e. not_of _ (and_parts _ _ e).0) fetches any

-- closing a fetch leaves less to be reserved
less_reserved : (state : State) (token : ℕ) → 64 * (length state.rounds + length (without_fetch token state.fetches)) ≤ reserve state
less_reserved state token = omega (arith, length-filter-le (λ (fetch : OpenFetch). not (fetch.token == token)) state.fetches)

-- a refused insertion leaves no more to be reserved than the law's answer
pub refused_reserves : (room : ℕ) (state : State) (caller token : ℕ) (object : Object) (stale : Option ℕ) → 64 * (length state.rounds + length (without_fetch token state.fetches)) ≤ reserve (inserted room state caller token object stale).state
refused_reserves room state caller token object stale =
    inserted_leaf (λ (step : Step). 64 * (length state.rounds + length (without_fetch token state.fetches)) ≤ reserve step.state) room state caller token object stale (record {
      opens_not = less_reserved state token;
      gone = less_reserved state token;
      late = omega arith;
      full = omega arith;
      stores = omega arith;
    })

by_law : (params : Params) (state : State) (caller moment : ℕ) (call : Call) (answer : Reply) → answer ≡ (step_of params state caller moment call).reply → reserve (after params state caller moment call answer) ≤ reserve (step_of params state caller moment call).state
by_law params state caller moment call answer e = omega (arith, ap reserve (after-lawful params state caller moment call answer e))

-- what is reserved after an answer is at most what is reserved after the law's
pub reserve-after : (params : Params) (state : State) (caller moment : ℕ) (call : Call) (answer : Reply) → MayAnswer (at_moment moment state) call (step_of params state caller moment call).reply answer → reserve (after params state caller moment call answer) ≤ reserve (step_of params state caller moment call).state
reserve-after params state caller moment (Insert token object stale) answer (inl lawful) = by_law params state caller moment (Insert token object stale) answer lawful
reserve-after params state caller moment (Insert token object stale) answer (inr free) =
    subst (λ (r : Reply). reserve (after params state caller moment (Insert token object stale) r) ≤ reserve (step_of params state caller moment (Insert token object stale)).state) (sym free.0)
    (refused_reserves params.room (at_moment moment state) caller token object stale)
reserve-after params state caller moment BanList answer may = omega (arith, ap reserve (after-listed params state caller moment answer may))
reserve-after params state caller moment call answer may = by_law params state caller moment call answer may

-- the state behind the law's own reply has as much reserved as the law's
pub reserve-lawful : (params : Params) (state : State) (caller moment : ℕ) (call : Call) → reserve (next_state params state (lawful_entry params state caller moment call)) ≡ reserve (step_of params state caller moment call).state
reserve-lawful params state caller moment call = ap reserve (after-lawful params state caller moment call (step_of params state caller moment call).reply refl)

-- a call fits where the law's reply and the state behind it do
pub fits_lawful : (params : Params) (state : State) (used caller moment : ℕ) (call : Call) → is_numbered (step_of params state caller moment call).reply ≡ true
    → used + bytes_of call + reserve (step_of params state caller moment call).state ≤ params.history → state.entries + 1 + count_open (step_of params state caller moment call).state ≤ most_entries
    → Fits params state used (lawful_entry params state caller moment call)
fits_lawful params state used caller moment call number within counted =
    let same = reserve-lawful params state caller moment call in
    record { number = number; within = omega (arith, within, same); counted = omega (arith, counted, same) }

-- what may be answered has a number wherever the law's reply has
numbered_listed : (state : State) (answer : Reply) → IsBanList state answer → is_numbered answer ≡ true
numbered_listed state (Bans lines) shows = refl
numbered_listed state answer shows = absurd shows

pub numbered_told : (state : State) (call : Call) (law answer : Reply) → MayAnswer state call law answer → is_numbered law ≡ true → is_numbered answer ≡ true
numbered_told state (Insert token object stale) law answer (inl lawful) number = ap is_numbered lawful ∙ number
numbered_told state (Insert token object stale) law answer (inr free) number = ap is_numbered free.0
numbered_told state BanList law answer may number = numbered_listed state answer may
numbered_told state call law answer may number = ap is_numbered may ∙ number

-- an entry with any reply that may be answered fits where the one with the law's reply does
pub fits_told : (params : Params) (state : State) (used : ℕ) (entry : Entry) → MayAnswer (at_moment entry.moment state) entry.call (step_of params state entry.caller entry.moment entry.call).reply entry.reply
    → Fits params state used (lawful_entry params state entry.caller entry.moment entry.call) → Fits params state used entry
fits_told params state used entry may fits =
    let least = reserve-after params state entry.caller entry.moment entry.call entry.reply may in
    let same = reserve-lawful params state entry.caller entry.moment entry.call in
    record {
      number = numbered_told (at_moment entry.moment state) entry.call (step_of params state entry.caller entry.moment entry.call).reply entry.reply may fits.number;
      within = omega (arith, fits.within, least, same);
      counted = omega (arith, fits.counted, least, same);
    }

-- a legal history leaves room for the closing of what is open
pub within_from : (params : Params) (state : State) (used : ℕ) (entries : List Entry) → WithinAll params state used entries → used + reserve state ≤ params.history → used + bytes_of_all entries + reserve (reached_from params state entries) ≤ params.history
within_from params state used [] fit room = omega arith
within_from params state used (e ∷ es) fit room =
    let rest = within_from params (next_state params state e) (used + bytes_of e.call) es fit.1 fit.0.within in
    omega (arith, rest, bytes_of_all-cons e es)

pub within : (beginning : Beginning) (entries : List Entry) → Legal beginning entries → bytes_of_all entries + reserve (reached beginning entries) ≤ beginning.params.history
within beginning entries legal =
    let h = within_from beginning.params beginning.base 0 entries legal.within (omega (arith, legal.opens)) in omega (arith, h)

-- and the number of a run's entries leaves it too
pub counted_from : (params : Params) (state : State) (used : ℕ) (entries : List Entry) → WithinAll params state used entries → state.entries + count_open state ≤ most_entries → (reached_from params state entries).entries + count_open (reached_from params state entries) ≤ most_entries
counted_from params state used [] fit room = room
counted_from params state used (e ∷ es) fit room =
    let one : (next_state params state e).entries ≡ state.entries + 1 = refl in
    counted_from params (next_state params state e) (used + bytes_of e.call) es fit.1 (omega (arith, fit.0.counted, one))

pub counted : (beginning : Beginning) (entries : List Entry) → Legal beginning entries → (reached beginning entries).entries + count_open (reached beginning entries) ≤ most_entries
counted beginning entries legal = counted_from beginning.params beginning.base 0 entries legal.within legal.counts

-- the end of an open round takes what is reserved for it
pub ending_takes : (state : State) (caller : ℕ) (open_ : Bool) → open_ ≡ has_round state.rounds caller → open_ ≡ true → reserve (cond open_ (record { reply = Ended; state = closed_of state caller }) (leaving state NoRound)).state + 64 ≤ reserve state
ending_takes state caller true same yes_ =
    omega (arith, length-without_round_of state.rounds caller (sym same), length-filter-le (λ (fetch : OpenFetch). not (fetch.caller == caller)) state.fetches)
ending_takes state caller false same yes_ = absurd (false≢true yes_)

ending_numbered : (state : State) (caller : ℕ) (open_ : Bool) → is_numbered (cond open_ (record { reply = Ended; state = closed_of state caller }) (leaving state NoRound)).reply ≡ true
ending_numbered state caller true = refl
ending_numbered state caller false = refl

-- in a legal history the end of an open round fits
pub ending_fits : (beginning : Beginning) (entries : List Entry) (caller moment : ℕ) → Legal beginning entries → has_round (reached beginning entries).rounds caller ≡ true → FitsBehind beginning entries caller moment End
ending_fits beginning entries caller moment legal opened =
    let state : State = reached beginning entries in
    let takes = ending_takes (at_moment moment state) caller _ refl opened in
    fits_lawful beginning.params state (bytes_of_all entries) caller moment End (ending_numbered (at_moment moment state) caller (has_round state.rounds caller))
    (omega (arith, within beginning entries legal, takes)) (omega (arith, counted beginning entries legal, takes))

-- the drop of an open fetch takes what is reserved for it
pub dropping_takes : (state : State) (caller token : ℕ) (open_ : Bool) → open_ ≡ has_fetch state.fetches caller token → open_ ≡ true → reserve (cond open_ (closing token state Dropped) (leaving state NotOpen)).state + 64 ≤ reserve state
dropping_takes state caller token true same yes_ = omega (arith, length-without_fetch state.fetches caller token (sym same))
dropping_takes state caller token false same yes_ = absurd (false≢true yes_)

dropping_numbered : (state : State) (token : ℕ) (open_ : Bool) → is_numbered (cond open_ (closing token state Dropped) (leaving state NotOpen)).reply ≡ true
dropping_numbered state token true = refl
dropping_numbered state token false = refl

-- in a legal history the drop of an open fetch of its caller fits
pub dropping_fits : (beginning : Beginning) (entries : List Entry) (caller moment token : ℕ) → Legal beginning entries → has_fetch (reached beginning entries).fetches caller token ≡ true → FitsBehind beginning entries caller moment (Drop token)
dropping_fits beginning entries caller moment token legal opened =
    let state : State = reached beginning entries in
    let takes = dropping_takes (at_moment moment state) caller token _ refl opened in
    fits_lawful beginning.params state (bytes_of_all entries) caller moment (Drop token) (dropping_numbered (at_moment moment state) token (has_fetch state.fetches caller token))
    (omega (arith, within beginning entries legal, takes)) (omega (arith, counted beginning entries legal, takes))
