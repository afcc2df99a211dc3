-- Numbers rise, and a fetch that is closed stays closed.
use Rattle.std.proofs.Common.{◌≡◌, ℕ, Bool, true, false, not, cond, List, [], ◌∷◌, ◌++◌, ◌<◌, ◌≤◌, ◌||◌, ◌==◌, filter, refl, arith, sym, ap, subst}
use Rattle.std.specs.List.{list_any}
use Rattle.std.proofs.lemmas.Bool.{ne_eqb, true≢false, false≢true}
use Rattle.cache_law.specs.declared.setting.Params.{Params}
use Rattle.cache_law.specs.declared.call.Call.{Call}
use Rattle.cache_law.specs.declared.call.Call.TheVariants.{Begin, Draw, Lookup, Pick, Insert, Ban, BanList, Purge, Xkey, SetHealth, Load, Switch, Discard, VclList, Drop, End}
use Rattle.cache_law.specs.declared.call.Reply.{Reply}
use Rattle.cache_law.specs.declared.call.Entry.{Entry}
use Rattle.cache_law.specs.declared.state.OpenFetch.{OpenFetch}
use Rattle.cache_law.specs.State.{State, at_moment, has_round, has_fetch, is_open, is_closed}
use Rattle.cache_law.specs.Beginning.{Beginning}
use Rattle.cache_law.specs.Law.{Step, answered, refused, after}
use Rattle.cache_law.specs.History.{next_state, reached_from, reached}
use Rattle.cache_law.proofs.Growth.{after_grows, behind_either}
use Rattle.cache_law.proofs.Leaves.{either, looked_leaf, inserted_leaf, picked_leaf, health_leaf, loaded_leaf, switched_leaf, discarded_leaf}

pub reached_from-append : (params : Params) (state : State) (entries more : List Entry) → reached_from params state (entries ++ more) ≡ reached_from params (reached_from params state entries) more
reached_from-append params state [] more = refl
reached_from-append params state (e ∷ es) more = reached_from-append params (next_state params state e) es more

pub reached-append : (beginning : Beginning) (entries more : List Entry) → reached beginning (entries ++ more) ≡ reached_from beginning.params (reached beginning entries) more
reached-append beginning entries more = reached_from-append beginning.params beginning.base entries more

-- the next number never falls
pub rises_from : (params : Params) (state : State) (entries : List Entry) → state.next ≤ (reached_from params state entries).next
rises_from params state [] = omega arith
rises_from params state (e ∷ es) =
    let here = (after_grows params state e.caller e.moment e.call e.reply).rises in
    let later = rises_from params (next_state params state e) es in omega (arith, here, later)

pub rises : (beginning : Beginning) (entries more : List Entry) → (reached beginning entries).next ≤ (reached beginning (entries ++ more)).next
rises beginning entries more =
    subst (λ (s : State). (reached beginning entries).next ≤ s.next) (sym (reached-append beginning entries more)) (rises_from beginning.params (reached beginning entries) more)

either_false : (a b : Bool) → (a || b) ≡ false → (a || false) ≡ false
either_false true b e = e
either_false false b e = refl

any_or_not : {X : Type 0} (p : X → Bool) (kept : Bool) (x : X) (xs ys : List X) → (p x || list_any p xs) ≡ false → list_any p ys ≡ false → list_any p (cond kept (x ∷ ys) ys) ≡ false
any_or_not p true x xs ys e rest = rw rest (either_false (p x) (list_any p xs) e)
any_or_not p false x xs ys e rest = rest

rest_false : (a b : Bool) → (a || b) ≡ false → b ≡ false
rest_false true b e = absurd (true≢false e)
rest_false false b e = e

-- what no element passes, none of some of them passes
pub none-filter : {X : Type 0} (p q : X → Bool) (xs : List X) → list_any p xs ≡ false → list_any p (filter q xs) ≡ false
none-filter p q [] e = e
none-filter p q (x ∷ xs) e = any_or_not p (q x) x xs (filter q xs) e (none-filter p q xs (rest_false (p x) (list_any p xs) e))

-- the token isn't open behind a step
abbrev Shut : ℕ → Step → Type 0
Shut token step = is_open step.state.fetches token ≡ false

-- a token that was drawn isn't opened
one_opened : (next token : ℕ) (fetches : List OpenFetch) → token < next → is_open fetches token ≡ false → ((next == token) || is_open fetches token) ≡ false
one_opened next token fetches below shut = rw (ne_eqb next token (λ e. omega (arith, below, e))) shut

-- what is closed and was drawn isn't opened by an answer
pub shut_behind : (room : ℕ) (state : State) (caller : ℕ) (call : Call) (token : ℕ) → token < state.next → is_open state.fetches token ≡ false → Shut token (answered room state caller call)
shut_behind room state caller Begin token below shut = either (Shut token) (has_round state.rounds caller) _ _ shut shut
shut_behind room state caller Draw token below shut = either (Shut token) (has_round state.rounds caller) _ _ shut shut
shut_behind room state caller (Lookup query) token below shut =
    looked_leaf (Shut token) state caller query shut (record {
      misses = λ objects stale. one_opened state.next token state.fetches below shut;
      hits = λ objects view. shut;
      hits_miss = λ objects view. one_opened state.next token state.fetches below shut;
      passes = λ objects view. shut;
      graces = λ objects view. one_opened state.next token state.fetches below shut;
      graces_alone = λ objects view. shut;
      waits = λ objects other. shut;
    })
shut_behind room state caller (Pick vcl target word) token below shut = picked_leaf (Shut token) state vcl target word shut (λ place. shut)
shut_behind room state caller (Insert inserted_token object stale) token below shut =
    let less = none-filter (λ (fetch : OpenFetch). fetch.token == token) (λ (fetch : OpenFetch). not (fetch.token == inserted_token)) state.fetches shut in
    inserted_leaf (Shut token) room state caller inserted_token object stale (record { opens_not = shut; gone = shut; late = less; full = less; stores = less })
shut_behind room state caller (Ban ban) token below shut = shut
shut_behind room state caller BanList token below shut = shut
shut_behind room state caller (Purge key) token below shut = shut
shut_behind room state caller (Xkey keys soft) token below shut = shut
shut_behind room state caller (SetHealth backend given) token below shut = health_leaf (Shut token) state backend given shut shut
shut_behind room state caller (Load source) token below shut = loaded_leaf (Shut token) state source shut shut
shut_behind room state caller (Switch name) token below shut = switched_leaf (Shut token) state name shut (λ vcl. shut)
shut_behind room state caller (Discard name) token below shut = discarded_leaf (Shut token) state name shut shut (λ number. shut)
shut_behind room state caller VclList token below shut = shut
shut_behind room state caller (Drop dropped_token) token below shut =
    either (Shut token) (has_fetch state.fetches caller dropped_token) _ _ (none-filter (λ (fetch : OpenFetch). fetch.token == token) (λ (fetch : OpenFetch). not (fetch.token == dropped_token)) state.fetches shut) shut
shut_behind room state caller End token below shut =
    either (Shut token) (has_round state.rounds caller) _ _ (none-filter (λ (fetch : OpenFetch). fetch.token == token) (λ (fetch : OpenFetch). not (fetch.caller == caller)) state.fetches shut) shut

shut_refused : (state : State) (call : Call) (token : ℕ) → is_open state.fetches token ≡ false → is_open (refused state call).fetches token ≡ false
shut_refused state (Insert inserted_token object stale) token shut = none-filter (λ (fetch : OpenFetch). fetch.token == token) (λ (fetch : OpenFetch). not (fetch.token == inserted_token)) state.fetches shut
shut_refused state call token shut = shut

shut_after : (params : Params) (state : State) (caller moment : ℕ) (call : Call) (answer : Reply) (token : ℕ) → token < state.next → is_open state.fetches token ≡ false → is_open (after params state caller moment call answer).fetches token ≡ false
shut_after params state caller moment call answer token below shut =
    behind_either (λ (s : State). is_open s.fetches token ≡ false) answer _ _ (shut_refused (at_moment moment state) call token shut) (shut_behind params.room (at_moment moment state) caller call token below shut)

pub shut_from : (params : Params) (state : State) (entries : List Entry) (token : ℕ) → token < state.next → is_open state.fetches token ≡ false → is_open (reached_from params state entries).fetches token ≡ false
shut_from params state [] token below shut = shut
shut_from params state (e ∷ es) token below shut =
    let here = (after_grows params state e.caller e.moment e.call e.reply).rises in
    shut_from params (next_state params state e) es token (omega (arith, below, here)) (shut_after params state e.caller e.moment e.call e.reply token below shut)

not_true : (b : Bool) → not b ≡ true → b ≡ false
not_true true e = absurd (false≢true e)
not_true false e = refl

-- a number that was drawn and is closed stays closed
pub stays_closed : (beginning : Beginning) (entries more : List Entry) (token : ℕ) → token < (reached beginning entries).next → is_closed (reached beginning entries).fetches token ≡ true → is_closed (reached beginning (entries ++ more)).fetches token ≡ true
stays_closed beginning entries more token below closed =
    subst (λ (s : State). is_closed s.fetches token ≡ true) (sym (reached-append beginning entries more))
    (ap not (shut_from beginning.params (reached beginning entries) more token below (not_true _ closed)))
