-- An object's number is held once at most, and not again once it is gone.
use Rattle.std.proofs.Common.{◌≡◌, ◌≢◌, ℕ, Bool, true, false, not, cond, List, [], ◌∷◌, ◌+◌, ◌<◌, ◌≤◌, ◌||◌, ◌&&◌, ◌==◌, Option, Some, None, filter, map, refl, arith, sym, ap, ◌∙◌, subst, inl, inr}
use Rattle.std.proofs.lemmas.Bool.{true≢false, false≢true, eq-eqb, ne_eqb, eqb-true}
use Rattle.cache_law.specs.declared.setting.Params.{Params}
use Rattle.cache_law.specs.declared.object.Object.{Object}
use Rattle.cache_law.specs.declared.call.Query.{Query}
use Rattle.cache_law.specs.declared.call.Call.{Call}
use Rattle.cache_law.specs.declared.call.Call.TheVariants.{Begin, Draw, Lookup, Pick, Insert, Ban, BanList, Purge, Xkey, SetHealth, Load, Switch, Discard, VclList, Drop, End}
use Rattle.cache_law.specs.declared.call.Reply.{Reply}
use Rattle.cache_law.specs.declared.call.Entry.{Entry}
use Rattle.cache_law.specs.declared.state.OpenFetch.{OpenFetch}
use Rattle.cache_law.specs.Object.{in_time, key_of, same_texts, size_of}
use Rattle.cache_law.specs.State.{State, Held, at_moment, has_round, has_fetch, is_open, without_stale}
use Rattle.cache_law.specs.Room.{outweighs, staying, stored_over}
use Rattle.cache_law.specs.BansAtOnce.{is_met, cleared, issued_behind, awaiting, ban_over}
use Rattle.cache_law.specs.Bans.{matches, object_only}
use Rattle.cache_law.specs.declared.ban.Issued.{Issued}
use Rattle.cache_law.specs.Purges.{has_key, has_xkey, softening, xkey_over}
use Rattle.cache_law.specs.Lookup.{Scan, scanned, counting, touching, is_chosen_by, is_fresh, ending, seeing, passing}
use Rattle.cache_law.specs.Law.{Step, answered, refused, after}
use Rattle.cache_law.specs.History.{next_state, reached_from}
use Rattle.cache_law.proofs.Growth.{after_grows, behind_either}
use Rattle.cache_law.proofs.Numbers.{none-filter, shut_from}
use Rattle.cache_law.specs.BanHistories.{IsAmong}
use Rattle.cache_law.proofs.Leaves.{either, known_leaf, picked_leaf, health_leaf, loaded_leaf, switched_leaf, discarded_leaf}
use Rattle.cache_law.proofs.ScanLeaves.{looked_leaf_of}

abbrev pub one_if : Bool → ℕ
one_if b = cond b 1 0

-- how many of the objects have the number
abbrev pub count : ℕ → List Held → ℕ
count number [] = 0
count number (held ∷ objects) = one_if (held.view.number == number) + count number objects

one_less : (n : ℕ) (b : Bool) (held : Held) (objects kept : List Held) → count n kept ≤ count n objects → count n (cond b (held ∷ kept) kept) ≤ count n (held ∷ objects)
one_less n true held objects kept less = omega (arith, less)
one_less n false held objects kept less = omega (arith, less)

pub count-filter : (n : ℕ) (test : Held → Bool) (objects : List Held) → count n (filter test objects) ≤ count n objects
count-filter n test [] = omega arith
count-filter n test (held ∷ objects) = one_less n (test held) held objects (filter test objects) (count-filter n test objects)

pub count-map : (n : ℕ) (f : Held → Held) → ((held : Held) → (f held).view.number ≡ held.view.number) → (objects : List Held) → count n (map f objects) ≤ count n objects
count-map n f same [] = omega arith
count-map n f same (held ∷ objects) = omega (arith, count-map n f same objects, ap (λ (k : ℕ). one_if (k == n)) (same held))

by_choice : (b : Bool) (one two : Held) (n : ℕ) → one.view.number ≡ n → two.view.number ≡ n → (cond b one two).view.number ≡ n
by_choice true one two n e f = e
by_choice false one two n e f = f

pub counting_number : (place number : ℕ) (held : Held) → (counting place number held).view.number ≡ held.view.number
counting_number place number held = by_choice (held.view.number == number) _ held held.view.number refl refl

pub touching_number : (place number : ℕ) (held : Held) → (touching place number held).view.number ≡ held.view.number
touching_number place number held = by_choice (held.view.number == number) _ held held.view.number refl refl

pub softening_number : (moment : ℕ) (keys : List (List ℕ)) (held : Held) → (softening moment keys held).view.number ≡ held.view.number
softening_number moment keys held = by_choice (has_xkey keys held) _ held held.view.number refl refl

scan_counts : (n moment : ℕ) (query : Query) (held : Held) (rest : List Held) (scan : Scan Held) (ours met suits fresh : Bool) → count n scan.objects ≤ count n rest
    → count n (cond ours (cond met scan (cond suits (cond fresh (ending held.view (cleared held) rest) (seeing moment query.options held.view (cleared held) scan)) (passing (cleared held) scan))) (passing held scan)).objects ≤ count n (held ∷ rest)
scan_counts n moment query held rest scan false met suits fresh less = omega (arith, less)
scan_counts n moment query held rest scan true true suits fresh less = omega (arith, less)
scan_counts n moment query held rest scan true false false fresh less = omega (arith, less)
scan_counts n moment query held rest scan true false true false less = omega (arith, less)
scan_counts n moment query held rest scan true false true true less = omega (arith, less)

pub count-scanned : (n moment : ℕ) (query : Query) (objects : List Held) → count n (scanned moment query objects).objects ≤ count n objects
count-scanned n moment query [] = omega arith
count-scanned n moment query (held ∷ objects) =
    scan_counts n moment query held objects (scanned moment query objects) (same_texts (key_of held.view.object) query.key) (is_met query.request held) (is_chosen_by query held.view.object) (is_fresh moment query.options held.view.object) (count-scanned n moment query objects)

count-without : (n : ℕ) (stale : Option ℕ) (objects : List Held) → count n (without_stale stale objects) ≤ count n objects
count-without n None objects = omega arith
count-without n (Some stale) objects = count-filter n (λ (held : Held). not (held.view.number == stale)) objects

-- those that stay beside one more
count-staying : (n room size : ℕ) (stale : Option ℕ) (objects : List Held) → count n (staying room size (without_stale stale objects)) ≤ count n objects
count-staying n room size stale objects = omega (arith, count-filter n (λ (held : Held). not (outweighs room size (without_stale stale objects) held)) (without_stale stale objects), count-without n stale objects)

ban_counts : (n : ℕ) (issued : Issued) (objects : List Held) (b : Bool) → count n (cond b (filter (λ held. not (matches held.view.object issued)) objects) (map (awaiting issued) objects)) ≤ count n objects
ban_counts n issued objects true = count-filter n (λ (held : Held). not (matches held.view.object issued)) objects
ban_counts n issued objects false = count-map n (awaiting issued) (λ held. refl) objects

count-ban : (n : ℕ) (issued : Issued) (objects : List Held) → count n (ban_over issued objects) ≤ count n objects
count-ban n issued objects = ban_counts n issued objects (object_only issued.ban)

count-xkey : (n moment : ℕ) (keys : List (List ℕ)) (soft : Bool) (objects : List Held) → count n (xkey_over moment keys soft objects) ≤ count n objects
count-xkey n moment keys true objects = count-map n (softening moment keys) (softening_number moment keys) objects
count-xkey n moment keys false objects = count-filter n (λ (held : Held). not (has_xkey keys held)) objects

-- What holds of a number in each state that a run reaches: one object has it at most, and none while its fetch is open or
-- before it is drawn; and before it is drawn no fetch has it.
pub record HeldOnce (n : ℕ) (state : State) : Type 0 where
  pub once : count n state.objects ≤ 1
  pub while_open : is_open state.fetches n ≡ true → count n state.objects ≤ 0
  pub undrawn : state.next ≤ n → count n state.objects ≤ 0
  pub unopened : state.next ≤ n → is_open state.fetches n ≡ false

abbrev OnceBehind : ℕ → Step → Type 0
OnceBehind n step = HeldOnce n step.state

-- where no object and no open fetch joins
with_less : (n : ℕ) (old new : State) → HeldOnce n old → count n new.objects ≤ count n old.objects → (is_open old.fetches n ≡ false → is_open new.fetches n ≡ false) → new.next ≡ old.next → HeldOnce n new
with_less n old new held less shut same =
    record {
      once = omega (arith, held.once, less);
      while_open = λ opened. omega (arith, less, held.while_open (was_open (is_open old.fetches n) (is_open new.fetches n) shut opened));
      undrawn = λ above. omega (arith, less, held.undrawn (omega (arith, same, above)));
      unopened = λ above. shut (held.unopened (omega (arith, same, above)));
    }
  where
    was_open : (before now : Bool) → (before ≡ false → now ≡ false) → now ≡ true → before ≡ true
    was_open true now shut opened = refl
    was_open false now shut opened = absurd (true≢false (sym opened ∙ shut refl))

-- where a fetch is opened under the next number
with_drawn : (n : ℕ) (old new : State) → HeldOnce n old → count n new.objects ≤ count n old.objects → is_open new.fetches n ≡ ((old.next == n) || is_open old.fetches n) → new.next ≡ old.next + 1 → HeldOnce n new
with_drawn n old new held less opens more =
    record {
      once = omega (arith, held.once, less);
      while_open = λ opened. omega (arith, less, by_next (old.next == n) (is_open old.fetches n) refl refl (sym opens ∙ opened));
      undrawn = λ above. omega (arith, less, held.undrawn (omega (arith, more, above)));
      unopened = λ above. opens ∙ rw (ne_eqb old.next n (λ e. omega (arith, more, above, e)), held.unopened (omega (arith, more, above))) refl;
    }
  where
    by_next : (next open_ : Bool) → next ≡ (old.next == n) → open_ ≡ is_open old.fetches n → (next || open_) ≡ true → count n old.objects ≤ 0
    by_next true open_ here there e = held.undrawn (omega (arith, eqb-true old.next n (sym here)))
    by_next false true here there e = held.while_open (sym there)
    by_next false false here there e = absurd (false≢true e)

-- where a number is drawn and nothing else changes
with_number : (n : ℕ) (old new : State) → HeldOnce n old → new.objects ≡ old.objects → new.fetches ≡ old.fetches → new.next ≡ old.next + 1 → HeldOnce n new
with_number n old new held objects fetches more =
    record {
      once = omega (arith, held.once, ap (count n) objects);
      while_open = λ opened. omega (arith, held.while_open (ap (λ fs. is_open fs n) (sym fetches) ∙ opened), ap (count n) objects);
      undrawn = λ above. omega (arith, held.undrawn (omega (arith, more, above)), ap (count n) objects);
      unopened = λ above. ap (λ fs. is_open fs n) fetches ∙ held.unopened (omega (arith, more, above));
    }

any_part : (a b : Bool) (rest whole : Bool) → ((a && b) || rest) ≡ true → (rest ≡ true → whole ≡ true) → (a || whole) ≡ true
any_part true b rest whole e later = refl
any_part false b rest whole e later = later e

-- the caller's open fetch is an open fetch
pub opened_by : (fetches : List OpenFetch) (caller token : ℕ) → has_fetch fetches caller token ≡ true → is_open fetches token ≡ true
opened_by [] caller token e = absurd (false≢true e)
opened_by (fetch ∷ fetches) caller token e = any_part (fetch.token == token) (fetch.caller == caller) _ _ e (opened_by fetches caller token)

shut_step : (b rest : Bool) (fetch : OpenFetch) (fetches : List OpenFetch) (token : ℕ) → b ≡ (fetch.token == token) → is_open fetches token ≡ false → is_open (cond (not b) (fetch ∷ fetches) fetches) token ≡ false
shut_step true rest fetch fetches token e shut = shut
shut_step false rest fetch fetches token e shut = rw (sym e, shut) refl

-- once it is closed no fetch has the number
pub shut_without : (token : ℕ) (fetches : List OpenFetch) → is_open (filter (λ (fetch : OpenFetch). not (fetch.token == token)) fetches) token ≡ false
shut_without token [] = refl
shut_without token (fetch ∷ fetches) = shut_step (fetch.token == token) true fetch _ token refl (shut_without token fetches)

-- where an object is stored whose fetch was open
with_stored : (n room : ℕ) (old new : State) (token : ℕ) (object : Object) (stale : Option ℕ) (here : Bool) → here ≡ (token == n) → is_open old.fetches token ≡ true → HeldOnce n old
    → new.objects ≡ stored_over room old.entries token object stale old.objects → new.fetches ≡ filter (λ (fetch : OpenFetch). not (fetch.token == token)) old.fetches → new.next ≡ old.next → HeldOnce n new
with_stored n room old new token object stale true here opened held objects fetches same =
    let is : token ≡ n = eqb-true token n (sym here) in
    let none_ : count n old.objects ≤ 0 = held.while_open (subst (λ (k : ℕ). is_open old.fetches k ≡ true) is opened) in
    let one : count n (stored_over room old.entries token object stale old.objects) ≡ one_if (token == n) + count n (staying room (size_of object) (without_stale stale old.objects)) = refl in
    let one_here : one_if (token == n) ≡ one_if true = ap one_if (sym here) in
    let shut : is_open new.fetches n ≡ false = ap (λ fs. is_open fs n) fetches ∙ subst (λ (k : ℕ). is_open (filter (λ (fetch : OpenFetch). not (fetch.token == token)) old.fetches) k ≡ false) is (shut_without token old.fetches) in
    record {
      once = omega (arith, none_, ap (count n) objects, one, one_here, count-staying n room (size_of object) stale old.objects);
      while_open = λ opened_. absurd (true≢false (sym opened_ ∙ shut));
      undrawn = λ above. absurd (true≢false (sym (subst (λ (k : ℕ). is_open old.fetches k ≡ true) is opened) ∙ held.unopened (omega (arith, same, above))));
      unopened = λ above. shut;
    }
with_stored n room old new token object stale false here opened held objects fetches same =
    let one : count n (stored_over room old.entries token object stale old.objects) ≡ one_if (token == n) + count n (staying room (size_of object) (without_stale stale old.objects)) = refl in
    let none_here : one_if (token == n) ≡ one_if false = ap one_if (sym here) in
    with_less n old new held (omega (arith, ap (count n) objects, one, none_here, count-staying n room (size_of object) stale old.objects))
    (λ shut. ap (λ fs. is_open fs n) fetches ∙ none-filter (λ (fetch : OpenFetch). fetch.token == n) (λ (fetch : OpenFetch). not (fetch.token == token)) old.fetches shut) same

pub once_behind : (n room : ℕ) (state : State) (caller : ℕ) (call : Call) → HeldOnce n state → OnceBehind n (answered room state caller call)
once_behind n room state caller Begin held = either (OnceBehind n) (has_round state.rounds caller) _ _ held (with_number n state _ held refl refl refl)
once_behind n room state caller Draw held = either (OnceBehind n) (has_round state.rounds caller) _ _ (with_number n state _ held refl refl refl) held
once_behind n room state caller (Lookup query) held =
    looked_leaf_of (OnceBehind n) (λ (objects : List Held). count n objects ≤ count n state.objects) state caller query held (omega arith) (count-scanned n state.moment query state.objects) (record {
      misses = λ objects q stale. with_drawn n state _ held q refl refl;
      hits = λ objects q view. with_less n state _ held (omega (arith, q, count-map n (counting state.entries view.number) (counting_number state.entries view.number) objects)) (λ shut. shut) refl;
      hits_miss = λ objects q view. with_drawn n state _ held (omega (arith, q, count-map n (touching state.entries view.number) (touching_number state.entries view.number) objects)) refl refl;
      passes = λ objects q view. with_less n state _ held (omega (arith, q, count-map n (touching state.entries view.number) (touching_number state.entries view.number) objects)) (λ shut. shut) refl;
      graces = λ objects q view. with_drawn n state _ held (omega (arith, q, count-map n (counting state.entries view.number) (counting_number state.entries view.number) objects)) refl refl;
      graces_alone = λ objects q view. with_less n state _ held (omega (arith, q, count-map n (counting state.entries view.number) (counting_number state.entries view.number) objects)) (λ shut. shut) refl;
      waits = λ objects q token. with_less n state _ held q (λ shut. shut) refl;
    })
once_behind n room state caller (Pick vcl target word) held =
    picked_leaf (OnceBehind n) state vcl target word held (λ place. with_less n state _ held (omega arith) (λ shut. shut) refl)
once_behind n room state caller (Insert token object stale) held =
    let less : is_open state.fetches n ≡ false → is_open (filter (λ (fetch : OpenFetch). not (fetch.token == token)) state.fetches) n ≡ false =
    none-filter (λ (fetch : OpenFetch). fetch.token == n) (λ (fetch : OpenFetch). not (fetch.token == token)) state.fetches in
    known_leaf (OnceBehind n) room state caller token object stale (record {
      opens_not = held;
      gone = held;
      late = with_less n state _ held (omega arith) less refl;
      full = with_less n state _ held (omega arith) less refl;
      stores = λ opened stays. with_stored n room state _ token object stale (token == n) refl (opened_by state.fetches caller token opened) held refl refl refl;
    })
once_behind n room state caller (Ban ban) held =
    with_less n state _ held (count-ban n (issued_behind state.issued state.moment ban) state.objects) (λ shut. shut) refl
once_behind n room state caller BanList held = held
once_behind n room state caller (Purge key) held = with_less n state _ held (count-filter n (λ (held : Held). not (has_key key held)) state.objects) (λ shut. shut) refl
once_behind n room state caller (Xkey keys soft) held = with_less n state _ held (count-xkey n state.moment keys soft state.objects) (λ shut. shut) refl
once_behind n room state caller (SetHealth backend given) held = health_leaf (OnceBehind n) state backend given (with_less n state _ held (omega arith) (λ shut. shut) refl) held
once_behind n room state caller (Load source) held = loaded_leaf (OnceBehind n) state source held (with_less n state _ held (omega arith) (λ shut. shut) refl)
once_behind n room state caller (Switch name) held = switched_leaf (OnceBehind n) state name held (λ vcl. with_less n state _ held (omega arith) (λ shut. shut) refl)
once_behind n room state caller (Discard name) held = discarded_leaf (OnceBehind n) state name held held (λ number. with_less n state _ held (omega arith) (λ shut. shut) refl)
once_behind n room state caller VclList held = held
once_behind n room state caller (Drop token) held =
    either (OnceBehind n) (has_fetch state.fetches caller token) _ _
    (with_less n state _ held (omega arith) (none-filter (λ (fetch : OpenFetch). fetch.token == n) (λ (fetch : OpenFetch). not (fetch.token == token)) state.fetches) refl) held
once_behind n room state caller End held =
    either (OnceBehind n) (has_round state.rounds caller) _ _
    (with_less n state _ held (omega arith) (none-filter (λ (fetch : OpenFetch). fetch.token == n) (λ (fetch : OpenFetch). not (fetch.caller == caller)) state.fetches) refl) held

once_refused : (n : ℕ) (state : State) (call : Call) → HeldOnce n state → HeldOnce n (refused state call)
once_refused n state (Insert token object stale) held =
    with_less n state _ held (omega arith) (none-filter (λ (fetch : OpenFetch). fetch.token == n) (λ (fetch : OpenFetch). not (fetch.token == token)) state.fetches) refl
once_refused n state call held = held

pub once_at : (n moment : ℕ) (state : State) → HeldOnce n state → HeldOnce n (at_moment moment state)
once_at n moment state held = with_less n state _ held (count-filter n (λ (held : Held). in_time moment held.view.object) state.objects) (λ shut. shut) refl

pub once_after : (n : ℕ) (params : Params) (state : State) (caller moment : ℕ) (call : Call) (answer : Reply) → HeldOnce n state → HeldOnce n (after params state caller moment call answer)
once_after n params state caller moment call answer held =
    let once = behind_either (HeldOnce n) answer _ _ (once_refused n (at_moment moment state) call (once_at n moment state held)) (once_behind n params.room (at_moment moment state) caller call (once_at n moment state held)) in
    record { once = once.once; while_open = once.while_open; undrawn = once.undrawn; unopened = once.unopened }

pub once_from : (n : ℕ) (params : Params) (state : State) (entries : List Entry) → HeldOnce n state → HeldOnce n (reached_from params state entries)
once_from n params state [] held = held
once_from n params state (e ∷ es) held = once_from n params (next_state params state e) es (once_after n params state e.caller e.moment e.call e.reply held)

-- behind a step no more objects have the number
abbrev NoMore : ℕ → State → Step → Type 0
NoMore n state step = count n step.state.objects ≤ count n state.objects

stored_counts : (n room place token : ℕ) (object : Object) (stale : Option ℕ) (objects : List Held) → token ≢ n → count n (stored_over room place token object stale objects) ≤ count n objects
stored_counts n room place token object stale objects other =
    let one : count n (stored_over room place token object stale objects) ≡ one_if (token == n) + count n (staying room (size_of object) (without_stale stale objects)) = refl in
    let none_here : one_if (token == n) ≡ one_if false = ap one_if (ne_eqb token n other) in
    omega (arith, one, none_here, count-staying n room (size_of object) stale objects)

-- an answer stores no object under a number whose fetch isn't open
count_behind : (n room : ℕ) (state : State) (caller : ℕ) (call : Call) → is_open state.fetches n ≡ false → NoMore n state (answered room state caller call)
count_behind n room state caller Begin shut = either (NoMore n state) (has_round state.rounds caller) _ _ (omega arith) (omega arith)
count_behind n room state caller Draw shut = either (NoMore n state) (has_round state.rounds caller) _ _ (omega arith) (omega arith)
count_behind n room state caller (Lookup query) shut =
    looked_leaf_of (NoMore n state) (λ (objects : List Held). count n objects ≤ count n state.objects) state caller query (omega arith) (omega arith) (count-scanned n state.moment query state.objects) (record {
      misses = λ objects q stale. q;
      hits = λ objects q view. omega (arith, q, count-map n (counting state.entries view.number) (counting_number state.entries view.number) objects);
      hits_miss = λ objects q view. omega (arith, q, count-map n (touching state.entries view.number) (touching_number state.entries view.number) objects);
      passes = λ objects q view. omega (arith, q, count-map n (touching state.entries view.number) (touching_number state.entries view.number) objects);
      graces = λ objects q view. omega (arith, q, count-map n (counting state.entries view.number) (counting_number state.entries view.number) objects);
      graces_alone = λ objects q view. omega (arith, q, count-map n (counting state.entries view.number) (counting_number state.entries view.number) objects);
      waits = λ objects q token. q;
    })
count_behind n room state caller (Pick vcl target word) shut = picked_leaf (NoMore n state) state vcl target word (omega arith) (λ place. omega arith)
count_behind n room state caller (Insert token object stale) shut =
    known_leaf (NoMore n state) room state caller token object stale (record {
      opens_not = omega arith;
      gone = omega arith;
      late = omega arith;
      full = omega arith;
      stores = λ opened stays. stored_counts n room state.entries token object stale state.objects
          (λ same. true≢false (sym (subst (λ (k : ℕ). is_open state.fetches k ≡ true) same (opened_by state.fetches caller token opened)) ∙ shut));
    })
count_behind n room state caller (Ban ban) shut = count-ban n (issued_behind state.issued state.moment ban) state.objects
count_behind n room state caller BanList shut = omega arith
count_behind n room state caller (Purge key) shut = count-filter n (λ (held : Held). not (has_key key held)) state.objects
count_behind n room state caller (Xkey keys soft) shut = count-xkey n state.moment keys soft state.objects
count_behind n room state caller (SetHealth backend given) shut = health_leaf (NoMore n state) state backend given (omega arith) (omega arith)
count_behind n room state caller (Load source) shut = loaded_leaf (NoMore n state) state source (omega arith) (omega arith)
count_behind n room state caller (Switch name) shut = switched_leaf (NoMore n state) state name (omega arith) (λ vcl. omega arith)
count_behind n room state caller (Discard name) shut = discarded_leaf (NoMore n state) state name (omega arith) (omega arith) (λ number. omega arith)
count_behind n room state caller VclList shut = omega arith
count_behind n room state caller (Drop token) shut = either (NoMore n state) (has_fetch state.fetches caller token) _ _ (omega arith) (omega arith)
count_behind n room state caller End shut = either (NoMore n state) (has_round state.rounds caller) _ _ (omega arith) (omega arith)

count_refused : (n : ℕ) (state : State) (call : Call) → count n (refused state call).objects ≤ count n state.objects
count_refused n state (Insert token object stale) = omega arith
count_refused n state call = omega arith

pub count_at : (n moment : ℕ) (state : State) → count n (at_moment moment state).objects ≤ count n state.objects
count_at n moment state = count-filter n (λ (held : Held). in_time moment held.view.object) state.objects

count_after : (n : ℕ) (params : Params) (state : State) (caller moment : ℕ) (call : Call) (answer : Reply) → is_open state.fetches n ≡ false → count n (after params state caller moment call answer).objects ≤ count n state.objects
count_after n params state caller moment call answer shut =
    let law = count_behind n params.room (at_moment moment state) caller call shut in
    let refusal = count_refused n (at_moment moment state) call in
    behind_either (λ (s : State). count n s.objects ≤ count n state.objects) answer _ _ (omega (arith, refusal, count_at n moment state)) (omega (arith, law, count_at n moment state))

-- a number that was drawn and whose fetch is closed isn't held by more objects later
pub count_from : (n : ℕ) (params : Params) (state : State) (entries : List Entry) → n < state.next → is_open state.fetches n ≡ false → count n (reached_from params state entries).objects ≤ count n state.objects
count_from n params state [] drawn shut = omega arith
count_from n params state (e ∷ es) drawn shut =
    let here = (after_grows params state e.caller e.moment e.call e.reply).rises in
    let later = count_from n params (next_state params state e) es (omega (arith, drawn, here)) (shut_from params state (e ∷ []) n drawn shut) in
    omega (arith, later, count_after n params state e.caller e.moment e.call e.reply shut)

-- objects of one number are one
pub one_of : (n : ℕ) (held : Held) (objects : List Held) → IsAmong held objects → held.view.number ≡ n → 1 ≤ count n objects
one_of n held [] among e = absurd among
one_of n held (other ∷ objects) (inl same) e =
    let here : one_if (other.view.number == n) ≡ one_if true = ap one_if (eq-eqb other.view.number n (sym (ap (λ (h : Held). h.view.number) same) ∙ e)) in
    omega (arith, here)
one_of n held (other ∷ objects) (inr among) e = omega (arith, one_of n held objects among e)

pub same_held : (n : ℕ) (one other : Held) (objects : List Held) → count n objects ≤ 1 → IsAmong one objects → IsAmong other objects → one.view.number ≡ n → other.view.number ≡ n → one ≡ other
same_held n one other [] once first second a b = absurd first
same_held n one other (held ∷ objects) once (inl here) (inl there) a b = here ∙ sym there
same_held n one other (held ∷ objects) once (inl here) (inr there) a b =
    let first : one_if (held.view.number == n) ≡ one_if true = ap one_if (eq-eqb held.view.number n (sym (ap (λ (h : Held). h.view.number) here) ∙ a)) in
    absurd (omega (arith, first, one_of n other objects there b, once))
same_held n one other (held ∷ objects) once (inr here) (inl there) a b =
    let first : one_if (held.view.number == n) ≡ one_if true = ap one_if (eq-eqb held.view.number n (sym (ap (λ (h : Held). h.view.number) there) ∙ b)) in
    absurd (omega (arith, first, one_of n one objects here a, once))
same_held n one other (held ∷ objects) once (inr here) (inr there) a b = same_held n one other objects (omega (arith, once)) here there a b
