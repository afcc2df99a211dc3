-- How rounds stay apart, and who was told to wait stays parked, from one part of a session to the next.
use Rattle.std.proofs.Common.{◌≡◌, ◌⊎◌, inl, inr, ℕ, zero, suc, Bool, true, false, not, cond, ◌==◌, ◌&&◌, ◌||◌, ◌+◌, ◌<◌, ◌≤◌, List, [], ◌∷◌, ◌++◌, Option, Some, None, Result, Ok, Err, filter, length, get_or, option_and_then, refl, sym, ◌∙◌, ap, subst, arith}
use Rattle.std.proofs.lemmas.Bool.{eq-eqb, eqb-true, ne_eqb}
use Rattle.std.specs.Prelude.{OnOk, remove}
use Rattle.std.specs.List.{list_any}
use Rattle.cache_law.specs.declared.call.Call.{Call}
use Rattle.cache_law.specs.declared.call.Entry.{Entry}
use Rattle.cache_law.specs.declared.setting.Params.{Params}
use Rattle.cache_law.specs.declared.setting.Boot.{Boot}
use Rattle.cache_law.specs.declared.state.OpenFetch.{OpenFetch}
use Rattle.cache_law.specs.Beginning.{Beginning, beginning_of}
use Rattle.cache_law.specs.History.{HasWaited, reached}
use Rattle.cache_law.specs.State.{State, is_closed, is_open, told_to_wait}
use Rattle.cache_law.proofs.Waits.{HasWaited-none}
use Rattle.http_heads.specs.declared.exchange.BackendRequest.{BackendRequest}
use Rattle.replay.specs.declared.policy.Want.{Want}
use Rattle.replay.specs.declared.policy.Want.TheVariants.{Ask, Exchange, Respond, Await, Done}
use Rattle.replay.specs.declared.rounds.Pending.{Pending}
use Rattle.replay.specs.declared.rounds.Kept.{Kept}
use Rattle.replay.specs.declared.rounds.Break.{Break}
use Rattle.replay.specs.Waits.{IsSettled, KeepsOthers, RunsAlone, count_of, is_kept_for, is_kept_of, is_pending_of, rounds_of, wait_of}
use Rattle.replay.specs.Went.{Stage}

one_more : {X : Type 0} (b : Bool) (x : X) (xs : List X) → length (cond b (x ∷ xs) xs) ≡ cond b 1 0 + length xs
one_more true x xs = omega arith
one_more false x xs = omega arith

none_of : (b : Bool) → b ≡ false → cond {A = ℕ} b 1 0 ≡ 0
none_of true e = absurd (cc)
none_of false e = refl

one_of : (b : Bool) → b ≡ true → cond {A = ℕ} b 1 0 ≡ 1
one_of true e = refl
one_of false e = absurd (cc)

left_false : (a b : Bool) → (a || b) ≡ false → (a ≡ false) × (b ≡ false)
left_false true b e = absurd (cc)
left_false false b e = (refl, e)

both_true : (a b : Bool) → (a && b) ≡ true → (a ≡ true) × (b ≡ true)
both_true true b e = (refl, e)
both_true false b e = absurd (cc)

and_false : (a b : Bool) → a ≡ false → (a && b) ≡ false
and_false true b e = absurd (cc)
and_false false b e = refl

and_true : (a b : Bool) → a ≡ true → b ≡ true → (a && b) ≡ true
and_true true b e f = f
and_true false b e f = absurd (cc)

module _ {X : Type 0} (p : X → Bool) where
  count_push : (xs : List X) (x : X) → count_of p (xs ++ x ∷ []) ≡ count_of p xs + cond (p x) 1 0
  count_push [] x = let here = one_more (p x) x [] in omega (arith, here)
  count_push (y ∷ xs) x =
      let before = one_more (p y) y (filter p xs) in
      let after = one_more (p y) y (filter p (xs ++ x ∷ [])) in
      let rest = count_push xs x in omega (arith, before, after, rest)

  count_remove : (xs : List X) (i : ℕ) (x : X) → i < length xs → x ≡ get_or xs i x → count_of p xs ≡ cond (p x) 1 0 + count_of p (remove xs i)
  count_remove [] i x short is = absurd (omega arith)
  count_remove (y ∷ xs) zero x short is = subst (λ (z : X). count_of p (y ∷ xs) ≡ cond (p z) 1 0 + count_of p xs) (sym is) (one_more (p y) y (filter p xs))
  count_remove (y ∷ xs) (suc i) x short is =
      let before = one_more (p y) y (filter p xs) in
      let after = one_more (p y) y (filter p (remove xs i)) in
      let rest = count_remove xs i x (omega arith) is in omega (arith, before, after, rest)

  count_none : (xs : List X) → list_any p xs ≡ false → count_of p xs ≡ 0
  count_none [] e = refl
  count_none (y ∷ xs) e =
      let parts = left_false (p y) (list_any p xs) e in
      let here = one_more (p y) y (filter p xs) in
      let no = none_of (p y) parts.0 in
      let rest = count_none xs parts.1 in omega (arith, here, no, rest)

  module _ (q : X → Bool) (narrows : (x : X) → p x ≡ true → q x ≡ true) where
    fewer_here : (x : X) (b : Bool) → p x ≡ b → cond {A = ℕ} b 1 0 ≤ cond (q x) 1 0
    fewer_here x true e = let one = one_of (q x) (narrows x e) in omega (arith, one)
    fewer_here x false e = omega arith

    count_fewer : (xs : List X) → count_of p xs ≤ count_of q xs
    count_fewer [] = omega arith
    count_fewer (y ∷ xs) =
        let mine = one_more (p y) y (filter p xs) in
        let theirs = one_more (q y) y (filter q xs) in
        let here = fewer_here y (p y) refl in
        let rest = count_fewer xs in omega (arith, mine, theirs, here, rest)

-- what holds where a part went well
pub where_ok : (result : Result (Unit {0}) Break) (A B : Type 0) → OnOk result A → (A → B) → OnOk result B
where_ok (Ok u) A B a f = f a
where_ok (Err broken) A B a f = tt

-- two numbers are one, or aren't
differ : (a b : ℕ) (c : Bool) → (a == b) ≡ c → (a ≡ b) ⊎ (a ≡ b → ⊥)
differ a b true e = inl (eqb-true a b e)
differ a b false e = inr (λ same. let yes = eq-eqb a b same in absurd (cc))

no_word : (word : Option ℕ) → ((token : ℕ) → word ≡ Some token → ⊥) → word ≡ None
no_word None never = refl
no_word (Some token) never = absurd (never token refl)

still_shut : (b : Bool) (token : ℕ) → b ≡ false → cond b (Some token) None ≡ None
still_shut true token e = absurd (cc)
still_shut false token e = refl

all_shut : (fetches : List OpenFetch) (word : Option ℕ) → ((token : ℕ) → word ≡ Some token → is_open fetches token ≡ false) → option_and_then (λ (token : ℕ). cond (is_open fetches token) (Some token) None) word ≡ None
all_shut fetches None shut = refl
all_shut fetches (Some token) shut = still_shut (is_open fetches token) token (shut token refl)

-- who was told of no open fetch may make any call
has_waited : (state : State) (client : ℕ) (call : Call) → ((token : ℕ) → told_to_wait state.rounds client ≡ Some token → is_open state.fetches token ≡ false) → HasWaited state client call
has_waited state client call shut = HasWaited-none state client call (all_shut state.fetches (told_to_wait state.rounds client) shut)

not_open : (b : Bool) → not b ≡ true → b ≡ false
not_open true e = absurd (cc)
not_open false e = refl

is_true : (b : Bool) → 1 ≤ cond {A = ℕ} b 1 0 → b ≡ true
is_true true e = refl
is_true false e = absurd (omega arith)

await_same : (one other : ℕ) → Await one ≡ Await other → one ≡ other
await_same one other e = cc

-- a want that is no wait
abbrev IsNoWait : Want → Type 0
IsNoWait want = (token : ℕ) → want ≡ Await token → ⊥

pub ask_waits_not : (call : Call) → IsNoWait (Ask call)
ask_waits_not call token e = absurd (cc)

pub respond_waits_not : (text : List ℕ) → IsNoWait (Respond text)
respond_waits_not text token e = absurd (cc)

pub exchange_waits_not : (number : ℕ) (backend : List ℕ) (request : BackendRequest) → IsNoWait (Exchange number backend request)
exchange_waits_not number backend request token e = absurd (cc)

pub done_waits_not : IsNoWait Done
done_waits_not token e = absurd (cc)

module _ {P : Type 0} (beginning : Beginning) where
  pub wants_same : (stage : Stage P) (client : ℕ) (want same : Want) → want ≡ same → RunsAlone beginning stage client want → RunsAlone beginning stage client same
  wants_same stage client want same e alone = subst (λ (w : Want). RunsAlone beginning stage client w) e alone

  -- the round that runs may look up
  pub free_to_ask : (stage : Stage P) (client : ℕ) (want : Want) (call : Call) → want ≡ Ask call → RunsAlone beginning stage client want → HasWaited (reached beginning stage.history) client call
  free_to_ask stage client want call is alone =
      has_waited (reached beginning stage.history) client call (λ token told. absurd (ask_waits_not call token (sym is ∙ alone.own token told)))

  pub told_nothing : (stage : Stage P) (client : ℕ) (want : Want) → IsNoWait want → RunsAlone beginning stage client want → wait_of beginning stage.history client ≡ None
  told_nothing stage client want calm alone = no_word _ (λ token told. calm token (alone.own token told))

  -- behind a call
  pub alone_behind : (stage : Stage P) (after : Beginning) (new : List Entry) (client : ℕ) (want next : Want) → RunsAlone beginning stage client want → KeepsOthers beginning stage.history after new client → ((token : ℕ) → wait_of after new client ≡ Some token → next ≡ Await token) → RunsAlone after (record { moment = stage.moment; waiting = stage.waiting; parked = stage.parked; history = new }) client next
  alone_behind stage after new client want next alone kept own =
      record { once = alone.once; alone = alone.alone; own = own; others = λ other token apart told. alone.others other token apart (sym (kept other apart) ∙ told) }

  -- behind anything that leaves the cache
  pub alone_still : (stage : Stage P) (client : ℕ) (want next : Want) → IsNoWait want → RunsAlone beginning stage client want → RunsAlone beginning stage client next
  alone_still stage client want next calm alone =
      record { once = alone.once; alone = alone.alone; own = λ token told. absurd (calm token (alone.own token told)); others = alone.others }

  module _ (stage : Stage P) (client : ℕ) (want : Want) (alone : RunsAlone beginning stage client want) where
    -- one round more, of the client that ran
    one_round : (mine other n : ℕ) (b : Bool) → mine ≡ client → (mine == other) ≡ b → n ≡ rounds_of stage other + cond b 1 0 → n ≤ 1
    one_round mine other n true is e sum =
        let none : rounds_of stage other ≡ 0 = subst (λ (c : ℕ). rounds_of stage c ≡ 0) (sym is ∙ eqb-true mine other e) alone.alone in omega (arith, none, sum)
    one_round mine other n false is e sum = let once = alone.once other in omega (arith, once, sum)

    -- who was told to wait, apart from the client that ran
    told_apart : (bound : ℕ → ℕ → ℕ) → ((token : ℕ) → wait_of beginning stage.history client ≡ Some token → 1 ≤ bound client token) → ((other token : ℕ) → count_of (is_kept_for other token) stage.parked ≤ bound other token) → (other token : ℕ) → wait_of beginning stage.history other ≡ Some token → (other ≡ client) ⊎ (other ≡ client → ⊥) → 1 ≤ bound other token
    told_apart bound own above other token told (inl same) = subst (λ (c : ℕ). 1 ≤ bound c token) (sym same) (own token (ap (λ (c : ℕ). wait_of beginning stage.history c) (sym same) ∙ told))
    told_apart bound own above other token told (inr apart) = let parked = alone.others other token apart told in let more = above other token in omega (arith, parked, more)

    pub settles_done : IsNoWait want → IsSettled beginning stage
    settles_done calm =
        record {
          once = alone.once;
          told = λ other token told. told_apart (λ (o t : ℕ). count_of (is_kept_for o t) stage.parked) (λ t own. absurd (calm t (alone.own t own))) (λ o t. omega arith) other token told (differ other client (other == client) refl);
        }

    pub settles_pending : IsNoWait want → (one : Pending P) (waiting : List (Pending P)) → one.client ≡ client → waiting ≡ stage.waiting ++ one ∷ [] → IsSettled beginning (record { moment = stage.moment; waiting = waiting; parked = stage.parked; history = stage.history })
    settles_pending calm one waiting is more =
        record {
          once = λ other.
              let push = count_push (is_pending_of other) stage.waiting one in
              let len : count_of (is_pending_of other) waiting ≡ count_of (is_pending_of other) (stage.waiting ++ one ∷ []) = ap (λ (ws : List (Pending P)). count_of (is_pending_of other) ws) more in
              one_round one.client other _ (one.client == other) is refl (omega (arith, push, len));
          told = (settles_done calm).told;
        }

    pub settles_parked : (one : Kept P) (parked : List (Kept P)) → one.client ≡ client → want ≡ Await one.token → parked ≡ stage.parked ++ one ∷ [] → IsSettled beginning (record { moment = stage.moment; waiting = stage.waiting; parked = parked; history = stage.history })
    settles_parked one parked is wait more =
        let count : (p : Kept P → Bool) → count_of p parked ≡ count_of p stage.parked + cond (p one) 1 0 = λ p. ap (λ (ks : List (Kept P)). count_of p ks) more ∙ count_push p stage.parked one in
        record {
          once = λ other. let push = count (is_kept_of other) in one_round one.client other _ (one.client == other) is refl (omega (arith, push));
          told = λ other token told.
              told_apart (λ (o t : ℕ). count_of (is_kept_for o t) parked)
              (λ t own.
              let same : one.token ≡ t = await_same one.token t (sym wait ∙ alone.own t own) in
              let push = count (is_kept_for client t) in
              let mine = one_of (is_kept_for client t one) (and_true _ _ (eq-eqb one.client client is) (eq-eqb one.token t same)) in omega (arith, push, mine))
              (λ o t. let push = count (is_kept_for o t) in omega (arith, push)) other token told (differ other client (other == client) refl);
        }

  module _ (stage : Stage P) (settled : IsSettled beginning stage) where
    kept_for_of : (client token : ℕ) → count_of (is_kept_for client token) stage.parked ≤ count_of (is_kept_of client) stage.parked
    kept_for_of client token = count_fewer (is_kept_for client token) (is_kept_of client) (λ kept e. (both_true (kept.client == client) (kept.token == token) e).0) stage.parked

    -- a client with no round that waits begins one
    pub begins_alone : (client : ℕ) (want : Want) → (list_any (λ (kept : Pending P). kept.client == client) stage.waiting || list_any (λ (kept : Kept P). kept.client == client) stage.parked) ≡ false → RunsAlone beginning stage client want
    begins_alone client want free =
        let parts = left_false _ _ free in
        let none = count_none (is_pending_of client) stage.waiting parts.0 in
        let nothing = count_none (is_kept_of client) stage.parked parts.1 in
        record {
          once = settled.once;
          alone = omega (arith, none, nothing);
          own = λ token told. let one = settled.told client token told in let few = kept_for_of client token in absurd (omega (arith, one, few, nothing));
          others = λ other token apart told. settled.told other token told;
        }

    -- the round that waited for a reply goes on
    pub replied_alone : (place : ℕ) (one : Pending P) (waiting : List (Pending P)) (want : Want) → place < length stage.waiting → one ≡ get_or stage.waiting place one → waiting ≡ remove stage.waiting place → RunsAlone beginning (record { moment = stage.moment; waiting = waiting; parked = stage.parked; history = stage.history }) one.client want
    replied_alone place one waiting want short is less =
        let count : (p : Pending P → Bool) → count_of p stage.waiting ≡ cond (p one) 1 0 + count_of p waiting = λ p. count_remove p stage.waiting place one short is ∙ ap (λ (ws : List (Pending P)). cond (p one) 1 0 + count_of p ws) (sym less) in
        let mine = one_of (is_pending_of one.client one) (eq-eqb one.client one.client refl) in
        let own_count = count (is_pending_of one.client) in
        let once = settled.once one.client in
        record {
          once = λ other. let some = count (is_pending_of other) in let before = settled.once other in omega (arith, some, before);
          alone = omega (arith, mine, own_count, once);
          own = λ token told. let told_one = settled.told one.client token told in let few = kept_for_of one.client token in absurd (omega (arith, told_one, few, mine, own_count, once));
          others = λ other token apart told. settled.told other token told;
        }

    module _ (place : ℕ) (one : Kept P) (parked : List (Kept P)) (short : place < length stage.parked) (is : one ≡ get_or stage.parked place one) (less : parked ≡ remove stage.parked place) where
      count_less : (p : Kept P → Bool) → count_of p stage.parked ≡ cond (p one) 1 0 + count_of p parked
      count_less p = count_remove p stage.parked place one short is ∙ ap (λ (ks : List (Kept P)). cond (p one) 1 0 + count_of p ks) (sym less)

      none_left : count_of (is_kept_of one.client) parked ≡ 0
      none_left =
          let mine = one_of (is_kept_of one.client one) (eq-eqb one.client one.client refl) in
          let sum = count_less (is_kept_of one.client) in
          let once = settled.once one.client in omega (arith, mine, sum, once)

      -- what the round that wakes was told is what it was parked for
      told_own : (token : ℕ) → wait_of beginning stage.history one.client ≡ Some token → one.token ≡ token
      told_own token told =
          let some = settled.told one.client token told in
          let sum = count_less (is_kept_for one.client token) in
          let few = count_fewer (is_kept_for one.client token) (is_kept_of one.client) (λ kept e. (both_true (kept.client == one.client) (kept.token == token) e).0) parked in
          let none = none_left in
          let here : 1 ≤ cond {A = ℕ} (is_kept_for one.client token one) 1 0 = omega (arith, some, sum, few, none) in
          eqb-true one.token token (both_true (one.client == one.client) (one.token == token) (is_true (is_kept_for one.client token one) here)).1

      pub woken_waits_not : (call : Call) → is_closed (reached beginning stage.history).fetches one.token ≡ true → HasWaited (reached beginning stage.history) one.client call
      woken_waits_not call shut =
          has_waited (reached beginning stage.history) one.client call (λ token told. subst (λ (t : ℕ). is_open (reached beginning stage.history).fetches t ≡ false) (told_own token told) (not_open _ shut))

      pub woken_alone : (after : Beginning) (new : List Entry) (next : Want) → KeepsOthers beginning stage.history after new one.client → ((token : ℕ) → wait_of after new one.client ≡ Some token → next ≡ Await token) → RunsAlone after (record { moment = stage.moment; waiting = stage.waiting; parked = parked; history = new }) one.client next
      woken_alone after new next kept own =
          let mine = one_of (is_kept_of one.client one) (eq-eqb one.client one.client refl) in
          let own_count = count_less (is_kept_of one.client) in
          let once = settled.once one.client in
          record {
            once = λ other. let some = count_less (is_kept_of other) in let before = settled.once other in omega (arith, some, before);
            alone = omega (arith, mine, own_count, once);
            own = own;
            others = λ other token apart told.
                let before = settled.told other token (sym (kept other apart) ∙ told) in
                let sum = count_less (is_kept_for other token) in
                let no = none_of (is_kept_for other token one) (and_false (one.client == other) (one.token == token) (ne_eqb one.client other (λ same. apart (sym same)))) in omega (arith, before, sum, no);
          }

-- before the first event nobody waits
pub opens_settled : {P : Type 0} (params : Params) (boot : Boot) (beginning : Beginning) (stage : Stage P) → beginning ≡ beginning_of params boot → stage.history ≡ [] → stage.waiting ≡ [] → stage.parked ≡ [] → IsSettled beginning stage
opens_settled {P} params boot beginning stage begins start none nobody =
    record {
      once = λ client.
          let no_reply : count_of (is_pending_of client) stage.waiting ≡ 0 = ap (λ (ws : List (Pending P)). count_of (is_pending_of client) ws) none in
          let no_token : count_of (is_kept_of client) stage.parked ≡ 0 = ap (λ (ks : List (Kept P)). count_of (is_kept_of client) ks) nobody in omega (arith, no_reply, no_token);
      told = λ client token told.
          let word : wait_of beginning stage.history client ≡ None = ap (λ (b : Beginning). wait_of b stage.history client) begins ∙ ap (λ (es : List Entry). wait_of (beginning_of params boot) es client) start in
          absurd (cc);
    }
