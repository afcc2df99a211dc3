-- What stands for the state that a history reaches stands, as each call leaves it, for the state with one more entry.
use Rattle.std.proofs.Common.{◌≡◌, ◌≤◌, ◌<◌, ◌==◌, ◌+◌, ◌++◌, ◌⊎◌, ℕ, Bool, true, false, not, cond, List, [], ◌∷◌, ◌&&◌, nat_le, Option, Some, None, inl, inr, refl, arith, sym, ap, ◌∙◌, subst}
use Rattle.std.specs.Option.{option_map, option_or}
use Rattle.std.proofs.lemmas.Bool.{false≢true, true≢false, leb-false, leb-true, ne_eqb}
use Rattle.std.proofs.Math.Nat.{lt_of_not-le}
use Rattle.cache_law.specs.declared.object.Object.{Object}
use Rattle.cache_law.specs.declared.ban.Issued.{Issued}
use Rattle.cache_law.specs.declared.call.Call.{Call}
use Rattle.cache_law.specs.declared.call.Call.TheVariants.{Insert, Xkey}
use Rattle.cache_law.specs.declared.call.Entry.{Entry}
use Rattle.cache_law.specs.declared.call.Reply.{Reply}
use Rattle.cache_law.specs.declared.call.Reply.TheVariants.{NotOpen, Refused, Stored}
use Rattle.cache_law.specs.declared.setting.Params.{Params}
use Rattle.cache_law.specs.Beginning.{Beginning}
use Rattle.cache_law.specs.Bases.{IsSound}
use Rattle.cache_law.specs.History.{next_state, reached}
use Rattle.cache_law.specs.Law.{Step, answered, refused}
use Rattle.cache_law.specs.State.{State, at_moment, is_open, without_fetch}
use Rattle.cache_law.proofs.Growth.{answered_grows}
use Rattle.cache_law.proofs.Held.{all-weaken}
use Rattle.cache_law.proofs.Lawful.{behind_lawful, is_refusal}
use Rattle.cache_law.proofs.Leaves.{known_leaf}
use Rattle.cache_law.proofs.Numbers.{reached-append, rises_from, shut_from}
use Rattle.cache_law.proofs.Present.{opened_by, shut_without}
use Rattle.cache_law.proofs.Sound.{once_of_sound, sound_at}
use Rattle.ban_lurker.specs.Looks.{held_under, is_above, is_stopped, known_by, look_of, softened_at}
use Rattle.ban_lurker.proofs.Staying.{known-append}
use Rattle.lazy_law.specs.Placed.{Lazy}
use Rattle.lazy_law.specs.Stands.{IsKept, Stands, StandsFor}
use Rattle.lazy_law.specs.Standing.{IsKnownBy, IsUnborn, StandsAt}
use Rattle.lazy_law.specs.Late.{LateStep, answered_late, desk_of, late_entry}
use Rattle.lazy_law.proofs.Answered.{IsAnswered, each_stands, refused_stands}
use Rattle.lazy_law.proofs.Filters.{any_none}
use Rattle.lazy_law.proofs.Looking.{all_known, known_behind_call, known_then}
use Rattle.lazy_law.proofs.Numbers.{not_above}
use Rattle.lazy_law.proofs.Staying.{all_up_to}

-- ---- one more entry

pub look_push : (beginning : Beginning) (entries : List Entry) (entry : Entry) (number mark : ℕ)
    → look_of beginning (entries ++ entry ∷ []) number mark ≡ known_by number (is_stopped mark (reached beginning entries)) entry.moment entry.call entry.reply (look_of beginning entries number mark)
look_push beginning entries entry number mark = known-append beginning.params number mark beginning.base (held_under number beginning.base.objects) entries (entry ∷ [])

pub reached_push : (beginning : Beginning) (entries : List Entry) (entry : Entry) → reached beginning (entries ++ entry ∷ []) ≡ next_state beginning.params (reached beginning entries) entry
reached_push beginning entries entry = reached-append beginning entries (entry ∷ [])

-- the newest ban stops nothing
pub unstopped : (lazy : Lazy) (state : State) → IsKept lazy state.bans → (mark : ℕ) → lazy.issued ≤ mark → is_stopped mark state ≡ false
unstopped lazy state kept mark less =
    any_none (is_above mark) state.bans
    (all-weaken (λ (i : Issued). i.number ≤ lazy.issued) (λ i. is_above mark i ≡ false) (λ i here. not_above mark i (omega (arith, here, less))) state.bans (all_up_to lazy state.bans kept))

-- ---- numbers that no object was stored under

unborn_case : (state next : State) (number : ℕ) (drawn opened : Bool) → nat_le state.next number ≡ drawn → is_open state.fetches number ≡ opened → (number < state.next → is_open state.fetches number ≡ false → is_open next.fetches number ≡ false)
    → is_open next.fetches number ≡ true → IsUnborn state number
unborn_case state next number true opened e o shut now = inl (leb-true state.next number e)
unborn_case state next number false true e o shut now = inr o
unborn_case state next number false false e o shut now = absurd (false≢true (sym (shut (leb-false state.next number e) o) ∙ now))

-- what is unborn behind an entry was so before it
pub unborn_before : (params : Params) (state : State) (entry : Entry) (number : ℕ) → IsUnborn (next_state params state entry) number → IsUnborn state number
unborn_before params state entry number (inl above) = let more = rises_from params state (entry ∷ []) in inl (omega (arith, above, more))
unborn_before params state entry number (inr now) =
    unborn_case state (next_state params state entry) number (nat_le state.next number) (is_open state.fetches number) refl refl (λ below shut. shut_from params state (entry ∷ []) number below shut) now

-- the number that the insertion stored an object under
abbrev pub stored_as : Call → Reply → Option ℕ
stored_as (Insert token object stale) (Stored stored) = Some stored
stored_as call reply = None

none_stored : (stored number : ℕ) (object : Object) → (stored ≡ number → ⊥) → cond (stored == number) (option_or None (Some object)) None ≡ None
none_stored stored number object other = rw (ne_eqb stored number other) refl

none_softened : (soft stopped : Bool) (moment : ℕ) (keys : List (List ℕ)) → cond (soft && not stopped) (option_map (softened_at moment keys) None) None ≡ None
none_softened true true moment keys = refl
none_softened true false moment keys = refl
none_softened false stopped moment keys = refl

-- what wasn't known isn't known behind a call that stored another
pub none_known : (number : ℕ) (stopped : Bool) (moment : ℕ) (call : Call) (reply : Reply) → ((stored : ℕ) → stored_as call reply ≡ Some stored → stored ≡ number → ⊥) → known_by number stopped moment call reply None ≡ None
none_known number stopped moment (Insert token object stale) (Stored stored) other = none_stored stored number object (other stored refl)
none_known number stopped moment (Xkey keys soft) reply other = none_softened soft stopped moment keys
none_known number stopped moment call reply other = refl

abbrev StoresClosed : Call → Step → Type 0
StoresClosed call step = (stored : ℕ) → stored_as call step.reply ≡ Some stored → (is_open step.state.fetches stored ≡ false) × (stored < step.state.next)

drawn_open : (state : State) → IsSound state → (token : ℕ) → is_open state.fetches token ≡ true → token < state.next
drawn_open state sound token opened = lt_of_not-le (λ above. absurd (false≢true (sym ((once_of_sound token state sound).unopened above) ∙ opened)))

same_token : (P : ℕ → Type 0) (token stored : ℕ) → ◌≡◌ {A = Option ℕ} (Some token) (Some stored) → P token → P stored
same_token P token stored e p = let same : token ≡ stored = cc in subst P same p

-- an insertion stores an object under a number that was drawn, and closes its fetch
insertion_closes : (room : ℕ) (state : State) → IsSound state → (caller token : ℕ) (object : Object) (stale : Option ℕ) → StoresClosed (Insert token object stale) (answered room state caller (Insert token object stale))
insertion_closes room state sound caller token object stale =
    known_leaf (StoresClosed (Insert token object stale)) room state caller token object stale (record {
      opens_not = λ stored e. cc;
      gone = λ stored e. cc;
      late = λ stored e. cc;
      full = λ stored e. cc;
      stores = λ opened there stored e. same_token (λ n. (is_open (without_fetch token state.fetches) n ≡ false) × (n < state.next)) token stored e
          (shut_without token state.fetches, drawn_open state sound token (opened_by state.fetches caller token opened));
    })

closes_call : (room : ℕ) (state : State) → IsSound state → (caller : ℕ) (call : Call) → StoresClosed call (answered room state caller call)
closes_call room state sound caller (Insert token object stale) = insertion_closes room state sound caller token object stale
closes_call room state sound caller call = λ stored e. cc

-- the same of the late reply
late_closes : (state : State) (call : Call) (late : LateStep) (law : Step) → IsAnswered state call late law → StoresClosed call law → (stored : ℕ) → stored_as call late.reply ≡ Some stored
    → (is_open law.state.fetches stored ≡ false) × (stored < law.state.next)
late_closes state (Insert token object stale) late law is closes stored e = by_answer is.answer
  where
    by_answer : (late.reply ≡ law.reply) ⊎ ((late.reply ≡ Refused) × (law.reply ≡ NotOpen → ⊥)) → (is_open law.state.fetches stored ≡ false) × (stored < law.state.next)
    by_answer (inl same) = closes stored (ap (stored_as (Insert token object stale)) (sym same) ∙ e)
    by_answer (inr free) = absurd (true≢false (sym (ap is_refusal free.0) ∙ is.lawful))
late_closes state call late law is closes stored e = cc

pub not_unborn : (law : State) (stored number : ℕ) → (is_open law.fetches stored ≡ false) × (stored < law.next) → stored ≡ number → IsUnborn law number → ⊥
not_unborn law stored number closed same (inl above) = omega (arith, closed.1, same, above)
not_unborn law stored number closed same (inr opened) = absurd (false≢true (sym closed.0 ∙ (ap (is_open law.fetches) same ∙ opened)))

-- ---- a call

-- the state behind it is the law's, with one more entry
behind_late : (params : Params) (state : State) (caller moment : ℕ) (call : Call) (lazy : Lazy) → is_refusal (answered_late params.room (desk_of (at_moment moment state)) caller call lazy).reply ≡ false
    → next_state params state (late_entry params.room state caller moment call lazy) ≡ record (answered params.room (at_moment moment state) caller call).state { entries = state.entries + 1 }
behind_late params state caller moment call lazy lawful = ap (λ (s : State). record s { entries = state.entries + 1 }) (behind_lawful _ (refused (at_moment moment state) call) (answered params.room (at_moment moment state) caller call).state lawful)

stands_next : (lazy : Lazy) (moment entries : ℕ) (law : State) → law.moment ≡ moment → StandsFor lazy moment law.issued law.bans law.objects → Stands lazy (record law { entries = entries })
stands_next lazy moment entries law same stands = subst (λ (m : ℕ). StandsFor lazy m law.issued law.bans law.objects) (sym same) stands

pub call_grows : (beginning : Beginning) (entries : List Entry) (lazy : Lazy) (caller moment : ℕ) (call : Call) → IsSound (reached beginning entries) → (reached beginning entries).moment ≤ moment → StandsAt lazy beginning entries
    → StandsAt (answered_late beginning.params.room (desk_of (at_moment moment (reached beginning entries))) caller call lazy).lazy beginning
    (entries ++ late_entry beginning.params.room (reached beginning entries) caller moment call lazy ∷ [])
call_grows beginning entries lazy caller moment call sound less at =
    let params : Params = beginning.params in
    let state : State = reached beginning entries in
    let now : State = at_moment moment state in
    let late : LateStep = answered_late params.room (desk_of now) caller call lazy in
    let law : Step = answered params.room now caller call in
    let entry : Entry = late_entry params.room state caller moment call lazy in
    let is : IsAnswered now call late law = each_stands params.room lazy state moment caller call less at.stands in
    let next : next_state params state entry ≡ record law.state { entries = state.entries + 1 } = behind_late params state caller moment call lazy is.lawful in
    let there : reached beginning (entries ++ entry ∷ []) ≡ record law.state { entries = state.entries + 1 } = reached_push beginning entries entry ∙ next in
    record {
      stands = subst (Stands late.lazy) (sym there) (stands_next late.lazy moment (state.entries + 1) law.state (answered_grows params.room now caller call).moment is.stands);
      looks = all-weaken (IsKnownBy (known_then state moment call late.reply (look_of beginning entries))) (IsKnownBy (look_of beginning (entries ++ entry ∷ [])))
          (λ p looks mark below. look_push beginning entries entry p.view.number mark ∙ looks mark below) late.lazy.objects
          (known_behind_call params.room (desk_of now) state caller call lazy (look_of beginning entries)
          (all_known lazy.issued (look_of beginning entries) lazy.objects at.stands.kept.within at.looks)
          (λ token opened mark. at.unborn token (inr (opened_by state.fetches caller token opened)) mark)
          (λ mark above. unstopped lazy state at.stands.kept mark above));
      unborn = λ number unborn mark.
          let here : IsUnborn (next_state params state entry) number = subst (λ (s : State). IsUnborn s number) (reached_push beginning entries entry) unborn in
          let law_here : IsUnborn law.state number = subst (λ (s : State). IsUnborn s number) next here in
          look_push beginning entries entry number mark
          ∙ ap (λ (k : Option Object). known_by number (is_stopped mark state) moment call late.reply k) (at.unborn number (unborn_before params state entry number here) mark)
          ∙ none_known number (is_stopped mark state) moment call late.reply
          (λ stored e same. not_unborn law.state stored number (late_closes now call late law is (closes_call params.room now (sound_at moment state sound) caller call) stored e) same law_here);
    }

-- ---- a refusal

abbrev refused_entry : ℕ → ℕ → ℕ → Object → Option ℕ → Entry
refused_entry caller moment token object stale = record { caller = caller; moment = moment; call = Insert token object stale; reply = Refused }

pub refusal_grows : (beginning : Beginning) (entries : List Entry) (lazy : Lazy) (caller moment token : ℕ) (object : Object) (stale : Option ℕ) → (reached beginning entries).moment ≤ moment → StandsAt lazy beginning entries
    → StandsAt lazy beginning (entries ++ record { caller = caller; moment = moment; call = Insert token object stale; reply = Refused } ∷ [])
refusal_grows beginning entries lazy caller moment token object stale less at =
    let params : Params = beginning.params in
    let state : State = reached beginning entries in
    let entry : Entry = refused_entry caller moment token object stale in
    record {
      stands = subst (Stands lazy) (sym (reached_push beginning entries entry)) (refused_stands lazy state moment (Insert token object stale) less at.stands);
      looks = all-weaken (IsKnownBy (look_of beginning entries)) (IsKnownBy (look_of beginning (entries ++ entry ∷ []))) (λ p looks mark below. look_push beginning entries entry p.view.number mark ∙ looks mark below) lazy.objects at.looks;
      unborn = λ number unborn mark.
          look_push beginning entries entry number mark
          ∙ at.unborn number (unborn_before params state entry number (subst (λ (s : State). IsUnborn s number) (reached_push beginning entries entry) unborn)) mark;
    }
