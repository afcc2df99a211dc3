-- An entry that fits: it is entered, or may not be answered so.
use Rattle.std.proofs.Common.{◌≡◌, ◌≢◌, ◌⊎◌, inl, inr, ℕ, Bool, true, false, cond, ◌<◌, ◌≤◌, ◌+◌, ◌^◌, List, [], ◌∷◌, ◌++◌, length, refl, arith, sym, ap, ◌∙◌, subst}
use Rattle.std.specs.Prelude.{Option, Some, None}
use Rattle.std.proofs.lemmas.Bool.{false≢true, true≢false, cases_Bool}
use Rattle.cache_law.specs.declared.ban.Issued.{Issued}
use Rattle.cache_law.specs.declared.call.Call.{Call}
use Rattle.cache_law.specs.declared.call.Call.TheVariants.{Insert, BanList, Drop}
use Rattle.cache_law.specs.declared.call.Entry.{Entry}
use Rattle.cache_law.specs.declared.call.Reply.{Reply}
use Rattle.cache_law.specs.declared.call.Reply.TheVariants.{Dropped, NoRoom, NotInTime, NotOpen, Refused, StaleGone, Stored}
use Rattle.cache_law.specs.declared.object.Object.{Object}
use Rattle.cache_law.specs.declared.setting.Params.{Params}
use Rattle.cache_law.specs.Bases.{AreAlike}
use Rattle.cache_law.specs.History.{Fits, Follows, HasWaited, bytes_of, next_state, reached}
use Rattle.cache_law.specs.Law.{IsBanList, MayAnswer, Step, after, closing, handed_over, inserted, leaving, placed, step_of, stored}
use Rattle.cache_law.specs.State.{State, at_moment, has_fetch, is_gone, without_stale}
use Rattle.cache_law.specs.Object.{in_time, size_of}
use Rattle.cache_law.specs.Room.{has_no_room}
use Rattle.cache_law.proofs.AlikeHistories.{follows_alike, reached_alike}
use Rattle.cache_law.proofs.Lawful.{after-listed, lawful_if_not_refused, asks_bans as is_asking}
use Rattle.cache_law.proofs.Leaves.{either}
use Rattle.cache_frame.specs.Framed.{Plain}
use Rattle.cache_frame.specs.Shelves.{entry_of}
use Rattle.journal_text.specs.declared.line.Line.TheVariants as line
use Rattle.journal_text.specs.declared.line.Said.{Said}
use Rattle.journal_text.specs.declared.shown.Shown.{Shown}
use Rattle.journal_text.specs.declared.shown.Shown.TheVariants as shown
use Rattle.journal_text.specs.Grammar.{said_of, shown_of}
use Rattle.audit_laws.specs.declared.kind.Kind.TheVariants as kinds
use Rattle.audit_laws.specs.Faults.{EntryFault, IsLeast, MayNotShow, judged_entry}
use Rattle.audit_laws.specs.Steps.{Within}
use Rattle.journal_audit.specs.declared.fault.Expected.{Expected}
use Rattle.journal_audit.specs.declared.fault.Fault.{Fault}
use Rattle.journal_audit.specs.Following.{HasEntered, IsEntryFault, IsExpected, MayShow}
use Rattle.history_audit.specs.declared.following.Following.{Following}
use Rattle.history_audit.specs.Alongside.{HasJoined, IsAlongside, Stands, issued_of}
use Rattle.history_audit.specs.Listing.{IsListed}
use Rattle.history_audit.specs.Saying.{asks_bans, inserted_token, is_refused, refused_token}
use Rattle.history_audit.proofs.Entering.{along_next, fits_entry, follows_here, reached_new}
use Rattle.history_audit.proofs.Fitting.{later, reply_fault, waited_here}

-- what an entry says
abbrev pub said_by : ℕ → ℕ → Call → Shown → Said
said_by caller moment call reply = record { caller = caller; moment = moment; call = call; reply = reply }

asking : (call : Call) → asks_bans call ≡ false → is_asking call ≡ false
asking BanList other = absurd (true≢false other)
asking call other = refl

pub asked_is : (call : Call) → asks_bans call ≡ true → call ≡ BanList
asked_is BanList asked = refl
asked_is call asked = absurd (false≢true asked)

-- ---- a call that has one answer

-- an answer that is shown as no refused insertion is the law's
law_answer : (state : State) (call : Call) (law answer : Reply) (reply : Shown) → asks_bans call ≡ false → refused_token call reply ≡ None → shown_of answer ≡ reply → MayAnswer state call law answer → answer ≡ law
law_answer state (Insert token object stale) law answer reply other kept is (inl same) = same
law_answer state (Insert token object stale) law answer reply other kept is (inr free) =
    let refusal : shown.Refused ≡ reply = ap shown_of (sym free.0) ∙ is in
    let taken : Some token ≡ None = ap (λ (r : Shown). refused_token (Insert token object stale) r) refusal ∙ kept in
    let no : ⊥ = cc in
    absurd no
law_answer state BanList law answer reply other kept is may = absurd (true≢false other)
law_answer state call law answer reply other kept is may = may

module _ (old new : Plain) (spent : ℕ) (bans : List Issued) (params : Params) (state : State) (used : ℕ) (along : IsAlongside old spent bans params state used) (caller moment : ℕ) (call : Call) (reply : Shown) (told : Reply)
    (joins : HasJoined old new caller moment call told) (fits : Fits params state used (judged_entry params state (said_by caller moment call reply))) where
  follows_state : Follows params state (entry_of caller moment call told)
  follows_state = follows_alike params (reached old.beginning old.entries) state (entry_of caller moment call told) along.alike (follows_here old new spent bans params state used along caller moment call told joins)

  alike_state : AreAlike (reached new.beginning new.entries) (next_state params state (entry_of caller moment call told))
  alike_state =
      subst (λ (s : State). AreAlike s (next_state params state (entry_of caller moment call told))) (sym (reached_new old new spent bans params state used along caller moment call told joins))
      (reached_alike params (reached old.beginning old.entries) state (entry_of caller moment call told ∷ []) along.alike (follows_here old new spent bans params state used along caller moment call told joins, tt))

  -- it is entered where it is shown so
  pub compared : (next : Following) → next.core ≡ new → shown_of told ≡ reply → next.bans.items ≡ issued_of call moment (length bans) ++ bans → next.used ≡ used + bytes_of call
      → HasEntered Stands params state used (said_by caller moment call reply) next
  compared next core is notes spends =
      let says : said_of (entry_of caller moment call told) ≡ said_by caller moment call reply = ap (λ (r : Shown). said_by caller moment call r) is in
      record {
        entry = entry_of caller moment call told;
        says = says;
        follows = follows_state;
        fits = fits_entry old new spent bans params state used along (said_by caller moment call reply) (entry_of caller moment call told) says follows_state fits;
        behind = subst (λ (c : Plain). IsAlongside c next.used next.bans.items params (next_state params state (entry_of caller moment call told)) (used + bytes_of call)) (sym core)
            (along_next old new spent bans params state used along (entry_of caller moment call told) next.used next.bans.items joins.same alike_state follows_state.answer notes spends);
      }

  -- it may be given
  pub may_show : MayShow params state (said_by caller moment call reply) (shown_of told)
  may_show = record { reply = told; may = follows_state.answer; shows = refl }

  -- no answer is shown so
  pub other_shown : asks_bans call ≡ false → refused_token call reply ≡ None → told ≢ Refused → shown_of told ≢ reply → MayNotShow params state (said_by caller moment call reply)
  other_shown other kept no_refusal differs answer may is =
      let law : Reply = (step_of params state caller moment call).reply in
      let told_law : told ≡ law = lawful_if_not_refused (at_moment moment state) call law told (asking call other) follows_state.answer no_refusal in
      let answer_law : answer ≡ law = law_answer (at_moment moment state) call law answer reply other kept is may in
      differs (ap shown_of (told_law ∙ sym answer_law) ∙ is)

  -- ---- a list of bans
  pub listed : (next : Following) → call ≡ BanList → next.core ≡ new → IsListed (at_moment moment state) reply → next.bans.items ≡ bans → next.used ≡ used + bytes_of call
      → HasEntered Stands params state used (said_by caller moment call reply) next
  listed next asked core list keeps spends =
      let own : Entry = entry_of caller moment call list.listed in
      let says : said_of own ≡ said_by caller moment call reply = ap (λ (r : Shown). said_by caller moment call r) list.shown in
      let answers : MayAnswer (at_moment moment state) call (step_of params state caller moment call).reply list.listed =
      subst (λ (c : Call). MayAnswer (at_moment moment state) c (step_of params state caller moment c).reply list.listed) (sym asked) list.allowed in
      let follows : Follows params state own = record { no_earlier = follows_state.no_earlier; waited = follows_state.waited; answer = answers } in
      let told_list : IsBanList (at_moment moment state) told = subst (λ (c : Call). MayAnswer (at_moment moment state) c (step_of params state caller moment c).reply told) asked follows_state.answer in
      let same : next_state params state (entry_of caller moment call told) ≡ next_state params state own =
      ap (λ (c : Call). after params state caller moment c told) asked
      ∙ (after-listed params state caller moment told told_list
      ∙ (sym (after-listed params state caller moment list.listed list.allowed) ∙ ap (λ (c : Call). after params state caller moment c list.listed) (sym asked))) in
      let none : issued_of call moment (length bans) ≡ [] = ap (λ (c : Call). issued_of c moment (length bans)) asked in
      record {
        entry = own;
        says = says;
        follows = follows;
        fits = fits_entry old new spent bans params state used along (said_by caller moment call reply) own says follows fits;
        behind = subst (λ (c : Plain). IsAlongside c next.used next.bans.items params (next_state params state own) (used + bytes_of call)) (sym core)
            (along_next old new spent bans params state used along own next.used next.bans.items joins.same (subst (λ (s : State). AreAlike (reached new.beginning new.entries) s) same alike_state) answers
            (keeps ∙ ap (λ (b : List Issued). b ++ bans) (sym none)) spends);
      }

-- ---- a refused insertion

-- what the call is
pub record IsInsertion (call : Call) (reply : Shown) (token : ℕ) : Type 0 where
  pub object : Object
  pub stale : Option ℕ
  pub is : call ≡ Insert token object stale
  pub shown : reply ≡ shown.Refused

refused_reply : (reply : Shown) → is_refused reply ≡ true → reply ≡ shown.Refused
refused_reply shown.Refused e = refl
refused_reply reply e = absurd (false≢true e)

inserted_is : (call : Call) (reply : Shown) (token : ℕ) → reply ≡ shown.Refused → inserted_token call ≡ Some token → IsInsertion call reply token
inserted_is (Insert own object stale) reply token is e =
    let same : own ≡ token = cc in
    record { object = object; stale = stale; is = ap (λ (t : ℕ). Insert t object stale) same; shown = is }
inserted_is call reply token is e = let no : ⊥ = cc in absurd no

by_refusal : (call : Call) (reply : Shown) (token : ℕ) (refusal : Bool) → refusal ≡ is_refused reply → cond refusal (inserted_token call) None ≡ Some token → IsInsertion call reply token
by_refusal call reply token true says e = inserted_is call reply token (refused_reply reply (sym says)) e
by_refusal call reply token false says e = let no : ⊥ = cc in absurd no

pub insertion_of : (call : Call) (reply : Shown) (token : ℕ) → refused_token call reply ≡ Some token → IsInsertion call reply token
insertion_of call reply token e = by_refusal call reply token (is_refused reply) refl e

-- the drop of an open fetch is answered so, and no other one
was_open : (state : State) (token : ℕ) (opened : Bool) → (cond opened (closing token state Dropped) (leaving state NotOpen)).reply ≡ Dropped → opened ≡ true
was_open state token true e = refl
was_open state token false e = let no : ⊥ = cc in absurd no

was_shut : (state : State) (token : ℕ) (opened : Bool) → (cond opened (closing token state Dropped) (leaving state NotOpen)).reply ≢ Dropped → opened ≡ false
was_shut state token true other = absurd (other refl)
was_shut state token false other = refl

-- an insertion of an open fetch isn't answered that it isn't open
never_open_gone : StaleGone ≢ NotOpen
never_open_gone e = cc

never_open_late : NotInTime ≢ NotOpen
never_open_late e = cc

never_open_full : NoRoom ≢ NotOpen
never_open_full e = cc

never_open_stored : (number : ℕ) → Stored number ≢ NotOpen
never_open_stored number e = cc

abbrev IsOther : Step → Type 0
IsOther step = step.reply ≢ NotOpen

open_answers : (room : ℕ) (state : State) (caller token : ℕ) (object : Object) (stale : Option ℕ) → has_fetch state.fetches caller token ≡ true → (inserted room state caller token object stale).reply ≢ NotOpen
open_answers room state caller token object stale opened =
    subst (λ (b : Bool). (cond b (handed_over room state token object stale) (leaving state NotOpen)).reply ≢ NotOpen) (sym opened)
    (either IsOther (is_gone stale state.objects) (leaving state StaleGone) (placed room state token object stale) never_open_gone
    (either IsOther (in_time state.moment object) (cond (has_no_room room (size_of object) (without_stale stale state.objects)) (closing token state NoRoom) (stored room state token object stale)) (closing token state NotInTime)
    (either IsOther (has_no_room room (size_of object) (without_stale stale state.objects)) (closing token state NoRoom) (stored room state token object stale) never_open_full (never_open_stored token)) never_open_late))

shut_answers : (room : ℕ) (state : State) (caller token : ℕ) (object : Object) (stale : Option ℕ) → has_fetch state.fetches caller token ≡ false → (inserted room state caller token object stale).reply ≡ NotOpen
shut_answers room state caller token object stale shut = ap (λ (b : Bool). (cond b (handed_over room state token object stale) (leaving state NotOpen)).reply) shut

-- the drop of an open fetch leaves what its refused insertion leaves
drop_refuses : (params : Params) (state : State) (caller moment token : ℕ) (object : Object) (stale : Option ℕ) → has_fetch state.fetches caller token ≡ true
    → after params state caller moment (Drop token) Dropped ≡ after params state caller moment (Insert token object stale) Refused
drop_refuses params state caller moment token object stale opened =
    ap (λ (b : Bool). record (cond b (closing token (at_moment moment state) Dropped) (leaving (at_moment moment state) NotOpen)).state { entries = state.entries + 1 }) opened

module _ (old new : Plain) (spent : ℕ) (bans : List Issued) (params : Params) (state : State) (used : ℕ) (along : IsAlongside old spent bans params state used) (caller moment token : ℕ) (told : Reply)
    (joins : HasJoined old new caller moment (Drop token) told) where
  dropped_here : Follows params (reached old.beginning old.entries) (entry_of caller moment (Drop token) told)
  dropped_here = follows_here old new spent bans params state used along caller moment (Drop token) told joins

  same_fetch : has_fetch (reached old.beginning old.entries).fetches caller token ≡ has_fetch state.fetches caller token
  same_fetch = let alike = along.alike in ap (λ (s : State). has_fetch s.fetches caller token) alike.rest

  pub refused_so : (call : Call) (reply : Shown) (next : Following) → IsInsertion call reply token → Fits params state used (judged_entry params state (said_by caller moment call reply)) → told ≡ Dropped → next.core ≡ new → next.bans.items ≡ bans
      → next.used ≡ used + bytes_of call → HasEntered Stands params state used (said_by caller moment call reply) next
  refused_so call reply next insertion fits dropped core keeps spends =
      let less : State = reached old.beginning old.entries in
      let opened : has_fetch less.fetches caller token ≡ true = was_open (at_moment moment less) token (has_fetch less.fetches caller token) (sym dropped_here.answer ∙ dropped) in
      let insert : Call = Insert token insertion.object insertion.stale in
      let own : Entry = entry_of caller moment call Refused in
      let says : said_of own ≡ said_by caller moment call reply = ap (λ (r : Shown). said_by caller moment call r) (sym insertion.shown) in
      let order : state.moment ≤ moment = later old spent params state used (said_by caller moment call reply) along.limits along.alike along.spent_is dropped_here.no_earlier in
      let May : State → Call → Type 0 = λ (s : State) (c : Call). MayAnswer (at_moment moment s) c (step_of params s caller moment c).reply Refused in
      let may_less : May less insert = inr (refl, open_answers params.room (at_moment moment less) caller token insertion.object insertion.stale opened) in
      let may_state : May state insert = inr (refl, open_answers params.room (at_moment moment state) caller token insertion.object insertion.stale (sym same_fetch ∙ opened)) in
      let answers : May state call = subst (λ (c : Call). May state c) (sym insertion.is) may_state in
      let waits : HasWaited state caller call = subst (λ (c : Call). HasWaited state caller c) (sym insertion.is) tt in
      let follows : Follows params state own = record { no_earlier = order; waited = waits; answer = answers } in
      let follows_less : Follows params less (entry_of caller moment insert Refused) = record { no_earlier = dropped_here.no_earlier; waited = tt; answer = may_less } in
      let nexts : AreAlike (next_state params less (entry_of caller moment insert Refused)) (next_state params state (entry_of caller moment insert Refused)) =
      reached_alike params less state (entry_of caller moment insert Refused ∷ []) along.alike (follows_less, tt) in
      let reach : reached new.beginning new.entries ≡ next_state params less (entry_of caller moment insert Refused) =
      reached_new old new spent bans params state used along caller moment (Drop token) told joins
      ∙ (ap (λ (r : Reply). after params less caller moment (Drop token) r) dropped ∙ drop_refuses params less caller moment token insertion.object insertion.stale opened) in
      let alike : AreAlike (reached new.beginning new.entries) (next_state params state own) =
      subst (λ (c : Call). AreAlike (reached new.beginning new.entries) (next_state params state (entry_of caller moment c Refused))) (sym insertion.is)
      (subst (λ (s : State). AreAlike s (next_state params state (entry_of caller moment insert Refused))) (sym reach) nexts) in
      let none : issued_of call moment (length bans) ≡ [] = ap (λ (c : Call). issued_of c moment (length bans)) insertion.is in
      record {
        entry = own;
        says = says;
        follows = follows;
        fits = fits_entry old new spent bans params state used along (said_by caller moment call reply) own says follows fits;
        behind = subst (λ (c : Plain). IsAlongside c next.used next.bans.items params (next_state params state own) (used + bytes_of call)) (sym core)
            (along_next old new spent bans params state used along own next.used next.bans.items joins.same alike answers (keeps ∙ ap (λ (b : List Issued). b ++ bans) (sym none)) spends);
      }

  -- the law's answer to an insertion of a fetch that isn't open
  law_not_open : (object : Object) (stale : Option ℕ) → told ≢ Dropped → (step_of params state caller moment (Insert token object stale)).reply ≡ NotOpen
  law_not_open object stale other =
      let less : State = reached old.beginning old.entries in
      let fails : (cond (has_fetch less.fetches caller token) (closing token (at_moment moment less) Dropped) (leaving (at_moment moment less) NotOpen)).reply ≢ Dropped = λ e. other (dropped_here.answer ∙ e) in
      let shut : has_fetch less.fetches caller token ≡ false = was_shut (at_moment moment less) token (has_fetch less.fetches caller token) fails in
      shut_answers params.room (at_moment moment state) caller token object stale (sym same_fetch ∙ shut)

  -- that it isn't open may be told of the insertion
  pub not_open : (call : Call) (reply : Shown) → IsInsertion call reply token → told ≢ Dropped → MayShow params state (said_by caller moment call reply) shown.NotOpen
  not_open call reply insertion other =
      let law : Reply = (step_of params state caller moment (Insert token insertion.object insertion.stale)).reply in
      let here : MayAnswer (at_moment moment state) (Insert token insertion.object insertion.stale) law NotOpen = inl (sym (law_not_open insertion.object insertion.stale other)) in
      record {
        reply = NotOpen;
        may = subst (λ (c : Call). MayAnswer (at_moment moment state) c (step_of params state caller moment c).reply NotOpen) (sym insertion.is) here;
        shows = refl;
      }

  no_refused : (answer law : Reply) → law ≡ NotOpen → (answer ≡ law) ⊎ ((answer ≡ Refused) × (law ≢ NotOpen)) → shown_of answer ≢ shown.Refused
  no_refused answer law shut (inl same) is =
      let not_open : shown.NotOpen ≡ shown.Refused = ap shown_of (sym (same ∙ shut)) ∙ is in
      cc
  no_refused answer law shut (inr free) is = free.1 shut

  pub not_refused : (call : Call) (reply : Shown) → IsInsertion call reply token → told ≢ Dropped → MayNotShow params state (said_by caller moment call reply)
  not_refused call reply insertion other answer may is =
      let insert : Call = Insert token insertion.object insertion.stale in
      let law : Reply = (step_of params state caller moment insert).reply in
      let here : MayAnswer (at_moment moment state) insert law answer = subst (λ (c : Call). MayAnswer (at_moment moment state) c (step_of params state caller moment c).reply answer) insertion.is may in
      no_refused answer law (law_not_open insertion.object insertion.stale other) here (is ∙ insertion.shown)

-- ---- the fault that is told

module _ (old : Plain) (spent : ℕ) (bans : List Issued) (params : Params) (state : State) (used : ℕ) (along : IsAlongside old spent bans params state used) (said : Said) where
  pub told_wrong : (reached old.beginning old.entries).moment ≤ said.moment → HasWaited (reached old.beginning old.entries) said.caller said.call → Fits params state used (judged_entry params state said) → MayNotShow params state said
      → IsLeast (EntryFault params state used said) kinds.Reply
  told_wrong order waited fits other =
      reply_fault params state used said (later old spent params state used said along.limits along.alike along.spent_is order) (waited_here old spent params state used said along.limits along.alike along.spent_is waited) fits other

  -- the same, and what was expected
  pub otherwise : (fault : Fault) (expected_ : Expected) → fault ≡ record { kind = kinds.Reply; expected = expected_ } → (reached old.beginning old.entries).moment ≤ said.moment
      → HasWaited (reached old.beginning old.entries) said.caller said.call → Fits params state used (judged_entry params state said) → MayNotShow params state said
      → IsExpected expected_ (Within params state used) (line.Entry said) → IsEntryFault params state used said fault
  otherwise fault expected_ is order waited fits other expects =
      subst (λ (f : Fault). IsEntryFault params state used said f) (sym is) (record { least = told_wrong order waited fits other; expects = expects })

  -- a list that may not be given
  pub not_listed : said.call ≡ BanList → ((answer : Reply) → IsBanList (at_moment said.moment state) answer → shown_of answer ≢ said.reply) → MayNotShow params state said
  not_listed asked none answer may is =
      none answer (subst (λ (c : Call). MayAnswer (at_moment said.moment state) c (step_of params state said.caller said.moment c).reply answer) asked may) is

pub waited_for : (state : State) (caller : ℕ) (call : Call) → call ≡ BanList → HasWaited state caller call
waited_for state caller call asked = subst (λ (c : Call). HasWaited state caller c) (sym asked) tt
