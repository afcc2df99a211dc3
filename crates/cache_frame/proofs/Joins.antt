-- The desk and the shelf stand for what an answer leaves.
use Rattle.std.proofs.Common.{◌≡◌, ◌≢◌, ◌≤◌, ◌+◌, ◌++◌, ◌∷◌, ℕ, Bool, true, false, cond, List, [], Option, Some, None, inl, inr, refl, sym, ap, ◌∙◌, subst}
use Rattle.std.proofs.lemmas.Bool.{cond-true, cond-false, false≢true}
use Rattle.cache_law.specs.declared.object.Object.{Object}
use Rattle.cache_law.specs.declared.ban.Ban.{Ban}
use Rattle.cache_law.specs.declared.ban.BanLine.{BanLine}
use Rattle.cache_law.specs.declared.call.Query.{Query}
use Rattle.cache_law.specs.declared.call.Call.{Call}
use Rattle.cache_law.specs.declared.call.Call.TheVariants as calls
use Rattle.cache_law.specs.declared.call.Entry.{Entry}
use Rattle.cache_law.specs.declared.call.Reply.{Reply}
use Rattle.cache_law.specs.declared.call.Reply.TheVariants as replies
use Rattle.cache_law.specs.Object.{in_time, size_of}
use Rattle.cache_law.specs.Room.{has_no_room}
use Rattle.cache_law.specs.State.{State, at_moment, has_fetch, has_round, is_gone, those_in_time, with_wait, without_fetch, without_stale}
use Rattle.cache_law.specs.Law.{Step, MayAnswer, answered, behind, inserted, leaving, looked_up, missed, refused, remembered, step_of, wait_in}
use Rattle.cache_law.specs.Beginning.{Beginning}
use Rattle.cache_law.specs.History.{next_state, reached}
use Rattle.cache_law.proofs.Growth.{after_grows, behind_either}
use Rattle.cache_law.proofs.Lawful.{is_refusal, behind_lawful}
use Rattle.cache_law.proofs.Leaves as leaves
use Rattle.cache_desk.specs.declared.answer.Answer.{Answer}
use Rattle.cache_frame.specs.declared.finding.Finding.{Finding}
use Rattle.cache_frame.specs.declared.finding.Finding.TheVariants.{Hit, HitMiss, HitPass, Grace, GraceAlone, Wait, Miss}
use Rattle.cache_frame.specs.declared.finding.Found.{Found}
use Rattle.cache_frame.specs.declared.seen.Placing.{Placing}
use Rattle.cache_frame.specs.declared.seen.Placing.TheVariants.{Refused}
use Rattle.cache_desk.specs.Desk.{DeskState, bare}
use Rattle.cache_frame.specs.Found.{AreMarks, Finds, Takes, opens_fetch, reply_of, told_so, use_in}
use Rattle.cache_desk.specs.Opening.{next_after, opened_for}
use Rattle.cache_frame.specs.Framed.{StandFor}
use Rattle.cache_frame.specs.Shelves.{AreShown, MovesOn, Places, is_beside, StandsBeside, Tells, entry_of, reply_of_placing}
use Rattle.cache_frame.specs.Step.{Answered, IsRefusal, Joined}
use Rattle.cache_desk.specs.Answers.{Answers}
use Rattle.cache_desk.specs.Stock.{stock_of, without_stock}
use Rattle.cache_frame.proofs.Beside.{beside, beside_call, behind_map, desk_told, is_desk_call, refused_bare, refused_stock}

-- the desk's entry is counted
pub counted_desk : (old new : DeskState) (state next : State) → bare old ≡ without_stock state → bare new ≡ without_stock next → bare (record new { entries = old.entries + 1 }) ≡ without_stock (record next { entries = state.entries + 1 })
counted_desk old new state next o n =
    ap (λ (s : State). record s { entries = old.entries + 1 }) n ∙ ap (λ (k : ℕ). record (without_stock next) { entries = k + 1 }) (ap (λ (s : State). s.entries) o)

-- nothing but the moment has changed on the desk
passed_desk : (old : DeskState) (now : ℕ) (state next : State) → bare old ≡ without_stock state → without_stock next ≡ without_stock (at_moment now state) → bare (record old { moment = now }) ≡ without_stock next
passed_desk old now state next o same = ap (at_moment now) o ∙ sym same

-- a fetch was closed
closed_desk : (old : DeskState) (now token : ℕ) (state next : State) → bare old ≡ without_stock state → without_stock next ≡ without_stock (record (at_moment now state) { fetches = without_fetch token state.fetches })
    → bare (record old { moment = now; fetches = without_fetch token old.fetches }) ≡ without_stock next
closed_desk old now token state next o same = ap (λ (s : State). record s { moment = now; fetches = without_fetch token s.fetches }) o ∙ sym same

same_fetches : (old : DeskState) (state : State) → bare old ≡ without_stock state → (caller token : ℕ) (b : Bool) → has_fetch old.fetches caller token ≡ b → has_fetch state.fetches caller token ≡ b
same_fetches old state o caller token b e = ap (λ (s : State). has_fetch s.fetches caller token) (sym o) ∙ e

-- ---- replies of the law

-- an insertion of an open fetch isn't answered that it isn't open
pub other_reply : (room : ℕ) (state : State) (caller token : ℕ) (object : Object) (stale : Option ℕ) → has_fetch state.fetches caller token ≡ true → (inserted room state caller token object stale).reply ≢ replies.NotOpen
other_reply room state caller token object stale opened =
    subst (λ (s : Step). s.reply ≢ replies.NotOpen) (sym (cond-true _ _ _ opened))
    (leaves.either (λ (s : Step). s.reply ≢ replies.NotOpen) (is_gone stale state.objects) _ _ (λ e. cc)
    (leaves.either (λ (s : Step). s.reply ≢ replies.NotOpen) (in_time state.moment object) _ _
    (leaves.either (λ (s : Step). s.reply ≢ replies.NotOpen) (has_no_room room (size_of object) (without_stale stale state.objects)) _ _ (λ e. cc) (λ e. cc)) (λ e. cc)))

-- an insertion that is placed or isn't closes its fetch
placed_desk : (room : ℕ) (state : State) (caller token : ℕ) (object : Object) (stale : Option ℕ) → has_fetch state.fetches caller token ≡ true → is_gone stale state.objects ≡ false
    → without_stock (inserted room state caller token object stale).state ≡ without_stock (record state { fetches = without_fetch token state.fetches })
placed_desk room state caller token object stale opened here =
    subst (λ (s : Step). without_stock s.state ≡ without_stock (record state { fetches = without_fetch token state.fetches })) (sym (cond-true _ _ _ opened ∙ cond-false _ _ _ here))
    (leaves.either (λ (s : Step). without_stock s.state ≡ without_stock (record state { fetches = without_fetch token state.fetches })) (in_time state.moment object) _ _
    (leaves.either (λ (s : Step). without_stock s.state ≡ without_stock (record state { fetches = without_fetch token state.fetches })) (has_no_room room (size_of object) (without_stale stale state.objects)) _ _ refl refl) refl)

pub no_refusal : (token : ℕ) (finding : Finding) → is_refusal (reply_of token finding) ≡ false
no_refusal token (Hit view) = refl
no_refusal token (HitMiss number) = refl
no_refusal token (HitPass number) = refl
no_refusal token (Grace view) = refl
no_refusal token (GraceAlone view) = refl
no_refusal token (Wait other) = refl
no_refusal token (Miss stale) = refl

missed_by : (state : State) (caller : ℕ) (key : List (List ℕ)) (misses : Bool) (other : Step) → misses ≡ true → stock_of (remembered caller (cond misses (missed state caller key None) other)).state ≡ stock_of state
missed_by state caller key true other e = refl
missed_by state caller key false other e = absurd (false≢true e)

-- a lookup that misses always leaves the objects as they are
missed_stock : (state : State) (caller : ℕ) (query : Query) → query.options.always_miss ≡ true → stock_of (looked_up state caller query).state ≡ stock_of state
missed_stock state caller query misses =
    leaves.either (λ (s : Step). stock_of s.state ≡ stock_of state) (has_round state.rounds caller) _ _ (missed_by state caller query.key query.options.always_miss _ misses) refl

-- its shelf isn't asked then
beside_lookup : (query : Query) (reply : Reply) → query.options.always_miss ≡ true → is_beside (calls.Lookup query) reply ≡ true
beside_lookup query replies.NoRound misses = refl
beside_lookup query reply misses = misses

-- ---- the desk and the shelf

module _ {S : Type 0} (Stands : S → Beginning → List Entry → Type 0) (room : ℕ) (old new : DeskState) (caller now : ℕ) where
  -- a call of the desk's own
  pub desk_joins : (shelf : S) → StandsBeside Stands shelf → (call : Call) (answer : Answer) → is_desk_call call ≡ true
      → Answers (bare old) (bare new) now call (answered room (at_moment now (bare old)) caller call) answer → Answered Stands room old shelf new shelf caller now call answer
  desk_joins shelf rests call answer one answers beginning entries is_room stands later =
      let state : State = reached beginning entries in
      let here : State = at_moment now state in
      let told : Reply = answer.told in
      let law : Step = step_of beginning.params state caller now call in
      let next : State = behind told (refused here call) law.state in
      let side = beside beginning.params.room here caller call one in
      let so : Answers (without_stock state) (bare new) now call (answered beginning.params.room (without_stock here) caller call) answer =
      subst (λ (s : State). Answers s (bare new) now call (answered beginning.params.room (at_moment now s) caller call) answer) stands.desk
      (subst (λ (r : ℕ). Answers (bare old) (bare new) now call (answered r (at_moment now (bare old)) caller call) answer) (sym is_room) answers) in
      let left : bare new ≡ without_stock next =
      ap (λ (m : ℕ). bare (record new { moment = m })) so.moment
      ∙ so.leaves
      ∙ ap (λ (s : Step). at_moment now (behind told (refused (without_stock here) call) s.state)) side.bare_
      ∙ ap (λ (s : State). at_moment now (behind told s (without_stock law.state))) (refused_bare here call)
      ∙ ap (at_moment now) (sym (behind_map without_stock told (refused here call) law.state))
      ∙ ap (λ (m : ℕ). record (without_stock next) { moment = m }) (sym (after_grows beginning.params state caller now call told).moment) in
      record {
        twice = answers.twice;
        allows = desk_told (without_stock here) here call law.reply told one (subst (λ (s : Step). MayAnswer (without_stock here) call s.reply told) side.bare_ so.allows);
        desk = counted_desk old new state next stands.desk left;
        shelf = rests beginning entries (entry_of caller now call told) stands.sound stands.shelf later (beside_call call told one)
            (behind_either (λ (s : State). stock_of s ≡ stock_of here) told (refused here call) law.state (refused_stock here call) side.stock);
      }

  -- by the reply that was answered, and what is on the desk then
  joined_by : (shelf_ : S) (call : Call) (reply : Reply) (answer : Answer) (beginning : Beginning) (entries : List Entry) (desk_ : DeskState) → new ≡ desk_ → answer.told ≡ reply → answer.kept ≡ reply
      → MayAnswer (at_moment now (reached beginning entries)) call (step_of beginning.params (reached beginning entries) caller now call).reply reply
      → bare (record desk_ { entries = old.entries + 1 }) ≡ without_stock (next_state beginning.params (reached beginning entries) (entry_of caller now call reply))
      → Stands shelf_ beginning (entries ++ entry_of caller now call reply ∷ []) → Joined Stands old.entries new shelf_ beginning entries caller now call answer
  joined_by shelf_ call reply answer beginning entries desk_ is_ told kept may desk stands =
      record {
        twice = kept ∙ sym told;
        allows = subst (MayAnswer (at_moment now (reached beginning entries)) call (step_of beginning.params (reached beginning entries) caller now call).reply) (sym told) may;
        desk = ap (λ (d : DeskState). bare (record d { entries = old.entries + 1 })) is_
            ∙ desk
            ∙ ap (λ (r : Reply). without_stock (next_state beginning.params (reached beginning entries) (entry_of caller now call r))) (sym told);
        shelf = subst (λ (r : Reply). Stands shelf_ beginning (entries ++ entry_of caller now call r ∷ [])) (sym told) stands;
      }

  -- a ban, and a purge
  pub ban_joins : (shelf shelf_ : S) (ban : Ban) (answer : Answer) → new ≡ record old { moment = now } → answer.told ≡ replies.Banned → answer.kept ≡ replies.Banned
      → MovesOn Stands shelf shelf_ now (calls.Ban ban) replies.Banned → Answered Stands room old shelf new shelf_ caller now (calls.Ban ban) answer
  ban_joins shelf shelf_ ban answer passes told kept moves beginning entries is_room stands later =
      let state : State = reached beginning entries in
      let joins = moves beginning entries caller stands.sound stands.shelf later in
      joined_by shelf_ (calls.Ban ban) replies.Banned answer beginning entries (record old { moment = now }) passes told kept joins.allows
      (counted_desk old (record old { moment = now }) state (step_of beginning.params state caller now (calls.Ban ban)).state stands.desk (passed_desk old now state (step_of beginning.params state caller now (calls.Ban ban)).state stands.desk refl)) joins.stands

  pub purge_joins : (shelf shelf_ : S) (key : List (List ℕ)) (count : ℕ) (answer : Answer) → new ≡ record old { moment = now } → answer.told ≡ replies.Purged count → answer.kept ≡ replies.Purged count
      → MovesOn Stands shelf shelf_ now (calls.Purge key) (replies.Purged count) → Answered Stands room old shelf new shelf_ caller now (calls.Purge key) answer
  purge_joins shelf shelf_ key count answer passes told kept moves beginning entries is_room stands later =
      let state : State = reached beginning entries in
      let joins = moves beginning entries caller stands.sound stands.shelf later in
      joined_by shelf_ (calls.Purge key) (replies.Purged count) answer beginning entries (record old { moment = now }) passes told kept joins.allows
      (counted_desk old (record old { moment = now }) state (step_of beginning.params state caller now (calls.Purge key)).state stands.desk (passed_desk old now state (step_of beginning.params state caller now (calls.Purge key)).state stands.desk refl)) joins.stands

  pub xkey_joins : (shelf shelf_ : S) (keys : List (List ℕ)) (soft : Bool) (count : ℕ) (answer : Answer) → new ≡ record old { moment = now } → answer.told ≡ replies.Purged count → answer.kept ≡ replies.Purged count
      → MovesOn Stands shelf shelf_ now (calls.Xkey keys soft) (replies.Purged count) → Answered Stands room old shelf new shelf_ caller now (calls.Xkey keys soft) answer
  xkey_joins shelf shelf_ keys soft count answer passes told kept moves beginning entries is_room stands later =
      let state : State = reached beginning entries in
      let joins = moves beginning entries caller stands.sound stands.shelf later in
      joined_by shelf_ (calls.Xkey keys soft) (replies.Purged count) answer beginning entries (record old { moment = now }) passes told kept joins.allows
      (counted_desk old (record old { moment = now }) state (step_of beginning.params state caller now (calls.Xkey keys soft)).state stands.desk (passed_desk old now state (step_of beginning.params state caller now (calls.Xkey keys soft)).state stands.desk refl)) joins.stands

  -- an answer that leaves all but the moment as it is
  pub stays_joined : (shelf : S) → StandsBeside Stands shelf → (call : Call) (reply : Reply) (answer : Answer) (beginning : Beginning) (entries : List Entry) → new ≡ record old { moment = now } → answer.told ≡ reply → answer.kept ≡ reply
      → is_beside call reply ≡ true → is_refusal reply ≡ false → StandFor Stands old shelf beginning entries → (reached beginning entries).moment ≤ now
      → MayAnswer (at_moment now (reached beginning entries)) call (step_of beginning.params (reached beginning entries) caller now call).reply reply
      → (step_of beginning.params (reached beginning entries) caller now call).state ≡ at_moment now (reached beginning entries)
      → Joined Stands old.entries new shelf beginning entries caller now call answer
  stays_joined shelf rests call reply answer beginning entries passes told kept side lawful stands later may same =
      let state : State = reached beginning entries in
      let here : State = at_moment now state in
      let law : Step = step_of beginning.params state caller now call in
      let next : behind reply (refused here call) law.state ≡ here = behind_lawful reply (refused here call) law.state lawful ∙ same in
      joined_by shelf call reply answer beginning entries (record old { moment = now }) passes told kept may
      (counted_desk old (record old { moment = now }) state (behind reply (refused here call) law.state) stands.desk (passed_desk old now state (behind reply (refused here call) law.state) stands.desk (ap without_stock next)))
      (rests beginning entries (entry_of caller now call reply) stands.sound stands.shelf later side (ap stock_of next))

  -- the bans are listed
  pub list_joins : (shelf : S) → StandsBeside Stands shelf → (lines : List BanLine) (answer : Answer) → new ≡ record old { moment = now } → answer.told ≡ replies.Bans lines → answer.kept ≡ replies.Bans lines
      → Tells Stands shelf now (AreShown lines) → Answered Stands room old shelf new shelf caller now calls.BanList answer
  list_joins shelf rests lines answer passes told kept tells beginning entries is_room stands later =
      stays_joined shelf rests calls.BanList (replies.Bans lines) answer beginning entries passes told kept refl refl stands later (tells beginning entries stands.sound stands.shelf later) refl

  -- the fetch isn't open, or the stale object is gone
  pub inserts_not : (shelf : S) → StandsBeside Stands shelf → (token : ℕ) (object : Object) (stale : Option ℕ) (answer : Answer) → has_fetch old.fetches caller token ≡ false → new ≡ record old { moment = now } → answer.told ≡ replies.NotOpen → answer.kept ≡ replies.NotOpen
      → Answered Stands room old shelf new shelf caller now (calls.Insert token object stale) answer
  inserts_not shelf rests token object stale answer closed passes told kept beginning entries is_room stands later =
      let state : State = reached beginning entries in
      let is_ : inserted beginning.params.room (at_moment now state) caller token object stale ≡ leaving (at_moment now state) replies.NotOpen = cond-false _ _ _ (same_fetches old state stands.desk caller token false closed) in
      stays_joined shelf rests (calls.Insert token object stale) replies.NotOpen answer beginning entries passes told kept refl refl stands later
      (inl (sym (ap (λ (s : Step). s.reply) is_))) (ap (λ (s : Step). s.state) is_)

  pub stale_gone : (shelf : S) → StandsBeside Stands shelf → (token : ℕ) (object : Object) (stale : Option ℕ) (gone : Bool) (answer : Answer) → has_fetch old.fetches caller token ≡ true → gone ≡ true
      → Tells Stands shelf now (λ state. gone ≡ is_gone stale state.objects) → new ≡ record old { moment = now } → answer.told ≡ replies.StaleGone → answer.kept ≡ replies.StaleGone
      → Answered Stands room old shelf new shelf caller now (calls.Insert token object stale) answer
  stale_gone shelf rests token object stale gone answer opened yes_ tells passes told kept beginning entries is_room stands later =
      let state : State = reached beginning entries in
      let is_ : inserted beginning.params.room (at_moment now state) caller token object stale ≡ leaving (at_moment now state) replies.StaleGone =
      cond-true _ _ _ (same_fetches old state stands.desk caller token true opened) ∙ cond-true _ _ _ (sym (tells beginning entries stands.sound stands.shelf later) ∙ yes_) in
      stays_joined shelf rests (calls.Insert token object stale) replies.StaleGone answer beginning entries passes told kept refl refl stands later
      (inl (sym (ap (λ (s : Step). s.reply) is_))) (ap (λ (s : Step). s.state) is_)

  -- the shelf placed the object, or didn't
  pub inserts : (shelf shelf_ : S) (used token : ℕ) (object : Object) (stale : Option ℕ) (gone : Bool) (placing : Placing) (answer : Answer) → has_fetch old.fetches caller token ≡ true → gone ≡ false
      → Tells Stands shelf now (λ state. gone ≡ is_gone stale state.objects) → used ≡ old.entries → Places Stands shelf shelf_ room used now token object stale placing
      → new ≡ record old { moment = now; fetches = without_fetch token old.fetches } → answer.told ≡ reply_of_placing token placing → answer.kept ≡ reply_of_placing token placing
      → Answered Stands room old shelf new shelf_ caller now (calls.Insert token object stale) answer
  inserts shelf shelf_ used token object stale gone placing answer opened no_ tells place places closes told kept beginning entries is_room stands later =
      let state : State = reached beginning entries in
      let here : State = at_moment now state in
      let opened_ = same_fetches old state stands.desk caller token true opened in
      let stays : is_gone stale (those_in_time now state.objects) ≡ false = sym (tells beginning entries stands.sound stands.shelf later) ∙ no_ in
      let joins = places beginning entries caller stands.sound stands.shelf later is_room (sym (place ∙ ap (λ (s : State). s.entries) stands.desk)) opened_ stays in
      let reply : Reply = reply_of_placing token placing in
      let law : Step = inserted beginning.params.room here caller token object stale in
      let closed : without_stock (behind reply (refused here (calls.Insert token object stale)) law.state) ≡ without_stock (record here { fetches = without_fetch token state.fetches }) =
      behind_either (λ (s : State). without_stock s ≡ without_stock (record here { fetches = without_fetch token state.fetches })) reply (refused here (calls.Insert token object stale)) law.state refl
      (placed_desk beginning.params.room here caller token object stale opened_ stays) in
      joined_by shelf_ (calls.Insert token object stale) reply answer beginning entries (record old { moment = now; fetches = without_fetch token old.fetches }) closes told kept joins.allows
      (counted_desk old (record old { moment = now; fetches = without_fetch token old.fetches }) state (behind reply (refused here (calls.Insert token object stale)) law.state) stands.desk (closed_desk old now token state (behind reply (refused here (calls.Insert token object stale)) law.state) stands.desk closed)) joins.stands

  -- memory was wanting: the fetch is closed
  pub refusal_joins : (shelf : S) → StandsBeside Stands shelf → (call : Call) (answer : Answer) → IsRefusal old new now caller call answer → Answered Stands room old shelf new shelf caller now call answer
  refusal_joins shelf rests (calls.Insert token object stale) answer refuses beginning entries is_room stands later =
      let state : State = reached beginning entries in
      let here : State = at_moment now state in
      let opened_ = same_fetches old state stands.desk caller token true refuses.opened in
      let closed : State = record here { fetches = without_fetch token state.fetches } in
      joined_by shelf (calls.Insert token object stale) replies.Refused answer beginning entries (record old { moment = now; fetches = without_fetch token old.fetches }) refuses.new_ refuses.told refuses.kept
      (inr (refl, other_reply beginning.params.room here caller token object stale opened_))
      (counted_desk old (record old { moment = now; fetches = without_fetch token old.fetches }) state closed stands.desk (closed_desk old now token state closed stands.desk refl))
      (rests beginning entries (entry_of caller now (calls.Insert token object stale) replies.Refused) stands.sound stands.shelf later refl refl)
  refusal_joins shelf rests call answer refuses beginning entries is_room stands later = absurd (false≢true refuses.opened)

  -- ---- lookups

  looked_desk : (state : State) (key : List (List ℕ)) (opens : Bool) (waits : Option ℕ) → bare old ≡ without_stock state
      → bare (record old { moment = now; next = next_after opens old.next; fetches = opened_for opens old.next caller key old.fetches; rounds = with_wait caller waits old.rounds })
      ≡ without_stock (record state { moment = now; next = next_after opens state.next; fetches = opened_for opens state.next caller key state.fetches; rounds = with_wait caller waits state.rounds })
  looked_desk state key opens waits o =
      ap (λ (s : State). record s { moment = now; next = next_after opens s.next; fetches = opened_for opens s.next caller key s.fetches; rounds = with_wait caller waits s.rounds }) o

  module _ {M : Type 0} (IsMarked : S → ℕ → Query → M → Type 0) where
    pub looks_not : (shelf : S) → StandsBeside Stands shelf → (query : Query) (found : Option (Found M)) (answer : Answer) → found ≡ None → Finds Stands IsMarked old shelf now caller query found → new ≡ record old { moment = now }
        → answer.told ≡ replies.NoRound → answer.kept ≡ replies.NoRound → Answered Stands room old shelf new shelf caller now (calls.Lookup query) answer
    looks_not shelf rests query found answer none finds passes told kept beginning entries is_room stands later =
        let is_ = rw none at finds.answers beginning entries stands later in
        stays_joined shelf rests (calls.Lookup query) replies.NoRound answer beginning entries passes told kept refl refl stands later
        (sym (ap (λ (s : Step). s.reply) is_)) (ap (λ (s : Step). s.state) is_)

    -- the shelf stands for what the lookup leaves
    shelf_looked : (shelf shelf_ : S) → StandsBeside Stands shelf → (used : ℕ) (query : Query) (finding : Finding) (marks : Option M) (reply : Reply) (beginning : Beginning) (entries : List Entry) → StandFor Stands old shelf beginning entries
        → (reached beginning entries).moment ≤ now → used ≡ (reached beginning entries).entries → AreMarks IsMarked shelf now query marks → Takes Stands shelf shelf_ used now query marks (use_in finding)
        → stock_of (next_state beginning.params (reached beginning entries) (entry_of caller now (calls.Lookup query) reply)) ≡ stock_of (looked_up (at_moment now (reached beginning entries)) caller query).state
        → looked_up (at_moment now (reached beginning entries)) caller query ≡ told_so (reached beginning entries) now caller query (Some (record { finding = finding; marks = marks }))
        → Stands shelf_ beginning (entries ++ entry_of caller now (calls.Lookup query) reply ∷ [])
    shelf_looked shelf shelf_ rests used query finding None reply beginning entries stands later place misses takes leaves_ answers =
        subst (λ (k : S). Stands k beginning (entries ++ entry_of caller now (calls.Lookup query) reply ∷ [])) (sym takes)
        (rests beginning entries (entry_of caller now (calls.Lookup query) reply) stands.sound stands.shelf later (beside_lookup query reply misses)
        (leaves_ ∙ missed_stock (at_moment now (reached beginning entries)) caller query misses))
    shelf_looked shelf shelf_ rests used query finding (Some marks) reply beginning entries stands later place marked takes leaves_ answers =
        takes beginning entries (entry_of caller now (calls.Lookup query) reply) stands.sound stands.shelf later (sym place) refl refl (leaves_ ∙ ap (λ (s : Step). stock_of s.state) answers)

    -- what a lookup in an open round leaves
    pub looks : (shelf shelf_ : S) → StandsBeside Stands shelf → (used : ℕ) (query : Query) (finding : Finding) (marks : Option M) (answer : Answer) → used ≡ old.entries → Finds Stands IsMarked old shelf now caller query (Some (record { finding = finding; marks = marks }))
        → Takes Stands shelf shelf_ used now query marks (use_in finding)
        → new ≡ record old { moment = now; next = next_after (opens_fetch finding) old.next; fetches = opened_for (opens_fetch finding) old.next caller query.key old.fetches; rounds = with_wait caller (wait_in answer.told) old.rounds }
        → answer.told ≡ reply_of old.next finding → answer.kept ≡ reply_of old.next finding → Answered Stands room old shelf new shelf_ caller now (calls.Lookup query) answer
    looks shelf shelf_ rests used query finding marks answer place finds takes is_new told kept beginning entries is_room stands later =
        let state : State = reached beginning entries in
        let here : State = at_moment now state in
        let law : Step = looked_up here caller query in
        let reply : Reply = reply_of old.next finding in
        let answers = finds.answers beginning entries stands later in
        let numbers : old.next ≡ state.next = ap (λ (s : State). s.next) stands.desk in
        let lawful : behind reply (refused here (calls.Lookup query)) law.state ≡ law.state = behind_lawful reply (refused here (calls.Lookup query)) law.state (no_refusal old.next finding) in
        let left = looked_desk state query.key (opens_fetch finding) (wait_in reply) stands.desk
        ∙ ap (λ (n : ℕ). without_stock (record state { moment = now; next = next_after (opens_fetch finding) state.next; fetches = opened_for (opens_fetch finding) state.next caller query.key state.fetches; rounds = with_wait caller (wait_in (reply_of n finding)) state.rounds })) numbers
        ∙ ap (λ (s : Step). without_stock s.state) (sym answers)
        ∙ ap without_stock (sym lawful) in
        joined_by shelf_ (calls.Lookup query) reply answer beginning entries
        (record old { moment = now; next = next_after (opens_fetch finding) old.next; fetches = opened_for (opens_fetch finding) old.next caller query.key old.fetches; rounds = with_wait caller (wait_in reply) old.rounds })
        (is_new ∙ ap (λ (r : Reply). record old { moment = now; next = next_after (opens_fetch finding) old.next; fetches = opened_for (opens_fetch finding) old.next caller query.key old.fetches; rounds = with_wait caller (wait_in r) old.rounds }) told) told kept
        (ap (λ (n : ℕ). reply_of n finding) numbers ∙ sym (ap (λ (s : Step). s.reply) answers))
        (counted_desk old (record old { moment = now; next = next_after (opens_fetch finding) old.next; fetches = opened_for (opens_fetch finding) old.next caller query.key old.fetches; rounds = with_wait caller (wait_in reply) old.rounds }) state (behind reply (refused here (calls.Lookup query)) law.state) stands.desk left)
        (shelf_looked shelf shelf_ rests used query finding marks reply beginning entries stands later (place ∙ ap (λ (s : State). s.entries) stands.desk) finds.marks takes (ap stock_of lawful) answers)
