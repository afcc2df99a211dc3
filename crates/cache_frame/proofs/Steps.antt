-- One more entry keeps what a framed cache promises.
use Rattle.std.proofs.Common.{inl, inr, Bool, true, false, ◌<◌, ◌^◌, ◌≡◌, ℕ, List, [], ◌∷◌, ◌++◌, ◌+◌, ◌*◌, ◌≤◌, max, length, refl, arith, sym, ap, ◌∙◌, subst, length-append}
use Rattle.std.proofs.lemmas.Bool.{and_from, and_parts, cases_Bool, false≢true, true≢false}
use Rattle.cache_law.specs.declared.call.Call.{Call}
use Rattle.cache_law.specs.declared.call.Call.TheVariants.{Lookup, Insert, Drop, End}
use Rattle.cache_law.specs.declared.call.Query.{Query}
use Rattle.cache_law.specs.declared.call.Reply.{Reply}
use Rattle.cache_law.specs.declared.call.Reply.TheVariants.{Refused}
use Rattle.cache_law.specs.declared.call.Entry.{Entry}
use Rattle.cache_law.specs.declared.cache.Told.{Told}
use Rattle.cache_law.specs.State.{State, at_moment, reserve, has_round, has_fetch}
use Rattle.std.specs.Prelude.{IsTrue, ◌↔◌, ◌&&◌}
use Rattle.cache_law.specs.declared.setting.Params.{Params}
use Rattle.cache_law.specs.Beginning.{Beginning}
use Rattle.cache_law.specs.Law.{MayAnswer, after, answered, refused, step_of}
use Rattle.cache_law.specs.History.{Fits, HasWaited, Legal, bytes_of, bytes_of_all, is_numbered, most_entries, reached}
use Rattle.cache_law.specs.Core.{Entered, FitsBehind, moment_of, is_kept, is_lookup}
use Rattle.cache_law.specs.Bases.{AreAlike, IsBase, IsClosed, IsSound}
use Rattle.cache_law.proofs.Histories.{reached-push, bytes_of_all-push, Legal-push}
use Rattle.cache_law.proofs.Sound.{sound_from}
use Rattle.cache_law.proofs.Reserve.{dropping_takes, ending_takes, fits_lawful, numbered_told, refused_reserves, reserve-after, reserve-lawful}
use Rattle.cache_desk.specs.declared.answer.Answer.{Answer}
use Rattle.cache_desk.specs.Desk.{DeskState, bare}
use Rattle.cache_frame.specs.declared.finding.Asked.{Asked}
use Rattle.cache_frame.specs.declared.finding.Asked.TheVariants as asks
use Rattle.cache_frame.specs.declared.finding.StaleObject.TheVariants.{Untested}
use Rattle.cache_frame.specs.Asked.{is_untested, judged}
use Rattle.cache_frame.specs.Found.{FindsFor, is_insertion}
use Rattle.cache_frame.specs.Framed.{FitsIf, FitsNot, HasFit, HasRoomBehind, IsWithin, Reserves, Sound, StandFor, base_with}
use Rattle.cache_frame.specs.Shelves.{Reopens, entry_of}
use Rattle.cache_frame.specs.Step.{Joined}
use Rattle.cache_desk.specs.Stock.{Stock, stock_of, with_stock, without_stock}

-- an entry that joined a legal history leaves it legal
pub legal_behind : (beginning : Beginning) (old new : List Entry) (caller reading : ℕ) (call : Call) (told : Told) → Entered beginning old new caller reading call told → Legal beginning old → Legal beginning new
legal_behind beginning old new caller reading call told joins legal =
    subst (Legal beginning) (sym joins.joined) (Legal-push beginning old (record { caller = caller; moment = told.moment; call = call; reply = told.reply }) legal joins.follows joins.fits)

kept_by : (one two : State) (caller : ℕ) (call : Call) → one ≡ without_stock two → is_kept one caller call ≡ is_kept two caller call
kept_by one two caller (Insert token object stale) o = ap (λ (s : State). has_fetch s.fetches caller token) o
kept_by one two caller (Drop token) o = ap (λ (s : State). has_fetch s.fetches caller token) o
kept_by one two caller End o = ap (λ (s : State). has_round s.rounds caller) o
kept_by one two caller call o = refl

frees_by : (room : ℕ) (state : State) (desk : DeskState) (caller moment : ℕ) (call : Call) (untested : Bool) → is_kept state caller call ≡ true → is_insertion desk caller call ≡ false → bare desk ≡ without_stock state
    → reserve (judged call untested (refused (at_moment moment state) call) (answered room (at_moment moment state) caller call).state) + 64 ≤ reserve state
frees_by room state desk caller moment (Insert token object stale) untested kept other o = absurd (true≢false (sym kept ∙ ap (λ (s : State). has_fetch s.fetches caller token) (sym o) ∙ other))
frees_by room state desk caller moment (Drop token) untested kept other o = dropping_takes (at_moment moment state) caller token (has_fetch state.fetches caller token) refl kept
frees_by room state desk caller moment End untested kept other o = ending_takes (at_moment moment state) caller (has_round state.rounds caller) refl kept
frees_by room state desk caller moment call untested kept other o = absurd (false≢true kept)

-- what a call is judged by leaves no more open than the law's reply
judged_least : (room : ℕ) (here : State) (caller : ℕ) (call : Call) (untested : Bool) → reserve (judged call untested (refused here call) (answered room here caller call).state) ≤ reserve (answered room here caller call).state
judged_least room here caller (Insert token object stale) true = refused_reserves room here caller token object stale
judged_least room here caller call untested = omega arith

judged_lawful : (call : Call) (untested : Bool) (refusal law : State) → untested ≡ false → judged call untested refusal law ≡ law
judged_lawful (Insert token object stale) true refusal law tested = absurd (true≢false tested)
judged_lawful call untested refusal law tested = refl

-- what was told leaves no more open than what the call was judged by, which was a refusal where the stale object couldn't be tested
told_least : (params : Params) (state : State) (caller moment : ℕ) (call : Call) (untested : Bool) (answer : Reply) → MayAnswer (at_moment moment state) call (step_of params state caller moment call).reply answer → (untested ≡ true → answer ≡ Refused)
    → reserve (after params state caller moment call answer) ≤ reserve (judged call untested (refused (at_moment moment state) call) (step_of params state caller moment call).state)
told_least params state caller moment (Insert token object stale) true answer may refuses =
    subst (λ (r : Reply). reserve (after params state caller moment (Insert token object stale) r) ≤ reserve (refused (at_moment moment state) (Insert token object stale))) (sym (refuses refl)) (omega arith)
told_least params state caller moment call untested answer may refuses = reserve-after params state caller moment call answer may

-- a call for which memory is kept is no lookup
pub kept_is_other : (state : State) (caller : ℕ) (call : Call) → is_kept state caller call ≡ true → is_lookup call ≡ false
kept_is_other state caller (Lookup query) kept = absurd (false≢true kept)
kept_is_other state caller call kept = refl

-- memory is kept for the insertion of an open fetch
insertion_kept : (desk : DeskState) (caller : ℕ) (call : Call) → is_insertion desk caller call ≡ true → is_kept (bare desk) caller call ≡ true
insertion_kept desk caller (Insert token object stale) inserts = inserts
insertion_kept desk caller call inserts = absurd (false≢true inserts)

-- a stale object that couldn't be tested is that of the insertion of an open fetch
pub untested_insertion : {S M : Type 0} (Stands : S → Beginning → List Entry → Type 0) (IsMarked : S → ℕ → Query → M → Type 0) (desk : DeskState) (shelf : S) (now caller : ℕ) (call : Call) (asked : Asked M) → FindsFor Stands IsMarked desk shelf now caller call asked
    → is_untested asked ≡ true → is_insertion desk caller call ≡ true
untested_insertion Stands IsMarked desk shelf now caller (Lookup query) asked finds untested = absurd (false≢true (sym finds.0 ∙ untested))
untested_insertion Stands IsMarked desk shelf now caller (Insert token object stale) (asks.Insert Untested) finds untested = finds
untested_insertion Stands IsMarked desk shelf now caller (Insert token object stale) asked finds untested = absurd (false≢true untested)
untested_insertion Stands IsMarked desk shelf now caller call asked finds untested = absurd (false≢true (sym finds ∙ untested))

told_false : (said : Bool) → said ≡ false → IsTrue said → ⊥
told_false said no_ yes_ = false≢true (sym no_ ∙ yes_)

-- ---- why a call doesn't fit

module _ {S : Type 0} (Stands : S → Beginning → List Entry → Type 0) (params : Params) (used : ℕ) (desk : DeskState) (shelf : S) (now caller : ℕ) (call : Call) where
  pub not_numbered : (said : Bool) → said ≡ false → ((room caller_ moment : ℕ) (stock : Stock) → said ≡ is_numbered (answered room (at_moment moment (with_stock stock (bare desk))) caller_ call).reply) → FitsNot Stands params used desk shelf now caller call
  not_numbered said no_ says beginning entries stands later same bytes fits =
      let state : State = reached beginning entries in
      let number = ap (λ (s : State). is_numbered (answered beginning.params.room (at_moment now (with_stock (stock_of state) s)) caller call).reply) stands.desk ∙ fits.number in
      absurd (false≢true (sym no_ ∙ says beginning.params.room caller now (stock_of state) ∙ number))

  module _ (untested : Bool) (opens : ℕ) (reserves : (room : ℕ) → Reserves Stands room desk shelf now caller call untested opens) where
    pub too_much : (said : Bool) → said ≡ false → (IsTrue said ↔ IsWithin params.history used desk.entries call opens) → FitsNot Stands params used desk shelf now caller call
    too_much said no_ says beginning entries stands later same bytes fits =
        let state : State = reached beginning entries in
        let left = reserves beginning.params.room beginning entries stands later in
        let least = judged_least beginning.params.room (at_moment now state) caller call untested in
        let law = reserve-lawful beginning.params state caller now call in
        let within : used + bytes_of call + 64 * opens ≤ params.history = omega (arith, fits.within, left, least, law, bytes, ap (λ (p : Params). p.history) same) in
        let few : desk.entries + 1 + opens ≤ most_entries = omega (arith, fits.counted, left, least, law, ap (λ (s : State). s.entries) stands.desk) in
        absurd (told_false said no_ (says.1 (within, few)))

    pub has_fit : ((room caller_ moment : ℕ) (stock : Stock) → true ≡ is_numbered (answered room (at_moment moment (with_stock stock (bare desk))) caller_ call).reply) → IsWithin params.history used desk.entries call opens
        → HasFit Stands params used desk shelf now caller call untested opens
    has_fit says within =
        record {
          number = λ stock. sym (says params.room caller now stock);
          within = within;
          reserves = reserves params.room;
        }

    -- whether it fits, by whether it is numbered and whether it is within the limits
    pub fits_if : (numbered within : Bool) → ((room caller_ moment : ℕ) (stock : Stock) → numbered ≡ is_numbered (answered room (at_moment moment (with_stock stock (bare desk))) caller_ call).reply) → (IsTrue within ↔ IsWithin params.history used desk.entries call opens) → untested ≡ false
        → FitsIf Stands params used desk shelf now caller call (numbered && within)
    fits_if numbered within says is_within tested beginning entries stands later same =
        let state : State = reached beginning entries in
        let law = reserve-lawful params state caller now call in
        let left = reserves params.room beginning entries stands later ∙ ap reserve (judged_lawful call untested (refused (at_moment now state) call) (answered params.room (at_moment now state) caller call).state tested) in
        let count = ap (λ (s : State). s.entries) stands.desk in
        let number : numbered ≡ is_numbered (step_of params state caller now call).reply =
        says params.room caller now (stock_of state) ∙ ap (λ (s : State). is_numbered (answered params.room (at_moment now (with_stock (stock_of state) s)) caller call).reply) stands.desk in (
          λ yes_.
              let both = and_parts numbered within yes_ in
              let room = is_within.0 both.1 in
              fits_lawful params state used caller now call (sym number ∙ both.0) (omega (arith, room.0, left)) (omega (arith, room.1, left, count)),
          λ fits. and_from numbered within (number ∙ fits.number) (is_within.1 (omega (arith, fits.within, left, law), omega (arith, fits.counted, left, law, count))),
        )

-- a refusal closes as much of what is on the desk as of what the desk stands for
refused_open : (desk : DeskState) (state : State) (moment : ℕ) (call : Call) → bare desk ≡ without_stock state → reserve (refused (bare desk) call) ≡ reserve (refused (at_moment moment state) call)
refused_open desk state moment (Insert token object stale) o = ap (λ (s : State). reserve (refused s (Insert token object stale))) o
refused_open desk state moment call o = ap reserve o

-- whether a refusal fits, by whether it is within the limits
pub refusal_fits : (params : Params) (state : State) (desk : DeskState) (used caller moment opens : ℕ) (call : Call) (within : Bool) → bare desk ≡ without_stock state → 64 * opens ≡ reserve (refused (bare desk) call) → (IsTrue within ↔ IsWithin params.history used desk.entries call opens)
    → (IsTrue within ↔ Fits params state used (entry_of caller moment call Refused))
refusal_fits params state desk used caller moment opens call within o left is_within =
    let open_ = refused_open desk state moment call o in
    let count = ap (λ (s : State). s.entries) o in (
      λ yes_.
          let room = is_within.0 yes_ in
          record { number = refl; within = omega (arith, room.0, left, open_); counted = omega (arith, room.1, left, open_, count) },
      λ fits. is_within.1 (omega (arith, fits.within, left, open_), omega (arith, fits.counted, left, open_, count)),
    )

module _ {S : Type 0} (Stands : S → Beginning → List Entry → Type 0) where
  -- A call that is made of a framed cache: what the cache keeps, the call with its moment, whether its stale object couldn't be
  -- tested, and how many rounds and fetches are open behind what it is judged by.
  pub record Made : Type 0 where
    pub beginning : Beginning
    pub entries : List Entry
    pub room : ℕ
    pub used : ℕ
    pub desk : DeskState
    pub shelf : S
    pub caller : ℕ
    pub reading : ℕ
    pub moment : ℕ
    pub call : Call
    pub untested : Bool
    pub opens : ℕ
    pub sound : Sound Stands beginning entries room used desk shelf
    pub waited : HasWaited (reached beginning entries) caller call
    pub at_ : moment ≡ max desk.moment reading
    pub fits : HasFit Stands beginning.params used desk shelf moment caller call untested opens

  -- the state that the entries reach
  abbrev pub before : Made → State
  before made = reached made.beginning made.entries

  pub sound_before : (beginning : Beginning) (entries : List Entry) (room used : ℕ) (desk : DeskState) (shelf : S) → Sound Stands beginning entries room used desk shelf → IsSound (reached beginning entries)
  sound_before beginning entries room used desk shelf sound = sound_from beginning.params beginning.base entries sound.base.sound

  pub stand_for : (beginning : Beginning) (entries : List Entry) (room used : ℕ) (desk : DeskState) (shelf : S) → Sound Stands beginning entries room used desk shelf → StandFor Stands desk shelf beginning entries
  stand_for beginning entries room used desk shelf sound = record { sound = sound_before beginning entries room used desk shelf sound; desk = sound.desk; shelf = sound.shelf }

  pub same_moment : (beginning : Beginning) (entries : List Entry) (room used : ℕ) (desk : DeskState) (shelf : S) → Sound Stands beginning entries room used desk shelf → desk.moment ≡ (reached beginning entries).moment
  same_moment beginning entries room used desk shelf sound = ap (λ (s : State). s.moment) sound.desk

  pub later_at : (beginning : Beginning) (entries : List Entry) (room used : ℕ) (desk : DeskState) (shelf : S) → Sound Stands beginning entries room used desk shelf → (moment reading : ℕ) → moment ≡ max desk.moment reading → (reached beginning entries).moment ≤ moment
  later_at beginning entries room used desk shelf sound moment reading at_ = omega (arith, at_, same_moment beginning entries room used desk shelf sound)

  same_entries : (made : Made) → made.desk.entries ≡ (before made).entries
  same_entries made = ap (λ (s : State). s.entries) made.sound.desk

  pub later : (made : Made) → (before made).moment ≤ made.moment
  later made = later_at made.beginning made.entries made.room made.used made.desk made.shelf made.sound made.moment made.reading made.at_

  pub made_stands : (made : Made) → StandFor Stands made.desk made.shelf made.beginning made.entries
  made_stands made = stand_for made.beginning made.entries made.room made.used made.desk made.shelf made.sound

  reserves_so : (made : Made) → 64 * made.opens ≡ reserve (judged made.call made.untested (refused (at_moment made.moment (before made)) made.call) (step_of made.beginning.params (before made) made.caller made.moment made.call).state)
  reserves_so made = made.fits.reserves made.beginning made.entries (made_stands made) (later made)

  at_reading : (made : Made) → moment_of made.beginning made.entries made.reading ≡ made.moment
  at_reading made = ap (λ (m : ℕ). max m made.reading) (sym (same_moment _ _ _ _ _ _ made.sound)) ∙ sym made.at_

  numbered : (made : Made) → is_numbered (step_of made.beginning.params (before made) made.caller made.moment made.call).reply ≡ true
  numbered made =
      ap (λ (s : State). is_numbered (answered made.beginning.params.room (at_moment made.moment (with_stock (stock_of (before made)) s)) made.caller made.call).reply) (sym made.sound.desk) ∙ made.fits.number (stock_of (before made))

  -- what fits behind the entries at the moment
  fits_behind : (made : Made) → made.untested ≡ false → FitsBehind made.beginning made.entries made.caller made.moment made.call
  fits_behind made tested =
      let left = reserves_so made ∙ ap reserve (judged_lawful made.call made.untested (refused (at_moment made.moment (before made)) made.call) (step_of made.beginning.params (before made) made.caller made.moment made.call).state tested) in
      fits_lawful made.beginning.params (before made) (bytes_of_all made.entries) made.caller made.moment made.call (numbered made)
      (omega (arith, made.fits.within.0, made.sound.counts, left)) (omega (arith, made.fits.within.1, left, same_entries made))

  -- the same at the moment of the reading
  pub fits_at : (made : Made) → made.untested ≡ false → FitsBehind made.beginning made.entries made.caller (moment_of made.beginning made.entries made.reading) made.call
  fits_at made tested = subst (λ (m : ℕ). FitsBehind made.beginning made.entries made.caller m made.call) (sym (at_reading made)) (fits_behind made tested)

  -- the answer, and what is kept behind it before its entry is counted
  pub record Done (made : Made) : Type 0 where
    pub new : DeskState
    pub kept : S
    pub answer : Answer
    pub joined : Joined Stands made.desk.entries new kept made.beginning made.entries made.caller made.moment made.call answer
    pub refuses : made.untested ≡ true → answer.told ≡ Refused

  -- what is on the desk once the answer's entry is counted
  abbrev pub counted : (made : Made) → Done made → DeskState
  counted made done = record done.new { entries = made.desk.entries + 1 }

  abbrev pub entry_told : (made : Made) → Done made → Entry
  entry_told made done = entry_of made.caller made.moment made.call done.answer.told

  -- what is reserved behind the answer is at most what the call had to fit with
  pub reserve_left : (made : Made) (done : Done made) → reserve (bare done.new) ≤ 64 * made.opens
  reserve_left made done =
      let least = told_least made.beginning.params (before made) made.caller made.moment made.call made.untested done.answer.told done.joined.allows done.refuses in
      omega (arith, least, reserves_so made, ap reserve done.joined.desk)

  -- the entry that is told fits
  fits_told : (made : Made) (done : Done made) → Fits made.beginning.params (before made) (bytes_of_all made.entries) (entry_told made done)
  fits_told made done =
      let least = told_least made.beginning.params (before made) made.caller made.moment made.call made.untested done.answer.told done.joined.allows done.refuses in
      record {
        number = numbered_told (at_moment made.moment (before made)) made.call (step_of made.beginning.params (before made) made.caller made.moment made.call).reply done.answer.told done.joined.allows (numbered made);
        within = omega (arith, made.fits.within.0, made.sound.counts, least, reserves_so made);
        counted = omega (arith, made.fits.within.1, least, reserves_so made, same_entries made);
      }

  sound_told : (made : Made) (done : Done made) (larger : ℕ) → length made.entries + 1 + length done.new.rounds + length done.new.fetches ≤ larger → Sound Stands made.beginning (made.entries ++ entry_told made done ∷ []) larger (made.used + bytes_of made.call) (counted made done) done.kept
  sound_told made done larger room_ =
      let entry : Entry = entry_told made done in
      let left = reserve_left made done in
      let there : bare (counted made done) ≡ without_stock (reached made.beginning (made.entries ++ entry ∷ [])) = done.joined.desk ∙ ap without_stock (sym (reached-push made.beginning made.entries entry)) in
      let sound = sound_from made.beginning.params made.beginning.base (made.entries ++ entry ∷ []) made.sound.base.sound in
      record {
        base = made.sound.base;
        desk = there;
        shelf = done.joined.shelf;
        counts = omega (arith, made.sound.counts, bytes_of_all-push made.entries entry);
        within = omega (arith, made.fits.within.0, left);
        counted = omega (arith, made.fits.within.1, left);
        numbers = omega (arith, sound.drew, ap (λ (s : State). s.next) there, ap (λ (s : State). s.entries) there);
        reserved = omega (arith, room_, length-append made.entries (entry ∷ []));
      }

  pub sound_behind : (made : Made) (done : Done made) (larger : ℕ) → length made.entries + 1 + length done.new.rounds + length done.new.fetches ≤ larger
      → Sound Stands made.beginning (made.entries ++ entry_of made.caller made.moment made.call done.answer.kept ∷ []) larger (made.used + bytes_of made.call) (counted made done) done.kept
  sound_behind made done larger room_ =
      subst (λ (r : Reply). Sound Stands made.beginning (made.entries ++ entry_of made.caller made.moment made.call r ∷ []) larger (made.used + bytes_of made.call) (counted made done) done.kept) (sym done.joined.twice) (sound_told made done larger room_)

  pub entered : (made : Made) (done : Done made) (place : ℕ) → place ≡ length made.entries → Entered made.beginning made.entries (made.entries ++ entry_of made.caller made.moment made.call done.answer.kept ∷ []) made.caller made.reading made.call (record { moment = made.moment; place = place; reply = done.answer.told })
  entered made done place last =
      record {
        joined = ap (λ (r : Reply). made.entries ++ entry_of made.caller made.moment made.call r ∷ []) done.joined.twice;
        moment = sym (at_reading made);
        place = last;
        follows = record { no_earlier = later made; waited = made.waited; answer = done.joined.allows };
        fits = fits_told made done;
      }

  -- there is room for what is open and for what closes it
  pub room_behind : (made : Made) (done : Done made) (count opens first capacity : ℕ) → HasRoomBehind count first opens made.desk done.new → count ≡ length made.entries → opens ≡ made.opens → first ≤ capacity → made.room ≤ first
      → length made.entries + 1 + length done.new.rounds + length done.new.fetches ≤ capacity
  room_behind made done count opens first capacity (inl enough) same is_ larger more = let left = reserve_left made done in omega (arith, enough, left, same, is_, larger)
  room_behind made done count opens first capacity (inr closed) same is_ larger more = omega (arith, made.sound.reserved, ap length closed.0, closed.1, larger, more)

  -- a call for which memory is kept by the law is one by what is on the desk
  pub kept_too : (made : Made) → is_kept (reached made.beginning made.entries) made.caller made.call ≡ true → is_kept (bare made.desk) made.caller made.call ≡ true
  kept_too made kept = kept_by (bare made.desk) (before made) made.caller made.call made.sound.desk ∙ kept

  -- where it is lost for want of memory, its stale object was tested
  pub tested_if_lost : (made : Made) → (is_kept (bare made.desk) made.caller made.call ≡ true → ⊥) → (made.untested ≡ true → is_insertion made.desk made.caller made.call ≡ true) → made.untested ≡ false
  tested_if_lost made lost inserts =
      elim (cases_Bool made.untested) [
        | inl untested ↦ absurd (lost (insertion_kept made.desk made.caller made.call (inserts untested)))
        | inr tested ↦ tested
      ]

  -- the end of a round and the drop of a fetch free what is reserved for them
  pub closing_frees : (made : Made) → is_kept (bare made.desk) made.caller made.call ≡ true → is_insertion made.desk made.caller made.call ≡ false → made.opens + 1 ≤ length made.desk.rounds + length made.desk.fetches
  closing_frees made kept other =
      let kept_ : is_kept (before made) made.caller made.call ≡ true = sym (kept_by (bare made.desk) (before made) made.caller made.call made.sound.desk) ∙ kept in
      let frees = frees_by made.beginning.params.room (before made) made.desk made.caller made.moment made.call made.untested kept_ other made.sound.desk in
      omega (arith, frees, reserves_so made, ap reserve made.sound.desk)

  -- another shelf that stands for the same is kept as well
  pub still_sound : (beginning : Beginning) (entries : List Entry) (room used : ℕ) (desk : DeskState) (old new : S) → Sound Stands beginning entries room used desk old → (IsSound (reached beginning entries) → Stands old beginning entries → Stands new beginning entries) → Sound Stands beginning entries room used desk new
  still_sound beginning entries room used desk old new sound on =
      record {
        base = sound.base;
        desk = sound.desk;
        shelf = on (sound_before beginning entries room used desk old sound) sound.shelf;
        counts = sound.counts;
        within = sound.within;
        counted = sound.counted;
        numbers = sound.numbers;
        reserved = sound.reserved;
      }

  -- bans are fewer than entries
  pub issues_left : (beginning : Beginning) (entries : List Entry) (room used : ℕ) (desk : DeskState) (shelf : S) → Sound Stands beginning entries room used desk shelf → (issued : ℕ) → issued ≡ (reached beginning entries).issued → issued + 1 < 2 ^ 64
  issues_left beginning entries room used desk shelf sound issued is_ =
      let few = (sound_before beginning entries room used desk shelf sound).issued in
      omega (arith, few, is_, sound.counted, ap (λ (s : State). s.entries) sound.desk)

  -- a call that doesn't fit what is kept doesn't fit at the moment of the reading
  pub fits_not : (beginning : Beginning) (entries : List Entry) (room used : ℕ) (desk : DeskState) (shelf : S) → Sound Stands beginning entries room used desk shelf → (moment reading : ℕ) → moment ≡ max desk.moment reading → (caller : ℕ) (call : Call)
      → FitsNot Stands beginning.params used desk shelf moment caller call → FitsBehind beginning entries caller (moment_of beginning entries reading) call → ⊥
  fits_not beginning entries room used desk shelf sound moment reading at_ caller call no_ fits =
      let here : moment_of beginning entries reading ≡ moment = ap (λ (m : ℕ). max m reading) (sym (same_moment beginning entries room used desk shelf sound)) ∙ sym at_ in
      no_ beginning entries (stand_for beginning entries room used desk shelf sound) (later_at beginning entries room used desk shelf sound moment reading at_) refl sound.counts
      (subst (λ (m : ℕ). FitsBehind beginning entries caller m call) here fits)

  -- a cache that was cut begins anew
  pub record Reopened (beginning : Beginning) (entries : List Entry) (desk : DeskState) (new : S) (stock : Stock) : Type 0 where
    pub base : IsBase (base_with desk stock)
    pub alike : AreAlike (base_with desk stock) (reached beginning entries)
    pub stands : Stands new (record { params = beginning.params; base = base_with desk stock }) []

  pub reopened : (beginning : Beginning) (entries : List Entry) (room used : ℕ) (desk : DeskState) (old new : S) → Sound Stands beginning entries room used desk old → (stock : Stock) (moment : ℕ) → moment ≡ desk.moment → IsClosed (reached beginning entries)
      → ((b : Beginning) (es : List Entry) → IsSound (reached b es) → Stands old b es → (reached b es).moment ≡ moment → IsClosed (reached b es) → Reopens Stands new stock b es) → Reopened beginning entries desk new stock
  reopened beginning entries room used desk old new sound stock moment at_ closed cut =
      let state : State = reached beginning entries in
      let opens = cut beginning entries (sound_before beginning entries room used desk old sound) sound.shelf (sym (at_ ∙ same_moment beginning entries room used desk old sound)) closed in
      let same : with_stock stock state ≡ base_with desk stock = ap (with_stock stock) (sym sound.desk) in
      record {
        base = subst IsBase same opens.base;
        alike = subst (λ (s : State). AreAlike s state) same opens.alike;
        stands = subst (λ (s : State). Stands new (record { params = beginning.params; base = s }) []) same opens.stands;
      }

  -- the same, where there is more room
  pub still_within : (beginning : Beginning) (entries : List Entry) (room larger used : ℕ) (desk : DeskState) (old new : S) → Sound Stands beginning entries room used desk old → (IsSound (reached beginning entries) → Stands old beginning entries → Stands new beginning entries) → room ≤ larger
      → Sound Stands beginning entries larger used desk new
  still_within beginning entries room larger used desk old new sound on more =
      record {
        base = sound.base;
        desk = sound.desk;
        shelf = on (sound_before beginning entries room used desk old sound) sound.shelf;
        counts = sound.counts;
        within = sound.within;
        counted = sound.counted;
        numbers = sound.numbers;
        reserved = omega (arith, sound.reserved, more);
      }
