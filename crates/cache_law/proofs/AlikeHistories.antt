-- A history that is legal from a state is legal from one that is alike, and reaches alike states.
use Rattle.std.proofs.Common.{◌≡◌, ◌⊎◌, ℕ, true, false, List, [], ◌∷◌, ◌+◌, ◌≤◌, ◌&&◌, ◌||◌, nat_le, map, inl, inr, refl, arith, sym, ap, ◌∙◌, subst}
use Rattle.std.specs.List.{list_any, AllByRecursion}
use Rattle.std.specs.Cmp.Lexicographic.{pointwise}
use Rattle.std.proofs.lemmas.Bool.{true≢false, false≢true, and_parts, and_from, or_cases, or_left, or_right, leb-true, le-leb}
use Rattle.cache_law.specs.declared.ban.Issued.{Issued}
use Rattle.cache_law.specs.declared.call.Call.{Call}
use Rattle.cache_law.specs.declared.call.Call.TheVariants.{Lookup, Insert, BanList}
use Rattle.cache_law.specs.declared.call.Reply.{Reply}
use Rattle.cache_law.specs.declared.call.Reply.TheVariants.{Refused, Bans}
use Rattle.cache_law.specs.declared.call.Entry.{Entry}
use Rattle.cache_law.specs.declared.setting.Params.{Params}
use Rattle.cache_law.specs.Object.{in_time}
use Rattle.cache_law.specs.Bans.{is_equal, is_on_time, is_shown, lasting, same_condition, stands_for}
use Rattle.cache_law.specs.ShownBans.{AllShown, IsPartOf}
use Rattle.cache_law.specs.State.{State, Held, as_seen, at_moment, awaits, count_open}
use Rattle.cache_law.specs.Law.{IsBanList, MayAnswer, after, answered, behind, refused}
use Rattle.cache_law.specs.History.{Fits, FollowAll, Follows, HasWaited, Legal, WithinAll, bytes_of, next_state, reached_from}
use Rattle.cache_law.specs.Bases.{AreAlike, AreAlikeAsSeen, AreHeldAlike, IsIn, is_completed}
use Rattle.cache_law.proofs.BanLemmas.{one_list}
use Rattle.cache_law.proofs.Lawful.{asks_bans}
use Rattle.cache_law.proofs.Moments.{at_moment-later}
use Rattle.cache_law.proofs.Alike.{alike-filter, alike_by}
use Rattle.cache_law.proofs.AlikeSteps.{steps_alike}

-- Alike states at a moment.

at_alike_one : (state : State) (bans : List Issued) (objects : List Held) (moment : ℕ) → IsPartOf state.bans bans → AreHeldAlike state.objects objects
    → AreAlikeAsSeen (at_moment moment state) (at_moment moment (record state { bans = bans; objects = objects }))
at_alike_one state bans objects moment part all =
    record { rest = refl; bans = part; objects = alike-filter (λ (held : Held). in_time moment held.view.object) (λ held pending. refl) state.objects objects all }

at_alike : (moment : ℕ) (less more : State) → AreAlikeAsSeen less more → AreAlikeAsSeen (at_moment moment less) (at_moment moment more)
at_alike moment less more alike =
    subst (λ (s : State). AreAlikeAsSeen (at_moment moment less) (at_moment moment s)) alike.rest (at_alike_one less more.bans more.objects moment alike.bans alike.objects)

pub same_moment : (less more : State) → AreAlike less more → less.moment ≡ more.moment
same_moment less more alike = ap (λ (s : State). s.moment) alike.rest

pub alike_seen : (less more : State) → AreAlikeAsSeen less more → AreAlike less more
alike_seen less more alike =
    subst (λ (m : ℕ). AreAlikeAsSeen (as_seen less) (at_moment m more)) (ap (λ (s : State). s.moment) alike.rest) (at_alike less.moment less more alike)

pub alike_at : (moment : ℕ) (less more : State) → less.moment ≤ moment → AreAlike less more → AreAlikeAsSeen (at_moment moment less) (at_moment moment more)
alike_at moment less more order alike =
    let same = same_moment less more alike in
    subst (λ (s : State). AreAlikeAsSeen (at_moment moment less) s) (at_moment-later more.moment moment (omega (arith, order, same)) more)
    (subst (λ (s : State). AreAlikeAsSeen s (at_moment moment (as_seen more))) (at_moment-later less.moment moment order less) (at_alike moment (as_seen less) (as_seen more) alike))

entries_alike : (less more : State) (n m : ℕ) → n ≡ m → AreAlikeAsSeen less more → AreAlikeAsSeen (record less { entries = n }) (record more { entries = m })
entries_alike less more n m e alike =
    record { rest = ap (λ (s : State). record s { entries = n }) alike.rest ∙ ap (λ (k : ℕ). record more { entries = k }) e; bans = alike.bans; objects = alike.objects }

-- Lists of bans.

pub part_of_part : (issued : List Issued) (part whole : List Issued) → IsPartOf issued part → IsPartOf part whole → IsPartOf issued whole
part_of_part [] part whole p q = tt
part_of_part (ban ∷ issued) [] whole p q = absurd p
part_of_part (ban ∷ issued) (own ∷ part) [] p q = absurd q
part_of_part (ban ∷ issued) (own ∷ part) (other ∷ whole) (inl both) (inl more) = inl (both.0 ∙ more.0, part_of_part issued part whole both.1 more.1)
part_of_part (ban ∷ issued) (own ∷ part) (other ∷ whole) (inr p) (inl more) = inr (part_of_part (ban ∷ issued) part whole p more.1)
part_of_part (ban ∷ issued) (own ∷ part) (other ∷ whole) p (inr q) = inr (part_of_part (ban ∷ issued) (own ∷ part) whole p q)

-- a line that does the work of a ban does that of an equal one
stands_equal : (later ban line : Issued) → is_equal later.ban ban.ban ≡ true → stands_for later line ≡ stands_for ban line
unfolding is_equal lasting stands_for
stands_equal later ban line e =
    let one = one_list later.ban.conditions ban.ban.conditions e in
    let other : list_any is_on_time ban.ban.conditions ≡ false = ap (list_any is_on_time) (sym one.0) ∙ one.1 in
    rw (one.1, other) (ap (pointwise same_condition line.ban.conditions) one.0)

shown_line : (later ban line : Issued) → is_equal later.ban ban.ban ≡ true → nat_le ban.number later.number ≡ true → (nat_le later.number line.number && stands_for later line) ≡ true → (nat_le ban.number line.number && stands_for ban line) ≡ true
shown_line later ban line e order shown =
    let both = and_parts (nat_le later.number line.number) (stands_for later line) shown in
    and_from (nat_le ban.number line.number) (stands_for ban line) (le-leb ban.number line.number (omega (arith, leb-true ban.number later.number order, leb-true later.number line.number both.0))) (sym (stands_equal later ban line e) ∙ both.1)

shown_later : (lines : List Issued) (later ban : Issued) → is_equal later.ban ban.ban ≡ true → nat_le ban.number later.number ≡ true → is_shown lines later ≡ true → is_shown lines ban ≡ true
shown_later [] later ban e order shown = absurd (false≢true shown)
shown_later (line ∷ lines) later ban e order shown = by_line (shown_later lines later ban e order) (or_cases _ _ shown)
  where
    by_line : (is_shown lines later ≡ true → is_shown lines ban ≡ true) → ((nat_le later.number line.number && stands_for later line) ≡ true) ⊎ (is_shown lines later ≡ true)
        → ((nat_le ban.number line.number && stands_for ban line) || is_shown lines ban) ≡ true
    by_line behind_ (inl here) = or_left (nat_le ban.number line.number && stands_for ban line) (is_shown lines ban) (shown_line later ban line e order here)
    by_line behind_ (inr there) = or_right (nat_le ban.number line.number && stands_for ban line) (is_shown lines ban) (behind_ there)

shown_in : (lines : List Issued) (ban : Issued) (kept : List Issued) → IsIn ban kept → AllByRecursion (λ (b : Issued). is_shown lines b ≡ true) kept → is_shown lines ban ≡ true
shown_in lines ban [] p shown = absurd p
shown_in lines ban (own ∷ kept) (inl same) shown = ap (is_shown lines) same ∙ shown.0
shown_in lines ban (own ∷ kept) (inr p) shown = shown_in lines ban kept p shown.1

shown_completed : (lines : List Issued) (ban : Issued) (kept : List Issued) → is_completed kept ban ≡ true → AllByRecursion (λ (b : Issued). is_shown lines b ≡ true) kept → is_shown lines ban ≡ true
shown_completed lines ban [] e shown = absurd (false≢true e)
shown_completed lines ban (later ∷ kept) e shown = by_first (λ there. shown_completed lines ban kept there shown.1) (or_cases _ _ e)
  where
    by_first : (is_completed kept ban ≡ true → is_shown lines ban ≡ true) → ((nat_le ban.number later.number && is_equal later.ban ban.ban) ≡ true) ⊎ (is_completed kept ban ≡ true) → is_shown lines ban ≡ true
    by_first behind_ (inl here) =
        let both = and_parts (nat_le ban.number later.number) (is_equal later.ban ban.ban) here in
        shown_later lines later ban both.1 both.0 shown.0
    by_first behind_ (inr there) = behind_ there

shown_whole : (lines kept whole : List Issued) → AllByRecursion (λ (ban : Issued). IsIn ban kept ⊎ (is_completed kept ban ≡ true)) whole → AllByRecursion (λ (b : Issued). is_shown lines b ≡ true) kept → AllByRecursion (λ (b : Issued). is_shown lines b ≡ true) whole
shown_whole lines kept [] covers shown = tt
shown_whole lines kept (ban ∷ whole) covers shown = (by_cover covers.0, shown_whole lines kept whole covers.1 shown)
  where
    by_cover : IsIn ban kept ⊎ (is_completed kept ban ≡ true) → is_shown lines ban ≡ true
    by_cover (inl p) = shown_in lines ban kept p shown
    by_cover (inr c) = shown_completed lines ban kept c shown

all_shown_alike : (lines : List Issued) (less more : List Held) → AreHeldAlike less more → AllShown lines less → AllShown lines more
all_shown_alike lines less more all =
    alike_by (λ (l m : List Held). AllShown lines l → AllShown lines m) (λ shown. tt)
    (λ held pending l m thin rest ih shown. (shown_whole lines held.pending pending thin.covers shown.0, ih shown.1)) less more all

list_alike : (less more : State) (answer : Reply) → AreAlikeAsSeen less more → IsBanList less answer → IsBanList more answer
list_alike less more (Bans lines) alike shows =
    record { part = part_of_part (map (λ line. line.issued) lines) less.bans more.bans shows.part alike.bans; shown = all_shown_alike _ less.objects more.objects alike.objects shows.shown; completed = shows.completed }
list_alike less more answer alike shows = absurd shows

-- Entries.

no_list : (one two : State) (call : Call) (law answer : Reply) → asks_bans call ≡ false → MayAnswer one call law answer → MayAnswer two call law answer
no_list one two (Insert token object stale) law answer asks may = may
no_list one two BanList law answer asks may = absurd (true≢false asks)
no_list one two call law answer asks may = may

may_alike : (room : ℕ) (less more : State) (caller : ℕ) (call : Call) (answer : Reply) → AreAlikeAsSeen less more
    → MayAnswer less call (answered room less caller call).reply answer → MayAnswer more call (answered room more caller call).reply answer
may_alike room less more caller BanList answer alike may = list_alike less more answer alike may
may_alike room less more caller call answer alike may =
    subst (λ (r : Reply). MayAnswer more call r answer) (steps_alike room less more caller call alike refl).reply (no_list less more call (answered room less caller call).reply answer refl may)

refused_alike : (less more : State) (call : Call) → AreAlikeAsSeen less more → AreAlikeAsSeen (refused less call) (refused more call)
refused_alike less more (Insert token object stale) alike =
    subst (λ (s : State). AreAlikeAsSeen (refused less (Insert token object stale)) (refused s (Insert token object stale))) alike.rest (record { rest = refl; bans = alike.bans; objects = alike.objects })
refused_alike less more call alike = alike

behind_alike : (reply : Reply) (one two three four : State) → AreAlikeAsSeen one three → AreAlikeAsSeen two four → AreAlikeAsSeen (behind reply one two) (behind reply three four)
behind_alike Refused one two three four p q = p
behind_alike reply one two three four p q = q

step_states : (room : ℕ) (less more : State) (caller : ℕ) (call : Call) → AreAlikeAsSeen less more → AreAlikeAsSeen (answered room less caller call).state (answered room more caller call).state
step_states room less more caller BanList alike = alike
step_states room less more caller call alike = (steps_alike room less more caller call alike refl).states

-- what an entry leaves
after_alike : (params : Params) (less more : State) (caller moment : ℕ) (call : Call) (reply : Reply) → less.moment ≤ moment → AreAlike less more
    → AreAlike (after params less caller moment call reply) (after params more caller moment call reply)
after_alike params less more caller moment call reply order alike =
    let now = alike_at moment less more order alike in
    alike_seen _ _ (entries_alike _ _ (less.entries + 1) (more.entries + 1) (ap (λ (s : State). s.entries + 1) alike.rest)
    (behind_alike reply _ _ _ _ (refused_alike (at_moment moment less) (at_moment moment more) call now) (step_states params.room (at_moment moment less) (at_moment moment more) caller call now)))

waited_alike : (less more : State) (caller : ℕ) (call : Call) → AreAlike less more → HasWaited less caller call → HasWaited more caller call
waited_alike less more caller (Lookup query) alike waited = sym (ap (λ (s : State). awaits s caller) alike.rest) ∙ waited
waited_alike less more caller call alike waited = tt

pub follows_alike : (params : Params) (less more : State) (entry : Entry) → AreAlike less more → Follows params less entry → Follows params more entry
follows_alike params less more entry alike follows =
    record {
      no_earlier = omega (arith, follows.no_earlier, same_moment less more alike);
      waited = waited_alike less more entry.caller entry.call alike follows.waited;
      answer = may_alike params.room (at_moment entry.moment less) (at_moment entry.moment more) entry.caller entry.call entry.reply (alike_at entry.moment less more follows.no_earlier alike) follows.answer;
    }

pub fits_alike : (params : Params) (less more : State) (used : ℕ) (entry : Entry) → less.moment ≤ entry.moment → AreAlike less more → Fits params less used entry → Fits params more used entry
fits_alike params less more used entry order alike fits =
    let same = ap count_open (after_alike params less more entry.caller entry.moment entry.call entry.reply order alike).rest in
    let entries = ap (λ (s : State). s.entries) alike.rest in
    record {
      number = fits.number;
      within = omega (arith, fits.within, same);
      counted = omega (arith, fits.counted, same, entries);
    }

pub follow_alike : (params : Params) (less more : State) (entries : List Entry) → AreAlike less more → FollowAll params less entries
    → FollowAll params more entries × AreAlike (reached_from params less entries) (reached_from params more entries)
follow_alike params less more [] alike follow = (tt, alike)
follow_alike params less more (e ∷ es) alike follow =
    let next = after_alike params less more e.caller e.moment e.call e.reply follow.0.no_earlier alike in
    let later = follow_alike params (next_state params less e) (next_state params more e) es next follow.1 in
    ((follows_alike params less more e alike follow.0, later.0), later.1)

pub within_alike : (params : Params) (less more : State) (used : ℕ) (entries : List Entry) → AreAlike less more → FollowAll params less entries → WithinAll params less used entries → WithinAll params more used entries
within_alike params less more used [] alike follow within = tt
within_alike params less more used (e ∷ es) alike follow within =
    let order = follow.0.no_earlier in
    let next = after_alike params less more e.caller e.moment e.call e.reply order alike in (
      fits_alike params less more used e order alike within.0,
      within_alike params (next_state params less e) (next_state params more e) (used + bytes_of e.call) es next follow.1 within.1,
    )

-- what is legal from a base is legal from one that is alike
pub legal_alike : (params : Params) (less more : State) (entries : List Entry) → AreAlike less more → Legal (record { params = params; base = less }) entries → Legal (record { params = params; base = more }) entries
legal_alike params less more entries alike legal =
    let same = ap count_open alike.rest in
    let count = ap (λ (s : State). s.entries) alike.rest in
    record {
      opens = omega (arith, legal.opens, same);
      counts = omega (arith, legal.counts, same, count);
      follow = (follow_alike params less more entries alike legal.follow).0;
      within = within_alike params less more 0 entries alike legal.follow legal.within;
    }

pub reached_alike : (params : Params) (less more : State) (entries : List Entry) → AreAlike less more → FollowAll params less entries → AreAlike (reached_from params less entries) (reached_from params more entries)
reached_alike params less more entries alike follow = (follow_alike params less more entries alike follow).1
