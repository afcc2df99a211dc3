-- Whether a list of bans may be given, in the state that a cache stands for.
use Rattle.std.proofs.Common.{◌≡◌, ◌≢◌, inl, inr, ℕ, Bool, true, false, ◌≤◌, ◌+◌, List, [], ◌∷◌, map, refl, arith, sym, ap, ◌∙◌, subst}
use Rattle.std.specs.Prelude.{Option, Some, None, IsTrue, ◌↔◌}
use Rattle.std.specs.List.{AllByRecursion}
use Rattle.std.proofs.lemmas.Bool.{false≢true, true≢false}
use Rattle.cache_law.specs.declared.ban.BanLine.{BanLine}
use Rattle.cache_law.specs.declared.ban.Issued.{Issued}
use Rattle.cache_law.specs.declared.call.Call.TheVariants.{BanList}
use Rattle.cache_law.specs.declared.call.Entry.{Entry}
use Rattle.cache_law.specs.declared.call.Reply.{Reply}
use Rattle.cache_law.specs.declared.call.Reply.TheVariants.{Bans}
use Rattle.cache_law.specs.declared.setting.Params.{Params}
use Rattle.cache_law.specs.Bans.{is_shown}
use Rattle.cache_law.specs.Bases.{AreAlike, AreAlikeAsSeen, AreHeldAlike, IsSound}
use Rattle.cache_law.specs.History.{Follows, reached}
use Rattle.cache_law.specs.Law.{IsBanList}
use Rattle.cache_law.specs.ShownBans.{AllShown, IsPartOf, ShowsBans, has_newer, those_open}
use Rattle.cache_law.specs.State.{State, Held, at_moment}
use Rattle.cache_law.proofs.Alike.{alike_by}
use Rattle.cache_law.proofs.AlikeHistories.{alike_at, follows_alike}
use Rattle.cache_law.proofs.GoingOn.{own_alike}
use Rattle.cache_frame.specs.Framed.{Plain}
use Rattle.journal_text.specs.declared.shown.Shown.{Shown}
use Rattle.journal_text.specs.declared.shown.Shown.TheVariants as shown
use Rattle.journal_text.specs.declared.shown.ShownBan.{ShownBan}
use Rattle.journal_text.specs.Grammar.{shown_ban, shown_of}
use Rattle.history_audit.specs.Listing.{AreLinesOf, IsAllowed, IsListed, ListsIf, found_lines}
use Rattle.history_audit.proofs.Lines.{found_are, found_if}

-- what waits in the thinner state waits in the other one

each_in : (P : Issued → Type 0) (part whole : List Issued) → IsPartOf part whole → AllByRecursion P whole → AllByRecursion P part
each_in P [] whole p all = tt
each_in P (ban ∷ part) [] p all = absurd p
each_in P (ban ∷ part) (other ∷ whole) (inl p) all = (subst P (sym p.0) all.0, each_in P part whole p.1 all.1)
each_in P (ban ∷ part) (other ∷ whole) (inr p) all = each_in P (ban ∷ part) whole p all.1

shown_back : (lines : List Issued) (less more : List Held) → AreHeldAlike less more → AllShown lines more → AllShown lines less
shown_back lines less more all =
    alike_by (λ (l m : List Held). AllShown lines m → AllShown lines l) (λ shown. tt)
    (λ held pending l m thin rest ih shown. (each_in (λ (ban : Issued). is_shown lines ban ≡ true) held.pending pending thin.part shown.0, ih shown.1)) less more all

-- with the bans of the other state the thinner one is still alike
with_bans : (less state : State) → AreAlike less state → AreAlike (record less { bans = state.bans }) state
with_bans less state alike = record { rest = alike.rest; bans = (own_alike state).bans; objects = alike.objects }

some_params : Params
some_params = record { room = 0; history = 0; segments = false }

-- what shows the bans that wait in the thinner state shows those of the other one
lists_on : (less state : State) (moment : ℕ) (lines : List BanLine) → AreAlike less state → less.moment ≤ moment → ShowsBans state.bans (at_moment moment less).objects lines → IsBanList (at_moment moment state) (Bans lines)
lists_on less state moment lines alike order shows =
    let entry : Entry = record { caller = 0; moment = moment; call = BanList; reply = Bans lines } in
    let here : Follows some_params (record less { bans = state.bans }) entry = record { no_earlier = order; waited = tt; answer = shows } in
    (follows_alike some_params (record less { bans = state.bans }) state entry (with_bans less state alike) here).answer

pub may_list : (core : Plain) (bans : List Issued) (moment : ℕ) (shown_ : List ShownBan) (reply : Shown) (lines : List BanLine) → (reached core.beginning core.entries).moment ≤ moment
    → reply ≡ shown.Bans shown_ → found_lines bans shown_ ≡ Some lines → AllByRecursion (λ (line : BanLine). line.completed ≡ true → has_newer lines line ≡ true) lines
    → AllShown (those_open lines) (at_moment moment (reached core.beginning core.entries)).objects → ListsIf core bans moment reply true
may_list core bans moment shown_ reply lines order is found completed shows state alike sound same =
    let are = found_are bans shown_ lines found in
    let part = subst (λ (b : List Issued). IsPartOf (map (λ (line : BanLine). line.issued) lines) b) same are.part in
    record {
      listed = Bans lines;
      shown = ap (λ (s : List ShownBan). shown.Bans s) are.shows ∙ sym is;
      allowed = lists_on (reached core.beginning core.entries) state moment lines alike order (record { part = part; shown = shows; completed = completed });
    }

-- what may be listed
record IsList (state : State) (reply : Reply) : Type 0 where
  pub lines : List BanLine
  pub is : reply ≡ Bans lines
  pub shows : ShowsBans state.bans state.objects lines

list_of : (state : State) (reply : Reply) → IsBanList state reply → IsList state reply
list_of state (Bans lines) may = record { lines = lines; is = refl; shows = may }
list_of state reply may = absurd may

-- a reply that is shown as no list
pub not_a_list : (core : Plain) (bans : List Issued) (moment : ℕ) (reply : Shown) → ((shown_ : List ShownBan) → reply ≢ shown.Bans shown_) → ListsIf core bans moment reply false
not_a_list core bans moment reply other state alike sound same listed may e =
    let list = list_of (at_moment moment state) listed may in
    other (map shown_ban list.lines) (sym e ∙ ap shown_of list.is)

abbrev bans_shown : Shown → List ShownBan
bans_shown (shown.Bans bans) = bans
bans_shown other = []

-- the lines of a list that may be given and is shown so are found
module _ (core : Plain) (bans : List Issued) (moment : ℕ) (shown_ : List ShownBan) (reply : Shown) (is : reply ≡ shown.Bans shown_) where
  found_of : (state : State) → IsSound state → bans ≡ state.bans → (listed : Reply) (may : IsBanList (at_moment moment state) listed) → shown_of listed ≡ reply → found_lines bans shown_ ≡ Some (list_of (at_moment moment state) listed may).lines
  found_of state sound same listed may e =
      let list = list_of (at_moment moment state) listed may in
      let numbers : map shown_ban list.lines ≡ shown_ = ap bans_shown (sym (ap shown_of list.is) ∙ (e ∙ is)) in
      let found = found_if (state.issued + 1) state.bans list.lines sound.falling list.shows.part in
      ap (λ (b : List Issued). found_lines b shown_) same ∙ (ap (λ (s : List ShownBan). found_lines state.bans s) (sym numbers) ∙ found)

  pub none_found : found_lines bans shown_ ≡ None → ListsIf core bans moment reply false
  none_found none state alike sound same listed may e =
      let found = found_of state sound same listed may e in
      let no : ⊥ = cc in
      no

  pub not_allowed : (lines : List BanLine) → (reached core.beginning core.entries).moment ≤ moment → found_lines bans shown_ ≡ Some lines
      → (AllByRecursion (λ (line : BanLine). line.completed ≡ true → has_newer lines line ≡ true) lines → AllShown (those_open lines) (at_moment moment (reached core.beginning core.entries)).objects → ⊥)
      → ListsIf core bans moment reply false
  not_allowed lines order taken fails state alike sound same listed may e =
      let list = list_of (at_moment moment state) listed may in
      let found = found_of state sound same listed may e in
      let both : list.lines ≡ lines = cc in
      let now = alike_at moment (reached core.beginning core.entries) state order alike in
      let Completed : List BanLine → Type 0 = λ (ls : List BanLine). AllByRecursion (λ (line : BanLine). line.completed ≡ true → has_newer ls line ≡ true) ls in
      let Shows : List BanLine → Type 0 = λ (ls : List BanLine). AllShown (those_open ls) (at_moment moment state).objects in
      fails (subst Completed both list.shows.completed) (shown_back (those_open lines) (at_moment moment (reached core.beginning core.entries)).objects (at_moment moment state).objects now.objects (subst Shows both list.shows.shown))

-- by the test of the lines that were found
pub lists_if : (core : Plain) (bans : List Issued) (moment : ℕ) (shown_ : List ShownBan) (reply : Shown) (lines : List BanLine) (allows : Bool) → (reached core.beginning core.entries).moment ≤ moment
    → reply ≡ shown.Bans shown_ → found_lines bans shown_ ≡ Some lines → IsTrue allows ↔ IsAllowed core moment lines → ListsIf core bans moment reply allows
lists_if core bans moment shown_ reply lines true order is found test = let all = test.0 refl in may_list core bans moment shown_ reply lines order is found all.completed all.shown
lists_if core bans moment shown_ reply lines false order is found test =
    not_allowed core bans moment shown_ reply is lines order found (λ completed shows. false≢true (test.1 (record { completed = completed; shown = shows })))
