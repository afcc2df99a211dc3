-- A legal history has a text of its own.
use Rattle.std.proofs.Common.{◌≡◌, ◌≢◌, ◌⊎◌, inl, inr, ℕ, ◌+◌, ◌<◌, Bool, List, [], ◌∷◌, map, sym, ap, ◌∙◌, subst, refl, arith}
use Rattle.cache_law.specs.declared.ban.BanLine.{BanLine}
use Rattle.cache_law.specs.declared.ban.Issued.{Issued}
use Rattle.cache_law.specs.declared.call.Call.{Call}
use Rattle.cache_law.specs.declared.call.Call.TheVariants.{Begin, Draw, Lookup, Pick, Insert, Ban, BanList, Purge, Xkey, SetHealth, Load, Switch, Discard, VclList, Drop, End}
use Rattle.cache_law.specs.declared.call.Entry.{Entry}
use Rattle.cache_law.specs.declared.call.Reply.{Reply}
use Rattle.cache_law.specs.declared.call.Reply.TheVariants as replies
use Rattle.cache_law.specs.declared.setting.Params.{Params}
use Rattle.cache_law.specs.Bases.{AreFalling, IsSound}
use Rattle.cache_law.specs.History.{FollowAll, Follows, next_state}
use Rattle.cache_law.specs.Law.{IsBanList, MayAnswer, step_of}
use Rattle.cache_law.specs.ShownBans.{IsPartOf, ShowsBans}
use Rattle.cache_law.specs.State.{State, at_moment}
use Rattle.cache_law.proofs.Sound.{sound_at, sound_next}
use Rattle.journal_text.specs.declared.line.Line.{Line}
use Rattle.journal_text.specs.declared.line.Line.TheVariants as line
use Rattle.journal_text.specs.declared.line.Said.{Said}
use Rattle.journal_text.specs.declared.shown.Shown.TheVariants as shown
use Rattle.journal_text.specs.Grammar.{said_of, shown_ban, shown_of}
use Rattle.journal_text.specs.Journals.{entries_before, lines_text}
use Rattle.journal_reader.specs.Histories.{AreLines}
use Rattle.journal_reader.proofs.Feeds.{lines_same}

-- some of the bans have lesser numbers than the bound
part_below : (bound : ℕ) (bans : List Issued) (first : Issued) (part : List Issued) → AreFalling bound bans → IsPartOf (first ∷ part) bans → first.number < bound
part_below bound [] first part f p = absurd p
part_below bound (ban ∷ bans) first part f p =
    elim p [
      | inl here ↦ let less = f.0 in let same = ap (λ b. b.number) here.0 in omega (arith, less, same)
      | inr later ↦ let less = f.0 in let more = part_below ban.number bans first part f.1 later in omega (arith, less, more)
    ]

numbers : List Issued → List ℕ
numbers bans = map (λ ban. ban.number) bans

-- bans with the same numbers are the same
part_same : (bound : ℕ) (bans some others : List Issued) → AreFalling bound bans → IsPartOf some bans → IsPartOf others bans → numbers some ≡ numbers others → some ≡ others
unfolding numbers
part_same bound bans [] [] f p q e = refl
part_same bound bans [] (y ∷ others) f p q e = cc
part_same bound bans (x ∷ some) [] f p q e = cc
part_same bound [] (x ∷ some) (y ∷ others) f p q e = absurd p
part_same bound (ban ∷ bans) (x ∷ some) (y ∷ others) f p q e =
    let first : x.number ≡ y.number = cc in
    let later : numbers some ≡ numbers others = cc in
    elim p [
      | inl here ↦ elim q [
        | inl there ↦
            let more = part_same ban.number bans some others f.1 here.1 there.1 later in
            let one : x ≡ y = here.0 ∙ sym there.0 in
            cc
        | inr on ↦
            let less = part_below ban.number bans y others f.1 on in
            let same = ap (λ b. b.number) here.0 in
            absurd (omega (arith, less, same, first))
      ]
      | inr after ↦ elim q [
        | inl there ↦
            let less = part_below ban.number bans x some f.1 after in
            let same = ap (λ b. b.number) there.0 in
            absurd (omega (arith, less, same, first))
        | inr on ↦ part_same ban.number bans (x ∷ some) (y ∷ others) f.1 after on e
      ]
    ]

issued_of : List BanLine → List Issued
issued_of lines = map (λ one. one.issued) lines

shown_numbers : (some others : List BanLine) → map shown_ban some ≡ map shown_ban others → numbers (issued_of some) ≡ numbers (issued_of others)
unfolding numbers issued_of
shown_numbers [] [] e = refl
shown_numbers [] (y ∷ others) e = cc
shown_numbers (x ∷ some) [] e = cc
shown_numbers (x ∷ some) (y ∷ others) e =
    let heads : shown_ban x ≡ shown_ban y = cc in
    let tails : map shown_ban some ≡ map shown_ban others = cc in
    let first : x.issued.number ≡ y.issued.number = ap (λ one. one.number) heads in
    let later : map (λ ban. ban.number) (map (λ one. one.issued) some) ≡ map (λ ban. ban.number) (map (λ one. one.issued) others) = shown_numbers some others tails in
    cc

line_of : Issued → Bool → BanLine
line_of issued completed = record { issued = issued; completed = completed }

lines_of_same : (some others : List BanLine) → map shown_ban some ≡ map shown_ban others → issued_of some ≡ issued_of others → some ≡ others
unfolding issued_of line_of
lines_of_same [] [] e i = refl
lines_of_same [] (y ∷ others) e i = cc
lines_of_same (x ∷ some) [] e i = cc
lines_of_same (x ∷ some) (y ∷ others) e i =
    let heads : shown_ban x ≡ shown_ban y = cc in
    let tails : map shown_ban some ≡ map shown_ban others = cc in
    let first : x.issued ≡ y.issued = cc in
    let later : map (λ one. one.issued) some ≡ map (λ one. one.issued) others = cc in
    let done : x.completed ≡ y.completed = ap (λ one. one.completed) heads in
    let more = lines_of_same some others tails later in
    let one : x ≡ y = ap (λ b. line_of b x.completed) first ∙ ap (λ c. line_of y.issued c) done in
    cc

-- a reply that is a list of bans
record IsList (state : State) (reply : Reply) : Type 0 where
  pub lines : List BanLine
  pub is : reply ≡ replies.Bans lines
  pub shows : ShowsBans state.bans state.objects lines

is_list : (state : State) (reply : Reply) → IsBanList state reply → IsList state reply
is_list state (replies.Began number vcl text) h = absurd h
is_list state replies.NoRound h = absurd h
is_list state (replies.Drawn number) h = absurd h
is_list state (replies.Hit view) h = absurd h
is_list state (replies.HitMiss token) h = absurd h
is_list state replies.HitPass h = absurd h
is_list state (replies.Grace view token) h = absurd h
is_list state (replies.Wait token) h = absurd h
is_list state (replies.Miss token stale) h = absurd h
is_list state (replies.Picked name) h = absurd h
is_list state (replies.Stored number) h = absurd h
is_list state replies.NotOpen h = absurd h
is_list state replies.StaleGone h = absurd h
is_list state replies.NotInTime h = absurd h
is_list state replies.NoRoom h = absurd h
is_list state replies.Refused h = absurd h
is_list state replies.Banned h = absurd h
is_list state (replies.Bans lines) h = record { lines = lines; is = refl; shows = h }
is_list state (replies.Purged count) h = absurd h
is_list state (replies.HealthSet is_set) h = absurd h
is_list state (replies.Loaded number) h = absurd h
is_list state replies.NameTaken h = absurd h
is_list state replies.Switched h = absurd h
is_list state replies.NoVcl h = absurd h
is_list state replies.Discarded h = absurd h
is_list state replies.IsActive h = absurd h
is_list state (replies.Vcls lines) h = absurd h
is_list state replies.Dropped h = absurd h
is_list state replies.Ended h = absurd h

only_refused : (reply : Reply) → shown_of reply ≡ shown.Refused → reply ≡ replies.Refused
only_refused (replies.Began number vcl text) e = cc
only_refused replies.NoRound e = cc
only_refused (replies.Drawn number) e = cc
only_refused (replies.Hit view) e = cc
only_refused (replies.HitMiss token) e = cc
only_refused replies.HitPass e = cc
only_refused (replies.Grace view token) e = cc
only_refused (replies.Wait token) e = cc
only_refused (replies.Miss token stale) e = cc
only_refused (replies.Picked name) e = cc
only_refused (replies.Stored number) e = cc
only_refused replies.NotOpen e = cc
only_refused replies.StaleGone e = cc
only_refused replies.NotInTime e = cc
only_refused replies.NoRoom e = cc
only_refused replies.Refused e = refl
only_refused replies.Banned e = cc
only_refused (replies.Bans lines) e = cc
only_refused (replies.Purged count) e = cc
only_refused (replies.HealthSet is_set) e = cc
only_refused (replies.Loaded number) e = cc
only_refused replies.NameTaken e = cc
only_refused replies.Switched e = cc
only_refused replies.NoVcl e = cc
only_refused replies.Discarded e = cc
only_refused replies.IsActive e = cc
only_refused (replies.Vcls lines) e = cc
only_refused replies.Dropped e = cc
only_refused replies.Ended e = cc

list_same : (state : State) (some other : Reply) → IsSound state → IsBanList state some → IsBanList state other → shown_of some ≡ shown_of other → some ≡ other
unfolding issued_of
list_same state some other sound h k e =
    let a = is_list state some h in
    let b = is_list state other k in
    let shows : shown.Bans (map shown_ban a.lines) ≡ shown.Bans (map shown_ban b.lines) = sym (ap shown_of a.is) ∙ (e ∙ ap shown_of b.is) in
    let lines : map shown_ban a.lines ≡ map shown_ban b.lines = cc in
    let issued = part_same (state.issued + 1) state.bans (issued_of a.lines) (issued_of b.lines) sound.falling a.shows.part b.shows.part (shown_numbers a.lines b.lines lines) in
    a.is ∙ (ap replies.Bans (lines_of_same a.lines b.lines lines issued) ∙ sym b.is)

insert_same : (law some other : Reply) → (some ≡ law) ⊎ ((some ≡ replies.Refused) × (law ≢ replies.NotOpen)) → (other ≡ law) ⊎ ((other ≡ replies.Refused) × (law ≢ replies.NotOpen)) → shown_of some ≡ shown_of other → some ≡ other
insert_same law some other h k e =
    elim h [
      | inl p ↦ elim k [
        | inl q ↦ p ∙ sym q
        | inr q ↦ only_refused some (e ∙ ap shown_of q.0) ∙ sym q.0
      ]
      | inr p ↦ p.0 ∙ sym (only_refused other (sym e ∙ ap shown_of p.0))
    ]

-- replies that may be given and are shown alike are the same
reply_same : (state : State) (call : Call) (law some other : Reply) → IsSound state → MayAnswer state call law some → MayAnswer state call law other → shown_of some ≡ shown_of other → some ≡ other
reply_same state Begin law some other sound h k e = h ∙ sym k
reply_same state Draw law some other sound h k e = h ∙ sym k
reply_same state (Lookup query) law some other sound h k e = h ∙ sym k
reply_same state (Pick number target word) law some other sound h k e = h ∙ sym k
reply_same state (Insert token object stale) law some other sound h k e = insert_same law some other h k e
reply_same state (Ban ban) law some other sound h k e = h ∙ sym k
reply_same state BanList law some other sound h k e = list_same state some other sound h k e
reply_same state (Purge key) law some other sound h k e = h ∙ sym k
reply_same state (Xkey keys soft) law some other sound h k e = h ∙ sym k
reply_same state (SetHealth backend given) law some other sound h k e = h ∙ sym k
reply_same state (Load source) law some other sound h k e = h ∙ sym k
reply_same state (Switch name) law some other sound h k e = h ∙ sym k
reply_same state (Discard name) law some other sound h k e = h ∙ sym k
reply_same state VclList law some other sound h k e = h ∙ sym k
reply_same state (Drop token) law some other sound h k e = h ∙ sym k
reply_same state End law some other sound h k e = h ∙ sym k

entry_of : Said → Reply → Entry
entry_of said reply = record { caller = said.caller; moment = said.moment; call = said.call; reply = reply }

entry_said : Line → Said → Said
entry_said (line.Entry said) other = said
entry_said one other = other

entry_same : (params : Params) (state : State) (some other : Entry) → IsSound (at_moment other.moment state) → Follows params state some → Follows params state other → said_of some ≡ said_of other → some ≡ other
unfolding entry_of
entry_same params state some other sound f g e =
    let at : Said → Type 0 = λ said. MayAnswer (at_moment said.moment state) said.call (step_of params state said.caller said.moment said.call).reply some.reply in
    let answer = subst at e f.answer in
    let shows : shown_of some.reply ≡ shown_of other.reply = ap (λ said. said.reply) e in
    let reply = reply_same (at_moment other.moment state) other.call (step_of params state other.caller other.moment other.call).reply some.reply other.reply sound answer g.answer shows in
    ap (λ said. entry_of said some.reply) e ∙ ap (λ one. entry_of (said_of other) one) reply

entries_same : (params : Params) (state : State) (some others : List Entry) → IsSound state → FollowAll params state some → FollowAll params state others → entries_before [] some ≡ entries_before [] others → some ≡ others
unfolding entry_said
entries_same params state [] [] sound f g e = refl
entries_same params state [] (y ∷ others) sound f g e = cc
entries_same params state (x ∷ some) [] sound f g e = cc
entries_same params state (x ∷ some) (y ∷ others) sound f g e =
    let heads : line.Entry (said_of x) ≡ line.Entry (said_of y) = cc in
    let tails : entries_before [] some ≡ entries_before [] others = cc in
    let said : said_of x ≡ said_of y = ap (λ one. entry_said one (said_of y)) heads in
    let one = entry_same params state x y (sound_at y.moment state sound) f.0 g.0 said in
    let at : Entry → Type 0 = λ entry. FollowAll params (next_state params state entry) some in
    let more = entries_same params (next_state params state y) some others (sound_next params state y sound) (subst at one f.1) g.1 tails in
    cc

pub history_same : (params : Params) (state : State) (some others : List Entry) → IsSound state → FollowAll params state some → FollowAll params state others → AreLines (entries_before [] some) → AreLines (entries_before [] others) → lines_text (entries_before [] some) ≡ lines_text (entries_before [] others) → some ≡ others
history_same params state some others sound f g h k e =
    entries_same params state some others sound f g (lines_same (entries_before [] some) (entries_before [] others) h k e)
