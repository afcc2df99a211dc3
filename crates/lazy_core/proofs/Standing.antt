-- What the lazy cache's shelf tells is what the law has, and a call that is answered so by the late words leaves it standing.
use Rattle.std.proofs.Common.{◌≡◌, ◌≤◌, ◌+◌, ◌++◌, ◌∷◌, ℕ, Bool, List, [], Option, sym, ap, ◌∙◌, subst}
use Rattle.std.specs.Prelude.{Result, Ok, Err, IfOk, OnErr}
use Rattle.cache_law.specs.declared.ban.BanLine.{BanLine}
use Rattle.cache_law.specs.declared.ban.Issued.{Issued}
use Rattle.cache_law.specs.declared.call.Call.{Call}
use Rattle.cache_law.specs.declared.call.Call.TheVariants.{BanList}
use Rattle.cache_law.specs.declared.call.Entry.{Entry}
use Rattle.cache_law.specs.declared.call.Query.{Query}
use Rattle.cache_law.specs.declared.call.Reply.{Reply}
use Rattle.cache_law.specs.Beginning.{Beginning}
use Rattle.cache_law.specs.Bases.{IsSound}
use Rattle.cache_law.specs.History.{reached}
use Rattle.cache_law.specs.Law.{MayAnswer, answered}
use Rattle.cache_law.specs.Lookup.{Scan, scanned}
use Rattle.cache_law.specs.State.{Held, State, at_moment, is_gone, those_in_time}
use Rattle.cache_desk.specs.Stock.{Stock, no_stock, stock_of}
use Rattle.cache_frame.specs.declared.seen.Seen.{Seen}
use Rattle.cache_frame.specs.Shelves.{AreShown, IsScan, Joins, StandsOn, Tells, entry_of}
use Rattle.lazy_law.specs.Insertion.{is_gone_late}
use Rattle.lazy_law.specs.Late.{LateStep, answered_late, desk_of}
use Rattle.lazy_law.specs.Placed.{Lazy, Placed, kept_bans, nothing_kept, seen}
use Rattle.lazy_law.specs.Scan.{scanned_late}
use Rattle.lazy_law.specs.Standing.{StandsAt}
use Rattle.lazy_law.proofs.Answered.{each_stands}
use Rattle.lazy_law.proofs.Cutting.{cut_at}
use Rattle.lazy_law.proofs.Growing.{call_grows}
use Rattle.lazy_law.proofs.Opening.{nothing_stands}
use Rattle.lazy_law.proofs.Scanned.{seen_scan}
use Rattle.lazy_law.proofs.Seen.{seen_gone}
use Rattle.lazy_law.proofs.Steps.{gone_same, later_same, scan_same}
use Rattle.lazy_store.specs.Cutting.{AreCut}
use Rattle.lazy_store.specs.Uses.{AreUsedBefore}
use Rattle.lazy_lookup.specs.Marks.{scan_of}
use Rattle.lazy_core.specs.Rests.{entries_push}
use Rattle.lazy_core.specs.Shelf.{StandsBehind}

-- ---- what it tells

-- no objects, and no bans
pub stands_empty : (lazy : Lazy) → lazy ≡ nothing_kept → (beginning : Beginning) → stock_of beginning.base ≡ no_stock → StandsBehind lazy beginning []
stands_empty lazy empty beginning none =
    subst (λ (l : Lazy). StandsBehind l beginning []) (sym empty)
    (record {
      stands = nothing_stands beginning (ap (λ (s : Stock). s.issued) none) (ap (λ (s : Stock). s.bans) none) (ap (λ (s : Stock). s.objects) none);
      uses = tt;
    })

-- the objects in time are those that are seen
pub seen_now : (lazy : Lazy) (beginning : Beginning) (entries : List Entry) (now : ℕ) → StandsBehind lazy beginning entries → (reached beginning entries).moment ≤ now
    → those_in_time now (reached beginning entries).objects ≡ seen now (reached beginning entries).bans lazy.objects
seen_now lazy beginning entries now stands later =
    let state : State = reached beginning entries in
    later_same lazy state.moment now state.issued state.bans state.objects later stands.stands.stands

-- whether a stale object is gone
pub gone_so : (lazy : Lazy) (now : ℕ) (stale : Option ℕ) (gone : Bool) → gone ≡ is_gone_late now (kept_bans lazy) stale lazy.objects → Tells StandsBehind lazy now (λ (state : State). gone ≡ is_gone stale state.objects)
gone_so lazy now stale gone is beginning entries sound stands later =
    let state : State = reached beginning entries in
    is ∙ gone_same now (kept_bans lazy) state.bans stale lazy.objects stands.stands.stands.kept.agrees ∙ sym (seen_gone now state.bans stale lazy.objects)
    ∙ ap (is_gone stale) (sym (seen_now lazy beginning entries now stands later))

-- the list of bans shows them
pub shown_so : (lazy : Lazy) (now : ℕ) (lines : List BanLine) → lines ≡ lazy.lines → Tells StandsBehind lazy now (AreShown lines)
shown_so lazy now lines are beginning entries sound stands later =
    let state : State = reached beginning entries in
    subst (λ (ls : List BanLine). AreShown ls (at_moment now state)) (sym are) (each_stands 0 lazy state now 0 BanList later stands.stands.stands).answer

-- what a lookup sees
pub scan_so : {M : Type 0} (lazy : Lazy) (now : ℕ) (query : Query) (told : Seen M) → told.fresh ≡ (scan_of now query lazy).fresh → told.grace ≡ (scan_of now query lazy).grace → told.stale ≡ (scan_of now query lazy).stale
    → Tells StandsBehind lazy now (IsScan now query told)
scan_so lazy now query told fresh grace stale beginning entries sound stands later =
    let state : State = at_moment now (reached beginning entries) in
    let law : scanned now query state.objects ≡ seen_scan now state.bans (scan_of now query lazy) =
    ap (scanned now query) (seen_now lazy beginning entries now stands later) ∙ scan_same lazy state stands.stands.stands.kept query in
    record {
      fresh = ap (λ (s : Scan Held). s.fresh) law ∙ sym fresh;
      grace = ap (λ (s : Scan Held). s.grace) law ∙ sym grace;
      stale = ap (λ (s : Scan Held). s.stale) law ∙ sym stale;
    }

pub look_told : {M E : Type 0} (lazy : Lazy) (now : ℕ) (query : Query) (result : Result (Seen M) E) → IfOk result (λ told. told.fresh ≡ (scan_of now query lazy).fresh) → IfOk result (λ told. told.grace ≡ (scan_of now query lazy).grace)
    → IfOk result (λ told. told.stale ≡ (scan_of now query lazy).stale) → IfOk result (λ told. Tells StandsBehind lazy now (IsScan now query told))
look_told lazy now query (Ok told) fresh grace stale = scan_so lazy now query told fresh grace stale
look_told lazy now query (Err e) fresh grace stale = fresh

-- ---- what it leaves

-- what was answered so
pub moves : (old new : Lazy) (beginning : Beginning) (entries : List Entry) (caller now : ℕ) (call : Call) (reply : Reply) → IsSound (reached beginning entries) → StandsBehind old beginning entries → (reached beginning entries).moment ≤ now
    → answered_late beginning.params.room (desk_of (at_moment now (reached beginning entries))) caller call old ≡ record { reply = reply; lazy = new }
    → AreUsedBefore ((reached beginning entries).entries + 1) new.objects → Joins StandsBehind new beginning entries (entry_of caller now call reply)
moves old new beginning entries caller now call reply sound stands later is uses =
    let state : State = reached beginning entries in
    record {
      allows = subst (λ (step : LateStep). MayAnswer (at_moment now state) call (answered beginning.params.room (at_moment now state) caller call).reply step.reply) is
          (each_stands beginning.params.room old state now caller call later stands.stands.stands).answer;
      stands = record {
        stands = subst (λ (step : LateStep). StandsAt step.lazy beginning (entries ++ entry_of caller now call step.reply ∷ [])) is
            (call_grows beginning entries old caller now call sound later stands.stands);
        uses = subst (λ (place : ℕ). AreUsedBefore place new.objects) (sym (entries_push beginning entries (entry_of caller now call reply))) uses;
      };
    }

-- a cut of the oldest lines leaves what stands for the same
pub cut_behind : (old new : Lazy) → AreCut old new → (beginning : Beginning) (entries : List Entry) → StandsBehind old beginning entries → StandsBehind new beginning entries
cut_behind old new cut beginning entries stands =
    subst (λ (l : Lazy). StandsBehind l beginning entries) (sym cut.is)
    (record { stands = cut_at cut.left old beginning entries cut.may stands.stands; uses = stands.uses })

pub cut_on : (old new : Lazy) → AreCut old new → StandsOn StandsBehind old new
cut_on old new cut beginning entries sound stands = cut_behind old new cut beginning entries stands

pub same_on : (old new : Lazy) → new ≡ old → StandsOn StandsBehind old new
same_on old new same beginning entries sound stands = subst (λ (l : Lazy). StandsBehind l beginning entries) (sym same) stands

pub both_on : (old now new : Lazy) → StandsOn StandsBehind old now → StandsOn StandsBehind now new → StandsOn StandsBehind old new
both_on old now new one other beginning entries sound stands = other beginning entries sound (one beginning entries sound stands)

-- where memory was wanting
pub same_told : {T E : Type 0} (old new : Lazy) (result : Result T E) → OnErr result (new ≡ old) → OnErr result (StandsOn StandsBehind old new)
same_told old new (Ok value) same = same
same_told old new (Err e) same = same_on old new same
