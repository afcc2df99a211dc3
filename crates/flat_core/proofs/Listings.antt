-- A list of bans shows those that wait for objects where it lacks none of them.
use Rattle.std.proofs.Common.{◌≡◌, ◌⊎◌, inl, inr, ℕ, Bool, true, false, cond, not, ◌&&◌, ◌||◌, ◌≤◌, List, [], ◌∷◌, filter, map, refl, sym, ap, ◌∙◌, subst}
use Rattle.std.specs.Prelude.{IsTrue, ◌↔◌}
use Rattle.std.specs.List.{AllByRecursion, list_any}
use Rattle.std.proofs.lemmas.Bool.{false≢true, true≢false}
use Rattle.cache_law.specs.declared.ban.BanLine.{BanLine}
use Rattle.cache_law.specs.declared.ban.Issued.{Issued}
use Rattle.cache_law.specs.Bans.{is_shown}
use Rattle.cache_law.specs.History.{reached}
use Rattle.cache_law.specs.Object.{in_time}
use Rattle.cache_law.specs.ShownBans.{AllShown, those_open}
use Rattle.cache_law.specs.State.{State, at_moment, those_in_time}
use Rattle.cache_frame.specs.Shelves.{Tells}
use Rattle.flat_core.specs.declared.stored_object.StoredObject.{StoredObject}
use Rattle.flat_core.specs.Listing.{is_missing, lacks_one}
use Rattle.flat_core.specs.Rests.{same_at}
use Rattle.flat_core.specs.Shelf.{StandsFor, Stored}
use Rattle.flat_core.specs.StoredObject.{held_all, is_waiting, since, waiting}

-- each of these bans is shown
abbrev AreShownIn : List Issued → List Issued → Type 0
AreShownIn lines bans = AllByRecursion (λ (ban : Issued). is_shown lines ban ≡ true) bans

one_shown : (lines : List Issued) (ban : Issued) (rest : List Issued) (waits shows lacks : Bool) → shows ≡ is_shown lines ban → ((lacks ≡ false) ↔ AreShownIn lines rest)
    → (((waits && not shows) || lacks) ≡ false) ↔ AreShownIn lines (cond waits (ban ∷ rest) rest)
one_shown lines ban rest false shows lacks is more = more
one_shown lines ban rest true true lacks is more = ((λ e. (sym is, more.0 e)), λ all. more.1 all.1)
one_shown lines ban rest true false lacks is more = ((λ e. absurd (true≢false e)), λ all. absurd (false≢true (is ∙ all.0)))

all_waiting : (lines : List BanLine) (bans : List Issued) → (list_any (is_missing lines) bans ≡ false) ↔ AreShownIn (those_open lines) (filter is_waiting bans)
all_waiting lines [] = ((λ e. tt), λ all. refl)
all_waiting lines (ban ∷ bans) =
    one_shown (those_open lines) ban (filter is_waiting bans) (is_waiting ban) (is_shown (those_open lines) ban) (list_any (is_missing lines) bans) refl (all_waiting lines bans)

one_object : (lines : List Issued) (pending : List Issued) (rest : Type 0) (lives here lacks : Bool) → ((here ≡ false) ↔ AreShownIn lines pending) → ((lacks ≡ false) ↔ rest)
    → (((lives && here) || lacks) ≡ false) ↔ (cond lives (AreShownIn lines pending × rest) rest)
one_object lines pending rest false here lacks one more = more
one_object lines pending rest true false lacks one more = ((λ e. (one.0 refl, more.0 e)), λ all. more.1 all.1)
one_object lines pending rest true true lacks one more = ((λ e. absurd (true≢false e)), λ all. absurd (true≢false (one.1 all.0)))

kept_shown : (lines : List Issued) (bans : List Issued) (kept : StoredObject) (rest : List StoredObject) (moment : ℕ) (lives : Bool)
    → cond lives (AreShownIn lines (waiting bans kept.tested) × AllShown lines (those_in_time moment (held_all bans rest))) (AllShown lines (those_in_time moment (held_all bans rest)))
    → AllShown lines (cond lives (record { view = kept.view; used = kept.used; pending = waiting bans kept.tested } ∷ those_in_time moment (held_all bans rest)) (those_in_time moment (held_all bans rest)))
kept_shown lines bans kept rest moment true all = all
kept_shown lines bans kept rest moment false all = all

shown_kept : (lines : List Issued) (bans : List Issued) (kept : StoredObject) (rest : List StoredObject) (moment : ℕ) (lives : Bool)
    → AllShown lines (cond lives (record { view = kept.view; used = kept.used; pending = waiting bans kept.tested } ∷ those_in_time moment (held_all bans rest)) (those_in_time moment (held_all bans rest)))
    → cond lives (AreShownIn lines (waiting bans kept.tested) × AllShown lines (those_in_time moment (held_all bans rest))) (AllShown lines (those_in_time moment (held_all bans rest)))
shown_kept lines bans kept rest moment true all = all
shown_kept lines bans kept rest moment false all = all

all_objects : (moment : ℕ) (lines : List BanLine) (bans : List Issued) (objects : List StoredObject)
    → (list_any (lacks_one moment lines bans) objects ≡ false) ↔ AllShown (those_open lines) (those_in_time moment (held_all bans objects))
all_objects moment lines bans [] = ((λ e. tt), λ all. refl)
all_objects moment lines bans (kept ∷ objects) =
    let lives : Bool = in_time moment kept.view.object in
    let one = one_object (those_open lines) (waiting bans kept.tested) (AllShown (those_open lines) (those_in_time moment (held_all bans objects))) lives (list_any (is_missing lines) (since kept.tested bans))
    (list_any (lacks_one moment lines bans) objects) (all_waiting lines (since kept.tested bans)) (all_objects moment lines bans objects) in
    ((λ e. kept_shown (those_open lines) bans kept objects moment lives (one.0 e)), λ all. one.1 (shown_kept (those_open lines) bans kept objects moment lives all))

not_lacking : (lacks : Bool) → (not lacks ≡ true) ↔ (lacks ≡ false)
not_lacking true = ((λ e. absurd (false≢true e)), λ e. absurd (true≢false e))
not_lacking false = ((λ e. refl), λ e. refl)

-- whether the lines show the bans that are needed
pub shows_so : (stored : Stored) (moment : ℕ) (lines : List BanLine) (lacks told : Bool) → lacks ≡ list_any (lacks_one moment lines stored.bans) stored.objects → told ≡ not lacks
    → Tells StandsFor stored moment (λ (state : State). IsTrue told ↔ AllShown (those_open lines) state.objects)
shows_so stored moment lines lacks told is tells beginning entries sound stands later =
    let state : State = reached beginning entries in
    let all = all_objects moment lines stored.bans stored.objects in
    let plain = not_lacking lacks in
    subst (λ (s : State). IsTrue told ↔ AllShown (those_open lines) s.objects) (same_at stored state moment stands.reaches later)
    ((λ yes_. all.0 (sym is ∙ plain.0 (sym tells ∙ yes_))), λ shown. tells ∙ plain.1 (is ∙ all.1 shown))
