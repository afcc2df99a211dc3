-- Bans that objects have still to be tested on are bans that were issued, and shown.
use Rattle.std.proofs.Common.{◌≡◌, Bool, true, false, not, List, [], ◌∷◌, filter, map, refl, sym, ap, subst, inl, inr}
use Rattle.std.specs.Prelude.{if◌then◌else◌}
use Rattle.std.specs.List.{AllByRecursion}
use Rattle.std.proofs.lemmas.Bool.{false≢true}
use Rattle.cache_law.specs.declared.ban.BanLine.{BanLine}
use Rattle.cache_law.specs.declared.ban.Issued.{Issued}
use Rattle.cache_law.specs.Bans.{matches, object_only, is_shown}
use Rattle.cache_law.specs.ShownBans.{IsPartOf, AllShown, those_open, has_newer, ShowsBans}
use Rattle.cache_law.specs.State.{Held}
use Rattle.cache_law.specs.BansAtOnce.{ban_over, awaiting, AwaitIssued, open_lines}
use Rattle.cache_law.proofs.BanLemmas.{shown_by_all}

unmatched_step : (issued : Issued) (held : Held) (objects : List Held) (b : Bool) → matches held.view.object issued ≡ b
    → AllByRecursion (λ held. matches held.view.object issued ≡ false) (filter (λ held. not (matches held.view.object issued)) objects)
    → AllByRecursion (λ held. matches held.view.object issued ≡ false) (if not b then held ∷ filter (λ held. not (matches held.view.object issued)) objects else filter (λ held. not (matches held.view.object issued)) objects)
unmatched_step issued held objects true e rest = rest
unmatched_step issued held objects false e rest = (e, rest)

unmatched : (issued : Issued) (objects : List Held) → AllByRecursion (λ held. matches held.view.object issued ≡ false) (filter (λ held. not (matches held.view.object issued)) objects)
unmatched issued [] = tt
unmatched issued (held ∷ objects) = unmatched_step issued held objects (matches held.view.object issued) refl (unmatched issued objects)

pub alone_at_once : (issued : Issued) (objects : List Held) → object_only issued.ban ≡ true
    → AllByRecursion (λ held. matches held.view.object issued ≡ false) (ban_over issued objects)
alone_at_once issued objects e = rw (e) (unmatched issued objects)

same_views : (issued : Issued) (objects : List Held) → map (λ held. held.view) (map (awaiting issued) objects) ≡ map (λ held. held.view) objects
same_views issued [] = refl
same_views issued (held ∷ objects) = ap (λ views. held.view ∷ views) (same_views issued objects)

pub others_stay : (issued : Issued) (objects : List Held) → object_only issued.ban ≡ false
    → map (λ held. held.view) (ban_over issued objects) ≡ map (λ held. held.view) objects
others_stay issued objects e = rw (e) (same_views issued objects)

-- a part of a list is a part of the list with one more
part_of_more : (issued : Issued) (part bans : List Issued) → IsPartOf part bans → IsPartOf part (issued ∷ bans)
part_of_more issued [] bans p = tt
part_of_more issued (ban ∷ part) bans p = inr p

kept_step : (issued : Issued) (bans : List Issued) (held : Held) (objects : List Held) (b : Bool) → IsPartOf held.pending bans
    → AwaitIssued (issued ∷ bans) objects → AwaitIssued (issued ∷ bans) (if b then held ∷ objects else objects)
kept_step issued bans held objects true p rest = (part_of_more issued held.pending bans p, rest)
kept_step issued bans held objects false p rest = rest

kept_await : (issued : Issued) (bans : List Issued) (test : Held → Bool) (objects : List Held) → AwaitIssued bans objects → AwaitIssued (issued ∷ bans) (filter test objects)
kept_await issued bans test [] await = tt
kept_await issued bans test (held ∷ objects) await = kept_step issued bans held (filter test objects) (test held) await.0 (kept_await issued bans test objects await.1)

added_await : (issued : Issued) (bans : List Issued) (objects : List Held) → AwaitIssued bans objects → AwaitIssued (issued ∷ bans) (map (awaiting issued) objects)
added_await issued bans [] await = tt
added_await issued bans (held ∷ objects) await = (inl (refl, await.0), added_await issued bans objects await.1)

over_await : (issued : Issued) (bans : List Issued) (objects : List Held) (b : Bool) → AwaitIssued bans objects
    → AwaitIssued (issued ∷ bans) (if b then filter (λ held. not (matches held.view.object issued)) objects else map (awaiting issued) objects)
over_await issued bans objects true await = kept_await issued bans (λ held. not (matches held.view.object issued)) objects await
over_await issued bans objects false await = added_await issued bans objects await

pub ban_over_await : (issued : Issued) (bans : List Issued) (objects : List Held) → AwaitIssued bans objects → AwaitIssued (issued ∷ bans) (ban_over issued objects)
ban_over_await issued bans objects await = over_await issued bans objects (object_only issued.ban) await

-- what holds of all holds of a part
all_of_part : (P : Issued → Type 0) (part bans : List Issued) → IsPartOf part bans → AllByRecursion P bans → AllByRecursion P part
all_of_part P [] bans p all = tt
all_of_part P (x ∷ part) [] p all = absurd p
all_of_part P (x ∷ part) (y ∷ bans) (inl p) all = (subst P (sym p.0) all.0, all_of_part P part bans p.1 all.1)
all_of_part P (x ∷ part) (y ∷ bans) (inr p) all = all_of_part P (x ∷ part) bans p all.1

all_shown : (bans : List Issued) (objects : List Held) → AwaitIssued bans objects → AllShown bans objects
all_shown bans [] await = tt
all_shown bans (held ∷ objects) await =
    (all_of_part (λ ban. is_shown bans ban ≡ true) held.pending bans await.0 (shown_by_all bans), all_shown bans objects await.1)

issued_of_lines : (bans : List Issued) → map (λ line. line.issued) (open_lines bans) ≡ bans
issued_of_lines [] = refl
issued_of_lines (ban ∷ bans) = ap (λ more. ban ∷ more) (issued_of_lines bans)

open_of_lines : (bans : List Issued) → those_open (open_lines bans) ≡ bans
open_of_lines [] = refl
open_of_lines (ban ∷ bans) = ap (λ more. ban ∷ more) (open_of_lines bans)

whole_part : (bans : List Issued) → IsPartOf bans bans
whole_part [] = tt
whole_part (ban ∷ bans) = inl (refl, whole_part bans)

-- no line is marked
none_completed : (all : List BanLine) (bans : List Issued) → AllByRecursion (λ line. line.completed ≡ true → has_newer all line ≡ true) (open_lines bans)
none_completed all [] = tt
none_completed all (ban ∷ bans) = (λ e. absurd (false≢true e), none_completed all bans)

pub all_bans_shown : (bans : List Issued) (objects : List Held) → AwaitIssued bans objects → ShowsBans bans objects (open_lines bans)
all_bans_shown bans objects await =
    record {
      part = rw (issued_of_lines bans) (whole_part bans);
      shown = rw (open_of_lines bans) (all_shown bans objects await);
      completed = none_completed (open_lines bans) bans;
    }
