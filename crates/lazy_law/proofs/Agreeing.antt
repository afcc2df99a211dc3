-- What is done over the bans that are kept is done over all that were issued, where these agree for each object.
use Rattle.std.proofs.Common.{◌≡◌, ◌≤◌, ℕ, Bool, true, false, not, cond, List, [], ◌∷◌, ◌&&◌, ◌||◌, Some, None, filter, map, refl, arith, sym, ap, ◌∙◌}
use Rattle.std.specs.List.{list_any, AllByRecursion}
use Rattle.cache_law.specs.declared.object.Object.{Object}
use Rattle.cache_law.specs.declared.ban.Issued.{Issued}
use Rattle.cache_law.specs.declared.call.Query.{Query}
use Rattle.cache_law.specs.declared.call.RequestView.{RequestView}
use Rattle.cache_law.specs.Object.{in_time, key_of, same_texts}
use Rattle.cache_law.specs.Bans.{matches, meets}
use Rattle.cache_law.specs.Lookup.{Scan, passing}
use Rattle.cache_law.proofs.BanLemmas.{equal_bans_alike}
use Rattle.cache_law.proofs.Held.{all-weaken}
use Rattle.ban_lurker.specs.Looks.{is_above}
use Rattle.lazy_law.specs.Placed.{Placed, above, is_alive, is_dead, is_met, is_unswept, marked_at, those_alive}
use Rattle.lazy_law.specs.Insertion.{tended}
use Rattle.lazy_law.specs.Scan.{scanned_late, tested_late}
use Rattle.lazy_law.specs.Purging.{is_softened, softened_late, softening_late}
use Rattle.lazy_law.specs.Sweeping.{swept, sweeping}
use Rattle.lazy_law.specs.Stands.{Agrees, PassesAlike}
use Rattle.lazy_law.proofs.Filters.{any_of_filter, any_on, each, filter_on, passes_on}

pub matches_alike : (object : Object) → PassesAlike (matches object)
matches_alike object ban later e = equal_bans_alike later.ban ban.ban later.moment ban.moment object None e

meets_alike : (object : Object) (request : RequestView) → PassesAlike (meets object request)
meets_alike object request ban later e = equal_bans_alike later.ban ban.ban later.moment ban.moment object (Some request) e

pub same_dead : (kept bans : List Issued) (p : Placed) → Agrees kept bans p → is_dead kept p ≡ is_dead bans p
same_dead kept bans p agrees = agrees.on_objects (matches p.view.object) (matches_alike p.view.object) p.mark (omega arith)

pub same_met : (kept bans : List Issued) (request : RequestView) (p : Placed) → Agrees kept bans p → is_met kept request p ≡ is_met bans request p
same_met kept bans request p agrees = agrees.on_requests (meets p.view.object request) (meets_alike p.view.object request) p.place (omega arith)

and_true : (b : Bool) → (b && true) ≡ b
and_true true = refl
and_true false = refl

-- what was found by a test that passes all
any_above : (mark : ℕ) (bans : List Issued) → list_any (λ (i : Issued). true) (above mark bans) ≡ list_any (is_above mark) bans
any_above mark bans =
    any_of_filter (λ (i : Issued). true) (is_above mark) bans ∙ any_on (λ (i : Issued). is_above mark i && true) (is_above mark) bans (each _ (λ (i : Issued). and_true (is_above mark i)) bans)

pub same_unswept_at : (kept bans : List Issued) (p : Placed) (mark : ℕ) → p.mark ≤ mark → Agrees kept bans p → list_any (is_above mark) kept ≡ list_any (is_above mark) bans
same_unswept_at kept bans p mark less agrees = sym (any_above mark kept) ∙ agrees.on_objects (λ (i : Issued). true) (λ ban later e. refl) mark less ∙ any_above mark bans

pub same_unswept : (kept bans : List Issued) (p : Placed) → Agrees kept bans p → is_unswept kept p ≡ is_unswept bans p
same_unswept kept bans p agrees = same_unswept_at kept bans p p.mark (omega arith) agrees

abbrev pub AllAgree : List Issued → List Issued → List Placed → Type 0
AllAgree kept bans objects = AllByRecursion (Agrees kept bans) objects

pub same_alive : (moment : ℕ) (kept bans : List Issued) (objects : List Placed) → AllAgree kept bans objects → those_alive moment kept objects ≡ those_alive moment bans objects
same_alive moment kept bans objects all =
    filter_on (is_alive moment kept) (is_alive moment bans) objects
    (all-weaken (Agrees kept bans) (λ p. is_alive moment kept p ≡ is_alive moment bans p) (λ p agrees. ap (λ (b : Bool). in_time moment p.view.object && not b) (same_dead kept bans p agrees)) objects all)

pub same_tended : (moment : ℕ) (kept bans : List Issued) (issued : ℕ) (objects : List Placed) → AllAgree kept bans objects → tended moment kept issued objects ≡ tended moment bans issued objects
same_tended moment kept bans issued objects all =
    passes_on (is_alive moment kept) (is_alive moment bans) (sweeping (is_unswept kept) issued) (sweeping (is_unswept bans) issued) objects
    (all-weaken (Agrees kept bans) (λ p. (is_alive moment kept p ≡ is_alive moment bans p) × (sweeping (is_unswept kept) issued p ≡ sweeping (is_unswept bans) issued p))
    (λ p agrees. (
      ap (λ (b : Bool). in_time moment p.view.object && not b) (same_dead kept bans p agrees),
      ap (λ (b : Bool). cond b (marked_at issued p) p) (same_unswept kept bans p agrees),
    )) objects all)

same_swept_step : (kept bans : List Issued) (chosen : Placed → Bool) (p : Placed) → Agrees kept bans p → not (chosen p && is_dead kept p) ≡ not (chosen p && is_dead bans p)
same_swept_step kept bans chosen p agrees = ap (λ (b : Bool). not (chosen p && b)) (same_dead kept bans p agrees)

-- those that were chosen and are dead go
pub same_spared : (kept bans : List Issued) (chosen : Placed → Bool) (objects : List Placed) → AllAgree kept bans objects
    → filter (λ p. not (chosen p && is_dead kept p)) objects ≡ filter (λ p. not (chosen p && is_dead bans p)) objects
same_spared kept bans chosen objects all =
    filter_on (λ p. not (chosen p && is_dead kept p)) (λ p. not (chosen p && is_dead bans p)) objects
    (all-weaken (Agrees kept bans) (λ p. not (chosen p && is_dead kept p) ≡ not (chosen p && is_dead bans p)) (λ p. same_swept_step kept bans chosen p) objects all)

pub same_softened : (moment : ℕ) (keys : List (List ℕ)) (kept bans : List Issued) (issued : ℕ) (objects : List Placed) → AllAgree kept bans objects
    → softened_late moment keys kept issued objects ≡ softened_late moment keys bans issued objects
same_softened moment keys kept bans issued objects all = ap (map (softening_late moment keys issued)) (same_spared kept bans (is_softened moment keys) objects all)

pub same_swept : (chosen : Placed → Bool) (kept bans : List Issued) (issued : ℕ) (objects : List Placed) → AllAgree kept bans objects → swept chosen kept issued objects ≡ swept chosen bans issued objects
same_swept chosen kept bans issued objects all = ap (map (sweeping chosen issued)) (same_spared kept bans chosen objects all)

same_step : (moment : ℕ) (query : Query) (issued : ℕ) (p : Placed) (objects : List Placed) (one two : Scan Placed) (a b c d : Bool) (ours timely : Bool) → one ≡ two → a ≡ c → b ≡ d
    → cond ours (cond timely (cond (a || b) one (tested_late moment query issued p objects one)) (passing p one)) (passing p one)
    ≡ cond ours (cond timely (cond (c || d) two (tested_late moment query issued p objects two)) (passing p two)) (passing p two)
same_step moment query issued p objects one two a b c d ours timely e dead met =
    ap (λ (s : Scan Placed). cond ours (cond timely (cond (a || b) s (tested_late moment query issued p objects s)) (passing p s)) (passing p s)) e
    ∙ ap (λ (x : Bool). cond ours (cond timely (cond (x || b) two (tested_late moment query issued p objects two)) (passing p two)) (passing p two)) dead
    ∙ ap (λ (x : Bool). cond ours (cond timely (cond (c || x) two (tested_late moment query issued p objects two)) (passing p two)) (passing p two)) met

pub same_scanned : (moment : ℕ) (query : Query) (kept bans : List Issued) (issued : ℕ) (objects : List Placed) → AllAgree kept bans objects → scanned_late moment query kept issued objects ≡ scanned_late moment query bans issued objects
same_scanned moment query kept bans issued [] all = refl
same_scanned moment query kept bans issued (p ∷ objects) all =
    same_step moment query issued p objects (scanned_late moment query kept issued objects) (scanned_late moment query bans issued objects) (is_dead kept p) (is_met kept query.request p) (is_dead bans p) (is_met bans query.request p)
    (same_texts (key_of p.view.object) query.key) (in_time moment p.view.object) (same_scanned moment query kept bans issued objects all.1) (same_dead kept bans p all.0) (same_met kept bans query.request p all.0)
