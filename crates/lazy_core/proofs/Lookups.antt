-- The shelf stands behind a lookup.
use Rattle.std.proofs.Common.{◌≡◌, ◌≤◌, ◌+◌, ◌++◌, ◌∷◌, ℕ, List, [], Option, refl, sym, ap, ◌∙◌, subst}
use Rattle.std.specs.Prelude.{Result, Ok, Err, OnOk}
use Rattle.cache_law.specs.declared.call.Call.{Call}
use Rattle.cache_law.specs.declared.call.Call.TheVariants.{Lookup}
use Rattle.cache_law.specs.declared.call.Entry.{Entry}
use Rattle.cache_law.specs.declared.call.Query.{Query}
use Rattle.cache_law.specs.Beginning.{Beginning}
use Rattle.cache_law.specs.History.{next_state, reached}
use Rattle.cache_law.specs.Lookup.{scanned}
use Rattle.cache_law.specs.State.{Held, State, those_in_time}
use Rattle.cache_desk.specs.Stock.{Stock}
use Rattle.cache_frame.specs.declared.seen.Use.{Use}
use Rattle.cache_frame.specs.declared.seen.Use.TheVariants.{Nothing, Hit, Marker}
use Rattle.cache_frame.specs.Shelves.{LooksOver, used_for}
use Rattle.lazy_law.specs.Beside.{counted_for, looked_late, touched_for}
use Rattle.lazy_law.specs.Placed.{Lazy}
use Rattle.lazy_law.specs.Standing.{StandsAt}
use Rattle.lazy_law.proofs.Beside.{look_grows}
use Rattle.lazy_store.specs.Uses.{AreUsedBefore}
use Rattle.lazy_lookup.specs.Marks.{AreMarksOf, hit_in, marked_by, marker_in, taken, used_in}
use Rattle.lazy_lookup.specs.declared.marks.Marks.{Marks}
use Rattle.lazy_core.specs.Rests.{entries_push}
use Rattle.lazy_core.specs.Shelf.{StandsBehind}
use Rattle.lazy_core.proofs.Uses.{taken_uses}

-- what the law leaves of the objects that something is used of
used_as_law : (place : ℕ) (use_ : Use) (objects : List Held) → used_for place use_ objects ≡ touched_for place (marker_in use_) (counted_for place (hit_in use_) objects)
used_as_law place Nothing objects = refl
used_as_law place (Hit number) objects = refl
used_as_law place (Marker number) objects = refl

pub looks_over : (old new : Lazy) (used now : ℕ) (query : Query) (use_ : Use) (marks : Marks) → new ≡ looked_late now query used (hit_in use_) (marker_in use_) old → new ≡ taken used use_ marks old → LooksOver StandsBehind old new used now query use_
looks_over old new used now query use_ marks looked is beginning entries entry sound stands later place at_ call_ law =
    let state : State = reached beginning entries in
    let next : State = next_state beginning.params state entry in
    let hit : Option ℕ = hit_in use_ in
    let marker : Option ℕ = marker_in use_ in
    let objects : next.objects ≡ touched_for used marker (counted_for used hit (scanned entry.moment query (those_in_time entry.moment state.objects)).objects) =
    ap (λ (s : Stock). s.objects) law
    ∙ used_as_law state.entries use_ (scanned now query (those_in_time now state.objects)).objects
    ∙ ap (λ (n : ℕ). touched_for n marker (counted_for n hit (scanned now query (those_in_time now state.objects)).objects)) place
    ∙ ap (λ (m : ℕ). touched_for used marker (counted_for used hit (scanned m query (those_in_time m state.objects)).objects)) (sym at_) in
    let grown : StandsAt (looked_late entry.moment query used hit marker old) beginning (entries ++ entry ∷ []) =
    look_grows beginning entries entry old query used hit marker call_ (subst (λ (m : ℕ). state.moment ≤ m) (sym at_) later) stands.stands (ap (λ (s : Stock). s.issued) law) (ap (λ (s : Stock). s.bans) law) objects in
    record {
      stands = subst (λ (l : Lazy). StandsAt l beginning (entries ++ entry ∷ [])) (sym looked) (subst (λ (m : ℕ). StandsAt (looked_late m query used hit marker old) beginning (entries ++ entry ∷ [])) at_ grown);
      uses = subst (λ (n : ℕ). AreUsedBefore n new.objects) (sym (entries_push beginning entries entry ∙ ap (λ (n : ℕ). n + 1) place))
          (subst (λ (l : Lazy). AreUsedBefore (used + 1) l.objects) (sym is) (taken_uses used old.issued use_ marks old.objects (subst (λ (n : ℕ). AreUsedBefore n old.objects) place stands.uses)));
    }

pub looks_told : {T E : Type 0} (old new : Lazy) (used now : ℕ) (query : Query) (use_ : Use) (marks : Marks) (result : Result T E) → AreMarksOf now query old marks → OnOk result (new ≡ taken used use_ marks old)
    → OnOk result ((moment : ℕ) (asked : Query) → AreMarksOf moment asked old marks → new ≡ looked_late moment asked used (hit_in use_) (marker_in use_) old) → OnOk result (LooksOver StandsBehind old new used now query use_)
looks_told old new used now query use_ marks (Ok value) are is looked = looks_over old new used now query use_ marks (looked now query are) is
looks_told old new used now query use_ marks (Err e) are is looked = is

-- where an object was used later, nothing stands on it
pub never_looks : (lazy : Lazy) (used now : ℕ) (query : Query) (use_ : Use) → (AreUsedBefore used lazy.objects → ⊥) → LooksOver StandsBehind lazy lazy used now query use_
never_looks lazy used now query use_ not_latest beginning entries entry sound stands later place at_ call_ law =
    absurd (not_latest (subst (λ (n : ℕ). AreUsedBefore n lazy.objects) place stands.uses))
