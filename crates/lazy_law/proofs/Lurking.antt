-- What the lurker sweeps the law doesn't see, and what it takes out is a chore of the history.
use Rattle.std.proofs.Common.{◌≡◌, ◌≤◌, ◌<◌, ◌+◌, ℕ, Bool, true, false, not, cond, List, [], ◌∷◌, ◌&&◌, ◌||◌, Option, filter, map, length, refl, arith, sym, ap, ◌∙◌, subst}
use Rattle.std.specs.List.{list_any, AllByRecursion}
use Rattle.std.proofs.lemmas.Bool.{false≢true, le-leb}
use Rattle.std.proofs.lemmas.List.Filters.{length-filter_both}
use Rattle.cache_law.specs.declared.call.Entry.{Entry}
use Rattle.cache_law.specs.declared.object.Object.{Object}
use Rattle.cache_law.specs.declared.ban.Issued.{Issued}
use Rattle.cache_law.specs.Beginning.{Beginning}
use Rattle.cache_law.specs.Bans.{matches}
use Rattle.cache_law.specs.History.{reached}
use Rattle.cache_law.specs.State.{Held, State}
use Rattle.cache_law.proofs.Held.{all-weaken}
use Rattle.ban_lurker.specs.Looks.{is_above, look_of}
use Rattle.ban_lurker.specs.Verdicts.{IsChoreOf, between, is_between}
use Rattle.lazy_law.specs.Placed.{Lazy, Placed, above, is_dead, is_unswept, kept_bans, marked_at, seen}
use Rattle.lazy_law.specs.Sweeping.{chore_of, count_chosen, count_unswept, swept, swept_lazy, sweeping}
use Rattle.lazy_law.specs.Stands.{Agrees, IsKept, IsWithin, Stands, StandsFor}
use Rattle.lazy_law.specs.Standing.{IsKnownBy, StandsAt}
use Rattle.lazy_law.proofs.Agreeing.{matches_alike, same_swept, same_unswept}
use Rattle.lazy_law.proofs.Filters.{any_none, each, filter_both, filter_of_map, filter_on, length_of_map}
use Rattle.lazy_law.proofs.Keeping.{keep_swept}
use Rattle.lazy_law.proofs.Looking.{IsKnown, all_known, stays_known}
use Rattle.lazy_law.proofs.Numbers.{AreUpTo, not_above}
use Rattle.lazy_law.proofs.Seen.{IsUnseen, unseen_mark, unseen_pass}
use Rattle.lazy_law.proofs.Staying.{agreeing_stays, all_up_to, kept_up_to, kept_with, stays_within}

-- ---- a sweep

swept_seen : (lazy : Lazy) (moment : ℕ) (bans : List Issued) (chosen : Placed → Bool) → IsKept lazy bans → seen moment bans (swept chosen (kept_bans lazy) lazy.issued lazy.objects) ≡ seen moment bans lazy.objects
swept_seen lazy moment bans chosen kept =
    ap (seen moment bans) (same_swept chosen (kept_bans lazy) bans lazy.issued lazy.objects kept.agrees)
    ∙ unseen_pass moment bans (λ p. not (chosen p && is_dead bans p)) (sweeping chosen lazy.issued) lazy.objects
    (all-weaken (IsWithin lazy.issued) (IsUnseen moment bans (λ p. not (chosen p && is_dead bans p)) (sweeping chosen lazy.issued)) (λ p is. unseen_mark moment bans lazy.issued chosen p is.mark) lazy.objects kept.within)

pub swept_stands : (lazy : Lazy) (moment issued : ℕ) (bans : List Issued) (objects : List Held) (chosen : Placed → Bool) → StandsFor lazy moment issued bans objects → StandsFor (swept_lazy chosen lazy) moment issued bans objects
swept_stands lazy moment issued bans objects chosen stands =
    let kept : IsKept lazy bans = stands.kept in
    record {
      count = stands.count;
      kept = kept_with lazy bans (swept chosen (kept_bans lazy) lazy.issued lazy.objects) kept
          (keep_swept lazy.issued (IsWithin lazy.issued) (stays_within lazy.issued) chosen (kept_bans lazy) lazy.objects kept.within)
          (keep_swept lazy.issued (Agrees (kept_bans lazy) bans) (agreeing_stays lazy bans kept) chosen (kept_bans lazy) lazy.objects kept.agrees);
      same = stands.same ∙ sym (swept_seen lazy moment bans chosen kept);
    }

looks_kept : (known : ℕ → ℕ → Option Object) (issued : ℕ) (objects : List Placed) → AllByRecursion (IsKnown issued known) objects → AllByRecursion (IsKnownBy known) objects
looks_kept known issued objects all = all-weaken (IsKnown issued known) (IsKnownBy known) (λ p is. is.looks) objects all

pub swept_at : (lazy : Lazy) (beginning : Beginning) (entries : List Entry) (chosen : Placed → Bool) → StandsAt lazy beginning entries → StandsAt (swept_lazy chosen lazy) beginning entries
swept_at lazy beginning entries chosen at =
    let state : State = reached beginning entries in
    record {
      stands = swept_stands lazy state.moment state.issued state.bans state.objects chosen at.stands;
      looks = looks_kept (look_of beginning entries) lazy.issued (swept chosen (kept_bans lazy) lazy.issued lazy.objects)
          (keep_swept lazy.issued (IsKnown lazy.issued (look_of beginning entries)) (stays_known lazy.issued (look_of beginning entries)) chosen (kept_bans lazy) lazy.objects
          (all_known lazy.issued (look_of beginning entries) lazy.objects at.stands.kept.within at.looks));
      unborn = at.unborn;
    }

-- ---- how many wait then

and_none : (b : Bool) → (b && false) ≡ false
and_none true = refl
and_none false = refl

and_all : (b : Bool) → b ≡ (b && true)
and_all true = refl
and_all false = refl

wait_case : (unswept : Placed → Bool) (issued : ℕ) (p : Placed) (b dead : Bool) → unswept (marked_at issued p) ≡ false → (not (b && dead) && unswept (cond b (marked_at issued p) p)) ≡ (unswept p && not b)
wait_case unswept issued p true dead e = ap (λ (x : Bool). not dead && x) e ∙ and_none (not dead) ∙ sym (and_none (unswept p))
wait_case unswept issued p false dead e = and_all (unswept p)

pub none_waits : (lazy : Lazy) (bans : List Issued) (p : Placed) → IsKept lazy bans → is_unswept (kept_bans lazy) (marked_at lazy.issued p) ≡ false
none_waits lazy bans p kept =
    any_none (is_above lazy.issued) (kept_bans lazy)
    (all-weaken (λ (i : Issued). i.number ≤ lazy.issued) (λ i. is_above lazy.issued i ≡ false) (λ i here. not_above lazy.issued i here) (kept_bans lazy) (kept_up_to lazy bans kept))

pub fewer_wait : (lazy : Lazy) (bans : List Issued) (chosen : Placed → Bool) → IsKept lazy bans → count_unswept (swept_lazy chosen lazy) + count_chosen chosen lazy ≡ count_unswept lazy
fewer_wait lazy bans chosen kept =
    let own : List Issued = kept_bans lazy in
    let waits : Placed → Bool = is_unswept own in
    let stays : Placed → Bool = λ (p : Placed). not (chosen p && is_dead own p) in
    let left : length (filter waits (map (sweeping chosen lazy.issued) (filter stays lazy.objects))) ≡ length (filter (λ (p : Placed). not (chosen p)) (filter waits lazy.objects)) =
    ap length (filter_of_map waits (sweeping chosen lazy.issued) (filter stays lazy.objects))
    ∙ length_of_map (sweeping chosen lazy.issued) (filter (λ p. waits (sweeping chosen lazy.issued p)) (filter stays lazy.objects))
    ∙ ap length (filter_both (λ p. waits (sweeping chosen lazy.issued p)) stays lazy.objects
    ∙ filter_on (λ p. stays p && waits (sweeping chosen lazy.issued p)) (λ p. waits p && not (chosen p)) lazy.objects
    (each _ (λ p. wait_case waits lazy.issued p (chosen p) (is_dead own p) (none_waits lazy bans p kept)) lazy.objects)
    ∙ sym (filter_both (λ (p : Placed). not (chosen p)) waits lazy.objects)) in
    let both = length-filter_both chosen (λ (p : Placed). not (chosen p)) (λ p. refl) (filter waits lazy.objects) in
    omega (arith, left, both)

-- ---- chores

is_above_between : (mark upto : ℕ) (i : Issued) → i.number ≤ upto → is_between mark upto i ≡ is_above mark i
is_above_between mark upto i less = ap (λ (b : Bool). is_above mark i && b) (le-leb i.number upto less) ∙ sym (and_all (is_above mark i))

-- up to the newest ban are all
pub between_all : (mark upto : ℕ) (bans : List Issued) → AreUpTo upto bans → between mark upto bans ≡ above mark bans
between_all mark upto bans up =
    filter_on (is_between mark upto) (is_above mark) bans (all-weaken (λ (i : Issued). i.number ≤ upto) (λ i. is_between mark upto i ≡ is_above mark i) (λ i less. is_above_between mark upto i less) bans up)

some_step : {X : Type 0} (b : Bool) (x : X) (rest : List X) (later : Bool) → (later ≡ true → 0 < length rest) → (b || later) ≡ true → 0 < length (cond b (x ∷ rest) rest)
some_step true x rest later more e = omega arith
some_step false x rest later more e = more e

some_pass : {X : Type 0} (test : X → Bool) (xs : List X) → list_any test xs ≡ true → 0 < length (filter test xs)
some_pass test [] e = absurd (false≢true e)
some_pass test (x ∷ xs) e = some_step (test x) x (filter test xs) (list_any test xs) (some_pass test xs) e

one_chore : (lazy : Lazy) (beginning : Beginning) (entries : List Entry) → Stands lazy (reached beginning entries) → (p : Placed) → Agrees (kept_bans lazy) (reached beginning entries).bans p → IsKnownBy (look_of beginning entries) p
    → is_unswept (kept_bans lazy) p ≡ true → IsChoreOf beginning entries (chore_of lazy p)
one_chore lazy beginning entries stands p agrees looks waits =
    let bans : List Issued = (reached beginning entries).bans in
    let all : between p.mark lazy.issued bans ≡ above p.mark bans = between_all p.mark lazy.issued bans (all_up_to lazy bans stands.kept) in
    record {
      issued = omega (arith, stands.count);
      some = subst (λ (those : List Issued). 0 < length those) (sym all) (some_pass (is_above p.mark) bans (sym (same_unswept (kept_bans lazy) bans p agrees) ∙ waits));
      looks = looks p.mark (omega arith);
      bans = agrees.on_objects (matches p.view.object) (matches_alike p.view.object) p.mark (omega arith) ∙ ap (list_any (matches p.view.object)) (sym all);
    }

chores_of : (lazy : Lazy) (beginning : Beginning) (entries : List Entry) → Stands lazy (reached beginning entries) → (objects : List Placed) → AllByRecursion (Agrees (kept_bans lazy) (reached beginning entries).bans) objects
    → AllByRecursion (IsKnownBy (look_of beginning entries)) objects → AllByRecursion (λ (p : Placed). is_unswept (kept_bans lazy) p ≡ true → IsChoreOf beginning entries (chore_of lazy p)) objects
chores_of lazy beginning entries stands [] agrees looks = tt
chores_of lazy beginning entries stands (p ∷ objects) agrees looks = (one_chore lazy beginning entries stands p agrees.0 looks.0, chores_of lazy beginning entries stands objects agrees.1 looks.1)

pub all_chores : (lazy : Lazy) (beginning : Beginning) (entries : List Entry) → StandsAt lazy beginning entries → AllByRecursion (λ (p : Placed). is_unswept (kept_bans lazy) p ≡ true → IsChoreOf beginning entries (chore_of lazy p)) lazy.objects
all_chores lazy beginning entries at = chores_of lazy beginning entries at.stands lazy.objects at.stands.kept.agrees at.looks
