-- What a verdict of the history does the law doesn't see.
use Rattle.std.proofs.Common.{◌≡◌, ◌≤◌, ◌<◌, ◌==◌, ℕ, Bool, true, false, not, cond, List, [], ◌∷◌, ◌&&◌, ◌||◌, nat_le, nat_lt, Option, Some, filter, map, length, refl, arith, sym, ap, ◌∙◌, subst}
use Rattle.std.specs.List.{list_any, AllByRecursion}
use Rattle.std.proofs.lemmas.Bool.{false≢true, true≢false, and_from, and_parts, eqb-true, le-ltb, leb-false, leb-true, lt-ltb, ltb-true, or_parts}
use Rattle.cache_law.specs.declared.call.Entry.{Entry}
use Rattle.cache_law.specs.declared.object.Object.{Object}
use Rattle.cache_law.specs.declared.ban.Issued.{Issued}
use Rattle.cache_law.specs.Beginning.{Beginning}
use Rattle.cache_law.specs.Bans.{matches}
use Rattle.cache_law.specs.Object.{in_time}
use Rattle.cache_law.specs.History.{reached}
use Rattle.cache_law.specs.State.{State}
use Rattle.cache_law.proofs.Held.{all-filter, all-map, all-weaken}
use Rattle.ban_lurker.specs.declared.chore.Verdict.{Verdict}
use Rattle.ban_lurker.specs.Looks.{is_above, is_alone, look_of}
use Rattle.ban_lurker.specs.Verdicts.{IsVerdictOf, between, is_between}
use Rattle.lazy_law.specs.Placed.{Lazy, Placed, above, held_of, is_alive, is_dead, is_unswept, kept_bans, marked_at}
use Rattle.lazy_law.specs.Sweeping.{count_unswept, is_asked, judged_late, judged_lazy, judging}
use Rattle.lazy_law.specs.Stands.{Agrees, IsKept, IsWithin}
use Rattle.lazy_law.specs.Standing.{IsKnownBy, StandsAt}
use Rattle.lazy_law.proofs.Filters.{any_more, any_of_filter, any_on, each, filter_all, filter_both, filter_of_map, length_of_map}
use Rattle.lazy_law.proofs.Seen.{IsUnseen, unseen_pass}
use Rattle.lazy_law.proofs.Staying.{kept_with}

-- ---- the bans up to the verdict's, and those behind it

step_between : (b later : Bool) (x : Issued) (rest : List Issued) (P : Type 0) → (b ≡ true → P) → (0 < length rest → P) → 0 < length (cond b (x ∷ rest) rest) → P
step_between true later x rest P here there some = here refl
step_between false later x rest P here there some = there some

-- a ban is newer than the mark and no newer than the verdict's
mark_below : (mark upto : ℕ) (bans : List Issued) → 0 < length (between mark upto bans) → mark < upto
mark_below mark upto [] some = absurd (omega (arith, some))
mark_below mark upto (i ∷ bans) some =
    step_between (is_between mark upto i) true i (between mark upto bans) (mark < upto)
    (λ e. let parts = and_parts (is_above mark i) (nat_le i.number upto) e in
    let newer = ltb-true mark i.number (and_parts (nat_lt mark i.number) _ parts.0).0 in
    let older = leb-true i.number upto parts.1 in omega (arith, newer, older))
    (mark_below mark upto bans) some

split_bool : (newer alone passes older later : Bool) → later ≡ not older → (older ≡ false → newer ≡ true)
    → ((newer && alone) && passes) ≡ ((((newer && alone) && older) && passes) || ((later && alone) && passes))
split_bool false alone passes true later l n = rw (l) refl
split_bool true false passes true later l n = rw (l) refl
split_bool true true true true later l n = refl
split_bool true true false true later l n = rw (l) refl
split_bool true false passes false later l n = rw (l) refl
split_bool true true passes false later l n = rw (l) refl
split_bool false alone passes false later l n = absurd (false≢true (n refl))

later_or_not : (upto number : ℕ) (b : Bool) → nat_le number upto ≡ b → nat_lt upto number ≡ not b
later_or_not upto number true e = le-ltb upto number (leb-true number upto e)
later_or_not upto number false e = lt-ltb upto number (leb-false number upto e)

split_one : (mark upto : ℕ) (test : Issued → Bool) → mark ≤ upto → (i : Issued) → (is_above mark i && test i) ≡ ((is_between mark upto i && test i) || (is_above upto i && test i))
split_one mark upto test less i =
    split_bool (nat_lt mark i.number) (is_alone i) (test i) (nat_le i.number upto) (nat_lt upto i.number) (later_or_not upto i.number (nat_le i.number upto) refl)
    (λ e. let later = leb-false i.number upto e in lt-ltb mark i.number (omega (arith, less, later)))

or_four : (a b c d : Bool) → ((a || b) || (c || d)) ≡ ((a || c) || (b || d))
or_four true b c d = refl
or_four false true true d = refl
or_four false true false d = refl
or_four false false c d = refl

any_either : (a b : Issued → Bool) (bans : List Issued) → list_any (λ i. a i || b i) bans ≡ (list_any a bans || list_any b bans)
any_either a b [] = refl
any_either a b (i ∷ bans) = ap (λ (x : Bool). (a i || b i) || x) (any_either a b bans) ∙ or_four (a i) (b i) (list_any a bans) (list_any b bans)

-- what is found above the mark is found up to the verdict's ban or behind it
split_any : (mark upto : ℕ) (test : Issued → Bool) (bans : List Issued) → mark ≤ upto → list_any test (above mark bans) ≡ (list_any test (between mark upto bans) || list_any test (above upto bans))
split_any mark upto test bans less =
    any_of_filter test (is_above mark) bans
    ∙ any_on (λ i. is_above mark i && test i) (λ i. (is_between mark upto i && test i) || (is_above upto i && test i)) bans (each _ (split_one mark upto test less) bans)
    ∙ any_either (λ i. is_between mark upto i && test i) (λ i. is_above upto i && test i) bans
    ∙ ap (λ (b : Bool). b || list_any (λ i. is_above upto i && test i) bans) (sym (any_of_filter test (is_between mark upto) bans))
    ∙ ap (λ (b : Bool). list_any test (between mark upto bans) || b) (sym (any_of_filter test (is_above upto) bans))

-- ---- one object

-- what a verdict on the object says of it
record IsOn (bans : List Issued) (verdict : Verdict) (p : Placed) : Type 0 where
  mark : p.mark ≡ verdict.mark
  below : verdict.mark ≤ verdict.upto
  dead : verdict.dead ≡ list_any (matches p.view.object) (between verdict.mark verdict.upto bans)

on_asked : (beginning : Beginning) (entries : List Entry) (verdict : Verdict) → IsVerdictOf beginning entries verdict → (p : Placed) → IsKnownBy (look_of beginning entries) p → is_asked verdict p ≡ true → IsOn (reached beginning entries).bans verdict p
on_asked beginning entries verdict is p looks e =
    let parts = and_parts (p.view.number == verdict.object) (p.mark == verdict.mark) e in
    let number : p.view.number ≡ verdict.object = eqb-true p.view.number verdict.object parts.0 in
    let mark : p.mark ≡ verdict.mark = eqb-true p.mark verdict.mark parts.1 in
    let own : look_of beginning entries verdict.object verdict.mark ≡ Some p.view.object = subst (λ (n : ℕ). look_of beginning entries n verdict.mark ≡ Some p.view.object) number (looks verdict.mark (omega (arith, mark))) in
    let same : is.object ≡ p.view.object = one_object is.object p.view.object (sym is.looks ∙ own) in
    let below = mark_below verdict.mark verdict.upto (reached beginning entries).bans is.some in
    record {
      mark = mark;
      below = omega (arith, below);
      dead = is.dead ∙ ap (λ (o : Object). list_any (matches o) (between verdict.mark verdict.upto (reached beginning entries).bans)) same;
    }
  where
    one_object : (one other : Object) → ◌≡◌ {A = Option Object} (Some one) (Some other) → one ≡ other
    one_object one other e = cc

dead_on : (bans : List Issued) (verdict : Verdict) (p : Placed) → IsOn bans verdict p → is_dead bans p ≡ (verdict.dead || is_dead bans (marked_at verdict.upto p))
dead_on bans verdict p on =
    ap (λ (m : ℕ). list_any (matches p.view.object) (above m bans)) on.mark
    ∙ split_any verdict.mark verdict.upto (matches p.view.object) bans on.below
    ∙ ap (λ (b : Bool). b || is_dead bans (marked_at verdict.upto p)) (sym on.dead)

unseen_case : (moment : ℕ) (bans : List Issued) (verdict : Verdict) (p : Placed) (asked dead : Bool) → verdict.dead ≡ dead → (asked ≡ true → is_dead bans p ≡ (dead || is_dead bans (marked_at verdict.upto p)))
    → ((not (asked && dead) && is_alive moment bans (cond asked (marked_at verdict.upto p) p)) ≡ is_alive moment bans p) × (held_of bans (cond asked (marked_at verdict.upto p) p) ≡ held_of bans p)
unseen_case moment bans verdict p false dead e on = (refl, refl)
unseen_case moment bans verdict p true true e on = (rw (on refl) (and_none (in_time moment p.view.object)), refl)
  where
    and_none : (b : Bool) → false ≡ (b && false)
    and_none true = refl
    and_none false = refl
unseen_case moment bans verdict p true false e on = (ap (λ (b : Bool). in_time moment p.view.object && not b) (sym (on refl)), refl)

judged_unseen : (moment : ℕ) (bans : List Issued) (verdict : Verdict) (p : Placed) → (is_asked verdict p ≡ true → IsOn bans verdict p) → IsUnseen moment bans (λ q. not (is_asked verdict q && verdict.dead)) (judging verdict) p
judged_unseen moment bans verdict p on =
    let both = unseen_case moment bans verdict p (is_asked verdict p) verdict.dead refl (λ e. dead_on bans verdict p (on e)) in record { alive = both.0; held = both.1 }

-- ---- all

-- what holds of each that is asked after and of each other holds of each that is left
judged_case : (P Q : Placed → Type 0) (upto : ℕ) (p : Placed) (b : Bool) → (b ≡ true → P p → Q (marked_at upto p)) → (P p → Q p) → P p → Q (cond b (marked_at upto p) p)
judged_case P Q upto p true on off here = on refl here
judged_case P Q upto p false on off here = off here

keep_judged : (P Q : Placed → Type 0) (verdict : Verdict) → ((p : Placed) → is_asked verdict p ≡ true → P p → Q (marked_at verdict.upto p)) → ((p : Placed) → P p → Q p) → (objects : List Placed) → AllByRecursion P objects → AllByRecursion Q (judged_late verdict objects)
keep_judged P Q verdict on off objects all =
    all-map P Q (judging verdict) (λ p here. judged_case P Q verdict.upto p (is_asked verdict p) (on p) (off p) here) (filter (λ p. not (is_asked verdict p && verdict.dead)) objects)
    (all-filter P (λ p. not (is_asked verdict p && verdict.dead)) objects all)

all_unseen : (moment : ℕ) (beginning : Beginning) (entries : List Entry) (verdict : Verdict) → IsVerdictOf beginning entries verdict → (objects : List Placed) → AllByRecursion (IsKnownBy (look_of beginning entries)) objects
    → AllByRecursion (IsUnseen moment (reached beginning entries).bans (λ q. not (is_asked verdict q && verdict.dead)) (judging verdict)) objects
all_unseen moment beginning entries verdict is objects looks =
    all-weaken (IsKnownBy (look_of beginning entries)) (IsUnseen moment (reached beginning entries).bans (λ q. not (is_asked verdict q && verdict.dead)) (judging verdict))
    (λ p look. judged_unseen moment (reached beginning entries).bans verdict p (on_asked beginning entries verdict is p look)) objects looks

later_mark : (verdict : Verdict) (p : Placed) → verdict.mark ≤ verdict.upto → is_asked verdict p ≡ true → p.mark ≤ verdict.upto
later_mark verdict p below e = let mark = eqb-true p.mark verdict.mark (and_parts (p.view.number == verdict.object) (p.mark == verdict.mark) e).1 in omega (arith, mark, below)

pub judged_at : (lazy : Lazy) (beginning : Beginning) (entries : List Entry) (verdict : Verdict) → IsVerdictOf beginning entries verdict → StandsAt lazy beginning entries → StandsAt (judged_lazy verdict lazy) beginning entries
judged_at lazy beginning entries verdict is at =
    let state : State = reached beginning entries in
    let kept : IsKept lazy state.bans = at.stands.kept in
    let before = mark_below verdict.mark verdict.upto state.bans is.some in
    let below : verdict.mark ≤ verdict.upto = omega (arith, before) in
    let most : verdict.upto ≤ lazy.issued = omega (arith, is.issued, at.stands.count) in
    let left : List Placed = judged_late verdict lazy.objects in
    record {
      stands = record {
        count = at.stands.count;
        kept = kept_with lazy state.bans left kept
            (keep_judged (IsWithin lazy.issued) (IsWithin lazy.issued) verdict (λ p e in_. record { place = in_.place; mark = most }) (λ p in_. in_) lazy.objects kept.within)
            (keep_judged (Agrees (kept_bans lazy) state.bans) (Agrees (kept_bans lazy) state.bans) verdict
            (λ p e agrees. let up = later_mark verdict p below e in record { on_objects = λ test alike mark less. agrees.on_objects test alike mark (omega (arith, up, less)); on_requests = agrees.on_requests })
            (λ p agrees. agrees) lazy.objects kept.agrees);
        same = at.stands.same ∙ sym (unseen_pass state.moment state.bans (λ q. not (is_asked verdict q && verdict.dead)) (judging verdict) lazy.objects (all_unseen state.moment beginning entries verdict is lazy.objects at.looks));
      };
      looks = keep_judged (IsKnownBy (look_of beginning entries)) (IsKnownBy (look_of beginning entries)) verdict
          (λ p e looks mark less. let up = later_mark verdict p below e in looks mark (omega (arith, up, less))) (λ p looks. looks) lazy.objects at.looks;
      unborn = at.unborn;
    }

-- ---- who isn't asked after

unasked_step : (verdict : Verdict) (dead b : Bool) (p : Placed) (rest : List Placed) → is_asked verdict p ≡ b → b ≡ false → map (judging verdict) rest ≡ rest → map (judging verdict) (p ∷ rest) ≡ p ∷ rest
unasked_step verdict dead true p rest e no_ same = absurd (true≢false no_)
unasked_step verdict dead false p rest e no_ same = rw (e, same) refl

none_judged : (verdict : Verdict) (objects : List Placed) → AllByRecursion (λ (p : Placed). is_asked verdict p ≡ false) objects → map (judging verdict) objects ≡ objects
none_judged verdict [] all = refl
none_judged verdict (p ∷ objects) all = unasked_step verdict verdict.dead (is_asked verdict p) p objects refl all.0 (none_judged verdict objects all.1)

none_asked : (verdict : Verdict) (objects : List Placed) → list_any (is_asked verdict) objects ≡ false → AllByRecursion (λ (p : Placed). is_asked verdict p ≡ false) objects
none_asked verdict [] e = tt
none_asked verdict (p ∷ objects) e = let parts = or_parts (is_asked verdict p) (list_any (is_asked verdict) objects) e in (parts.0, none_asked verdict objects parts.1)

-- where no object is asked after, nothing changes
pub unasked : (verdict : Verdict) (objects : List Placed) → list_any (is_asked verdict) objects ≡ false → judged_late verdict objects ≡ objects
unasked verdict objects e =
    let none_ = none_asked verdict objects e in
    ap (map (judging verdict)) (filter_all (λ p. not (is_asked verdict p && verdict.dead)) objects
    (all-weaken (λ (p : Placed). is_asked verdict p ≡ false) (λ p. not (is_asked verdict p && verdict.dead) ≡ true) (λ p no_. ap (λ (b : Bool). not (b && verdict.dead)) no_) objects none_))
    ∙ none_judged verdict objects none_

-- ---- how many wait then

step_count : {X : Type 0} (a b : Bool) (x : X) (xs ys : List X) → (a ≡ true → b ≡ true) → length xs ≤ length ys → length (cond a (x ∷ xs) xs) ≤ length (cond b (x ∷ ys) ys)
step_count true true x xs ys more less = omega (arith, less)
step_count true false x xs ys more less = absurd (false≢true (more refl))
step_count false true x xs ys more less = omega (arith, less)
step_count false false x xs ys more less = less

count_more : {X : Type 0} (a b : X → Bool) → ((x : X) → a x ≡ true → b x ≡ true) → (xs : List X) → length (filter a xs) ≤ length (filter b xs)
count_more a b more [] = omega arith
count_more a b more (x ∷ xs) = step_count (a x) (b x) x (filter a xs) (filter b xs) (more x) (count_more a b more xs)

above_later : (mark later : ℕ) → mark ≤ later → (i : Issued) → is_above later i ≡ true → is_above mark i ≡ true
above_later mark later less i e =
    let parts = and_parts (nat_lt later i.number) (is_alone i) e in
    let newer = ltb-true later i.number parts.0 in and_from (nat_lt mark i.number) (is_alone i) (lt-ltb mark i.number (omega (arith, less, newer))) parts.1

waits_case : (own : List Issued) (verdict : Verdict) (p : Placed) (b : Bool) → (b ≡ true → p.mark ≤ verdict.upto) → is_unswept own (cond b (marked_at verdict.upto p) p) ≡ true → is_unswept own p ≡ true
waits_case own verdict p true below e = any_more (is_above verdict.upto) (is_above p.mark) (above_later p.mark verdict.upto (below refl)) own e
waits_case own verdict p false below e = e

dead_goes : (asked dead : Bool) → not (asked && dead) ≡ true → asked ≡ true → dead ≡ false
dead_goes true true stays e = absurd (false≢true stays)
dead_goes true false stays e = refl
dead_goes false dead stays e = absurd (false≢true e)

pub no_more_by : (lazy : Lazy) (verdict : Verdict) → (verdict.dead ≡ false → verdict.mark ≤ verdict.upto) → count_unswept (judged_lazy verdict lazy) ≤ count_unswept lazy
no_more_by lazy verdict later =
    let own : List Issued = kept_bans lazy in
    let waits : Placed → Bool = is_unswept own in
    let stays : Placed → Bool = λ (p : Placed). not (is_asked verdict p && verdict.dead) in
    let left : length (filter waits (map (judging verdict) (filter stays lazy.objects))) ≡ length (filter (λ (p : Placed). stays p && waits (judging verdict p)) lazy.objects) =
    ap length (filter_of_map waits (judging verdict) (filter stays lazy.objects))
    ∙ length_of_map (judging verdict) (filter (λ p. waits (judging verdict p)) (filter stays lazy.objects))
    ∙ ap length (filter_both (λ p. waits (judging verdict p)) stays lazy.objects) in
    let more = count_more (λ (p : Placed). stays p && waits (judging verdict p)) waits
    (λ p e.
    let both = and_parts (stays p) (waits (judging verdict p)) e in
    waits_case own verdict p (is_asked verdict p) (λ asked. later_mark verdict p (later (dead_goes (is_asked verdict p) verdict.dead both.0 asked)) asked) both.1) lazy.objects in
    omega (arith, left, more)

pub no_more_wait : (lazy : Lazy) (beginning : Beginning) (entries : List Entry) (verdict : Verdict) → IsVerdictOf beginning entries verdict → count_unswept (judged_lazy verdict lazy) ≤ count_unswept lazy
no_more_wait lazy beginning entries verdict is =
    let before = mark_below verdict.mark verdict.upto (reached beginning entries).bans is.some in
    no_more_by lazy verdict (λ alive. omega (arith, before))
