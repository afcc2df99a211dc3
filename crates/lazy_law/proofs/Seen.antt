-- What the law does with the objects that it sees is what is done with those that are stored.
use Rattle.std.proofs.Common.{◌≡◌, ◌≤◌, ◌<◌, ◌==◌, ℕ, Bool, true, false, not, cond, List, [], ◌∷◌, ◌&&◌, ◌||◌, Option, Some, None, filter, find, map, length, refl, arith, sym, ap, ◌∙◌}
use Rattle.std.specs.List.{list_any, AllByRecursion}
use Rattle.std.specs.Option.{option_map, option_map_or}
use Rattle.std.proofs.lemmas.Bool.{lt-ltb}
use Rattle.cache_law.specs.declared.ban.Issued.{Issued}
use Rattle.cache_law.specs.Object.{in_time}
use Rattle.cache_law.specs.Bans.{matches}
use Rattle.cache_law.specs.BansAtOnce.{awaiting, ban_over}
use Rattle.cache_law.specs.Lookup.{counted, counting, raised, touched, touching}
use Rattle.cache_law.specs.Purges.{softened, softening}
use Rattle.cache_law.specs.State.{Held, inherited, is_gone, those_in_time, without_stale}
use Rattle.cache_law.proofs.Held.{all-weaken}
use Rattle.cache_law.proofs.Moments.{those_in_time-later}
use Rattle.ban_lurker.specs.Looks.{is_alone}
use Rattle.lazy_law.specs.Placed.{Placed, above, held_of, is_alive, is_dead, marked_at, seen, since, those_alive}
use Rattle.lazy_law.specs.Scan.{counted_late, counting_late, touched_late, touching_late}
use Rattle.lazy_law.specs.Purging.{is_of_xkeys, is_softened, soft_of, softened_late, softening_late}
use Rattle.lazy_law.specs.Insertion.{has_number, is_gone_late, others_late, place_for}
use Rattle.lazy_law.proofs.Filters.{any_of_map, each, filter_both, filter_of_map, filters_swap, find_of_map, length_of_map, map_of_map, passes_on}
use Rattle.lazy_law.proofs.Numbers.{any_above_none}

-- ---- time

-- those that no ban matches, in time or not
abbrev spared : List Issued → List Placed → List Held
spared bans objects = map (held_of bans) (filter (λ p. not (is_dead bans p)) objects)

and_turned : (a b : Bool) → (b && a) ≡ (a && b)
and_turned true true = refl
and_turned true false = refl
and_turned false true = refl
and_turned false false = refl

seen_spared : (moment : ℕ) (bans : List Issued) (objects : List Placed) → those_in_time moment (spared bans objects) ≡ seen moment bans objects
seen_spared moment bans objects =
    filter_of_map (λ (held : Held). in_time moment held.view.object) (held_of bans) (filter (λ p. not (is_dead bans p)) objects)
    ∙ ap (map (held_of bans)) (filter_both (λ (p : Placed). in_time moment p.view.object) (λ p. not (is_dead bans p)) objects)
    ∙ passes_on (λ (p : Placed). not (is_dead bans p) && in_time moment p.view.object) (is_alive moment bans) (held_of bans) (held_of bans) objects
    (each _ (λ (p : Placed). (and_turned (in_time moment p.view.object) (not (is_dead bans p)), refl)) objects)

-- what is seen later is what is in time then of what is seen now
pub later_seen : (moment later : ℕ) (bans : List Issued) (objects : List Placed) → moment ≤ later → those_in_time later (seen moment bans objects) ≡ seen later bans objects
later_seen moment later bans objects less =
    ap (those_in_time later) (sym (seen_spared moment bans objects)) ∙ those_in_time-later moment later less (spared bans objects) ∙ seen_spared later bans objects

pub seen_again : (moment : ℕ) (bans : List Issued) (objects : List Placed) → those_in_time moment (seen moment bans objects) ≡ seen moment bans objects
seen_again moment bans objects = later_seen moment moment bans objects (omega arith)

-- ---- a test, and a change, that look at no bans

pub seen_filter : (moment : ℕ) (bans : List Issued) (test : Held → Bool) (objects : List Placed)
    → filter test (seen moment bans objects) ≡ seen moment bans (filter (λ p. test (held_of bans p)) objects)
seen_filter moment bans test objects =
    filter_of_map test (held_of bans) (those_alive moment bans objects)
    ∙ ap (map (held_of bans)) (filters_swap (λ p. test (held_of bans p)) (is_alive moment bans) objects)

pub seen_count : (moment : ℕ) (bans : List Issued) (test : Held → Bool) (objects : List Placed)
    → length (filter test (seen moment bans objects)) ≡ length (filter (λ p. test (held_of bans p)) (those_alive moment bans objects))
seen_count moment bans test objects =
    ap length (filter_of_map test (held_of bans) (those_alive moment bans objects)) ∙ length_of_map (held_of bans) (filter (λ p. test (held_of bans p)) (those_alive moment bans objects))

-- what is seen of the object is changed so
pub record ChangesSeen (moment : ℕ) (bans : List Issued) (change : Held → Held) (late : Placed → Placed) (p : Placed) : Type 0 where
  pub alive : is_alive moment bans (late p) ≡ is_alive moment bans p
  pub held : change (held_of bans p) ≡ held_of bans (late p)

pub seen_map : (moment : ℕ) (bans : List Issued) (change : Held → Held) (late : Placed → Placed) (objects : List Placed) → ((p : Placed) → ChangesSeen moment bans change late p)
    → map change (seen moment bans objects) ≡ seen moment bans (map late objects)
seen_map moment bans change late objects on =
    map_of_map change (held_of bans) (those_alive moment bans objects)
    ∙ passes_on (is_alive moment bans) (λ p. is_alive moment bans (late p)) (λ p. change (held_of bans p)) (λ p. held_of bans (late p)) objects
    (each _ (λ p. (sym (on p).alive, (on p).held)) objects)
    ∙ sym (map_of_map (held_of bans) late (filter (λ p. is_alive moment bans (late p)) objects))
    ∙ ap (map (held_of bans)) (sym (filter_of_map (is_alive moment bans) late objects))

-- ---- uses

count_case : (moment : ℕ) (bans : List Issued) (place : ℕ) (p : Placed) (b : Bool)
    → (is_alive moment bans (cond b (record p { view = raised p.view; used = place }) p) ≡ is_alive moment bans p)
    × (cond b (record (held_of bans p) { view = raised p.view; used = place }) (held_of bans p) ≡ held_of bans (cond b (record p { view = raised p.view; used = place }) p))
count_case moment bans place p true = (refl, refl)
count_case moment bans place p false = (refl, refl)

pub seen_counted : (moment : ℕ) (bans : List Issued) (place number : ℕ) (objects : List Placed) → counted place number (seen moment bans objects) ≡ seen moment bans (counted_late place number objects)
seen_counted moment bans place number objects =
    seen_map moment bans (counting place number) (counting_late place number) objects
    (λ p. let both = count_case moment bans place p (p.view.number == number) in record { alive = both.0; held = both.1 })

touch_case : (moment : ℕ) (bans : List Issued) (place : ℕ) (p : Placed) (b : Bool)
    → (is_alive moment bans (cond b (record p { used = place }) p) ≡ is_alive moment bans p)
    × (cond b (record (held_of bans p) { used = place }) (held_of bans p) ≡ held_of bans (cond b (record p { used = place }) p))
touch_case moment bans place p true = (refl, refl)
touch_case moment bans place p false = (refl, refl)

pub seen_touched : (moment : ℕ) (bans : List Issued) (place number : ℕ) (objects : List Placed) → touched place number (seen moment bans objects) ≡ seen moment bans (touched_late place number objects)
seen_touched moment bans place number objects =
    seen_map moment bans (touching place number) (touching_late place number) objects
    (λ p. let both = touch_case moment bans place p (p.view.number == number) in record { alive = both.0; held = both.1 })

-- ---- a pass that what is seen doesn't show

-- the object goes only where it isn't seen, and else is seen as it was
pub record IsUnseen (moment : ℕ) (bans : List Issued) (stays : Placed → Bool) (change : Placed → Placed) (p : Placed) : Type 0 where
  pub alive : (stays p && is_alive moment bans (change p)) ≡ is_alive moment bans p
  pub held : held_of bans (change p) ≡ held_of bans p

pub unseen_pass : (moment : ℕ) (bans : List Issued) (stays : Placed → Bool) (change : Placed → Placed) (objects : List Placed) → AllByRecursion (IsUnseen moment bans stays change) objects
    → seen moment bans (map change (filter stays objects)) ≡ seen moment bans objects
unseen_pass moment bans stays change objects all =
    ap (map (held_of bans)) (filter_of_map (is_alive moment bans) change (filter stays objects) ∙ ap (map change) (filter_both (λ p. is_alive moment bans (change p)) stays objects))
    ∙ map_of_map (held_of bans) change (filter (λ p. stays p && is_alive moment bans (change p)) objects)
    ∙ passes_on (λ p. stays p && is_alive moment bans (change p)) (is_alive moment bans) (λ p. held_of bans (change p)) (held_of bans) objects
    (all-weaken (IsUnseen moment bans stays change) (λ p. ((stays p && is_alive moment bans (change p)) ≡ is_alive moment bans p) × (held_of bans (change p) ≡ held_of bans p)) (λ p is. (is.alive, is.held)) objects all)

-- a mark that moves up: a dead one is gone
mark_case : (moment : ℕ) (bans : List Issued) (number : ℕ) (p : Placed) (chosen dead : Bool) → is_dead bans p ≡ dead → p.mark ≤ number
    → ((not (chosen && dead) && is_alive moment bans (cond chosen (marked_at number p) p)) ≡ is_alive moment bans p) × (held_of bans (cond chosen (marked_at number p) p) ≡ held_of bans p)
mark_case moment bans number p true true e less = (rw (e) (and_false (in_time moment p.view.object)), refl)
  where
    and_false : (b : Bool) → false ≡ (b && false)
    and_false true = refl
    and_false false = refl
mark_case moment bans number p true false e less =
    let later : is_dead bans (marked_at number p) ≡ false = any_above_none p.mark number (matches p.view.object) bans less e in (rw (later, e) refl, refl)
mark_case moment bans number p false dead e less = (refl, refl)

pub unseen_mark : (moment : ℕ) (bans : List Issued) (number : ℕ) (chosen : Placed → Bool) (p : Placed) → p.mark ≤ number
    → IsUnseen moment bans (λ q. not (chosen q && is_dead bans q)) (λ q. cond (chosen q) (marked_at number q) q) p
unseen_mark moment bans number chosen p less =
    let both = mark_case moment bans number p (chosen p) (is_dead bans p) refl less in record { alive = both.0; held = both.1 }

-- ---- a ban

abbrev IsBefore : Issued → Placed → Type 0
IsBefore issued p = (p.place < issued.number) × (p.mark < issued.number)

above_first : (mark : ℕ) (issued : Issued) (bans : List Issued) (b : Bool) → mark < issued.number → is_alone issued ≡ b → above mark (issued ∷ bans) ≡ cond b (issued ∷ above mark bans) (above mark bans)
above_first mark issued bans b less e = rw (lt-ltb mark issued.number less, e) refl

since_first : (place : ℕ) (issued : Issued) (bans : List Issued) (b : Bool) → place < issued.number → is_alone issued ≡ b → since place (issued ∷ bans) ≡ cond (not b) (issued ∷ since place bans) (since place bans)
since_first place issued bans b less e = rw (lt-ltb place issued.number less, e) refl

not_or : (t a b : Bool) → (t && not (a || b)) ≡ ((t && not b) && not a)
not_or true true true = refl
not_or true true false = refl
not_or true false true = refl
not_or true false false = refl
not_or false a b = refl

alone_case : (moment : ℕ) (issued : Issued) (bans : List Issued) (p : Placed) → is_alone issued ≡ true → IsBefore issued p
    → (is_alive moment (issued ∷ bans) p ≡ (is_alive moment bans p && not (matches p.view.object issued))) × (held_of (issued ∷ bans) p ≡ held_of bans p)
alone_case moment issued bans p e before = (
  ap (λ (those : List Issued). in_time moment p.view.object && not (list_any (matches p.view.object) those)) (above_first p.mark issued bans true before.1 e)
      ∙ not_or (in_time moment p.view.object) (matches p.view.object issued) (is_dead bans p),
  ap (λ (those : List Issued). record { view = p.view; used = p.used; pending = those }) (since_first p.place issued bans true before.0 e),
)

wait_case : (moment : ℕ) (issued : Issued) (bans : List Issued) (p : Placed) → is_alone issued ≡ false → IsBefore issued p
    → (is_alive moment (issued ∷ bans) p ≡ is_alive moment bans p) × (held_of (issued ∷ bans) p ≡ awaiting issued (held_of bans p))
wait_case moment issued bans p e before = (
  ap (λ (those : List Issued). in_time moment p.view.object && not (list_any (matches p.view.object) those)) (above_first p.mark issued bans false before.1 e),
  ap (λ (those : List Issued). record { view = p.view; used = p.used; pending = those }) (since_first p.place issued bans false before.0 e),
)

ban_case : (moment : ℕ) (issued : Issued) (bans : List Issued) (objects : List Placed) (b : Bool) → is_alone issued ≡ b → AllByRecursion (IsBefore issued) objects
    → cond b (filter (λ (held : Held). not (matches held.view.object issued)) (seen moment bans objects)) (map (awaiting issued) (seen moment bans objects)) ≡ seen moment (issued ∷ bans) objects
ban_case moment issued bans objects true e before =
    filter_of_map (λ (held : Held). not (matches held.view.object issued)) (held_of bans) (those_alive moment bans objects)
    ∙ ap (map (held_of bans)) (filter_both (λ (p : Placed). not (matches p.view.object issued)) (is_alive moment bans) objects)
    ∙ sym (passes_on (is_alive moment (issued ∷ bans)) (λ p. is_alive moment bans p && not (matches p.view.object issued)) (held_of (issued ∷ bans)) (held_of bans) objects
    (all-weaken (IsBefore issued) (λ p. (is_alive moment (issued ∷ bans) p ≡ (is_alive moment bans p && not (matches p.view.object issued))) × (held_of (issued ∷ bans) p ≡ held_of bans p))
    (λ p. alone_case moment issued bans p e) objects before))
ban_case moment issued bans objects false e before =
    map_of_map (awaiting issued) (held_of bans) (those_alive moment bans objects)
    ∙ sym (passes_on (is_alive moment (issued ∷ bans)) (is_alive moment bans) (held_of (issued ∷ bans)) (λ p. awaiting issued (held_of bans p)) objects
    (all-weaken (IsBefore issued) (λ p. (is_alive moment (issued ∷ bans) p ≡ is_alive moment bans p) × (held_of (issued ∷ bans) p ≡ awaiting issued (held_of bans p)))
    (λ p. wait_case moment issued bans p e) objects before))

pub seen_banned : (moment : ℕ) (issued : Issued) (bans : List Issued) (objects : List Placed) → AllByRecursion (λ (p : Placed). (p.place < issued.number) × (p.mark < issued.number)) objects
    → ban_over issued (seen moment bans objects) ≡ seen moment (issued ∷ bans) objects
seen_banned moment issued bans objects before = ban_case moment issued bans objects (is_alone issued) refl before

-- ---- a soft purge

soft_case : (moment : ℕ) (keys : List (List ℕ)) (bans : List Issued) (issued : ℕ) (p : Placed) (timely dead ours : Bool) (rest : List Held) (others : List Placed)
    → in_time moment p.view.object ≡ timely → is_dead bans p ≡ dead → is_of_xkeys keys p ≡ ours → above issued bans ≡ []
    → those_in_time moment (map (softening moment keys) rest) ≡ seen moment bans (map (softening_late moment keys issued) others)
    → those_in_time moment (cond (timely && not dead) (cond ours (record (held_of bans p) { view = record p.view { object = softened moment p.view.object } }) (held_of bans p) ∷ map (softening moment keys) rest) (map (softening moment keys) rest))
    ≡ seen moment bans (cond (not ((timely && ours) && dead)) (cond (timely && ours) (soft_of moment issued p) p ∷ map (softening_late moment keys issued) others) (map (softening_late moment keys issued) others))
soft_case moment keys bans issued p false dead ours rest others t d o none_ same = rw (t) same
soft_case moment keys bans issued p true true true rest others t d o none_ same = same
soft_case moment keys bans issued p true true false rest others t d o none_ same = rw (t, d) same
soft_case moment keys bans issued p true false false rest others t d o none_ same = rw (t, d, same) refl
soft_case moment keys bans issued p true false true rest others t d o none_ same = by_time (in_time moment (softened moment p.view.object)) refl
  where
    by_time : (b : Bool) → in_time moment (softened moment p.view.object) ≡ b
        → those_in_time moment (record (held_of bans p) { view = record p.view { object = softened moment p.view.object } } ∷ map (softening moment keys) rest)
        ≡ seen moment bans (soft_of moment issued p ∷ map (softening_late moment keys issued) others)
    by_time true e = rw (e, none_, same) refl
    by_time false e = rw (e) same

-- a change of those that are left after a test
map_cond : {X Y : Type 0} (f : X → Y) (b : Bool) (x : X) (xs : List X) → map f (cond b (x ∷ xs) xs) ≡ cond b (f x ∷ map f xs) (map f xs)
map_cond f true x xs = refl
map_cond f false x xs = refl

pub seen_softened : (moment : ℕ) (keys : List (List ℕ)) (bans : List Issued) (issued : ℕ) (objects : List Placed) → above issued bans ≡ []
    → those_in_time moment (map (softening moment keys) (seen moment bans objects)) ≡ seen moment bans (softened_late moment keys bans issued objects)
seen_softened moment keys bans issued [] none_ = refl
seen_softened moment keys bans issued (p ∷ objects) none_ =
    let stays : Placed → Bool = λ (q : Placed). not (is_softened moment keys q && is_dead bans q) in
    ap (λ (xs : List Held). those_in_time moment (map (softening moment keys) xs)) (map_cond (held_of bans) (is_alive moment bans p) p (those_alive moment bans objects))
    ∙ ap (those_in_time moment) (map_cond (softening moment keys) (is_alive moment bans p) (held_of bans p) (seen moment bans objects))
    ∙ soft_case moment keys bans issued p (in_time moment p.view.object) (is_dead bans p) (is_of_xkeys keys p) (seen moment bans objects) (filter stays objects) refl refl refl none_
    (seen_softened moment keys bans issued objects none_)
    ∙ ap (seen moment bans) (sym (map_cond (softening_late moment keys issued) (stays p) p (filter stays objects)))

-- ---- an insertion

pub seen_gone : (moment : ℕ) (bans : List Issued) (stale : Option ℕ) (objects : List Placed) → is_gone stale (seen moment bans objects) ≡ is_gone_late moment bans stale objects
seen_gone moment bans None objects = refl
seen_gone moment bans (Some stale) objects = ap not (any_of_map (λ (held : Held). held.view.number == stale) (held_of bans) (those_alive moment bans objects))

pub seen_others : (moment : ℕ) (bans : List Issued) (stale : Option ℕ) (objects : List Placed) → without_stale stale (seen moment bans objects) ≡ seen moment bans (others_late stale objects)
seen_others moment bans None objects = refl
seen_others moment bans (Some stale) objects = seen_filter moment bans (λ (held : Held). not (held.view.number == stale)) objects

waits_so : (bans : List Issued) (issued : ℕ) (found : Option Placed) → since issued bans ≡ []
    → option_map_or (λ (held : Held). held.pending) (option_map (held_of bans) found) [] ≡ since (option_map_or (λ (p : Placed). p.place) found issued) bans
waits_so bans issued None none_ = sym none_
waits_so bans issued (Some p) none_ = refl

pub seen_inherited : (moment : ℕ) (bans : List Issued) (issued : ℕ) (stale : Option ℕ) (objects : List Placed) → since issued bans ≡ []
    → inherited stale (seen moment bans objects) ≡ since (place_for moment bans issued stale objects) bans
seen_inherited moment bans issued None objects none_ = sym none_
seen_inherited moment bans issued (Some stale) objects none_ =
    ap (λ (found : Option Held). option_map_or (λ (held : Held). held.pending) found []) (find_of_map (λ (held : Held). held.view.number == stale) (held_of bans) (those_alive moment bans objects))
    ∙ waits_so bans issued (find (has_number stale) (those_alive moment bans objects)) none_
