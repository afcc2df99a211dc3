-- Room is made among what is stored as it is made among what the law sees.
use Rattle.std.proofs.Common.{◌≡◌, ◌≤◌, ◌+◌, ℕ, Bool, true, false, not, cond, List, [], ◌||◌, nat_lt, filter, map, length, refl, arith, sym, ap, ◌∙◌}
use Rattle.std.specs.List.{AllByRecursion}
use Rattle.std.proofs.lemmas.Bool.{and_from, and_parts, le-ltb, leb-true}
use Rattle.cache_law.specs.declared.ban.Issued.{Issued}
use Rattle.cache_law.specs.Object.{in_time, size_of}
use Rattle.cache_law.specs.Room.{displaced, has_no_room, is_used_from, most_displaced, outweighs, staying}
use Rattle.cache_law.specs.State.{Held, sizes_of}
use Rattle.cache_law.proofs.Held.{all-filter, all-map}
use Rattle.lazy_law.specs.Placed.{Placed, above, held_of, is_alive, is_dead, is_unswept, marked_at, seen, those_alive, tidied}
use Rattle.lazy_law.specs.Insertion.{displaced_late, fits_late, has_no_room_late, is_used_from_late, lacks_room, made_room, outweighs_late, sizes_late, staying_late, tended}
use Rattle.lazy_law.specs.Sweeping.{sweeping}
use Rattle.lazy_law.proofs.Filters.{all_pass, each, filter_all, filter_none, filter_of_map, filter_on, length_of_map, map_of_map, passes_on, sum_of_filter, sum_of_map}

-- ---- among objects that are all seen

outweighs_same : (room size : ℕ) (bans : List Issued) (objects : List Placed) (p : Placed) → outweighs room size (map (held_of bans) objects) (held_of bans p) ≡ outweighs_late room size objects p
outweighs_same room size bans objects p =
    ap (λ (n : ℕ). nat_lt room (n + size))
    (ap sizes_of (filter_of_map (is_used_from p.used) (held_of bans) objects)
    ∙ sum_of_map (λ (held : Held). size_of held.view.object) (held_of bans) (filter (is_used_from_late p.used) objects))

displaced_same : (room size : ℕ) (bans : List Issued) (objects : List Placed) → displaced room size (map (held_of bans) objects) ≡ map (held_of bans) (displaced_late room size objects)
displaced_same room size bans objects =
    filter_of_map (outweighs room size (map (held_of bans) objects)) (held_of bans) objects
    ∙ ap (map (held_of bans)) (filter_on (λ p. outweighs room size (map (held_of bans) objects) (held_of bans p)) (outweighs_late room size objects) objects (each _ (outweighs_same room size bans objects) objects))

staying_same : (room size : ℕ) (bans : List Issued) (objects : List Placed) → staying room size (map (held_of bans) objects) ≡ map (held_of bans) (staying_late room size objects)
staying_same room size bans objects =
    filter_of_map (λ held. not (outweighs room size (map (held_of bans) objects) held)) (held_of bans) objects
    ∙ ap (map (held_of bans))
    (filter_on (λ p. not (outweighs room size (map (held_of bans) objects) (held_of bans p))) (λ p. not (outweighs_late room size objects p)) objects (each _ (λ p. ap not (outweighs_same room size bans objects p)) objects))

no_room_same : (room size : ℕ) (bans : List Issued) (objects : List Placed) → has_no_room room size (map (held_of bans) objects) ≡ lacks_room room size objects
no_room_same room size bans objects =
    ap (λ (n : ℕ). nat_lt room size || nat_lt most_displaced n) (ap length (displaced_same room size bans objects) ∙ length_of_map (held_of bans) (displaced_late room size objects))

-- ---- tidied ones are seen one for one

pub tidied_seen : (moment : ℕ) (bans : List Issued) (issued : ℕ) (objects : List Placed) → seen moment bans objects ≡ map (held_of bans) (tidied moment bans issued objects)
tidied_seen moment bans issued objects = sym (map_of_map (held_of bans) (marked_at issued) (those_alive moment bans objects))

still_alive : (moment : ℕ) (bans : List Issued) (issued : ℕ) (p : Placed) → above issued bans ≡ [] → is_alive moment bans p ≡ true → is_alive moment bans (marked_at issued p) ≡ true
still_alive moment bans issued p none_ alive = let parts = and_parts (in_time moment p.view.object) (not (is_dead bans p)) alive in rw (none_) (and_from (in_time moment p.view.object) true parts.0 refl)

pub all_alive : (moment : ℕ) (bans : List Issued) (issued : ℕ) (objects : List Placed) → above issued bans ≡ [] → AllByRecursion (λ p. is_alive moment bans p ≡ true) (tidied moment bans issued objects)
all_alive moment bans issued objects none_ =
    all-map (λ p. is_alive moment bans p ≡ true) (λ p. is_alive moment bans p ≡ true) (marked_at issued) (λ p. still_alive moment bans issued p none_) (those_alive moment bans objects) (all_pass (is_alive moment bans) objects)

-- ---- and so are those that were tested where they waited

held_case : (bans : List Issued) (issued : ℕ) (p : Placed) (b : Bool) → held_of bans (cond b (marked_at issued p) p) ≡ held_of bans p
held_case bans issued p true = refl
held_case bans issued p false = refl

tended_seen : (moment : ℕ) (bans : List Issued) (issued : ℕ) (objects : List Placed) → seen moment bans objects ≡ map (held_of bans) (tended moment bans issued objects)
tended_seen moment bans issued objects =
    sym (map_of_map (held_of bans) (sweeping (is_unswept bans) issued) (those_alive moment bans objects)
    ∙ passes_on (is_alive moment bans) (is_alive moment bans) (λ p. held_of bans (sweeping (is_unswept bans) issued p)) (held_of bans) objects
    (each _ (λ p. (refl, held_case bans issued p (is_unswept bans p))) objects))

tend_case : (moment : ℕ) (bans : List Issued) (issued : ℕ) (p : Placed) (b : Bool) → above issued bans ≡ [] → is_alive moment bans p ≡ true → is_alive moment bans (cond b (marked_at issued p) p) ≡ true
tend_case moment bans issued p true none_ alive = still_alive moment bans issued p none_ alive
tend_case moment bans issued p false none_ alive = alive

all_tended : (moment : ℕ) (bans : List Issued) (issued : ℕ) (objects : List Placed) → above issued bans ≡ [] → AllByRecursion (λ p. is_alive moment bans p ≡ true) (tended moment bans issued objects)
all_tended moment bans issued objects none_ =
    all-map (λ p. is_alive moment bans p ≡ true) (λ p. is_alive moment bans p ≡ true) (sweeping (is_unswept bans) issued) (λ p. tend_case moment bans issued p (is_unswept bans p) none_)
    (those_alive moment bans objects) (all_pass (is_alive moment bans) objects)

staying_seen : (room size moment : ℕ) (bans : List Issued) (issued : ℕ) (others : List Placed) → above issued bans ≡ []
    → staying room size (seen moment bans others) ≡ seen moment bans (staying_late room size (tended moment bans issued others))
staying_seen room size moment bans issued others none_ =
    let tidy : List Placed = tended moment bans issued others in
    ap (staying room size) (tended_seen moment bans issued others) ∙ staying_same room size bans tidy
    ∙ ap (map (held_of bans)) (sym (filter_all (is_alive moment bans) (staying_late room size tidy)
    (all-filter (λ p. is_alive moment bans p ≡ true) (λ p. not (outweighs_late room size tidy p)) tidy (all_tended moment bans issued others none_))))

-- ---- where all that is stored leaves room

light : (room size : ℕ) (held : Held) (helds : List Held) → sizes_of helds + size ≤ room → outweighs room size helds held ≡ false
light room size held helds less =
    let part = sum_of_filter (λ (h : Held). size_of h.view.object) (is_used_from held.used) helds in
    le-ltb room (sizes_of (filter (is_used_from held.used) helds) + size) (omega (arith, less, part))

none_displaced : (room size : ℕ) (helds : List Held) → sizes_of helds + size ≤ room → displaced room size helds ≡ []
none_displaced room size helds less = filter_none (outweighs room size helds) helds (each _ (λ h. light room size h helds less) helds)

all_stay : (room size : ℕ) (helds : List Held) → sizes_of helds + size ≤ room → staying room size helds ≡ helds
all_stay room size helds less = filter_all (λ h. not (outweighs room size helds h)) helds (each _ (λ h. ap not (light room size h helds less)) helds)

room_there : (room size : ℕ) (helds : List Held) → sizes_of helds + size ≤ room → has_no_room room size helds ≡ false
room_there room size helds less = rw (le-ltb room size (omega (arith, less)), none_displaced room size helds less) refl

seen_light : (moment : ℕ) (bans : List Issued) (others : List Placed) → sizes_of (seen moment bans others) ≤ sizes_late others
seen_light moment bans others =
    let same = sum_of_map (λ (held : Held). size_of held.view.object) (held_of bans) (those_alive moment bans others) in
    let part = sum_of_filter (λ (p : Placed). size_of p.view.object) (is_alive moment bans) others in omega (arith, same, part)

fits_seen : (room size moment : ℕ) (bans : List Issued) (others : List Placed) → fits_late room size others ≡ true → sizes_of (seen moment bans others) + size ≤ room
fits_seen room size moment bans others e = let all = leb-true (sizes_late others + size) room e in let part = seen_light moment bans others in omega (arith, all, part)

no_room_case : (room size moment : ℕ) (bans : List Issued) (issued : ℕ) (others : List Placed) (b : Bool) → fits_late room size others ≡ b
    → has_no_room room size (seen moment bans others) ≡ cond b false (lacks_room room size (tended moment bans issued others))
no_room_case room size moment bans issued others true e = room_there room size (seen moment bans others) (fits_seen room size moment bans others e)
no_room_case room size moment bans issued others false e = ap (has_no_room room size) (tended_seen moment bans issued others) ∙ no_room_same room size bans (tended moment bans issued others)

pub seen_no_room : (room size moment : ℕ) (bans : List Issued) (issued : ℕ) (others : List Placed) → has_no_room room size (seen moment bans others) ≡ has_no_room_late room size moment bans issued others
seen_no_room room size moment bans issued others = no_room_case room size moment bans issued others (fits_late room size others) refl

made_case : (room size moment : ℕ) (bans : List Issued) (issued : ℕ) (others : List Placed) (b : Bool) → fits_late room size others ≡ b → above issued bans ≡ []
    → staying room size (seen moment bans others) ≡ seen moment bans (cond b others (staying_late room size (tended moment bans issued others)))
made_case room size moment bans issued others true e none_ = all_stay room size (seen moment bans others) (fits_seen room size moment bans others e)
made_case room size moment bans issued others false e none_ = staying_seen room size moment bans issued others none_

pub seen_made : (room size moment : ℕ) (bans : List Issued) (issued : ℕ) (others : List Placed) → above issued bans ≡ []
    → staying room size (seen moment bans others) ≡ seen moment bans (made_room room size moment bans issued others)
seen_made room size moment bans issued others none_ = made_case room size moment bans issued others (fits_late room size others) refl none_
