-- The room that is made in memory is made by the law.
use Rattle.std.proofs.Common.{◌≡◌, ◌⊎◌, ℕ, Bool, true, false, not, cond, List, [], ◌∷◌, ◌+◌, ◌<◌, ◌≤◌, ◌&&◌, ◌==◌, nat_le, nat_lt, length, filter, Option, Some, None, inl, inr, refl, arith, sym, ap, ◌∙◌}
use Rattle.std.proofs.lemmas.Bool.{cases_lt, lt-ltb, le-ltb, ltb-true, le-leb, lt-leb, leb-true, false≢true, true≢false, or_from, or_left, or_right}
use Rattle.std.proofs.lemmas.List.Sums.{sum_by-cons}
use Rattle.std.specs.List.{fold}
use Rattle.cache_law.specs.declared.ban.Issued.{Issued}
use Rattle.cache_law.specs.Object.{size_of}
use Rattle.cache_law.specs.State.{Held, least_of, sizes_of, without_stale}
use Rattle.cache_law.specs.Room.{most_displaced, is_used_from, outweighs, staying, has_no_room}
use Rattle.flat_core.specs.declared.stored_object.StoredObject.{StoredObject}
use Rattle.flat_core.specs.StoredObject.{held_of, held_all, stays}
use Rattle.flat_core.specs.Room.{stays_from, goes_before, size_staying, sizes_staying, least_with, IsShort, MakesRoom, HasNone}

-- what the objects take that were used at a place or later and stay, in memory and by the law

one_size : (bans : List Issued) (b : Bool) (kept : StoredObject) (rest : List Held) → sizes_of (cond b (held_of bans kept ∷ rest) rest) ≡ cond b (size_of kept.view.object) 0 + sizes_of rest
one_size bans true kept rest = sum_by-cons (λ (held : Held). size_of held.view.object) (held_of bans kept) rest
one_size bans false kept rest = omega arith

one_stale_size : (bans : List Issued) (place : ℕ) (b : Bool) (kept : StoredObject) (rest : List Held)
    → sizes_of (filter (is_used_from place) (cond b (held_of bans kept ∷ rest) rest)) ≡ cond (b && nat_le place kept.used) (size_of kept.view.object) 0 + sizes_of (filter (is_used_from place) rest)
one_stale_size bans place true kept rest = one_size bans (nat_le place kept.used) kept (filter (is_used_from place) rest)
one_stale_size bans place false kept rest = omega arith

pub sizes_by_law : (bans : List Issued) (stale : Option ℕ) (place : ℕ) (objects : List StoredObject) → sizes_staying stale place objects ≡ sizes_of (filter (is_used_from place) (without_stale stale (held_all bans objects)))
sizes_by_law bans None place [] = refl
sizes_by_law bans None place (kept ∷ objects) =
    omega (arith, sum_by-cons (size_staying None place) kept objects, one_stale_size bans place true kept (held_all bans objects), sizes_by_law bans None place objects)
sizes_by_law bans (Some stale) place [] = refl
sizes_by_law bans (Some stale) place (kept ∷ objects) =
    omega (arith, sum_by-cons (size_staying (Some stale) place) kept objects, one_stale_size bans place (not (kept.view.number == stale)) kept (without_stale (Some stale) (held_all bans objects)), sizes_by_law bans (Some stale) place objects)

-- the objects that stay

one_stays : (bans : List Issued) (place : ℕ) (b used : Bool) (kept : StoredObject) (objects : List StoredObject) (rest : List Held) → used ≡ nat_le place kept.used → held_all bans objects ≡ filter (is_used_from place) rest
    → held_all bans (cond (b && used) (kept ∷ objects) objects) ≡ filter (is_used_from place) (cond b (held_of bans kept ∷ rest) rest)
one_stays bans place true true kept objects rest e same = rw (sym e) (ap (λ (hs : List Held). held_of bans kept ∷ hs) same)
one_stays bans place true false kept objects rest e same = rw (sym e) same
one_stays bans place false used kept objects rest e same = same

pub stay_by_law : (bans : List Issued) (stale : Option ℕ) (place : ℕ) (objects : List StoredObject) → held_all bans (filter (stays_from stale place) objects) ≡ filter (is_used_from place) (without_stale stale (held_all bans objects))
stay_by_law bans None place [] = refl
stay_by_law bans None place (kept ∷ objects) = one_stays bans place true (nat_le place kept.used) kept _ _ refl (stay_by_law bans None place objects)
stay_by_law bans (Some stale) place [] = refl
stay_by_law bans (Some stale) place (kept ∷ objects) = one_stays bans place (not (kept.view.number == stale)) (nat_le place kept.used) kept _ _ refl (stay_by_law bans (Some stale) place objects)

-- those that go

abbrev is_used_before : ℕ → Held → Bool
is_used_before place held = nat_lt held.used place

one_goes : (bans : List Issued) (place : ℕ) (b used : Bool) (kept : StoredObject) (objects : List StoredObject) (rest : List Held) → used ≡ nat_lt kept.used place → length objects ≡ length (filter (is_used_before place) rest)
    → length (cond (b && used) (kept ∷ objects) objects) ≡ length (filter (is_used_before place) (cond b (held_of bans kept ∷ rest) rest))
one_goes bans place true true kept objects rest e same = rw (sym e) (omega (arith, same))
one_goes bans place true false kept objects rest e same = rw (sym e) same
one_goes bans place false used kept objects rest e same = same

pub go_by_law : (bans : List Issued) (stale : Option ℕ) (place : ℕ) (objects : List StoredObject) → length (filter (goes_before stale place) objects) ≡ length (filter (is_used_before place) (without_stale stale (held_all bans objects)))
go_by_law bans None place [] = refl
go_by_law bans None place (kept ∷ objects) = one_goes bans place true (nat_lt kept.used place) kept _ _ refl (go_by_law bans None place objects)
go_by_law bans (Some stale) place [] = refl
go_by_law bans (Some stale) place (kept ∷ objects) = one_goes bans place (not (kept.view.number == stale)) (nat_lt kept.used place) kept _ _ refl (go_by_law bans (Some stale) place objects)

-- from a later place on there is less that stays

less_size : (a b : ℕ) (lives : Bool) (kept : StoredObject) → a ≤ b → cond (lives && nat_le b kept.used) (size_of kept.view.object) 0 ≤ cond (lives && nat_le a kept.used) (size_of kept.view.object) 0
less_size a b false kept order = omega arith
less_size a b true kept order = by_use (cases_lt kept.used b)
  where
    by_use : (kept.used < b) ⊎ (b ≤ kept.used) → cond (nat_le b kept.used) (size_of kept.view.object) 0 ≤ cond (nat_le a kept.used) (size_of kept.view.object) 0
    by_use (inl below) = rw (lt-leb b kept.used below) (omega arith)
    by_use (inr above) = rw (le-leb b kept.used above, le-leb a kept.used (omega (arith, order, above))) (omega arith)

pub less_stays : (stale : Option ℕ) (a b : ℕ) → a ≤ b → (objects : List StoredObject) → sizes_staying stale b objects ≤ sizes_staying stale a objects
less_stays stale a b order [] = omega arith
less_stays stale a b order (kept ∷ objects) =
    omega (arith, sum_by-cons (size_staying stale b) kept objects, sum_by-cons (size_staying stale a) kept objects, less_size a b (stays stale kept) kept order, less_stays stale a b order objects)

-- from a later place on more go

length-one : (b : Bool) (kept : StoredObject) (objects : List StoredObject) → length (cond b (kept ∷ objects) objects) ≡ cond b 1 0 + length objects
length-one true kept objects = omega arith
length-one false kept objects = omega arith

more_one : (a b : ℕ) (lives : Bool) (kept : StoredObject) → a ≤ b → cond (lives && nat_lt kept.used a) 1 0 ≤ cond (lives && nat_lt kept.used b) 1 0
more_one a b false kept order = omega arith
more_one a b true kept order = by_use (cases_lt kept.used a)
  where
    by_use : (kept.used < a) ⊎ (a ≤ kept.used) → cond (nat_lt kept.used a) 1 0 ≤ cond (nat_lt kept.used b) 1 0
    by_use (inl below) = rw (lt-ltb kept.used a below, lt-ltb kept.used b (omega (arith, order, below))) (omega arith)
    by_use (inr above) = rw (le-ltb kept.used a above) (omega arith)

more_go : (stale : Option ℕ) (a b : ℕ) → a ≤ b → (objects : List StoredObject) → length (filter (goes_before stale a) objects) ≤ length (filter (goes_before stale b) objects)
more_go stale a b order [] = omega arith
more_go stale a b order (kept ∷ objects) =
    omega (arith, length-one (goes_before stale a kept) kept (filter (goes_before stale a) objects), length-one (goes_before stale b kept) kept (filter (goes_before stale b) objects), more_one a b (stays stale kept) kept order, more_go stale a b order objects)

-- the least place at which one of those that stay was used

none_known : (b : Bool) (used : ℕ) (known : Option ℕ) → cond b (Some (least_of used known)) known ≡ None → (known ≡ None) × (b ≡ false)
none_known true used known e = cc
none_known false used known e = (e, refl)

-- where there is none, none stays
pub none_stay : (stale : Option ℕ) (place : ℕ) (objects : List StoredObject) (known : Option ℕ) → fold (least_with stale place) known objects ≡ None → (known ≡ None) × (sizes_staying stale place objects ≡ 0)
none_stay stale place [] known e = (e, refl)
none_stay stale place (kept ∷ objects) known e =
    let later = none_stay stale place objects (least_with stale place known kept) e in
    let here = none_known (stays_from stale place kept) kept.used known later.0 in
    (here.0, omega (arith, sum_by-cons (size_staying stale place) kept objects, later.1, ap (λ (b : Bool). cond b (size_of kept.view.object) 0) here.1))

below_known : (u used : ℕ) (known : Option ℕ) → ((k : ℕ) → Some (least_of used known) ≡ Some k → u ≤ k) → (u ≤ used) × ((k : ℕ) → known ≡ Some k → u ≤ k)
below_known u used None below = (below used refl, λ k e. cc)
below_known u used (Some own) below =
    let least : u ≤ least_of used (Some own) = below (least_of used (Some own)) refl in
    (omega (arith, least), λ k e. let same : own ≡ k = cc in omega (arith, least, same))

no_less : (u place less : ℕ) (b lives : Bool) (kept : StoredObject) (known : Option ℕ) → b ≡ (lives && nat_le place kept.used) → less ≤ u
    → ((k : ℕ) → cond b (Some (least_of kept.used known)) known ≡ Some k → u ≤ k)
    → (cond b (size_of kept.view.object) 0 ≤ cond (lives && nat_le less kept.used) (size_of kept.view.object) 0) × ((k : ℕ) → known ≡ Some k → u ≤ k)
no_less u place less false lives kept known e order below = (omega arith, below)
no_less u place less true true kept known e order below =
    let both = below_known u kept.used known below in
    (rw (le-leb less kept.used (omega (arith, order, both.0))) (omega arith), both.1)
no_less u place less true false kept known e order below = absurd (true≢false e)

-- up to that place as much stays
pub as_much_stays : (stale : Option ℕ) (place u less : ℕ) → less ≤ u → (objects : List StoredObject) (known : Option ℕ) → fold (least_with stale place) known objects ≡ Some u
    → (sizes_staying stale place objects ≤ sizes_staying stale less objects) × ((k : ℕ) → known ≡ Some k → u ≤ k)
as_much_stays stale place u less order [] known e = (omega arith, λ k f. let same : u ≡ k = some_same (sym e ∙ f) in omega (arith, same))
  where
    some_same : {a b : ℕ} → Some a ≡ Some b → a ≡ b
    some_same e = cc
as_much_stays stale place u less order (kept ∷ objects) known e =
    let later = as_much_stays stale place u less order objects (least_with stale place known kept) e in
    let here = no_less u place less (stays_from stale place kept) (stays stale kept) kept known refl order later.1 in
    (omega (arith, sum_by-cons (size_staying stale place) kept objects, sum_by-cons (size_staying stale less) kept objects, later.0, here.0), here.1)

-- what one of those that stay was used at, or what was known before
least_or_known : (u used : ℕ) (known : Option ℕ) → Some (least_of used known) ≡ Some u → (used ≡ u) ⊎ (known ≡ Some u)
least_or_known u used None e = inl cc
least_or_known u used (Some own) e = by_order (cases_lt own used)
  where
    least : least_of used (Some own) ≡ u
    least = cc

    by_order : (own < used) ⊎ (used ≤ own) → (used ≡ u) ⊎ (Some own ≡ Some u)
    by_order (inl below) = let same : own ≡ u = omega (arith, least, below) in inr (ap Some same)
    by_order (inr above) = inl (omega (arith, least, above))

abbrev pub MoreGo : Option ℕ → ℕ → ℕ → List StoredObject → Type 0
MoreGo stale place u objects = (place ≤ u) × (length (filter (goes_before stale place) objects) + 1 ≤ length (filter (goes_before stale (u + 1)) objects))

-- it goes where those go that were used then
goes_too : (place u : ℕ) (lives : Bool) (kept : StoredObject) → (lives && nat_le place kept.used) ≡ true → kept.used ≡ u
    → (place ≤ u) × (cond (lives && nat_lt kept.used place) 1 0 + 1 ≤ cond (lives && nat_lt kept.used (u + 1)) 1 0)
goes_too place u false kept e same = absurd (false≢true e)
goes_too place u true kept e same =
    let low : place ≤ kept.used = leb-true place kept.used e in
    (omega (arith, low, same), rw (le-ltb kept.used place low, lt-ltb kept.used (u + 1) (omega (arith, same))) (omega arith))

pub more_then : (stale : Option ℕ) (place u : ℕ) (objects : List StoredObject) (known : Option ℕ) → fold (least_with stale place) known objects ≡ Some u → (known ≡ Some u) ⊎ MoreGo stale place u objects
more_then stale place u [] known e = inl e
more_then stale place u (kept ∷ objects) known e = by_later (more_then stale place u objects (least_with stale place known kept) e)
  where
    lengths : (k : ℕ) → length (filter (goes_before stale k) (kept ∷ objects)) ≡ cond (goes_before stale k kept) 1 0 + length (filter (goes_before stale k) objects)
    lengths k = length-one (goes_before stale k kept) kept (filter (goes_before stale k) objects)

    by_use : stays_from stale place kept ≡ true → (kept.used ≡ u) ⊎ (known ≡ Some u) → (known ≡ Some u) ⊎ MoreGo stale place u (kept ∷ objects)
    by_use stays_ (inl same) =
        let here = goes_too place u (stays stale kept) kept stays_ same in
        inr (here.0, omega (arith, here.1, lengths place, lengths (u + 1), more_go stale place (u + 1) (omega (arith, here.0)) objects))
    by_use stays_ (inr same) = inl same

    by_known : (b : Bool) → b ≡ stays_from stale place kept → cond b (Some (least_of kept.used known)) known ≡ Some u → (known ≡ Some u) ⊎ MoreGo stale place u (kept ∷ objects)
    by_known true stays_ same = by_use (sym stays_) (least_or_known u kept.used known same)
    by_known false stays_ same = inl same

    by_later : (least_with stale place known kept ≡ Some u) ⊎ MoreGo stale place u objects → (known ≡ Some u) ⊎ MoreGo stale place u (kept ∷ objects)
    by_later (inl same) = by_known (stays_from stale place kept) refl same
    by_later (inr more) =
        inr (more.0, omega (arith, more.1, lengths place, lengths (u + 1), more_one place (u + 1) (stays stale kept) kept (omega (arith, more.0))))

-- The steps of the search for the place.

pub short_none : (room size : ℕ) (stale : Option ℕ) (objects : List StoredObject) → IsShort room size stale objects 0
short_none room size stale objects less below = absurd (omega (arith, below))

pub short_more : (room size : ℕ) (stale : Option ℕ) (objects : List StoredObject) (place u : ℕ) → IsShort room size stale objects place → room < sizes_staying stale place objects + size
    → fold (least_with stale place) None objects ≡ Some u → IsShort room size stale objects (u + 1)
short_more room size stale objects place u short here e less below = by_place (cases_lt less place)
  where
    by_place : (less < place) ⊎ (place ≤ less) → room < sizes_staying stale less objects + size
    by_place (inl before) = short less before
    by_place (inr behind) = omega (arith, here, (as_much_stays stale place u less (omega (arith, below)) objects None e).0)

pub one_more_goes : (stale : Option ℕ) (place u tried : ℕ) (objects : List StoredObject) → fold (least_with stale place) None objects ≡ Some u → tried ≤ length (filter (goes_before stale place) objects)
    → tried + 1 ≤ length (filter (goes_before stale (u + 1)) objects)
one_more_goes stale place u tried objects e so_far = by_more (more_then stale place u objects None e)
  where
    by_more : (None ≡ Some u) ⊎ MoreGo stale place u objects → tried + 1 ≤ length (filter (goes_before stale (u + 1)) objects)
    by_more (inl never) = cc
    by_more (inr more) = omega (arith, more.1, so_far)

-- What goes by the law.

filter_alike : (p q : Held → Bool) → ((held : Held) → p held ≡ q held) → (objects : List Held) → filter p objects ≡ filter q objects
filter_alike p q same [] = refl
filter_alike p q same (held ∷ objects) =
    ap (λ (b : Bool). cond b (held ∷ filter p objects) (filter p objects)) (same held) ∙ ap (λ (rest : List Held). cond (q held) (held ∷ rest) rest) (filter_alike p q same objects)

more_step : (a b : Bool) (held : Held) (one other : List Held) → (a ≡ true → b ≡ true) → length one ≤ length other → length (cond a (held ∷ one) one) ≤ length (cond b (held ∷ other) other)
more_step true true held one other imply less = omega (arith, less)
more_step true false held one other imply less = absurd (false≢true (imply refl))
more_step false true held one other imply less = omega (arith, less)
more_step false false held one other imply less = less

filter_more : (p q : Held → Bool) → ((held : Held) → p held ≡ true → q held ≡ true) → (objects : List Held) → length (filter p objects) ≤ length (filter q objects)
filter_more p q imply [] = omega arith
filter_more p q imply (held ∷ objects) = more_step (p held) (q held) held _ _ (imply held) (filter_more p q imply objects)

module _ (bans : List Issued) (room size : ℕ) (stale : Option ℕ) (objects : List StoredObject) where
  abbrev others : List Held
  others = without_stale stale (held_all bans objects)

  short_goes : (place : ℕ) → IsShort room size stale objects place → (held : Held) → held.used < place → outweighs room size others held ≡ true
  short_goes place short held below = lt-ltb _ _ (omega (arith, short held.used below, sizes_by_law bans stale held.used objects))

  goes_so : (place : ℕ) → MakesRoom room size stale objects place → (held : Held) → outweighs room size others held ≡ nat_lt held.used place
  goes_so place makes held = by_use (cases_lt held.used place)
    where
      by_use : (held.used < place) ⊎ (place ≤ held.used) → outweighs room size others held ≡ nat_lt held.used place
      by_use (inl below) = short_goes place makes.short held below ∙ sym (lt-ltb held.used place below)
      by_use (inr above) =
          le-ltb _ _ (omega (arith, makes.enough, less_stays stale place held.used above objects, sizes_by_law bans stale held.used objects)) ∙ sym (le-ltb held.used place above)

  not_before : (a b : ℕ) → not (nat_lt a b) ≡ nat_le b a
  not_before a b = by_order (cases_lt a b)
    where
      by_order : (a < b) ⊎ (b ≤ a) → not (nat_lt a b) ≡ nat_le b a
      by_order (inl below) = rw (lt-ltb a b below, lt-leb b a below) refl
      by_order (inr above) = rw (le-ltb a b above, le-leb b a above) refl

  -- the objects that stay in memory are those that stay by the law
  pub stay_so : (place : ℕ) → MakesRoom room size stale objects place → held_all bans (filter (stays_from stale place) objects) ≡ staying room size others
  stay_so place makes =
      stay_by_law bans stale place objects
      ∙ filter_alike (is_used_from place) (λ (held : Held). not (outweighs room size others held)) (λ held. sym (not_before held.used place) ∙ ap not (sym (goes_so place makes held))) others

  pub room_so : (place : ℕ) → MakesRoom room size stale objects place → has_no_room room size others ≡ false
  room_so place makes =
      let same = ap (λ (hs : List Held). length hs) (filter_alike (outweighs room size others) (is_used_before place) (goes_so place makes) others) in
      or_from _ _ (le-ltb room size (omega (arith, makes.enough))) (le-ltb most_displaced (length (filter (outweighs room size others) others)) (omega (arith, makes.few, go_by_law bans stale place objects, same)))

  pub none_so : HasNone room size stale objects → has_no_room room size others ≡ true
  none_so (inl large) = or_left _ _ (lt-ltb room size large)
  none_so (inr many) =
      let more = filter_more (is_used_before many.place) (outweighs room size others) (λ held before. short_goes many.place many.short held (ltb-true held.used many.place before)) others in
      or_right (nat_lt room size) _ (lt-ltb most_displaced (length (filter (outweighs room size others) others)) (omega (arith, many.many, go_by_law bans stale many.place objects, more)))
