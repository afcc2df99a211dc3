-- A sweep of one object, whether bans match it or not.
use Rattle.std.proofs.Common.{◌≡◌, ◌≤◌, ℕ, Bool, true, false, not, cond, List, [], ◌∷◌, ◌++◌, ◌&&◌, Some, None, find, map, nat_eq, refl, arith, sym, ap, ◌∙◌, subst}
use Rattle.std.specs.List.{AllByRecursion}
use Rattle.std.proofs.lemmas.Bool.Decides.{nat_tests}
use Rattle.cache_law.specs.declared.ban.Issued.{Issued}
use Rattle.lazy_law.specs.Placed.{Lazy, Placed, is_dead, kept_bans, marked_at}
use Rattle.lazy_law.specs.Insertion.{has_number, others_late}
use Rattle.lazy_law.specs.Stands.{IsWithin as TestedUpTo}
use Rattle.lazy_law.specs.Sweeping.{swept, swept_lazy, sweeping}
use Rattle.lazy_store.specs.Members.{number_in}
use Rattle.lazy_store.specs.Tied.{AreApart}
use Rattle.lazy_store.specs.Changes.{moved, moving, without}
use Rattle.lazy_store.proofs.Splits.{IsFound, all_here, all_more, all_weaken, apart_others, filter_all, filter_less, found, map_all, none_found}

pub other_number : (own number other : ℕ) → nat_eq own number ≡ true → nat_eq own other ≡ false → nat_eq other number ≡ false
other_number own number other same apart = grind (arith, nat_tests)

-- the others than the one of the number have others
pub others_of : (number : ℕ) (before : List Placed) (p : Placed) (behind : List Placed) → AreApart number_in (before ++ p ∷ behind) → has_number number p ≡ true
    → AllByRecursion (λ y. has_number number y ≡ false) (before ++ behind)
others_of number before p behind apart same =
    all_weaken (λ (y : Placed). nat_eq (number_in p) (number_in y) ≡ false) (λ (y : Placed). has_number number y ≡ false)
    (λ y e. other_number (number_in p) number (number_in y) same e) (before ++ behind) (apart_others number_in before p behind apart)

stays_case : (b dead : Bool) → b ≡ false → not (b && dead) ≡ true
stays_case false dead e = refl
stays_case true dead e = cc

goes_case : (b dead : Bool) → b ≡ true → dead ≡ true → not (b && dead) ≡ false
goes_case true true e f = refl
goes_case false dead e f = cc
goes_case b false e f = cc

alive_case : (b dead : Bool) → dead ≡ false → not (b && dead) ≡ true
alive_case true false e = refl
alive_case false false e = refl
alive_case b true e = cc

pub unswept_others : (number issued : ℕ) (xs : List Placed) → AllByRecursion (λ y. has_number number y ≡ false) xs → map (sweeping (has_number number) issued) xs ≡ xs
unswept_others number issued xs others =
    map_all (sweeping (has_number number) issued) xs
    (all_weaken (λ (y : Placed). has_number number y ≡ false) (λ (y : Placed). sweeping (has_number number) issued y ≡ y) (λ y e. rw e refl) xs others)

pub left_dead : (number issued : ℕ) (bans : List Issued) (before : List Placed) (p : Placed) (behind : List Placed) → AllByRecursion (λ y. has_number number y ≡ false) (before ++ behind)
    → has_number number p ≡ true → is_dead bans p ≡ true → swept (has_number number) bans issued (before ++ p ∷ behind) ≡ others_late (Some number) (before ++ p ∷ behind)
left_dead number issued bans before p behind others same dead =
    ap (map (sweeping (has_number number) issued))
    (filter_less (λ (y : Placed). not (has_number number y && is_dead bans y)) before p behind (goes_case (has_number number p) (is_dead bans p) same dead)
    (all_weaken (λ (y : Placed). has_number number y ≡ false) (λ (y : Placed). not (has_number number y && is_dead bans y) ≡ true) (λ y e. stays_case (has_number number y) (is_dead bans y) e) (before ++ behind) others))
    ∙ unswept_others number issued (before ++ behind) others
    ∙ sym (filter_less (λ (y : Placed). not (has_number number y)) before p behind (ap not same)
    (all_weaken (λ (y : Placed). has_number number y ≡ false) (λ (y : Placed). not (has_number number y) ≡ true) (λ y e. ap not e) (before ++ behind) others))

pub swept_dead : (number : ℕ) (p : Placed) (lazy : Lazy) → AreApart number_in lazy.objects → find (has_number number) lazy.objects ≡ Some p → is_dead (kept_bans lazy) p ≡ true
    → swept_lazy (has_number number) lazy ≡ without number lazy
swept_dead number p lazy apart is dead =
    let f : IsFound (has_number number) lazy.objects p = found (has_number number) lazy.objects p is in
    let others : AllByRecursion (λ y. has_number number y ≡ false) (f.split.before ++ f.split.behind) =
    others_of number f.split.before p f.split.behind (subst (AreApart number_in) f.split.is apart) f.passes in
    ap (λ (objects : List Placed). record lazy { objects = objects })
    (ap (swept (has_number number) (kept_bans lazy) lazy.issued) f.split.is
    ∙ left_dead number lazy.issued (kept_bans lazy) f.split.before p f.split.behind others f.passes dead
    ∙ ap (others_late (Some number)) (sym f.split.is))

moving_step : (number : ℕ) (p y : Placed) (b : Bool) (issued : ℕ) → (b ≡ true → y ≡ p) → cond b (marked_at issued y) y ≡ cond b (record y { place = p.place; mark = issued }) y
moving_step number p y true issued same = rw (same refl) refl
moving_step number p y false issued same = refl

pub moved_all : (number issued : ℕ) (p : Placed) (xs : List Placed) → AllByRecursion (λ y. has_number number y ≡ true → y ≡ p) xs
    → map (sweeping (has_number number) issued) xs ≡ map (moving number (record { place = p.place; mark = issued })) xs
moved_all number issued p [] only = refl
moved_all number issued p (y ∷ xs) only =
    ap (λ (z : Placed). z ∷ map (sweeping (has_number number) issued) xs) (moving_step number p y (has_number number y) issued only.0)
    ∙ ap (λ (zs : List Placed). moving number (record { place = p.place; mark = issued }) y ∷ zs) (moved_all number issued p xs only.1)

not_it : (b : Bool) (P : Type 0) → b ≡ false → b ≡ true → P
not_it b P e f = absurd cc

-- only the one that is found has the number
pub only_it : (number : ℕ) (p : Placed) (objects : List Placed) → AreApart number_in objects → find (has_number number) objects ≡ Some p
    → AllByRecursion (λ y. has_number number y ≡ true → y ≡ p) objects
only_it number p objects apart is =
    let f : IsFound (has_number number) objects p = found (has_number number) objects p is in
    let others : AllByRecursion (λ y. has_number number y ≡ false) (f.split.before ++ f.split.behind) =
    others_of number f.split.before p f.split.behind (subst (AreApart number_in) f.split.is apart) f.passes in
    subst (AllByRecursion (λ y. has_number number y ≡ true → y ≡ p)) (sym f.split.is)
    (all_more (λ y. has_number number y ≡ true → y ≡ p) f.split.before p f.split.behind (λ e. refl)
    (all_weaken (λ (y : Placed). has_number number y ≡ false) (λ (y : Placed). has_number number y ≡ true → y ≡ p) (λ y e. not_it (has_number number y) (y ≡ p) e) (f.split.before ++ f.split.behind) others))

spared : (bans : List Issued) (p y : Placed) (b : Bool) → is_dead bans p ≡ false → (b ≡ true → y ≡ p) → not (b && is_dead bans y) ≡ true
spared bans p y false alive it = refl
spared bans p y true alive it = ap not (ap (is_dead bans) (it refl) ∙ alive)

spared_by : (number : ℕ) (bans : List Issued) (p : Placed) (objects : List Placed) → AllByRecursion (λ y. has_number number y ≡ true → y ≡ p) objects → is_dead bans p ≡ false
    → AllByRecursion (λ y. not (has_number number y && is_dead bans y) ≡ true) objects
spared_by number bans p objects only alive =
    all_weaken (λ (y : Placed). has_number number y ≡ true → y ≡ p) (λ (y : Placed). not (has_number number y && is_dead bans y) ≡ true)
    (λ y it. spared bans p y (has_number number y) alive it) objects only

pub swept_live : (number : ℕ) (p : Placed) (lazy : Lazy) → AreApart number_in lazy.objects → find (has_number number) lazy.objects ≡ Some p → is_dead (kept_bans lazy) p ≡ false
    → swept_lazy (has_number number) lazy ≡ moved number (record { place = p.place; mark = lazy.issued }) lazy
swept_live number p lazy apart is alive =
    let only : AllByRecursion (λ y. has_number number y ≡ true → y ≡ p) lazy.objects = only_it number p lazy.objects apart is in
    ap (λ (objects : List Placed). record lazy { objects = objects })
    (ap (map (sweeping (has_number number) lazy.issued))
    (filter_all (λ (y : Placed). not (has_number number y && is_dead (kept_bans lazy) y)) lazy.objects (spared_by number (kept_bans lazy) p lazy.objects only alive))
    ∙ moved_all number lazy.issued p lazy.objects only)

pub swept_none : (number : ℕ) (lazy : Lazy) → find (has_number number) lazy.objects ≡ None → swept_lazy (has_number number) lazy ≡ lazy
swept_none number lazy is =
    let others : AllByRecursion (λ y. has_number number y ≡ false) lazy.objects = none_found (has_number number) lazy.objects is in
    ap (λ (objects : List Placed). record lazy { objects = objects })
    (ap (map (sweeping (has_number number) lazy.issued))
    (filter_all (λ (y : Placed). not (has_number number y && is_dead (kept_bans lazy) y)) lazy.objects
    (all_weaken (λ (y : Placed). has_number number y ≡ false) (λ (y : Placed). not (has_number number y && is_dead (kept_bans lazy) y) ≡ true) (λ y e. stays_case (has_number number y) (is_dead (kept_bans lazy) y) e) lazy.objects others))
    ∙ unswept_others number lazy.issued lazy.objects others)

-- ---- the one that is found

pub holds_found : (P : Placed → Type 0) (test : Placed → Bool) (objects : List Placed) (p : Placed) → AllByRecursion P objects → find test objects ≡ Some p → P p
holds_found P test objects p all is =
    let f : IsFound test objects p = found test objects p is in
    all_here P f.split.before p f.split.behind (subst (AllByRecursion P) f.split.is all)

pub marks_within : (number issued mark : ℕ) (objects : List Placed) → AllByRecursion (TestedUpTo issued) objects → mark ≡ issued
    → AllByRecursion (λ (p : Placed). has_number number p ≡ true → p.mark ≤ mark) objects
marks_within number issued mark objects within same =
    all_weaken (TestedUpTo issued) (λ (p : Placed). has_number number p ≡ true → p.mark ≤ mark) (λ p is. λ e. omega (arith, is.mark, same)) objects within
