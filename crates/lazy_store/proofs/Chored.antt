-- What the lurker is to test an object on, and that it waits.
use Rattle.std.proofs.Common.{◌≡◌, ◌+◌, ℕ, zero, suc, Bool, true, false, List, [], ◌∷◌, ◌++◌, Option, Some, None, filter, filter_map, find, length, take, refl, add-one, arith, sym, ap, ◌∙◌, subst}
use Rattle.std.specs.Prelude.{nat_lt, option_and_then, option_to_list, slice_get, Contains}
use Rattle.std.specs.List.{cons_option, list_all, list_any, AllByRecursion}
use Rattle.std.proofs.lemmas.Bool.{and_parts, false≢true}
use Rattle.std.proofs.lemmas.List.Elements.{Contains-append_right}
use Rattle.cache_law.specs.declared.ban.BanLine.{BanLine}
use Rattle.cache_law.specs.declared.ban.Issued.{Issued}
use Rattle.cache_law.specs.declared.object.ObjectView.{ObjectView}
use Rattle.cache_law.specs.ShownBans.{those_open}
use Rattle.ban_lurker.specs.declared.chore.Chore.{Chore}
use Rattle.ban_lurker.specs.Looks.{is_alone}
use Rattle.ban_list.specs.Bans.{is_newer, newer}
use Rattle.ban_list.specs.Kept.{AreFalling}
use Rattle.lazy_law.specs.Placed.{Lazy, Placed, above, is_unswept, kept_bans}
use Rattle.lazy_law.specs.Insertion.{has_number}
use Rattle.lazy_law.specs.Sweeping.{chore_of, count_unswept}
use Rattle.lazy_store.specs.Chores.{IsChoreIn, alone_in}
use Rattle.lazy_store.specs.Lurking.{is_waiting_as}
use Rattle.lazy_store.specs.Members.{number_in}
use Rattle.lazy_store.specs.Tied.{AreApart}
use Rattle.lazy_store.proofs.Lines.{newer_are_first}
use Rattle.lazy_store.proofs.Splits.{IsFound, IsThere, all_here, count_among, found, none_found, one_if, there}
use Rattle.lazy_store.proofs.Sweeps.{only_it}

-- ---- one line after another

put_first : {X : Type 0} (one : Option X) (xs more : List X) → cons_option one (xs ++ more) ≡ cons_option one xs ++ more
put_first None xs more = refl
put_first (Some x) xs more = refl

alone_put : {X : Type 0} (one : Option X) → cons_option one [] ≡ option_to_list one
alone_put None = refl
alone_put (Some x) = refl

more_step : {X Y : Type 0} (f : X → Option Y) (xs : List X) (at : ℕ) → filter_map f (take (suc at) xs) ≡ filter_map f (take at xs) ++ option_to_list (option_and_then f (slice_get xs at))
more_step f [] zero = refl
more_step f [] (suc at) = refl
more_step f (x ∷ xs) zero = alone_put (f x)
more_step f (x ∷ xs) (suc at) = ap (cons_option (f x)) (more_step f xs at) ∙ put_first (f x) (filter_map f (take at xs)) (option_to_list (option_and_then f (slice_get xs at)))

pub one_more : {X Y : Type 0} (f : X → Option Y) (xs : List X) (at : ℕ) → filter_map f (take (at + 1) xs) ≡ filter_map f (take at xs) ++ option_to_list (option_and_then f (slice_get xs at))
one_more f xs at = rw add-one (more_step f xs at)

-- ---- the bans above a mark

above_case : (line : BanLine) (lines : List BanLine) (mark : ℕ) (done newer_ alone : Bool) → line.completed ≡ done → is_newer mark line ≡ newer_ → is_alone line.issued ≡ alone
    → filter_map alone_in (filter (is_newer mark) lines) ≡ above mark (those_open lines) → filter_map alone_in (filter (is_newer mark) (line ∷ lines)) ≡ above mark (those_open (line ∷ lines))
above_case line lines mark true true alone e f g rest = rw (e, f) rest
above_case line lines mark true false alone e f g rest = rw (e, f) rest
above_case line lines mark false true true e f g rest = rw (e, f, g) (ap (λ (is : List Issued). line.issued ∷ is) rest)
above_case line lines mark false true false e f g rest = rw (e, f, g) rest
above_case line lines mark false false alone e f g rest = rw (e, f) rest

above_are : (mark : ℕ) (lines : List BanLine) → filter_map alone_in (filter (is_newer mark) lines) ≡ above mark (those_open lines)
above_are mark [] = refl
above_are mark (line ∷ lines) = above_case line lines mark line.completed (is_newer mark line) (is_alone line.issued) refl refl refl (above_are mark lines)

pub above_is : (bound mark : ℕ) (lines : List BanLine) → AreFalling bound lines → filter_map alone_in (take (newer mark lines) lines) ≡ above mark (those_open lines)
above_is bound mark lines falling = ap (filter_map alone_in) (sym (newer_are_first bound mark lines falling)) ∙ above_are mark lines

alone_case : (mark : ℕ) (issued : Issued) (bans : List Issued) (newer_ alone : Bool) → nat_lt mark issued.number ≡ newer_ → is_alone issued ≡ alone
    → list_all is_alone (above mark bans) ≡ true → list_all is_alone (above mark (issued ∷ bans)) ≡ true
alone_case mark issued bans true true e f rest = rw (e, f, f) rest
alone_case mark issued bans true false e f rest = rw (e, f) rest
alone_case mark issued bans false alone e f rest = rw e rest

-- all of them are on objects alone
pub above_alone : (mark : ℕ) (bans : List Issued) → list_all is_alone (above mark bans) ≡ true
above_alone mark [] = refl
above_alone mark (issued ∷ bans) = alone_case mark issued bans (nat_lt mark issued.number) (is_alone issued) refl refl (above_alone mark bans)

-- ---- an object that waits

first_there : {X : Type 0} (x : X) (xs : List X) → Contains (x ∷ xs) x
first_there x xs = (0, omega arith, refl)

pub there_in : {X : Type 0} (before : List X) (x : X) (behind : List X) → Contains (before ++ x ∷ behind) x
there_in before x behind = Contains-append_right before (x ∷ behind) x (first_there x behind)

pub some_wait : (number : ℕ) (lazy : Lazy) → list_any (is_waiting_as number (kept_bans lazy)) lazy.objects ≡ true → count_unswept lazy ≡ 0 → ⊥
some_wait number lazy is none =
    let t : IsThere (is_waiting_as number (kept_bans lazy)) lazy.objects = there (is_waiting_as number (kept_bans lazy)) lazy.objects is in
    let parts = and_parts (has_number number t.one) (is_unswept (kept_bans lazy) t.one) t.found_.passes in
    let all = count_among (is_unswept (kept_bans lazy)) t.found_.split.before t.one t.found_.split.behind in
    let one : one_if (is_unswept (kept_bans lazy) t.one) ≡ 1 = ap one_if parts.1 in
    let same = ap (λ (objects : List Placed). length (filter (is_unswept (kept_bans lazy)) objects)) t.found_.split.is in
    omega (arith, all, one, same, none)

-- the one of the number is that which waits
pub waits_itself : (number : ℕ) (p : Placed) (lazy : Lazy) → AreApart number_in lazy.objects → find (has_number number) lazy.objects ≡ Some p
    → list_any (is_waiting_as number (kept_bans lazy)) lazy.objects ≡ true → is_unswept (kept_bans lazy) p ≡ true
waits_itself number p lazy apart is some =
    let t : IsThere (is_waiting_as number (kept_bans lazy)) lazy.objects = there (is_waiting_as number (kept_bans lazy)) lazy.objects some in
    let parts = and_parts (has_number number t.one) (is_unswept (kept_bans lazy) t.one) t.found_.passes in
    let only : AllByRecursion (λ (y : Placed). has_number number y ≡ true → y ≡ p) lazy.objects = only_it number p lazy.objects apart is in
    let same : t.one ≡ p =
    all_here (λ (y : Placed). has_number number y ≡ true → y ≡ p) t.found_.split.before t.one t.found_.split.behind (subst (AllByRecursion (λ (y : Placed). has_number number y ≡ true → y ≡ p)) t.found_.split.is only) parts.0 in
    subst (λ (y : Placed). is_unswept (kept_bans lazy) y ≡ true) same parts.1

pub chore_is : (p : Placed) (lazy : Lazy) (view : ObjectView) (upto : ℕ) (bans : List Issued) → view ≡ p.view → upto ≡ lazy.issued → bans ≡ above p.mark (kept_bans lazy)
    → record { object = view.number; mark = p.mark; upto = upto; view = view; bans = bans } ≡ chore_of lazy p
chore_is p lazy view upto bans e f g = rw (e, f, g) refl

pub chore_so : (number : ℕ) (p : Placed) (lazy : Lazy) (chore : Chore) → AreApart number_in lazy.objects → find (has_number number) lazy.objects ≡ Some p
    → list_any (is_waiting_as number (kept_bans lazy)) lazy.objects ≡ true → chore ≡ chore_of lazy p → IsChoreIn lazy chore
chore_so number p lazy chore apart is some same =
    let f : IsFound (has_number number) lazy.objects p = found (has_number number) lazy.objects p is in
    record {
      placed = p;
      there = subst (λ (objects : List Placed). Contains objects p) (sym f.split.is) (there_in f.split.before p f.split.behind);
      waits = waits_itself number p lazy apart is some;
      is = same;
    }

no_find : (number : ℕ) (kept : List Issued) (objects : List Placed) → AllByRecursion (λ (p : Placed). has_number number p ≡ false) objects → list_any (is_waiting_as number kept) objects ≡ false
no_find number kept [] all = refl
no_find number kept (p ∷ objects) all = rw (all.0) (no_find number kept objects all.1)

-- one that waits has its number
pub some_numbered : (number : ℕ) (lazy : Lazy) → find (has_number number) lazy.objects ≡ None → list_any (is_waiting_as number (kept_bans lazy)) lazy.objects ≡ true → ⊥
some_numbered number lazy is some =
    false≢true (sym (no_find number (kept_bans lazy) lazy.objects (none_found (has_number number) lazy.objects is)) ∙ some)
