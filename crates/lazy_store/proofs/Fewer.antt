-- How many wait for the lurker once one of them is swept.
use Rattle.std.proofs.Common.{◌≡◌, ◌≤◌, ◌+◌, inl, inr, ℕ, Bool, true, false, not, List, [], ◌∷◌, ◌++◌, ◌&&◌, filter, map, length, refl, arith, sym, ap, ◌∙◌, subst}
use Rattle.std.specs.Prelude.{nat_lt}
use Rattle.std.specs.List.{list_any, AllByRecursion}
use Rattle.std.proofs.lemmas.Bool.{and_parts, le-ltb}
use Rattle.cache_law.specs.declared.ban.BanLine.{BanLine}
use Rattle.cache_law.specs.declared.ban.Issued.{Issued}
use Rattle.cache_law.specs.ShownBans.{those_open}
use Rattle.ban_lurker.specs.Looks.{is_above}
use Rattle.ban_list.specs.Bans.{Bans}
use Rattle.ban_list.specs.Kept.{AreFalling, number_of}
use Rattle.lazy_law.specs.Placed.{Lazy, Placed, is_dead, is_unswept, kept_bans, marked_at}
use Rattle.lazy_law.specs.Insertion.{has_number}
use Rattle.lazy_law.specs.Sweeping.{count_unswept, swept, swept_lazy, sweeping}
use Rattle.lazy_law.proofs.Filters.{any_of_map, any_on, each, filter_none}
use Rattle.lazy_store.specs.Found.{is_marked_below}
use Rattle.lazy_store.specs.Lurking.{AreSwept, is_waiting_as}
use Rattle.lazy_store.specs.Members.{Member, lazy_of, number_in, placed_of, stand_of}
use Rattle.lazy_store.specs.Tied.{AreApart, IsNewestAlone}
use Rattle.lazy_store.proofs.Splits.{IsThere, all_more, all_weaken, count_among, filter_all, filter_less, map_one, one_if, there}
use Rattle.lazy_store.proofs.Sweeps.{left_dead, others_of}

-- ---- one less

alive_case : (b dead : Bool) → dead ≡ false → not (b && dead) ≡ true
alive_case true false e = refl
alive_case false false e = refl
alive_case b true e = cc

left_alive : (number issued : ℕ) (bans : List Issued) (before : List Placed) (p : Placed) (behind : List Placed) → AllByRecursion (λ y. has_number number y ≡ false) (before ++ behind)
    → has_number number p ≡ true → is_dead bans p ≡ false → swept (has_number number) bans issued (before ++ p ∷ behind) ≡ before ++ marked_at issued p ∷ behind
left_alive number issued bans before p behind others same alive =
    ap (map (sweeping (has_number number) issued))
    (filter_all (λ (y : Placed). not (has_number number y && is_dead bans y)) (before ++ p ∷ behind)
    (all_more (λ (y : Placed). not (has_number number y && is_dead bans y) ≡ true) before p behind (alive_case (has_number number p) (is_dead bans p) alive)
    (all_weaken (λ (y : Placed). has_number number y ≡ false) (λ (y : Placed). not (has_number number y && is_dead bans y) ≡ true) (λ y e. rw e refl) (before ++ behind) others)))
    ∙ map_one (sweeping (has_number number) issued) before p behind
    (all_weaken (λ (y : Placed). has_number number y ≡ false) (λ (y : Placed). sweeping (has_number number) issued y ≡ y) (λ y e. rw e refl) (before ++ behind) others)
    ∙ ap (λ (q : Placed). before ++ q ∷ behind) (rw same refl)

pub gone_rest : (number : ℕ) (before : List Placed) (p : Placed) (behind : List Placed) → AllByRecursion (λ y. has_number number y ≡ false) (before ++ behind) → has_number number p ≡ true
    → filter (λ (y : Placed). not (has_number number y)) (before ++ p ∷ behind) ≡ before ++ behind
gone_rest number before p behind others same =
    filter_less (λ (y : Placed). not (has_number number y)) before p behind (ap not same)
    (all_weaken (λ (y : Placed). has_number number y ≡ false) (λ (y : Placed). not (has_number number y) ≡ true) (λ y e. ap not e) (before ++ behind) others)

one_less : (number issued : ℕ) (bans : List Issued) (before : List Placed) (p : Placed) (behind : List Placed) (dead : Bool) → is_dead bans p ≡ dead → AllByRecursion (λ y. has_number number y ≡ false) (before ++ behind)
    → has_number number p ≡ true → is_unswept bans p ≡ true → is_unswept bans (marked_at issued p) ≡ false
    → length (filter (is_unswept bans) (swept (has_number number) bans issued (before ++ p ∷ behind))) + 1 ≡ length (filter (is_unswept bans) (before ++ p ∷ behind))
one_less number issued bans before p behind true is others same waits done =
    let left = left_dead number issued bans before p behind others same is ∙ gone_rest number before p behind others same in
    let all = count_among (is_unswept bans) before p behind in
    let one : one_if (is_unswept bans p) ≡ 1 = ap one_if waits in
    let shorter = ap (λ (xs : List Placed). length (filter (is_unswept bans) xs)) left in
    omega (arith, all, one, shorter)
one_less number issued bans before p behind false is others same waits done =
    let left = left_alive number issued bans before p behind others same is in
    let all = count_among (is_unswept bans) before p behind in
    let again = count_among (is_unswept bans) before (marked_at issued p) behind in
    let one : one_if (is_unswept bans p) ≡ 1 = ap one_if waits in
    let none : one_if (is_unswept bans (marked_at issued p)) ≡ 0 = ap one_if done in
    let shorter = ap (λ (xs : List Placed). length (filter (is_unswept bans) xs)) left in
    omega (arith, all, again, one, none, shorter)

pub swept_fewer : (number : ℕ) (lazy : Lazy) → AreApart number_in lazy.objects → ((p : Placed) → is_unswept (kept_bans lazy) (marked_at lazy.issued p) ≡ false)
    → list_any (is_waiting_as number (kept_bans lazy)) lazy.objects ≡ true → count_unswept (swept_lazy (has_number number) lazy) + 1 ≡ count_unswept lazy
swept_fewer number lazy apart done is =
    let t : IsThere (is_waiting_as number (kept_bans lazy)) lazy.objects = there (is_waiting_as number (kept_bans lazy)) lazy.objects is in
    let parts = and_parts (has_number number t.one) (is_unswept (kept_bans lazy) t.one) t.found_.passes in
    let others : AllByRecursion (λ y. has_number number y ≡ false) (t.found_.split.before ++ t.found_.split.behind) =
    others_of number t.found_.split.before t.one t.found_.split.behind (subst (AreApart number_in) t.found_.split.is apart) parts.0 in
    subst (λ (objects : List Placed). length (filter (is_unswept (kept_bans lazy)) (swept (has_number number) (kept_bans lazy) lazy.issued objects)) + 1 ≡ length (filter (is_unswept (kept_bans lazy)) objects))
    (sym t.found_.split.is)
    (one_less number lazy.issued (kept_bans lazy) t.found_.split.before t.one t.found_.split.behind (is_dead (kept_bans lazy) t.one) refl others parts.0 parts.1 (done t.one))

-- ---- an object with the newest mark doesn't wait

older_case : (mark : ℕ) (line : BanLine) (lines : List BanLine) (c : Bool) → number_of line ≤ mark → line.completed ≡ c → list_any (is_above mark) (those_open lines) ≡ false
    → list_any (is_above mark) (those_open (line ∷ lines)) ≡ false
older_case mark line lines true less e rest = rw e rest
older_case mark line lines false less e rest = rw (e, le-ltb mark (number_of line) less) rest

pub none_above : (bound mark : ℕ) (lines : List BanLine) → AreFalling bound lines → bound ≤ mark + 1 → list_any (is_above mark) (those_open lines) ≡ false
none_above bound mark [] falling less = refl
none_above bound mark (line ∷ lines) falling less =
    older_case mark line lines line.completed (omega (arith, falling.0)) refl (none_above (number_of line) mark lines falling.1 (omega (arith, falling.0)))

-- ---- which wait

some_alone : (bans : Bans) (unswept newest : ℕ) → IsNewestAlone bans unswept newest → (unswept ≡ 0 → ⊥) → (mark : ℕ) → list_any (is_above mark) (those_open bans.lines) ≡ nat_lt mark newest
some_alone bans unswept newest (inl none) some = absurd (some none)
some_alone bans unswept newest (inr those) some = those

same_test : (number newest : ℕ) (kept : List Issued) (members : List Member) → ((mark : ℕ) → list_any (is_above mark) kept ≡ nat_lt mark newest)
    → AllByRecursion (λ (m : Member). is_waiting_as number kept (placed_of m) ≡ is_marked_below number newest m) members
same_test number newest kept members those =
    each (λ (m : Member). is_waiting_as number kept (placed_of m) ≡ is_marked_below number newest m)
    (λ m. ap (λ (b : Bool). has_number number (placed_of m) && b) (those (stand_of m).mark)) members

pub waits_there : (number newest unswept : ℕ) (members : List Member) (bans : Bans) → IsNewestAlone bans unswept newest → (unswept ≡ 0 → ⊥)
    → list_any (is_marked_below number newest) members ≡ true → list_any (is_waiting_as number (those_open bans.lines)) (map placed_of members) ≡ true
waits_there number newest unswept members bans alone some is =
    any_of_map (is_waiting_as number (those_open bans.lines)) placed_of members
    ∙ any_on (λ (m : Member). is_waiting_as number (those_open bans.lines) (placed_of m)) (is_marked_below number newest) members
    (same_test number newest (those_open bans.lines) members (some_alone bans unswept newest alone some)) ∙ is

none_of_them : (newest : ℕ) (kept : List Issued) (members : List Member) → ((mark : ℕ) → list_any (is_above mark) kept ≡ nat_lt mark newest)
    → AllByRecursion (λ (m : Member). newest ≤ (stand_of m).mark) members → AllByRecursion (λ (p : Placed). is_unswept kept p ≡ false) (map placed_of members)
none_of_them newest kept [] those all = tt
none_of_them newest kept (m ∷ members) those all = (those (stand_of m).mark ∙ le-ltb (stand_of m).mark newest all.0, none_of_them newest kept members those all.1)

pub none_waits_there : (newest unswept : ℕ) (members : List Member) (bans : Bans) → IsNewestAlone bans unswept newest → (unswept ≡ 0 → ⊥)
    → AllByRecursion (λ (m : Member). newest ≤ (stand_of m).mark) members → count_unswept (lazy_of members bans) ≡ 0
none_waits_there newest unswept members bans alone some all =
    ap length (filter_none (is_unswept (those_open bans.lines)) (map placed_of members)
    (none_of_them newest (those_open bans.lines) members (some_alone bans unswept newest alone some) all))

-- ---- one after another

pub none_swept : (lazy : Lazy) → AreSwept lazy lazy
none_swept lazy = record { numbers = []; is = refl }

pub one_swept : (number : ℕ) (old now new : Lazy) → AreSwept old now → new ≡ swept_lazy (has_number number) now → AreSwept old new
one_swept number old now new swept_ is = record { numbers = number ∷ swept_.numbers; is = is ∙ ap (swept_lazy (has_number number)) swept_.is }
