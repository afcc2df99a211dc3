-- The containers stay tied where the oldest lines go, which no object waits for.
use Rattle.std.proofs.Common.{◌≡◌, ◌≤◌, ◌<◌, ◌+◌, ◌-◌, ◌⊎◌, inl, inr, ℕ, zero, suc, Bool, true, false, not, cond, List, [], ◌∷◌, ◌++◌, ◌&&◌, ◌||◌, Option, Some, filter, map, length, take, drop, refl, arith, sym, ap, ◌∙◌, subst}
use Rattle.std.specs.Prelude.{nat_lt, slice_get, sum}
use Rattle.std.specs.List.{list_any, AllByRecursion}
use Rattle.std.specs.Option.{option_map_or}
use Rattle.std.proofs.lemmas.Bool.{cases_lt, false≢true, le-ltb, lt-ltb, ltb-false, ltb-true}
use Rattle.std.proofs.lemmas.List.{append_assoc, take-append-drop}
use Rattle.cache_law.specs.declared.ban.BanLine.{BanLine}
use Rattle.cache_law.specs.declared.ban.Issued.{Issued}
use Rattle.cache_law.specs.Bans.{object_only}
use Rattle.cache_law.specs.ShownBans.{those_open}
use Rattle.room_lru.specs.Members.{Used}
use Rattle.ban_lurker.specs.Looks.{is_above, is_alone}
use Rattle.ban_list.specs.Bans as bans
use Rattle.ban_list.specs.Bans.{Bans, IsCut, below, is_newer, is_wanted, newer, one_more}
use Rattle.ban_list.specs.Kept.{AreFalling, number_of}
use Rattle.ban_list.specs.Stands.{AreAt, counts_of, marks_of, no_counts, places_of}
use Rattle.ban_list.proofs.CountLemmas.{at_line, sum_more}
use Rattle.ban_list.proofs.LineLemmas.{falling_weaker, none_newer}
use Rattle.ban_list.proofs.StandLemmas.{at_cut}
use Rattle.lazy_law.specs.Banning.{MayBeCut, is_awaited_by, is_needed}
use Rattle.lazy_law.specs.Placed.{Placed, is_unswept}
use Rattle.lazy_law.specs.Sweeping.{count_unswept}
use Rattle.lazy_law.proofs.Filters.{any_none, filter_on}
use Rattle.lazy_store.specs.Members.{Member, lazy_of, placed_of, stand_of}
use Rattle.lazy_store.specs.Tied.{AreTied, IsNewestAlone}
use Rattle.lazy_store.proofs.Splits.{IsThere, all_weaken, there}
use Rattle.lazy_store.proofs.Ties.{waits_longer}

-- ---- what counts nowhere below a line

drop_more : (k i : ℕ) (counts : List ℕ) → i < length counts → sum (drop k (one_more i counts)) ≡ 0 → (i < k) × (sum (drop k counts) ≡ 0)
drop_more k i [] within none = absurd (omega (arith, within))
drop_more zero i (count ∷ counts) within none = absurd (omega (arith, sum_more (count ∷ counts) i within, none))
drop_more (suc k) zero (count ∷ counts) within none = (omega arith, none)
drop_more (suc k) (suc i) (count ∷ counts) within none =
    let rest = drop_more k i counts (omega (arith, within)) none in
    (omega (arith, rest.0), rest.1)

length_more : (i : ℕ) (counts : List ℕ) → length (one_more i counts) ≡ length counts
length_more i [] = refl
length_more zero (count ∷ counts) = refl
length_more (suc i) (count ∷ counts) = ap suc (length_more i counts)

length_none : (lines : List BanLine) → length (no_counts lines) ≡ length lines + 1
length_none [] = refl
length_none (line ∷ lines) = ap suc (length_none lines) ∙ omega arith

pub length_of : (lines : List BanLine) (numbers : List ℕ) → length (counts_of lines numbers) ≡ length lines + 1
length_of lines [] = length_none lines
length_of lines (number ∷ numbers) = length_more (newer number lines) (counts_of lines numbers) ∙ length_of lines numbers

none_below : (k : ℕ) (lines : List BanLine) (numbers : List ℕ) → sum (drop k (counts_of lines numbers)) ≡ 0 → AllByRecursion (λ n. newer n lines < k) numbers
none_below k lines [] none = tt
none_below k lines (n ∷ numbers) none =
    let place : newer n lines ≤ length lines = at_line n lines (newer n lines) refl in
    let both = drop_more k (newer n lines) (counts_of lines numbers) (omega (arith, place, length_of lines numbers)) none in
    (both.0, none_below k lines numbers both.1)

-- ---- a line behind those that are newer

pub newer_case : (n : ℕ) (line : BanLine) (lines : List BanLine) (b : Bool) → is_newer n line ≡ b → newer n (line ∷ lines) ≡ cond b (suc (newer n lines)) (newer n lines)
newer_case n line lines true e = rw e refl
newer_case n line lines false e = rw e refl

first_not : (n : ℕ) (line : BanLine) (lines : List BanLine) (b : Bool) → is_newer n line ≡ b → newer n (line ∷ lines) < 1 → number_of line ≤ n
first_not n line lines true e none = absurd (omega (arith, newer_case n line lines true e))
first_not n line lines false e none = ltb-false n (number_of line) e

later_less : (n at : ℕ) (line : BanLine) (lines : List BanLine) (b : Bool) → is_newer n line ≡ b → newer n (line ∷ lines) < suc at + 1 → AreFalling (number_of line) lines → newer n lines < at + 1
later_less n at line lines true e less falling = omega (arith, newer_case n line lines true e)
later_less n at line lines false e less falling =
    let order : number_of line ≤ n = ltb-false n (number_of line) e in
    let none : newer n lines ≡ zero = none_newer n lines (falling_weaker (number_of line) n lines order falling) in
    omega (arith, none)

behind_newer : (bound n at : ℕ) (lines : List BanLine) (line : BanLine) → AreFalling bound lines → slice_get lines at ≡ Some line → newer n lines < at + 1 → number_of line ≤ n
behind_newer bound n at [] line falling is less = absurd cc
behind_newer bound n zero (first ∷ lines) line falling is less =
    let same : first ≡ line = cc in
    subst (λ (l : BanLine). number_of l ≤ n) same (first_not n first lines (is_newer n first) refl (omega (arith, less)))
behind_newer bound n (suc at) (first ∷ lines) line falling is less =
    behind_newer (number_of first) n at lines line falling.1 is (later_less n at first lines (is_newer n first) refl less falling.1)

-- ---- a line that isn't needed

not_marked : (line : BanLine) (members : List Member) → AllByRecursion (λ (n : ℕ). number_of line ≤ n) (marks_of (map stand_of members)) → object_only line.issued.ban ≡ true
    → AllByRecursion (λ (p : Placed). is_awaited_by line.issued p ≡ false) (map placed_of members)
not_marked line [] all e = tt
not_marked line (m ∷ members) all e = (rw e (le-ltb (stand_of m).mark (number_of line) all.0), not_marked line members all.1 e)

not_placed : (line : BanLine) (members : List Member) → AllByRecursion (λ (n : ℕ). number_of line ≤ n) (places_of (map stand_of members)) → object_only line.issued.ban ≡ false
    → AllByRecursion (λ (p : Placed). is_awaited_by line.issued p ≡ false) (map placed_of members)
not_placed line [] all e = tt
not_placed line (m ∷ members) all e = (rw e (le-ltb (stand_of m).place (number_of line) all.0), not_placed line members all.1 e)

wanted_zero : (n : ℕ) → nat_lt 0 n ≡ false → n ≡ 0
wanted_zero n e = let less = ltb-false 0 n e in omega arith

needed_case : (completed alone : Bool) (line : BanLine) (lines : List BanLine) (at bound : ℕ) (members : List Member) → line.completed ≡ completed → object_only line.issued.ban ≡ alone
    → AreFalling bound lines → slice_get lines at ≡ Some line
    → (not completed && nat_lt 0 (cond alone (below at (counts_of lines (marks_of (map stand_of members)))) (below at (counts_of lines (places_of (map stand_of members)))))) ≡ false
    → is_needed (map placed_of members) line ≡ false
needed_case true alone line lines at bound members e f falling is none = rw e refl
needed_case false true line lines at bound members e f falling is none =
    let all : AllByRecursion (λ n. newer n lines < at + 1) (marks_of (map stand_of members)) = none_below (at + 1) lines (marks_of (map stand_of members)) (wanted_zero _ none) in
    rw e (any_none (is_awaited_by line.issued) (map placed_of members)
    (not_marked line members (all_weaken (λ n. newer n lines < at + 1) (λ (n : ℕ). number_of line ≤ n) (λ n less. behind_newer bound n at lines line falling is less) (marks_of (map stand_of members)) all) f))
needed_case false false line lines at bound members e f falling is none =
    let all : AllByRecursion (λ n. newer n lines < at + 1) (places_of (map stand_of members)) = none_below (at + 1) lines (places_of (map stand_of members)) (wanted_zero _ none) in
    rw e (any_none (is_awaited_by line.issued) (map placed_of members)
    (not_placed line members (all_weaken (λ n. newer n lines < at + 1) (λ (n : ℕ). number_of line ≤ n) (λ n less. behind_newer bound n at lines line falling is less) (places_of (map stand_of members)) all) f))

not_needed : (bound at : ℕ) (line : BanLine) (members : List Member) (own : Bans) → AreFalling bound own.lines → AreAt own (map stand_of members) → slice_get own.lines at ≡ Some line
    → bans.is_needed own at ≡ false → is_needed (map placed_of members) line ≡ false
not_needed bound at line members own falling stands is none =
    needed_case line.completed (object_only line.issued.ban) line own.lines at bound members refl refl falling is
    (subst (λ (counts : List ℕ). (not line.completed && nat_lt 0 (cond (object_only line.issued.ban) (below at (counts_of own.lines (marks_of (map stand_of members)))) (below at counts))) ≡ false) stands.placed
    (subst (λ (counts : List ℕ). (not line.completed && nat_lt 0 (cond (object_only line.issued.ban) (below at counts) (below at own.placed))) ≡ false) stands.marked
    (sym (ap (λ (o : Option BanLine). option_map_or (λ (l : BanLine). is_wanted l (below at own.placed) (below at own.marked)) o false) is) ∙ none)))

all_from : (P : BanLine → Type 0) (left : ℕ) (lines : List BanLine) → ((at : ℕ) (line : BanLine) → left ≤ at → slice_get lines at ≡ Some line → P line) → AllByRecursion P (drop left lines)
all_from P zero [] on = tt
all_from P zero (line ∷ lines) on = (on zero line (omega arith) refl, all_from P zero lines (λ at l less is. on (suc at) l (omega arith) is))
all_from P (suc left) [] on = tt
all_from P (suc left) (line ∷ lines) on = all_from P left lines (λ at l less is. on (suc at) l (omega (arith, less)) is)

there_within : {X : Type 0} (xs : List X) (at : ℕ) (x : X) → slice_get xs at ≡ Some x → at < length xs
there_within [] at x is = absurd cc
there_within (y ∷ xs) zero x is = omega arith
there_within (y ∷ xs) (suc at) x is = let rest = there_within xs at x is in omega arith

pub may_be_cut : (bound left : ℕ) (members : List Member) (own : Bans) → AreFalling bound own.lines → AreAt own (map stand_of members)
    → ((at : ℕ) → left ≤ at → at < length own.lines → bans.is_needed own at ≡ false) → MayBeCut left (lazy_of members own)
may_be_cut bound left members own falling stands gone =
    all_from (λ (line : BanLine). is_needed (map placed_of members) line ≡ false) left own.lines
    (λ at line less is. not_needed bound at line members own falling stands is (gone at less (there_within own.lines at line is)))

-- ---- the bans that are left

open_case : (c : Bool) (line : BanLine) (front back : List BanLine) → line.completed ≡ c → those_open (front ++ back) ≡ those_open front ++ those_open back
    → those_open (line ∷ (front ++ back)) ≡ those_open (line ∷ front) ++ those_open back
open_case true line front back e rest = rw e rest
open_case false line front back e rest = rw e (ap (λ (xs : List Issued). line.issued ∷ xs) rest)

open_append : (front back : List BanLine) → those_open (front ++ back) ≡ those_open front ++ those_open back
open_append [] back = refl
open_append (line ∷ front) back = open_case line.completed line front back refl (open_append front back)

any_append : {X : Type 0} (test : X → Bool) (front back : List X) → list_any test back ≡ false → list_any test (front ++ back) ≡ list_any test front
any_append test [] back none = none
any_append test (x ∷ front) back none = ap (λ (b : Bool). test x || b) (any_append test front back none)

-- where no open line of those that go is above the mark, what is left answers the same
gone_case : (mark : ℕ) (c : Bool) (line : BanLine) (lines : List BanLine) → line.completed ≡ c → list_any (is_above mark) (those_open lines) ≡ false → (line.completed ≡ false → is_above mark line.issued ≡ false)
    → list_any (is_above mark) (those_open (line ∷ lines)) ≡ false
gone_case mark true line lines e rest here = rw e rest
gone_case mark false line lines e rest here = rw (e, here e) rest

gone_above : (mark : ℕ) (lines : List BanLine) → AllByRecursion (λ (line : BanLine). line.completed ≡ false → is_above mark line.issued ≡ false) lines → list_any (is_above mark) (those_open lines) ≡ false
gone_above mark [] all = refl
gone_above mark (line ∷ lines) all = gone_case mark line.completed line lines refl (gone_above mark lines all.1) all.0

left_same : (mark left : ℕ) (lines : List BanLine) → list_any (is_above mark) (those_open (drop left lines)) ≡ false → list_any (is_above mark) (those_open lines) ≡ list_any (is_above mark) (those_open (take left lines))
left_same mark left lines none =
    ap (λ (xs : List BanLine). list_any (is_above mark) (those_open xs)) (sym (take-append-drop left lines))
    ∙ ap (list_any (is_above mark)) (open_append (take left lines) (drop left lines))
    ∙ any_append (is_above mark) (those_open (take left lines)) (those_open (drop left lines)) none

-- ---- an object, and a line that none needs

and_true : (b : Bool) → (b && true) ≡ b
and_true true = refl
and_true false = refl

and_false : (b : Bool) → (b && false) ≡ false
and_false true = refl
and_false false = refl

or_first : (a b : Bool) → (a || b) ≡ false → a ≡ false
or_first true b e = e
or_first false b e = refl

or_second : (a b : Bool) → (a || b) ≡ false → b ≡ false
or_second true b e = absurd (false≢true (sym e))
or_second false b e = e

awaited_not : (line : BanLine) (p : Placed) (alone : Bool) → is_alone line.issued ≡ alone → is_awaited_by line.issued p ≡ false → is_above p.mark line.issued ≡ false
awaited_not line p true e none = ap (λ (b : Bool). nat_lt p.mark line.issued.number && b) e ∙ and_true (nat_lt p.mark line.issued.number) ∙ sym (ap (λ (b : Bool). cond b (nat_lt p.mark line.issued.number) (nat_lt p.place line.issued.number)) e) ∙ none
awaited_not line p false e none = ap (λ (b : Bool). nat_lt p.mark line.issued.number && b) e ∙ and_false (nat_lt p.mark line.issued.number)

each_fails : {X : Type 0} (test : X → Bool) (before : List X) (x : X) (behind : List X) → list_any test (before ++ x ∷ behind) ≡ false → test x ≡ false
each_fails test [] x behind none = or_first (test x) (list_any test behind) none
each_fails test (y ∷ before) x behind none = each_fails test before x behind (or_second (test y) (list_any test (before ++ x ∷ behind)) none)

needs_not : (line : BanLine) (before : List Placed) (p : Placed) (behind : List Placed) → is_needed (before ++ p ∷ behind) line ≡ false → line.completed ≡ false → is_above p.mark line.issued ≡ false
needs_not line before p behind none open_ =
    let some : list_any (is_awaited_by line.issued) (before ++ p ∷ behind) ≡ false = rw open_ at none in
    awaited_not line p (is_alone line.issued) refl (each_fails (is_awaited_by line.issued) before p behind some)

not_above_it : (before : List Placed) (p : Placed) (behind : List Placed) (lines : List BanLine) → AllByRecursion (λ (line : BanLine). is_needed (before ++ p ∷ behind) line ≡ false) lines
    → list_any (is_above p.mark) (those_open lines) ≡ false
not_above_it before p behind lines all =
    gone_above p.mark lines (all_weaken (λ (line : BanLine). is_needed (before ++ p ∷ behind) line ≡ false) (λ (line : BanLine). line.completed ≡ false → is_above p.mark line.issued ≡ false)
    (λ line none. λ open_. needs_not line before p behind none open_) lines all)

-- each object waits for what is left as it did
wait_same : (before objects : List Placed) (left : ℕ) (lines : List BanLine) → AllByRecursion (λ (line : BanLine). is_needed (before ++ objects) line ≡ false) (drop left lines)
    → AllByRecursion (λ (p : Placed). is_unswept (those_open lines) p ≡ is_unswept (those_open (take left lines)) p) objects
wait_same before [] left lines all = tt
wait_same before (p ∷ objects) left lines all = (
  left_same p.mark left lines (not_above_it before p objects (drop left lines) all),
  wait_same (before ++ p ∷ []) objects left lines (subst (λ (xs : List Placed). AllByRecursion (λ (line : BanLine). is_needed xs line ≡ false) (drop left lines)) (sym (append_assoc before (p ∷ []) objects)) all),
)

-- ---- the containers

true_for : (a b : Bool) → (a ≡ true → b ≡ true) → (b ≡ true → a ≡ true) → b ≡ a
true_for true b there back = there refl
true_for false true there back = sym (back refl)
true_for false false there back = refl

some_step : (b : Bool) (p : Placed) (objects : List Placed) (test : Placed → Bool) → test p ≡ b → (0 < length (filter test objects) → list_any test objects ≡ true)
    → 0 < length (cond b (p ∷ filter test objects) (filter test objects)) → (b || list_any test objects) ≡ true
some_step true p objects test e rest some = refl
some_step false p objects test e rest some = rest some

pub some_waits : (objects : List Placed) (test : Placed → Bool) → 0 < length (filter test objects) → list_any test objects ≡ true
some_waits [] test some = absurd (omega (arith, some))
some_waits (p ∷ objects) test some = some_step (test p) p objects test refl (some_waits objects test) some

turned_none : (a b : Bool) → (b ≡ true → a ≡ true) → a ≡ false → b ≡ false
turned_none a true more e = absurd (false≢true (sym e ∙ more refl))
turned_none a false more e = refl

front_step : (b more longer : Bool) → (more ≡ true → longer ≡ true) → (b || more) ≡ true → (b || longer) ≡ true
front_step true more longer step e = refl
front_step false more longer step e = step e

any_more_front : {X : Type 0} (test : X → Bool) (front back : List X) → list_any test front ≡ true → list_any test (front ++ back) ≡ true
any_more_front test [] back e = absurd (false≢true e)
any_more_front test (x ∷ front) back e = front_step (test x) (list_any test front) (list_any test (front ++ back)) (any_more_front test front back) e

any_front : (mark left : ℕ) (lines : List BanLine) → list_any (is_above mark) (those_open (take left lines)) ≡ true → list_any (is_above mark) (those_open lines) ≡ true
any_front mark left lines e =
    ap (λ (xs : List BanLine). list_any (is_above mark) (those_open xs)) (sym (take-append-drop left lines))
    ∙ ap (list_any (is_above mark)) (open_append (take left lines) (drop left lines))
    ∙ any_more_front (is_above mark) (those_open (take left lines)) (those_open (drop left lines)) e

-- the newest ban on objects alone is above the mark of each that waits, so it is left
left_above : (left newest : ℕ) (p : Placed) (lines : List BanLine) → list_any (is_above p.mark) (those_open (drop left lines)) ≡ false → p.mark < newest
    → ((mark : ℕ) → list_any (is_above mark) (those_open lines) ≡ nat_lt mark newest) → (mark : ℕ) → mark < newest → list_any (is_above mark) (those_open (take left lines)) ≡ true
left_above left newest p lines none waits those mark less =
    let top : ℕ = newest - 1 in
    let gone : list_any (is_above top) (those_open (drop left lines)) ≡ false =
    turned_none (list_any (is_above p.mark) (those_open (drop left lines))) (list_any (is_above top) (those_open (drop left lines))) (waits_longer p.mark top (those_open (drop left lines)) (omega arith)) none in
    waits_longer mark top (those_open (take left lines)) (omega arith)
    (sym (left_same top left lines gone) ∙ those top ∙ lt-ltb top newest (omega arith))

alone_left : (left newest : ℕ) (p : Placed) (lines : List BanLine) → list_any (is_above p.mark) (those_open (drop left lines)) ≡ false → p.mark < newest
    → ((mark : ℕ) → list_any (is_above mark) (those_open lines) ≡ nat_lt mark newest) → (mark : ℕ) → list_any (is_above mark) (those_open (take left lines)) ≡ nat_lt mark newest
alone_left left newest p lines none waits those mark =
    true_for (nat_lt mark newest) (list_any (is_above mark) (those_open (take left lines)))
    (λ e. left_above left newest p lines none waits those mark (ltb-true mark newest e))
    (λ e. sym (those mark) ∙ any_front mark left lines e)

alone_by : (left newest unswept : ℕ) (members : List Member) (own : Bans) → MayBeCut left (lazy_of members own) → unswept ≡ count_unswept (lazy_of members own)
    → ((mark : ℕ) → list_any (is_above mark) (those_open own.lines) ≡ nat_lt mark newest) → (0 < unswept) ⊎ (unswept ≤ 0) → IsNewestAlone (bans.cut_to left own) unswept newest
alone_by left newest unswept members own may waiting those (inr none) = inl (omega arith)
alone_by left newest unswept members own may waiting those (inl some) =
    let t : IsThere (is_unswept (those_open own.lines)) (map placed_of members) =
    there (is_unswept (those_open own.lines)) (map placed_of members) (some_waits (map placed_of members) (is_unswept (those_open own.lines)) (subst (λ (n : ℕ). 0 < n) waiting some)) in
    inr (alone_left left newest t.one own.lines
    (not_above_it t.found_.split.before t.one t.found_.split.behind (drop left own.lines)
    (subst (λ (xs : List Placed). AllByRecursion (λ (line : BanLine). is_needed xs line ≡ false) (drop left own.lines)) t.found_.split.is may))
    (ltb-true t.one.mark newest (sym (those t.one.mark) ∙ t.found_.passes)) those)

alone_cut : (left newest unswept : ℕ) (members : List Member) (own : Bans) → MayBeCut left (lazy_of members own) → unswept ≡ count_unswept (lazy_of members own) → IsNewestAlone own unswept newest
    → IsNewestAlone (bans.cut_to left own) unswept newest
alone_cut left newest unswept members own may waiting (inl none) = inl none
alone_cut left newest unswept members own may waiting (inr those) = alone_by left newest unswept members own may waiting those (cases_lt 0 unswept)

pub tied_cut : (bound left : ℕ) (members : List Member) (tagged : List (ℕ × List (List ℕ))) (room : List Used) (own : Bans) (newest unswept : ℕ) → AreFalling bound own.lines → left ≤ length own.lines
    → MayBeCut left (lazy_of members own) → AreTied members tagged room own newest unswept → AreTied members tagged room (bans.cut_to left own) newest unswept
tied_cut bound left members tagged room own newest unswept falling within may tied =
    record {
      handles = tied.handles;
      numbers = tied.numbers;
      uses = tied.uses;
      ahead = tied.ahead;
      within = tied.within;
      tagged_ = tied.tagged_;
      room_ = tied.room_;
      stands = at_cut bound left own (map stand_of members) falling within tied.stands;
      waiting =
          tied.waiting
          ∙ ap length (filter_on (is_unswept (those_open own.lines)) (is_unswept (those_open (take left own.lines))) (map placed_of members) (wait_same [] (map placed_of members) left own.lines may));
      alone = alone_cut left newest unswept members own may tied.waiting tied.alone;
    }
