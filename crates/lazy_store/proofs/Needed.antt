-- The containers stay tied where the lines go, wherever they stand, that no object waits for.
use Rattle.std.proofs.Common.{◌≡◌, ◌≤◌, ◌<◌, ◌+◌, ◌-◌, ◌⊎◌, inl, inr, ℕ, zero, suc, Bool, true, false, not, cond, List, [], ◌∷◌, ◌&&◌, ◌||◌, Some, filter, map, length, drop, refl, arith, sym, ap, ◌∙◌, subst}
use Rattle.std.specs.Prelude.{nat_lt, slice_get, sum}
use Rattle.std.specs.List.{list_any, AllByRecursion}
use Rattle.std.proofs.lemmas.Bool.{and_from, and_parts, cases_lt, lt-ltb, ltb-false, ltb-true, or_left, or_right, true≢false}
use Rattle.cache_law.specs.declared.ban.BanLine.{BanLine}
use Rattle.cache_law.specs.declared.ban.Issued.{Issued}
use Rattle.cache_law.specs.ShownBans.{those_open}
use Rattle.room_lru.specs.Members.{Used}
use Rattle.ban_lurker.specs.Looks.{is_above, is_alone}
use Rattle.ban_list.specs.Bans.{Bans, are_needed, below, is_newer, is_wanted, line_before, lines_left, newer, one_more, only_needed}
use Rattle.ban_list.specs.Kept.{AreFalling, number_of}
use Rattle.ban_list.specs.Stands.{AreAt, counts_of, marks_of, no_counts, places_of}
use Rattle.ban_list.proofs.CountLemmas.{at_line, sum_more}
use Rattle.ban_list.proofs.LineLemmas.{falling_weaker, none_newer}
use Rattle.ban_list.proofs.StandLemmas.{at_kept}
use Rattle.lazy_law.specs.Banning.{is_awaited_by, is_needed, needed_lines}
use Rattle.lazy_law.specs.Placed.{Placed, is_unswept}
use Rattle.lazy_law.specs.Sweeping.{count_unswept}
use Rattle.lazy_law.proofs.Filters.{any_on, each, filter_on}
use Rattle.lazy_store.specs.Members.{Member, lazy_of, placed_of, stand_of}
use Rattle.lazy_store.specs.Tied.{AreTied, IsNewestAlone}
use Rattle.lazy_store.proofs.Cuts.{length_of, newer_case, some_waits}
use Rattle.lazy_store.proofs.Splits.{IsThere, all_here, all_weaken, there}
use Rattle.lazy_store.proofs.Ties.{waits_longer}

-- ---- where a line stands among those that are newer than a number

none_behind : (n : ℕ) (line : BanLine) (lines : List BanLine) → is_newer n line ≡ false → AreFalling (number_of line) lines → newer n lines ≡ zero
none_behind n line lines e falling =
    let order : number_of line ≤ n = ltb-false n (number_of line) e in
    none_newer n lines (falling_weaker (number_of line) n lines order falling)

newer_step : (b : Bool) (n at : ℕ) (first : BanLine) (lines : List BanLine) → is_newer n first ≡ b → AreFalling (number_of first) lines → at < newer n lines → suc at < newer n (first ∷ lines)
newer_step true n at first lines e falling less = omega (arith, newer_case n first lines true e, less)
newer_step false n at first lines e falling less = absurd (omega (arith, none_behind n first lines e falling, less))

-- a line that is newer than the number stands among so many
newer_from : (bound n at : ℕ) (lines : List BanLine) (line : BanLine) → AreFalling bound lines → slice_get lines at ≡ Some line → n < number_of line → at < newer n lines
newer_from bound n at [] line falling is less = absurd cc
newer_from bound n zero (first ∷ lines) line falling is less =
    let same : first ≡ line = cc in
    let e : is_newer n first ≡ true = subst (λ (l : BanLine). is_newer n l ≡ true) (sym same) (lt-ltb n (number_of line) less) in
    omega (arith, newer_case n first lines true e)
newer_from bound n (suc at) (first ∷ lines) line falling is less =
    newer_step (is_newer n first) n at first lines refl falling.1 (newer_from (number_of first) n at lines line falling.1 is less)

first_newer : (b : Bool) (n : ℕ) (first : BanLine) (lines : List BanLine) → is_newer n first ≡ b → AreFalling (number_of first) lines → 0 < newer n (first ∷ lines) → n < number_of first
first_newer true n first lines e falling some = ltb-true n (number_of first) e
first_newer false n first lines e falling some = absurd (omega (arith, newer_case n first lines false e, none_behind n first lines e falling, some))

fewer_step : (b : Bool) (n at : ℕ) (first : BanLine) (lines : List BanLine) → is_newer n first ≡ b → AreFalling (number_of first) lines → suc at < newer n (first ∷ lines) → at < newer n lines
fewer_step true n at first lines e falling less = omega (arith, newer_case n first lines true e, less)
fewer_step false n at first lines e falling less = absurd (omega (arith, newer_case n first lines false e, none_behind n first lines e falling, less))

-- and a line that stands among so many is newer
newer_there : (bound n at : ℕ) (lines : List BanLine) (line : BanLine) → AreFalling bound lines → slice_get lines at ≡ Some line → at < newer n lines → n < number_of line
newer_there bound n at [] line falling is less = absurd cc
newer_there bound n zero (first ∷ lines) line falling is less =
    let same : first ≡ line = cc in
    subst (λ (l : BanLine). n < number_of l) same (first_newer (is_newer n first) n first lines refl falling.1 less)
newer_there bound n (suc at) (first ∷ lines) line falling is less =
    newer_there (number_of first) n at lines line falling.1 is (fewer_step (is_newer n first) n at first lines refl falling.1 less)

-- ---- what counts below a line

drop_one : (k i : ℕ) (counts : List ℕ) → i < length counts → k ≤ i → sum (drop k (one_more i counts)) ≡ sum (drop k counts) + 1
drop_one k i [] within less = absurd (omega (arith, within))
drop_one zero i (count ∷ counts) within less = sum_more (count ∷ counts) i within
drop_one (suc k) zero (count ∷ counts) within less = absurd (omega (arith, less))
drop_one (suc k) (suc i) (count ∷ counts) within less = drop_one k i counts (omega (arith, within)) (omega (arith, less))

drop_other : (k i : ℕ) (counts : List ℕ) → i < k → drop k (one_more i counts) ≡ drop k counts
drop_other zero i counts less = absurd (omega (arith, less))
drop_other (suc k) i [] less = refl
drop_other (suc k) zero (count ∷ counts) less = refl
drop_other (suc k) (suc i) (count ∷ counts) less = drop_other k i counts (omega (arith, less))

drop_none : (k : ℕ) (lines : List BanLine) → sum (drop k (no_counts lines)) ≡ 0
drop_none zero [] = refl
drop_none (suc zero) [] = refl
drop_none (suc (suc k)) [] = refl
drop_none zero (line ∷ lines) = drop_none zero lines
drop_none (suc k) (line ∷ lines) = drop_none k lines

below_step : (b later : Bool) (at i : ℕ) (counts : List ℕ) → i < length counts → (b ≡ true → at < i) → (b ≡ false → i ≤ at) → nat_lt 0 (below at counts) ≡ later
    → nat_lt 0 (below at (one_more i counts)) ≡ (b || later)
below_step true later at i counts within above under e =
    let less : at < i = above refl in
    let more : sum (drop (at + 1) (one_more i counts)) ≡ sum (drop (at + 1) counts) + 1 = drop_one (at + 1) i counts within (omega (arith, less)) in
    lt-ltb 0 (below at (one_more i counts)) (omega (arith, more))
below_step false later at i counts within above under e =
    let less : i ≤ at = under refl in
    ap (λ (those : List ℕ). nat_lt 0 (sum those)) (drop_other (at + 1) i counts (omega (arith, less))) ∙ e

not_there : (bound n at : ℕ) (lines : List BanLine) (line : BanLine) → AreFalling bound lines → slice_get lines at ≡ Some line → number_of line ≤ n → (at < newer n lines) ⊎ (newer n lines ≤ at) → newer n lines ≤ at
not_there bound n at lines line falling is order (inl less) = absurd (omega (arith, order, newer_there bound n at lines line falling is less))
not_there bound n at lines line falling is order (inr less) = less

-- some of the numbers count below the line exactly where it is newer than one of them
counted : (bound at : ℕ) (lines : List BanLine) (line : BanLine) (numbers : List ℕ) → AreFalling bound lines → slice_get lines at ≡ Some line
    → nat_lt 0 (below at (counts_of lines numbers)) ≡ list_any (λ n. nat_lt n (number_of line)) numbers
counted bound at lines line [] falling is = ap (nat_lt 0) (drop_none (at + 1) lines)
counted bound at lines line (n ∷ numbers) falling is =
    let place : newer n lines ≤ length lines = at_line n lines (newer n lines) refl in
    below_step (nat_lt n (number_of line)) (list_any (λ n. nat_lt n (number_of line)) numbers) at (newer n lines) (counts_of lines numbers) (omega (arith, place, length_of lines numbers))
    (λ e. newer_from bound n at lines line falling is (ltb-true n (number_of line) e))
    (λ e. not_there bound n at lines line falling is (ltb-false n (number_of line) e) (cases_lt at (newer n lines)))
    (counted bound at lines line numbers falling is)

-- ---- a line that is needed

any_marked : (number : ℕ) (members : List Member) → list_any (λ n. nat_lt n number) (marks_of (map stand_of members)) ≡ list_any (λ (p : Placed). nat_lt p.mark number) (map placed_of members)
any_marked number [] = refl
any_marked number (m ∷ members) = ap (λ (b : Bool). nat_lt (stand_of m).mark number || b) (any_marked number members)

any_placed : (number : ℕ) (members : List Member) → list_any (λ n. nat_lt n number) (places_of (map stand_of members)) ≡ list_any (λ (p : Placed). nat_lt p.place number) (map placed_of members)
any_placed number [] = refl
any_placed number (m ∷ members) = ap (λ (b : Bool). nat_lt (stand_of m).place number || b) (any_placed number members)

wanted_by : (alone : Bool) (bound at : ℕ) (lines : List BanLine) (line : BanLine) (members : List Member) → is_alone line.issued ≡ alone → AreFalling bound lines → slice_get lines at ≡ Some line
    → nat_lt 0 (cond alone (below at (counts_of lines (marks_of (map stand_of members)))) (below at (counts_of lines (places_of (map stand_of members))))) ≡ list_any (is_awaited_by line.issued) (map placed_of members)
wanted_by true bound at lines line members e falling is =
    counted bound at lines line (marks_of (map stand_of members)) falling is ∙ any_marked (number_of line) members
    ∙ any_on (λ (p : Placed). nat_lt p.mark (number_of line)) (is_awaited_by line.issued) (map placed_of members)
    (each _ (λ (p : Placed). sym (ap (λ (b : Bool). cond b (nat_lt p.mark (number_of line)) (nat_lt p.place (number_of line))) e)) (map placed_of members))
wanted_by false bound at lines line members e falling is =
    counted bound at lines line (places_of (map stand_of members)) falling is ∙ any_placed (number_of line) members
    ∙ any_on (λ (p : Placed). nat_lt p.place (number_of line)) (is_awaited_by line.issued) (map placed_of members)
    (each _ (λ (p : Placed). sym (ap (λ (b : Bool). cond b (nat_lt p.mark (number_of line)) (nat_lt p.place (number_of line))) e)) (map placed_of members))

pub wanted_there : (bound at : ℕ) (line : BanLine) (members : List Member) (own : Bans) → AreFalling bound own.lines → AreAt own (map stand_of members) → slice_get own.lines at ≡ Some line
    → is_wanted line (below at own.placed) (below at own.marked) ≡ is_needed (map placed_of members) line
wanted_there bound at line members own falling stands is =
    let alone : Bool = is_alone line.issued in
    ap (λ (b : Bool). not line.completed && b)
    (ap (λ (counts : List ℕ). nat_lt 0 (cond alone (below at counts) (below at own.placed))) stands.marked
    ∙ ap (λ (counts : List ℕ). nat_lt 0 (cond alone (below at (counts_of own.lines (marks_of (map stand_of members)))) (below at counts))) stands.placed
    ∙ wanted_by alone bound at own.lines line members refl falling is)

-- ---- the lines that are left

drop_again : (k : ℕ) (counts : List ℕ) → drop k (drop 1 counts) ≡ drop (suc k) counts
drop_again zero [] = refl
drop_again (suc k) [] = refl
drop_again k (count ∷ counts) = refl

below_again : (at : ℕ) (counts : List ℕ) → below at (drop 1 counts) ≡ below (suc at) counts
below_again at counts =
    let next : suc (at + 1) ≡ suc at + 1 = omega arith in
    ap (λ (those : List ℕ). sum those) (drop_again (at + 1) counts ∙ ap (λ (k : ℕ). drop k counts) next)

left_step : (a b : Bool) (line : BanLine) (some lines : List BanLine) → a ≡ b → some ≡ lines → line_before a line some ≡ cond b (line ∷ lines) lines
left_step a b line some lines e same = rw (e, same) refl

left_as : (test : BanLine → Bool) (lines : List BanLine) (placed marked : List ℕ)
    → ((at : ℕ) (line : BanLine) → slice_get lines at ≡ Some line → is_wanted line (below at placed) (below at marked) ≡ test line)
    → lines_left (are_needed lines placed marked) lines ≡ filter test lines
left_as test [] placed marked same = refl
left_as test (line ∷ lines) placed marked same =
    left_step (is_wanted line (below 0 placed) (below 0 marked)) (test line) line (lines_left (are_needed lines (drop 1 placed) (drop 1 marked)) lines) (filter test lines) (same zero line refl)
    (left_as test lines (drop 1 placed) (drop 1 marked)
    (λ at l is.
    ap (λ (n : ℕ). is_wanted l n (below at (drop 1 marked))) (below_again at placed)
    ∙ ap (is_wanted l (below (suc at) placed)) (below_again at marked) ∙ same (suc at) l is))

pub needed_left : (bound : ℕ) (members : List Member) (own : Bans) → AreFalling bound own.lines → AreAt own (map stand_of members) → (only_needed own).lines ≡ needed_lines (map placed_of members) own.lines
needed_left bound members own falling stands =
    left_as (is_needed (map placed_of members)) own.lines own.placed own.marked (λ at line is. wanted_there bound at line members own falling stands is)

-- ---- who waits for them

above_step : (k c a : Bool) (keep : BanLine → Bool) (mark : ℕ) (line : BanLine) (lines : List BanLine) → keep line ≡ k → line.completed ≡ c → is_above mark line.issued ≡ a
    → (c ≡ false → a ≡ true → k ≡ true) → list_any (is_above mark) (those_open (filter keep lines)) ≡ list_any (is_above mark) (those_open lines)
    → list_any (is_above mark) (those_open (cond k (line ∷ filter keep lines) (filter keep lines))) ≡ list_any (is_above mark) (those_open (line ∷ lines))
above_step true true a keep mark line lines e done above needs rest = rw done rest
above_step true false a keep mark line lines e done above needs rest = rw done (ap (λ (b : Bool). is_above mark line.issued || b) rest)
above_step false true a keep mark line lines e done above needs rest = rw done rest
above_step false false true keep mark line lines e done above needs rest = absurd (true≢false (sym (needs refl refl)))
above_step false false false keep mark line lines e done above needs rest = rw (done, above) rest

-- where each open line above the mark is left, what is left answers the same
above_left : (keep : BanLine → Bool) (mark : ℕ) (lines : List BanLine) → ((line : BanLine) → line.completed ≡ false → is_above mark line.issued ≡ true → keep line ≡ true)
    → list_any (is_above mark) (those_open (filter keep lines)) ≡ list_any (is_above mark) (those_open lines)
above_left keep mark [] needs = refl
above_left keep mark (line ∷ lines) needs =
    above_step (keep line) line.completed (is_above mark line.issued) keep mark line lines refl refl refl (needs line) (above_left keep mark lines needs)

abbrev FindsIt : {X : Type 0} → (Issued → X → Bool) → List X → X → Type 0
FindsIt test xs x = (issued : Issued) → test issued x ≡ true → list_any (test issued) xs ≡ true

each_found : {X : Type 0} (test : Issued → X → Bool) (xs : List X) → AllByRecursion (FindsIt test xs) xs
each_found test [] = tt
each_found test (x ∷ xs) = (
  λ issued e. or_left (test issued x) (list_any (test issued) xs) e,
  all_weaken (FindsIt test xs) (FindsIt test (x ∷ xs)) (λ y finds issued e. or_right (test issued x) (list_any (test issued) xs) (finds issued e)) xs (each_found test xs),
)

awaited_by : (mark : ℕ) (issued : Issued) (p : Placed) → p.mark ≤ mark → is_above mark issued ≡ true → is_awaited_by issued p ≡ true
awaited_by mark issued p less e =
    let both = and_parts (nat_lt mark issued.number) (is_alone issued) e in
    let below_it : mark < issued.number = ltb-true mark issued.number both.0 in
    ap (λ (b : Bool). cond b (nat_lt p.mark issued.number) (nat_lt p.place issued.number)) both.1 ∙ lt-ltb p.mark issued.number (omega (arith, less, below_it))

done_not : (line : BanLine) → line.completed ≡ false → not line.completed ≡ true
done_not line e = ap not e

-- of an object, at its mark and at each later one
abbrev WaitsAsBefore : List Placed → List BanLine → Placed → Type 0
WaitsAsBefore objects lines p = (mark : ℕ) → p.mark ≤ mark → list_any (is_above mark) (those_open (needed_lines objects lines)) ≡ list_any (is_above mark) (those_open lines)

wait_left : (objects : List Placed) (lines : List BanLine) → AllByRecursion (WaitsAsBefore objects lines) objects
wait_left objects lines =
    all_weaken (FindsIt is_awaited_by objects) (WaitsAsBefore objects lines)
    (λ p finds mark less. above_left (is_needed objects) mark lines (λ line open_ above.
    and_from (not line.completed) (list_any (is_awaited_by line.issued) objects) (done_not line open_) (finds line.issued (awaited_by mark line.issued p less above))))
    objects (each_found is_awaited_by objects)

-- ---- the containers

alone_at : (newest mark : ℕ) (p : Placed) (lines left : List BanLine) → ((m : ℕ) → p.mark ≤ m → list_any (is_above m) (those_open left) ≡ list_any (is_above m) (those_open lines)) → p.mark < newest
    → ((m : ℕ) → list_any (is_above m) (those_open lines) ≡ nat_lt m newest) → (mark < p.mark) ⊎ (p.mark ≤ mark) → list_any (is_above mark) (those_open left) ≡ nat_lt mark newest
alone_at newest mark p lines left as_before waits those (inl less) =
    waits_longer mark p.mark (those_open left) (omega (arith, less)) (as_before p.mark (omega arith) ∙ those p.mark ∙ lt-ltb p.mark newest waits)
    ∙ sym (lt-ltb mark newest (omega (arith, less, waits)))
alone_at newest mark p lines left as_before waits those (inr less) = as_before mark less ∙ those mark

alone_by : (newest unswept : ℕ) (members : List Member) (own : Bans) (left : Bans) → left.lines ≡ needed_lines (map placed_of members) own.lines → unswept ≡ count_unswept (lazy_of members own)
    → ((mark : ℕ) → list_any (is_above mark) (those_open own.lines) ≡ nat_lt mark newest) → (0 < unswept) ⊎ (unswept ≤ 0) → IsNewestAlone left unswept newest
alone_by newest unswept members own left are waiting those (inr none) = inl (omega (arith, none))
alone_by newest unswept members own left are waiting those (inl some) =
    let objects : List Placed = map placed_of members in
    let t : IsThere (is_unswept (those_open own.lines)) objects =
    there (is_unswept (those_open own.lines)) objects (some_waits objects (is_unswept (those_open own.lines)) (subst (λ (n : ℕ). 0 < n) waiting some)) in
    let as_before : WaitsAsBefore objects own.lines t.one =
    all_here (WaitsAsBefore objects own.lines) t.found_.split.before t.one t.found_.split.behind (subst (AllByRecursion (WaitsAsBefore objects own.lines)) t.found_.split.is (wait_left objects own.lines)) in
    inr (λ mark.
    ap (λ (lines : List BanLine). list_any (is_above mark) (those_open lines)) are
    ∙ alone_at newest mark t.one own.lines (needed_lines objects own.lines) as_before (ltb-true t.one.mark newest (sym (those t.one.mark) ∙ t.found_.passes)) those (cases_lt mark t.one.mark))

alone_left : (newest unswept : ℕ) (members : List Member) (own left : Bans) → left.lines ≡ needed_lines (map placed_of members) own.lines → unswept ≡ count_unswept (lazy_of members own)
    → IsNewestAlone own unswept newest → IsNewestAlone left unswept newest
alone_left newest unswept members own left are waiting (inl none) = inl none
alone_left newest unswept members own left are waiting (inr those) = alone_by newest unswept members own left are waiting those (cases_lt 0 unswept)

pub tied_left : (bound : ℕ) (members : List Member) (tagged : List (ℕ × List (List ℕ))) (room : List Used) (own : Bans) (newest unswept : ℕ) → AreFalling bound own.lines
    → AreTied members tagged room own newest unswept → AreTied members tagged room (only_needed own) newest unswept
tied_left bound members tagged room own newest unswept falling tied =
    let objects : List Placed = map placed_of members in
    let are : (only_needed own).lines ≡ needed_lines objects own.lines = needed_left bound members own falling tied.stands in
    record {
      handles = tied.handles;
      numbers = tied.numbers;
      uses = tied.uses;
      ahead = tied.ahead;
      within = tied.within;
      tagged_ = tied.tagged_;
      room_ = tied.room_;
      stands = at_kept bound own (map stand_of members) falling tied.stands;
      waiting =
          tied.waiting
          ∙ ap length (filter_on (is_unswept (those_open own.lines)) (is_unswept (those_open (only_needed own).lines)) objects
          (all_weaken (WaitsAsBefore objects own.lines) (λ (p : Placed). is_unswept (those_open own.lines) p ≡ is_unswept (those_open (only_needed own).lines) p)
          (λ p as_before.
          sym (ap (λ (lines : List BanLine). list_any (is_above p.mark) (those_open lines)) are ∙ as_before p.mark (omega arith)))
          objects (wait_left objects own.lines)));
      alone = alone_left newest unswept members own (only_needed own) are tied.waiting tied.alone;
    }
