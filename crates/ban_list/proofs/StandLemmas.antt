-- The counts of a list of bans are those of objects, from one call to the next.
use Rattle.std.proofs.Common.{◌≡◌, ◌<◌, ◌≤◌, ◌+◌, ℕ, zero, suc, Bool, true, false, cond, List, [], ◌∷◌, ◌++◌, length, take, filter, get_or, map, refl, sym, ◌∙◌, ap, subst, arith}
use Rattle.std.specs.Prelude.{sum}
use Rattle.std.specs.List.{AllByRecursion}
use Rattle.std.proofs.lemmas.Bool.{lt-ltb, ltb-false}
use Rattle.std.proofs.lemmas.List.{length-append}
use Rattle.cache_law.specs.declared.ban.Ban.{Ban}
use Rattle.cache_law.specs.declared.ban.BanLine.{BanLine}
use Rattle.cache_law.specs.Bans.{is_equal}
use Rattle.ban_list.specs.declared.list.Stand.{Stand}
use Rattle.ban_list.specs.Bans.{Bans, is_newer, newer, no_bans, completed_by, with_ban, one_more, one_less, standing, entered, departed, summed, cut_to, are_needed, line_before, lines_left, count_before, counts_left, only_needed}
use Rattle.ban_list.specs.Kept.{number_of, AreFalling}
use Rattle.ban_list.specs.Stands.{no_counts, counts_of, places_of, marks_of, AreAt}
use Rattle.ban_list.proofs.LineLemmas.{falling_weaker, none_newer}
use Rattle.ban_list.proofs.CountLemmas.{sum_more, at_line}
use Rattle.ban_list.proofs.NeededLemmas.{some_left, length_needed}

-- ---- one count more
more_of_two : (i j : ℕ) (counts : List ℕ) → one_more i (one_more j counts) ≡ one_more j (one_more i counts)
more_of_two i j [] = refl
more_of_two zero zero (count ∷ counts) = refl
more_of_two zero (suc j) (count ∷ counts) = refl
more_of_two (suc i) zero (count ∷ counts) = refl
more_of_two (suc i) (suc j) (count ∷ counts) = ap (λ (rest : List ℕ). count ∷ rest) (more_of_two i j counts)

less_of_more : (i : ℕ) (counts : List ℕ) → i < length counts → one_less i (one_more i counts) ≡ counts
less_of_more i [] within = absurd (omega (arith, within))
less_of_more zero (count ∷ counts) within = ap (λ (n : ℕ). n ∷ counts) (omega arith)
less_of_more (suc i) (count ∷ counts) within = ap (λ (rest : List ℕ). count ∷ rest) (less_of_more i counts (omega (arith, within)))

some_of_more : (i : ℕ) (counts : List ℕ) → i < length counts → 0 < get_or (one_more i counts) i 0
some_of_more i [] within = absurd (omega (arith, within))
some_of_more zero (count ∷ counts) within = omega arith
some_of_more (suc i) (count ∷ counts) within = some_of_more i counts (omega (arith, within))

length_more : (i : ℕ) (counts : List ℕ) → length (one_more i counts) ≡ length counts
length_more i [] = refl
length_more zero (count ∷ counts) = refl
length_more (suc i) (count ∷ counts) = ap suc (length_more i counts)

-- ---- the counts of some places
length_none : (lines : List BanLine) → length (no_counts lines) ≡ length lines + 1
length_none [] = refl
length_none (line ∷ lines) = ap suc (length_none lines) ∙ omega arith

length_of : (lines : List BanLine) (numbers : List ℕ) → length (counts_of lines numbers) ≡ length lines + 1
length_of lines [] = length_none lines
length_of lines (number ∷ numbers) = length_more (newer number lines) (counts_of lines numbers) ∙ length_of lines numbers

within_of : (number : ℕ) (lines : List BanLine) (numbers : List ℕ) → newer number lines < length (counts_of lines numbers)
within_of number lines numbers =
    let place : newer number lines ≤ length lines = at_line number lines (newer number lines) refl in
    omega (arith, place, length_of lines numbers)

-- an object may be taken for the last that came
one_among : (lines : List BanLine) (before : List ℕ) (number : ℕ) (behind : List ℕ)
    → counts_of lines (before ++ number ∷ behind) ≡ one_more (newer number lines) (counts_of lines (before ++ behind))
one_among lines [] number behind = refl
one_among lines (first ∷ before) number behind =
    ap (one_more (newer first lines)) (one_among lines before number behind)
    ∙ more_of_two (newer first lines) (newer number lines) (counts_of lines (before ++ behind))

less_among : (lines : List BanLine) (before : List ℕ) (number : ℕ) (behind : List ℕ)
    → one_less (newer number lines) (counts_of lines (before ++ number ∷ behind)) ≡ counts_of lines (before ++ behind)
less_among lines before number behind =
    ap (one_less (newer number lines)) (one_among lines before number behind)
    ∙ less_of_more (newer number lines) (counts_of lines (before ++ behind)) (within_of number lines (before ++ behind))

some_among : (lines : List BanLine) (before : List ℕ) (number : ℕ) (behind counts : List ℕ) → counts ≡ counts_of lines (before ++ number ∷ behind)
    → 0 < standing number lines counts
some_among lines before number behind counts is =
    subst (λ (ns : List ℕ). 0 < get_or ns (newer number lines) 0) (sym (is ∙ one_among lines before number behind))
    (some_of_more (newer number lines) (counts_of lines (before ++ behind)) (within_of number lines (before ++ behind)))

-- ---- a line comes
same_length : (t : Bool) (a b : BanLine) (xs ys : List BanLine) → length xs ≡ length ys → length (cond t (a ∷ xs) xs) ≡ length (cond t (b ∷ ys) ys)
same_length true a b xs ys same = ap suc same
same_length false a b xs ys same = same

newer_step : (b : Bool) (number : ℕ) (line : BanLine) (done lines : List BanLine) → newer number done ≡ newer number lines
    → newer number (cond b (record line { completed = true }) line ∷ done) ≡ newer number (line ∷ lines)
newer_step true number line done lines same =
    same_length (is_newer number line) (record line { completed = true }) line (filter (is_newer number) done) (filter (is_newer number) lines) same
newer_step false number line done lines same = same_length (is_newer number line) line line (filter (is_newer number) done) (filter (is_newer number) lines) same

newer_done : (number : ℕ) (ban : Ban) (lines : List BanLine) → newer number (map (completed_by ban) lines) ≡ newer number lines
newer_done number ban [] = refl
newer_done number ban (line ∷ lines) =
    newer_step (is_equal line.issued.ban ban) number line (map (completed_by ban) lines) lines (newer_done number ban lines)

none_first : (ban : Ban) (lines : List BanLine) → no_counts (map (completed_by ban) lines) ≡ no_counts lines
none_first ban [] = refl
none_first ban (line ∷ lines) = ap (λ (rest : List ℕ). 0 ∷ rest) (none_first ban lines)

newer_first : (number : ℕ) (line : BanLine) (lines : List BanLine) → number < number_of line → newer number (line ∷ lines) ≡ suc (newer number lines)
newer_first number line lines above = rw (lt-ltb number (number_of line) above) refl

first_step : (number : ℕ) (line : BanLine) (lines done : List BanLine) (counts : List ℕ) → number < number_of line → newer number done ≡ newer number lines
    → one_more (newer number (line ∷ done)) (0 ∷ counts) ≡ 0 ∷ one_more (newer number lines) counts
first_step number line lines done counts above same = ap (λ (at : ℕ). one_more at (0 ∷ counts)) (newer_first number line done above ∙ ap suc same)

counts_issued : (line : BanLine) (ban : Ban) (lines : List BanLine) (numbers : List ℕ) → AllByRecursion (λ number. number < number_of line) numbers
    → counts_of (line ∷ map (completed_by ban) lines) numbers ≡ 0 ∷ counts_of lines numbers
counts_issued line ban lines [] above = ap (λ (rest : List ℕ). 0 ∷ rest) (none_first ban lines)
counts_issued line ban lines (number ∷ numbers) above =
    ap (one_more (newer number (line ∷ map (completed_by ban) lines))) (counts_issued line ban lines numbers above.1)
    ∙ first_step number line lines (map (completed_by ban) lines) (counts_of lines numbers) above.0 (newer_done number ban lines)

-- ---- the oldest lines go
abbrev clipped : ℕ → ℕ → ℕ
clipped zero at = zero
clipped (suc left) zero = zero
clipped (suc left) (suc at) = suc (clipped left at)

clipped_none : (left : ℕ) → clipped left zero ≡ zero
clipped_none zero = refl
clipped_none (suc left) = refl

not_newer : (number : ℕ) (line : BanLine) (lines : List BanLine) → is_newer number line ≡ false → newer number (line ∷ lines) ≡ newer number lines
not_newer number line lines e = rw e refl

is_newer_first : (number : ℕ) (line : BanLine) (lines : List BanLine) → is_newer number line ≡ true → newer number (line ∷ lines) ≡ suc (newer number lines)
is_newer_first number line lines e = rw e refl

none_behind : (number : ℕ) (line : BanLine) (lines : List BanLine) → is_newer number line ≡ false → AreFalling (number_of line) lines → newer number lines ≡ zero
none_behind number line lines e falling =
    let order : number_of line ≤ number = ltb-false number (number_of line) e in
    none_newer number lines (falling_weaker (number_of line) number lines order falling)

taken_step : (t : Bool) (number left : ℕ) (line : BanLine) (lines : List BanLine) → is_newer number line ≡ t → AreFalling (number_of line) lines
    → newer number (take left lines) ≡ clipped left (newer number lines) → newer number (line ∷ take left lines) ≡ clipped (suc left) (newer number (line ∷ lines))
taken_step true number left line lines e falling rest =
    is_newer_first number line (take left lines) e ∙ ap suc rest ∙ ap (clipped (suc left)) (sym (is_newer_first number line lines e))
taken_step false number left line lines e falling rest =
    let none : newer number lines ≡ zero = none_behind number line lines e falling in
    not_newer number line (take left lines) e ∙ rest ∙ ap (clipped left) none ∙ clipped_none left ∙ sym (ap (clipped (suc left)) (not_newer number line lines e ∙ none))

newer_taken : (bound number left : ℕ) (lines : List BanLine) → AreFalling bound lines → newer number (take left lines) ≡ clipped left (newer number lines)
newer_taken bound number zero lines falling = refl
newer_taken bound number (suc left) [] falling = refl
newer_taken bound number (suc left) (line ∷ lines) falling =
    taken_step (is_newer number line) number left line lines refl falling.1 (newer_taken (number_of line) number left lines falling.1)

sum_none : (lines : List BanLine) → sum (no_counts lines) ≡ 0
sum_none [] = refl
sum_none (line ∷ lines) = sum_none lines

none_summed : (left : ℕ) (lines : List BanLine) → left ≤ length lines → summed left (no_counts lines) ≡ no_counts (take left lines)
none_summed zero lines within = ap (λ (n : ℕ). n ∷ []) (sum_none lines)
none_summed (suc left) [] within = absurd (omega (arith, within))
none_summed (suc left) (line ∷ lines) within = ap (λ (rest : List ℕ). 0 ∷ rest) (none_summed left lines (omega (arith, within)))

more_summed : (left at : ℕ) (counts : List ℕ) → at < length counts → summed left (one_more at counts) ≡ one_more (clipped left at) (summed left counts)
more_summed zero at counts within = ap (λ (n : ℕ). n ∷ []) (sum_more counts at within)
more_summed (suc left) at [] within = absurd (omega (arith, within))
more_summed (suc left) zero (count ∷ counts) within = refl
more_summed (suc left) (suc at) (count ∷ counts) within = ap (λ (rest : List ℕ). count ∷ rest) (more_summed left at counts (omega (arith, within)))

counts_taken : (bound left : ℕ) (lines : List BanLine) (numbers : List ℕ) → AreFalling bound lines → left ≤ length lines
    → summed left (counts_of lines numbers) ≡ counts_of (take left lines) numbers
counts_taken bound left lines [] falling within = none_summed left lines within
counts_taken bound left lines (number ∷ numbers) falling within =
    more_summed left (newer number lines) (counts_of lines numbers) (within_of number lines numbers)
    ∙ ap (λ (at : ℕ). one_more at (summed left (counts_of lines numbers))) (sym (newer_taken bound number left lines falling))
    ∙ ap (one_more (newer number (take left lines))) (counts_taken bound left lines numbers falling within)

-- ---- lines go wherever they stand
abbrev after : Bool → ℕ → ℕ
after true at = suc at
after false at = at

-- how many lines that stay are before this place
abbrev staying : List Bool → ℕ → ℕ
staying [] at = at
staying (stays ∷ others) zero = zero
staying (stays ∷ others) (suc at) = after stays (staying others at)

staying_none : (stays : List Bool) → staying stays zero ≡ zero
staying_none [] = refl
staying_none (one ∷ stays) = refl

newer_before : (stays : Bool) (number : ℕ) (line : BanLine) (lines : List BanLine) → is_newer number line ≡ true
    → newer number (line_before stays line lines) ≡ after stays (newer number lines)
newer_before true number line lines e = is_newer_first number line lines e
newer_before false number line lines e = refl

none_before : (stays : Bool) (number : ℕ) (line : BanLine) (lines : List BanLine) → is_newer number line ≡ false
    → newer number (line_before stays line lines) ≡ newer number lines
none_before true number line lines e = not_newer number line lines e
none_before false number line lines e = refl

left_step : (t one : Bool) (stays : List Bool) (number : ℕ) (line : BanLine) (lines : List BanLine) → is_newer number line ≡ t → AreFalling (number_of line) lines
    → newer number (lines_left stays lines) ≡ staying stays (newer number lines)
    → newer number (line_before one line (lines_left stays lines)) ≡ staying (one ∷ stays) (newer number (line ∷ lines))
left_step true one stays number line lines e falling rest =
    newer_before one number line (lines_left stays lines) e ∙ ap (after one) rest
    ∙ ap (staying (one ∷ stays)) (sym (is_newer_first number line lines e))
left_step false one stays number line lines e falling rest =
    let none : newer number lines ≡ zero = none_behind number line lines e falling in
    none_before one number line (lines_left stays lines) e ∙ rest ∙ ap (staying stays) none ∙ staying_none stays
    ∙ sym (ap (staying (one ∷ stays)) (not_newer number line lines e ∙ none))

newer_left : (stays : List Bool) (bound number : ℕ) (lines : List BanLine) → AreFalling bound lines → newer number (lines_left stays lines) ≡ staying stays (newer number lines)
newer_left [] bound number lines falling = refl
newer_left (one ∷ stays) bound number [] falling = refl
newer_left (one ∷ stays) bound number (line ∷ lines) falling =
    left_step (is_newer number line) one stays number line lines refl falling.1 (newer_left stays (number_of line) number lines falling.1)

none_before_left : (stays : Bool) (line : BanLine) (lines : List BanLine) → count_before stays 0 (no_counts lines) ≡ no_counts (line_before stays line lines)
none_before_left true line lines = refl
none_before_left false line [] = refl
none_before_left false line (next ∷ lines) = refl

none_left : (stays : List Bool) (lines : List BanLine) → length stays ≡ length lines → counts_left stays (no_counts lines) ≡ no_counts (lines_left stays lines)
none_left [] lines same = refl
none_left (one ∷ stays) [] same = absurd (omega (arith, same))
none_left (one ∷ stays) (line ∷ lines) same =
    ap (count_before one 0) (none_left stays lines (omega (arith, same))) ∙ none_before_left one line (lines_left stays lines)

first_more : (stays : Bool) (count : ℕ) (counts : List ℕ) → count_before stays (count + 1) counts ≡ one_more zero (count_before stays count counts)
first_more true count counts = refl
first_more false count [] = refl
first_more false count (older ∷ counts) = ap (λ (n : ℕ). n ∷ counts) (omega arith)

later_more : (stays : Bool) (at count : ℕ) (counts : List ℕ) → 0 < length counts → count_before stays count (one_more at counts) ≡ one_more (after stays at) (count_before stays count counts)
later_more true at count counts some = refl
later_more false at count [] some = absurd (omega (arith, some))
later_more false zero count (older ∷ counts) some = ap (λ (n : ℕ). n ∷ counts) (omega arith)
later_more false (suc at) count (older ∷ counts) some = refl

more_left : (stays : List Bool) (at : ℕ) (counts : List ℕ) → length counts ≡ length stays + 1 → counts_left stays (one_more at counts) ≡ one_more (staying stays at) (counts_left stays counts)
more_left [] at counts same = refl
more_left (one ∷ stays) at [] same = absurd (omega (arith, same))
more_left (one ∷ stays) zero (count ∷ counts) same = first_more one count (counts_left stays counts)
more_left (one ∷ stays) (suc at) (count ∷ counts) same =
    ap (count_before one count) (more_left stays at counts (omega (arith, same)))
    ∙ later_more one (staying stays at) count (counts_left stays counts) (some_left stays counts (omega (arith, same)))

counts_kept : (stays : List Bool) (bound : ℕ) (lines : List BanLine) (numbers : List ℕ) → AreFalling bound lines → length stays ≡ length lines
    → counts_left stays (counts_of lines numbers) ≡ counts_of (lines_left stays lines) numbers
counts_kept stays bound lines [] falling same = none_left stays lines same
counts_kept stays bound lines (number ∷ numbers) falling same =
    more_left stays (newer number lines) (counts_of lines numbers) (omega (arith, same, length_of lines numbers))
    ∙ ap (λ (at : ℕ). one_more at (counts_left stays (counts_of lines numbers))) (sym (newer_left stays bound number lines falling))
    ∙ ap (one_more (newer number (lines_left stays lines))) (counts_kept stays bound lines numbers falling same)

-- ---- both counts of a list of bans
places_more : (others : List Stand) (stand : Stand) (more : List Stand) → places_of (others ++ stand ∷ more) ≡ places_of others ++ stand.place ∷ places_of more
places_more [] stand more = refl
places_more (first ∷ others) stand more = ap (λ (ns : List ℕ). first.place ∷ ns) (places_more others stand more)

places_others : (others more : List Stand) → places_of (others ++ more) ≡ places_of others ++ places_of more
places_others [] more = refl
places_others (first ∷ others) more = ap (λ (ns : List ℕ). first.place ∷ ns) (places_others others more)

marks_more : (others : List Stand) (stand : Stand) (more : List Stand) → marks_of (others ++ stand ∷ more) ≡ marks_of others ++ stand.mark ∷ marks_of more
marks_more [] stand more = refl
marks_more (first ∷ others) stand more = ap (λ (ns : List ℕ). first.mark ∷ ns) (marks_more others stand more)

marks_others : (others more : List Stand) → marks_of (others ++ more) ≡ marks_of others ++ marks_of more
marks_others [] more = refl
marks_others (first ∷ others) more = ap (λ (ns : List ℕ). first.mark ∷ ns) (marks_others others more)

places_below : (number : ℕ) (stands : List Stand) → AllByRecursion (λ stand. (stand.place < number) × (stand.mark < number)) stands → AllByRecursion (λ place. place < number) (places_of stands)
places_below number [] below = tt
places_below number (stand ∷ stands) below = (below.0.0, places_below number stands below.1)

marks_below : (number : ℕ) (stands : List Stand) → AllByRecursion (λ stand. (stand.place < number) × (stand.mark < number)) stands → AllByRecursion (λ mark. mark < number) (marks_of stands)
marks_below number [] below = tt
marks_below number (stand ∷ stands) below = (below.0.1, marks_below number stands below.1)

pub none_at : AreAt no_bans []
none_at = record { placed = refl; marked = refl; all = refl }

pub at_issued : (number moment : ℕ) (ban : Ban) (bans : Bans) (stands : List Stand) → AllByRecursion (λ stand. (stand.place < number) × (stand.mark < number)) stands
    → AreAt bans stands → AreAt (with_ban number moment ban bans) stands
at_issued number moment ban bans stands below at =
    let line : BanLine = record { issued = record { number = number; moment = moment; ban = ban }; completed = false } in
    record {
      placed = ap (λ (rest : List ℕ). 0 ∷ rest) at.placed ∙ sym (counts_issued line ban bans.lines (places_of stands) (places_below number stands below));
      marked = ap (λ (rest : List ℕ). 0 ∷ rest) at.marked ∙ sym (counts_issued line ban bans.lines (marks_of stands) (marks_below number stands below));
      all = at.all;
    }

pub at_entered : (stand : Stand) (bans : Bans) (stands : List Stand) → AreAt bans stands → AreAt (entered stand.place stand.mark bans) (stand ∷ stands)
at_entered stand bans stands at =
    record {
      placed = ap (one_more (newer stand.place bans.lines)) at.placed;
      marked = ap (one_more (newer stand.mark bans.lines)) at.marked;
      all = ap (λ (n : ℕ). n + 1) at.all ∙ omega arith;
    }

pub may_depart : (stand : Stand) (bans : Bans) (others more : List Stand) → AreAt bans (others ++ stand ∷ more)
    → (0 < standing stand.place bans.lines bans.placed) × (0 < standing stand.mark bans.lines bans.marked)
may_depart stand bans others more at = (
  some_among bans.lines (places_of others) stand.place (places_of more) bans.placed (at.placed ∙ ap (counts_of bans.lines) (places_more others stand more)),
  some_among bans.lines (marks_of others) stand.mark (marks_of more) bans.marked (at.marked ∙ ap (counts_of bans.lines) (marks_more others stand more)),
)

pub at_departed : (stand : Stand) (bans : Bans) (others more : List Stand) → AreAt bans (others ++ stand ∷ more) → AreAt (departed stand.place stand.mark bans) (others ++ more)
at_departed stand bans others more at =
    let long : length (others ++ stand ∷ more) ≡ length others + length (stand ∷ more) = length-append others (stand ∷ more) in
    let rest : length (others ++ more) ≡ length others + length more = length-append others more in
    record {
      placed =
          ap (one_less (newer stand.place bans.lines)) (at.placed ∙ ap (counts_of bans.lines) (places_more others stand more))
          ∙ less_among bans.lines (places_of others) stand.place (places_of more) ∙ ap (counts_of bans.lines) (sym (places_others others more));
      marked =
          ap (one_less (newer stand.mark bans.lines)) (at.marked ∙ ap (counts_of bans.lines) (marks_more others stand more))
          ∙ less_among bans.lines (marks_of others) stand.mark (marks_of more) ∙ ap (counts_of bans.lines) (sym (marks_others others more));
      all = omega (arith, at.all, long, rest);
    }

pub at_cut : (bound left : ℕ) (bans : Bans) (stands : List Stand) → AreFalling bound bans.lines → left ≤ length bans.lines → AreAt bans stands → AreAt (cut_to left bans) stands
at_cut bound left bans stands falling within at =
    record {
      placed = ap (summed left) at.placed ∙ counts_taken bound left bans.lines (places_of stands) falling within;
      marked = ap (summed left) at.marked ∙ counts_taken bound left bans.lines (marks_of stands) falling within;
      all = at.all;
    }

pub at_kept : (bound : ℕ) (bans : Bans) (stands : List Stand) → AreFalling bound bans.lines → AreAt bans stands → AreAt (only_needed bans) stands
at_kept bound bans stands falling at =
    let stays : List Bool = are_needed bans.lines bans.placed bans.marked in
    let same : length stays ≡ length bans.lines = length_needed bans.lines bans.placed bans.marked in
    record {
      placed = ap (counts_left stays) at.placed ∙ counts_kept stays bound bans.lines (places_of stands) falling same;
      marked = ap (counts_left stays) at.marked ∙ counts_kept stays bound bans.lines (marks_of stands) falling same;
      all = at.all;
    }
