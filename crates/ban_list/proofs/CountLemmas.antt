-- Counts of objects: one more, one less, and those of lines that go.
use Rattle.std.proofs.Common.{◌≡◌, ◌<◌, ◌≤◌, ◌+◌, ◌-◌, ℕ, zero, suc, Bool, true, false, List, [], ◌∷◌, ◌++◌, not, Option, Some, length, take, drop, set, get_or, filter, refl, sym, ◌∙◌, ap, arith}
use Rattle.std.specs.Prelude.{sum, slice_get, unwrap_or}
use Rattle.std.specs.Option.{option_to_list}
use Rattle.std.proofs.lemmas.Option.{slice_get-get_or}
use Rattle.std.proofs.lemmas.List.{length-set, length-append, length-take-le, take-append-le, take-take, take_all, get_or_default}
use Rattle.std.proofs.lemmas.List.Sums.{sum_by-set, sum_by-take-drop, sum_by-append}
use Rattle.cache_law.specs.declared.ban.BanLine.{BanLine}
use Rattle.ban_list.specs.Bans.{Bans, is_newer, newer, is_wanted, one_more, one_less, summed, cut_to, is_needed}
use Rattle.ban_list.specs.Kept.{AreCounts}

pub sum_more : (counts : List ℕ) (at : ℕ) → at < length counts → sum (one_more at counts) ≡ sum counts + 1
sum_more counts at within =
    let set_to : sum (set counts at (get_or counts at 0 + 1)) + get_or counts at 0 ≡ sum counts + (get_or counts at 0 + 1) =
    sum_by-set (λ n. n) counts at (get_or counts at 0 + 1) 0 within in
    omega (arith, set_to)

pub sum_less : (counts : List ℕ) (at : ℕ) → at < length counts → 0 < get_or counts at 0 → sum (one_less at counts) + 1 ≡ sum counts
sum_less counts at within some =
    let set_to : sum (set counts at (get_or counts at 0 - 1)) + get_or counts at 0 ≡ sum counts + (get_or counts at 0 - 1) =
    sum_by-set (λ n. n) counts at (get_or counts at 0 - 1) 0 within in
    omega (arith, set_to, some)

pub counts_more : (lines : List BanLine) (counts : List ℕ) (objects at : ℕ) → AreCounts lines counts objects → at ≤ length lines → AreCounts lines (one_more at counts) (objects + 1)
counts_more lines counts objects at are within =
    let inside : at < length counts = omega (arith, are.one_each, within) in
    record {
      one_each = length-set counts at (get_or counts at 0 + 1) ∙ are.one_each;
      all = sum_more counts at inside ∙ ap (λ (n : ℕ). n + 1) are.all;
    }

pub counts_less : (lines : List BanLine) (counts : List ℕ) (objects at : ℕ) → AreCounts lines counts objects → at ≤ length lines → 0 < get_or counts at 0 → AreCounts lines (one_less at counts) (objects - 1)
counts_less lines counts objects at are within some =
    let inside : at < length counts = omega (arith, are.one_each, within) in
    let less : sum (one_less at counts) + 1 ≡ sum counts = sum_less counts at inside some in
    record {
      one_each = length-set counts at (get_or counts at 0 - 1) ∙ are.one_each;
      all = omega (arith, less, are.all);
    }

-- a line comes first, at which none counts
pub counts_first : (line : BanLine) (lines done : List BanLine) (counts : List ℕ) (objects : ℕ) → AreCounts lines counts objects → length done ≡ length lines → AreCounts (line ∷ done) (0 ∷ counts) objects
counts_first line lines done counts objects are same =
    record {
      one_each = ap suc are.one_each ∙ omega (arith, same);
      all = omega (arith, are.all);
    }

slice_get-take_lt : (at left : ℕ) (lines : List BanLine) → at < left → slice_get (take left lines) at ≡ slice_get lines at
slice_get-take_lt at zero lines below = absurd (omega (arith, below))
slice_get-take_lt at (suc left) [] below = refl
slice_get-take_lt zero (suc left) (line ∷ lines) below = refl
slice_get-take_lt (suc at) (suc left) (line ∷ lines) below = slice_get-take_lt at left lines (omega (arith, below))

sum_summed : (left : ℕ) (counts : List ℕ) → sum (summed left counts) ≡ sum counts
sum_summed left counts =
    let all : sum (take left counts) + sum (drop left counts) ≡ sum counts = sum_by-take-drop (λ n. n) counts left in
    let apart : sum (take left counts ++ sum (drop left counts) ∷ []) ≡ sum (take left counts) + sum (sum (drop left counts) ∷ []) = sum_by-append (λ n. n) (take left counts) (sum (drop left counts) ∷ []) in
    omega (arith, all, apart)

-- ---- lines go, the oldest first
drop_summed : (at left : ℕ) (counts : List ℕ) → at ≤ left → left ≤ length counts → sum (drop at (summed left counts)) ≡ sum (drop at counts)
drop_summed at left counts before within =
    let long : length (take left counts) ≡ left = length-take-le left counts within in
    let same : take at (summed left counts) ≡ take at counts =
    take-append-le at (take left counts) (sum (drop left counts) ∷ []) (omega (arith, long)) ∙ take-take at left counts before in
    let all : sum (take at (summed left counts)) + sum (drop at (summed left counts)) ≡ sum (summed left counts) = sum_by-take-drop (λ n. n) (summed left counts) at in
    let apart : sum (take at counts) + sum (drop at counts) ≡ sum counts = sum_by-take-drop (λ n. n) counts at in
    let total : sum (summed left counts) ≡ sum counts = sum_summed left counts in
    let front : sum (take at (summed left counts)) ≡ sum (take at counts) = ap sum same in
    omega (arith, all, apart, total, front)

summed_again : (at left : ℕ) (counts : List ℕ) → at ≤ left → left ≤ length counts → summed at (summed left counts) ≡ summed at counts
summed_again at left counts before within =
    let long : length (take left counts) ≡ left = length-take-le left counts within in
    let same : take at (summed left counts) ≡ take at counts =
    take-append-le at (take left counts) (sum (drop left counts) ∷ []) (omega (arith, long)) ∙ take-take at left counts before in
    rw (same, drop_summed at left counts before within) refl

pub cut_again : (at left : ℕ) (bans : Bans) → at ≤ left → left ≤ length bans.placed → left ≤ length bans.marked → cut_to at (cut_to left bans) ≡ cut_to at bans
cut_again at left bans before places marks =
    rw (take-take at left bans.lines before, summed_again at left bans.placed before places, summed_again at left bans.marked before marks) refl

summed_all : (left : ℕ) (counts : List ℕ) → length counts ≡ left + 1 → summed left counts ≡ counts
summed_all left [] long = absurd (omega (arith, long))
summed_all zero (count ∷ []) long = ap (λ (n : ℕ). n ∷ []) (omega arith)
summed_all zero (count ∷ more ∷ counts) long = absurd (omega (arith, long))
summed_all (suc left) (count ∷ counts) long = ap (λ (rest : List ℕ). count ∷ rest) (summed_all left counts (omega (arith, long)))

pub cut_none : (bans : Bans) → length bans.placed ≡ length bans.lines + 1 → length bans.marked ≡ length bans.lines + 1 → cut_to (length bans.lines) bans ≡ bans
cut_none bans places marks =
    rw (take_all (length bans.lines) bans.lines (omega arith), summed_all (length bans.lines) bans.placed places, summed_all (length bans.lines) bans.marked marks) refl

pub needed_same : (at left : ℕ) (bans : Bans) → at < left → left ≤ length bans.placed → left ≤ length bans.marked → is_needed (cut_to left bans) at ≡ is_needed bans at
needed_same at left bans before places marks =
    rw (slice_get-take_lt at left bans.lines before, drop_summed (at + 1) left bans.placed (omega arith) places, drop_summed (at + 1) left bans.marked (omega arith) marks) refl

pub join_summed : (counts : List ℕ) (behind at : ℕ) → length counts ≡ at + 1 → summed at (counts ++ behind ∷ []) ≡ set counts at (get_or counts at 0 + behind)
join_summed [] behind at long = absurd (omega (arith, long))
join_summed (count ∷ []) behind zero long = ap (λ (n : ℕ). n ∷ []) (omega arith)
join_summed (count ∷ more ∷ counts) behind zero long = absurd (omega (arith, long))
join_summed (count ∷ counts) behind (suc at) long = ap (λ (rest : List ℕ). count ∷ rest) (join_summed counts behind at (omega (arith, long)))

pub counts_cut : (lines : List BanLine) (counts : List ℕ) (objects left : ℕ) → AreCounts lines counts objects → left ≤ length lines → AreCounts (take left lines) (summed left counts) objects
counts_cut lines counts objects left are within =
    let long : length (take left counts) ≡ left = length-take-le left counts (omega (arith, are.one_each, within)) in
    let lines_left : length (take left lines) ≡ left = length-take-le left lines within in
    let joined : length (take left counts ++ sum (drop left counts) ∷ []) ≡ length (take left counts) + 1 = length-append (take left counts) (sum (drop left counts) ∷ []) in
    record {
      one_each = omega (arith, long, lines_left, joined);
      all = sum_summed left counts ∙ are.all;
    }

-- ---- steps of the code
filter_step : (p : BanLine → Bool) (line : BanLine) (lines : List BanLine) (b : Bool) → p line ≡ b → length (filter p lines) ≤ length lines → length (filter p (line ∷ lines)) ≤ length (line ∷ lines)
filter_step p line lines true e rest = rw e (omega (arith, rest))
filter_step p line lines false e rest = rw e (omega (arith, rest))

length-filter-le : (p : BanLine → Bool) (lines : List BanLine) → length (filter p lines) ≤ length lines
length-filter-le p [] = omega arith
length-filter-le p (line ∷ lines) = filter_step p line lines (p line) refl (length-filter-le p lines)

pub within_counts : (number : ℕ) (lines : List BanLine) (counts : List ℕ) (objects at : ℕ) → AreCounts lines counts objects → at ≡ newer number lines → at < length counts
within_counts number lines counts objects at are is = omega (arith, are.one_each, is, length-filter-le (is_newer number) lines)

pub at_line : (number : ℕ) (lines : List BanLine) (at : ℕ) → at ≡ newer number lines → at ≤ length lines
at_line number lines at is = omega (arith, is, length-filter-le (is_newer number) lines)

pub join_counts : (counts xs : List ℕ) (popped : Option ℕ) (behind b last at : ℕ) → 2 ≤ length counts → counts ≡ xs ++ option_to_list popped → popped ≡ Some b
    → behind ≡ unwrap_or popped 0 → at ≡ length xs → last ≡ get_or xs (at - 1) last
    → set xs (at - 1) (last + behind) ≡ summed (length counts - 2) counts
join_counts counts xs popped behind b last at two items some is_behind len read =
    let whole : counts ≡ xs ++ b ∷ [] = items ∙ ap (λ (o : Option ℕ). xs ++ option_to_list o) some in
    let long : length counts ≡ length xs + 1 = ap length whole ∙ length-append xs (b ∷ []) in
    let place : length counts - 2 ≡ at - 1 = omega (arith, long, len) in
    let before : length xs ≡ (at - 1) + 1 = omega (arith, long, len, two) in
    let is_b : behind ≡ b = is_behind ∙ ap (λ (o : Option ℕ). unwrap_or o 0) some in
    let is_last : last ≡ get_or xs (at - 1) 0 = read ∙ get_or_default xs (at - 1) last 0 (omega (arith, before)) in
    ap (λ (n : ℕ). set xs (at - 1) (n + behind)) is_last
    ∙ ap (λ (n : ℕ). set xs (at - 1) (get_or xs (at - 1) 0 + n)) is_b
    ∙ sym (join_summed xs b (at - 1) before)
    ∙ ap (λ (n : ℕ). summed n (xs ++ b ∷ [])) (sym place)
    ∙ ap (summed (length counts - 2)) (sym whole)

sum_last : (counts : List ℕ) (at : ℕ) → length counts ≡ at + 1 → sum (drop at counts) ≡ get_or counts at 0
sum_last [] at long = absurd (omega (arith, long))
sum_last (count ∷ []) zero long = omega arith
sum_last (count ∷ more ∷ counts) zero long = absurd (omega (arith, long))
sum_last (count ∷ counts) (suc at) long = sum_last counts at (omega (arith, long))

pub last_below : (lines : List BanLine) (counts : List ℕ) (objects : ℕ) → AreCounts lines counts objects → 0 < length lines
    → sum (drop ((length lines - 1) + 1) counts) ≡ get_or counts (length counts - 1) 0
last_below lines counts objects are some =
    let place : (length lines - 1) + 1 ≡ length counts - 1 = omega (arith, are.one_each, some) in
    ap (λ (n : ℕ). sum (drop n counts)) place ∙ sum_last counts (length counts - 1) (omega (arith, are.one_each))

pub last_needed : (bans : Bans) (line : BanLine) (placed marked : ℕ) → 0 < length bans.lines → line ≡ get_or bans.lines (length bans.lines - 1) line
    → placed ≡ sum (drop ((length bans.lines - 1) + 1) bans.placed) → marked ≡ sum (drop ((length bans.lines - 1) + 1) bans.marked)
    → is_needed bans (length bans.lines - 1) ≡ is_wanted line placed marked
last_needed bans line placed marked some read places marks =
    let found : slice_get bans.lines (length bans.lines - 1) ≡ Some line =
    slice_get-get_or bans.lines (length bans.lines - 1) line (omega (arith, some)) ∙ ap (λ (l : BanLine). Some l) (sym read) in
    rw (found, places, marks) refl

pub not_not : (b : Bool) → not (not b) ≡ b
not_not true = refl
not_not false = refl
