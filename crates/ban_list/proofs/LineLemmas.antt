-- The lines of a list of bans: where one stands by its number, and how lines are completed.
use Rattle.std.proofs.Common.{◌≡◌, ◌<◌, ◌≤◌, ℕ, zero, suc, Bool, true, false, ◌&&◌, cond, List, [], ◌∷◌, ◌++◌, length, take, set, filter, get_or, map, Option, None, Some, refl, sym, ◌∙◌, ap, subst, arith}
use Rattle.std.specs.List.{AllByRecursion}
use Rattle.std.specs.List.Sorted.{IsPartitionedBy, IsPartitionPoint}
use Rattle.std.specs.Str.{bytes_eq}
use Rattle.std.proofs.lemmas.Bool.{lt-ltb, le-ltb, ltb-true, eq-eqb, ne_eqb, false≢true}
use Rattle.std.proofs.lemmas.Slice.Eq.{bytes_eq-Decides}
use Rattle.cache_law.specs.declared.ban.Ban.{Ban}
use Rattle.cache_law.specs.declared.ban.BanLine.{BanLine}
use Rattle.cache_law.specs.Bans.{is_equal}
use Rattle.ban_list.specs.Bans.{is_newer, newer, completed_by}
use Rattle.ban_list.specs.Keys.{equal_key, same_key}
use Rattle.ban_list.specs.Kept.{number_of, has_key, newest_with, AreFalling, CompletesOlder, AreCompleted, with_done, completed_at, is_number}
use Rattle.ban_list.proofs.KeyLemmas.{equal_by_keys}

-- ---- where the newer lines end
falling_below : (bound : ℕ) (lines : List BanLine) (at : ℕ) (d : BanLine) → AreFalling bound lines → at < length lines → number_of (get_or lines at d) < bound
falling_below bound [] at d falling within = absurd (omega arith)
falling_below bound (line ∷ lines) zero d falling within = falling.0
falling_below bound (line ∷ lines) (suc at) d falling within =
    let behind : number_of (get_or lines at d) < number_of line = falling_below (number_of line) lines at d falling.1 (omega arith) in
    let first : number_of line < bound = falling.0 in
    omega arith

falling_order : (bound : ℕ) (lines : List BanLine) (i j : ℕ) (d : BanLine) → AreFalling bound lines → i ≤ j → j < length lines → number_of (get_or lines j d) ≤ number_of (get_or lines i d)
falling_order bound [] i j d falling before within = absurd (omega arith)
falling_order bound (line ∷ lines) zero zero d falling before within = omega arith
falling_order bound (line ∷ lines) zero (suc j) d falling before within =
    let behind : number_of (get_or lines j d) < number_of line = falling_below (number_of line) lines j d falling.1 (omega arith) in
    omega arith
falling_order bound (line ∷ lines) (suc i) zero d falling before within = absurd (omega arith)
falling_order bound (line ∷ lines) (suc i) (suc j) d falling before within = falling_order (number_of line) lines i j d falling.1 (omega arith) (omega arith)

pub newer_first : (bound number : ℕ) (lines : List BanLine) → AreFalling bound lines → IsPartitionedBy (is_newer number) lines
newer_first bound number lines falling = λ i j d before within newer.
    let above : number < number_of (get_or lines j d) = ltb-true number (number_of (get_or lines j d)) newer in
    let order : number_of (get_or lines j d) ≤ number_of (get_or lines i d) = falling_order bound lines i j d falling before within in
    lt-ltb number (number_of (get_or lines i d)) (omega arith)

filter_first : (p : BanLine → Bool) (line : BanLine) (lines : List BanLine) → p line ≡ true → length (filter p (line ∷ lines)) ≡ suc (length (filter p lines))
filter_first p line lines e = rw e refl

filter_not_first : (p : BanLine → Bool) (line : BanLine) (lines : List BanLine) → p line ≡ false → length (filter p (line ∷ lines)) ≡ length (filter p lines)
filter_not_first p line lines e = rw e refl

count_at : (p : BanLine → Bool) (lines : List BanLine) (at : ℕ) → at ≤ length lines
    → ((k : ℕ) (d : BanLine) → k < at → p (get_or lines k d) ≡ true)
    → ((k : ℕ) (d : BanLine) → at ≤ k → k < length lines → p (get_or lines k d) ≡ false)
    → length (filter p lines) ≡ at
count_at p [] at within before behind = omega arith
count_at p (line ∷ lines) zero within before behind =
    filter_not_first p line lines (behind zero line (omega arith) (omega arith))
    ∙ count_at p lines zero (omega arith) (λ k d e. absurd (omega arith)) (λ k d from to. behind (suc k) d (omega arith) (omega arith))
count_at p (line ∷ lines) (suc at) within before behind =
    filter_first p line lines (before zero line (omega arith))
    ∙ ap suc (count_at p lines at (omega arith) (λ k d e. before (suc k) d (omega arith)) (λ k d from to. behind (suc k) d (omega arith) (omega arith)))

pub newer_point : (number : ℕ) (lines : List BanLine) (at : ℕ) → at ≤ length lines
    → IsPartitionPoint (λ line. is_newer number line ≡ true) (λ line. is_newer number line ≡ false) lines at
    → at ≡ newer number lines
newer_point number lines at within point =
    sym (count_at (is_newer number) lines at within (λ k d below. point.0 k d (omega arith) below) (λ k d from to. point.1 k d from to))

pub falling_weaker : (low high : ℕ) (lines : List BanLine) → low ≤ high → AreFalling low lines → AreFalling high lines
falling_weaker low high [] order falling = tt
falling_weaker low high (line ∷ lines) order falling =
    let first : number_of line < low = falling.0 in
    let still : number_of line < high = omega arith in
    (still, falling.1)

pub none_newer : (bound : ℕ) (lines : List BanLine) → AreFalling bound lines → newer bound lines ≡ 0
none_newer bound [] falling = refl
none_newer bound (line ∷ lines) falling =
    filter_not_first (is_newer bound) line lines (le-ltb bound (number_of line) (omega (arith, falling.0)))
    ∙ none_newer bound lines (falling_weaker (number_of line) bound lines (omega (arith, falling.0)) falling.1)

-- ---- keys
pub same_key_is : (a b : Option (List ℕ)) → same_key a b ≡ true → a ≡ b
same_key_is None b e = cc
same_key_is (Some a) None e = cc
same_key_is (Some a) (Some b) e = ap (λ (k : List ℕ). Some k) ((bytes_eq-Decides a b).0 e)

pub own_key : (key : List ℕ) → bytes_eq key key ≡ true
own_key key = (bytes_eq-Decides key key).1 refl

no_key : (a : Option (List ℕ)) → same_key a None ≡ false
no_key None = refl
no_key (Some a) = refl

-- ---- lines that are completed
abbrev done_where : Bool → BanLine → BanLine
done_where b line = cond b (record line { completed = true }) line

done_already : (b : Bool) (line : BanLine) → (b ≡ true → line.completed ≡ true) → done_where b line ≡ line
done_already true line e = ap (λ (c : Bool). record line { completed = c }) (sym (e refl))
done_already false line e = refl

number_stays : (b : Bool) (line : BanLine) → number_of (done_where b line) ≡ number_of line
number_stays true line = refl
number_stays false line = refl

key_stays : (b : Bool) (line : BanLine) → equal_key (done_where b line).issued.ban ≡ equal_key line.issued.ban
key_stays true line = refl
key_stays false line = refl

pub falling_done : (test : BanLine → Bool) (bound : ℕ) (lines : List BanLine) → AreFalling bound lines → AreFalling bound (map (λ line. done_where (test line) line) lines)
falling_done test bound [] falling = falling
falling_done test bound (line ∷ lines) falling =
    rw (number_stays (test line) line) (falling.0, falling_done test (number_of line) lines falling.1)

older_done : (test : BanLine → Bool) (key : Option (List ℕ)) (lines : List BanLine)
    → AllByRecursion (λ older. same_key (equal_key older.issued.ban) key ≡ true → older.completed ≡ true) lines
    → AllByRecursion (λ older. same_key (equal_key older.issued.ban) key ≡ true → older.completed ≡ true) (map (λ line. done_where (test line) line) lines)
older_done test key [] all = all
older_done test key (line ∷ lines) all = (one (test line) line all.0, older_done test key lines all.1) where
  one : (b : Bool) (line : BanLine) → (same_key (equal_key line.issued.ban) key ≡ true → line.completed ≡ true)
      → same_key (equal_key (done_where b line).issued.ban) key ≡ true → (done_where b line).completed ≡ true
  one true line h e = refl
  one false line h e = h e

pub completed_done : (test : BanLine → Bool) (lines : List BanLine) → AreCompleted lines → AreCompleted (map (λ line. done_where (test line) line) lines)
completed_done test [] all = all
completed_done test (line ∷ lines) all = (
  subst (λ (key : Option (List ℕ)). AllByRecursion (λ older. same_key (equal_key older.issued.ban) key ≡ true → older.completed ≡ true) (map (λ line. done_where (test line) line) lines))
      (sym (key_stays (test line) line)) (older_done test (equal_key line.issued.ban) lines all.0),
  completed_done test lines all.1,
)

-- a ban that is issued completes those that equal it
pub completes_equals : (ban : Ban) (key : Option (List ℕ)) → key ≡ equal_key ban → (lines : List BanLine)
    → AllByRecursion (λ older. same_key (equal_key older.issued.ban) key ≡ true → older.completed ≡ true) (map (completed_by ban) lines)
completes_equals ban key is [] = tt
completes_equals ban key is (line ∷ lines) = (one (is_equal line.issued.ban ban) (equal_by_keys line.issued.ban ban), completes_equals ban key is lines) where
  one : (b : Bool) → b ≡ same_key (equal_key line.issued.ban) (equal_key ban)
      → same_key (equal_key (done_where b line).issued.ban) key ≡ true → (done_where b line).completed ≡ true
  one true e h = refl
  one false e h = absurd (false≢true (e ∙ ap (λ (k : Option (List ℕ)). same_key (equal_key line.issued.ban) k) (sym is) ∙ h))

newest_step : (key : List ℕ) (line : BanLine) (rest lines : List BanLine) (b h : Bool) → has_key key line ≡ h → newest_with key rest ≡ newest_with key lines
    → newest_with key (done_where b line ∷ rest) ≡ newest_with key (line ∷ lines)
newest_step key line rest lines true true e same = rw e refl
newest_step key line rest lines false true e same = rw e refl
newest_step key line rest lines true false e same = rw e same
newest_step key line rest lines false false e same = rw e same

pub newest_done : (test : BanLine → Bool) (key : List ℕ) (lines : List BanLine) → newest_with key (map (λ line. done_where (test line) line) lines) ≡ newest_with key lines
newest_done test key [] = refl
newest_done test key (line ∷ lines) =
    newest_step key line (map (λ line. done_where (test line) line) lines) lines (test line) (has_key key line) refl (newest_done test key lines)

-- ---- completing the one line that isn't completed yet
found_step : (key : List ℕ) (line : BanLine) (lines : List BanLine) (number bound : ℕ) (h : Bool) → has_key key line ≡ h → number_of line < bound
    → (newest_with key lines ≡ Some number → number < number_of line) → newest_with key (line ∷ lines) ≡ Some number → number < bound
found_step key line lines number bound true e first behind found =
    let here = rw e at found in
    let is : number_of line ≡ number = cc in
    omega (arith, first, is)
found_step key line lines number bound false e first behind found =
    let below : number < number_of line = behind (rw e at found) in
    omega (arith, first, below)

pub found_below : (bound : ℕ) (key : List ℕ) (lines : List BanLine) (number : ℕ) → AreFalling bound lines → newest_with key lines ≡ Some number → number < bound
found_below bound key [] number falling found = cc
found_below bound key (line ∷ lines) number falling found =
    found_step key line lines number bound (has_key key line) refl falling.0 (found_below (number_of line) key lines number falling.1) found

others_done : (key : List ℕ) (own : Option (List ℕ)) (lines : List BanLine) → own ≡ Some key
    → AllByRecursion (λ older. same_key (equal_key older.issued.ban) own ≡ true → older.completed ≡ true) lines
    → map (λ line. done_where (has_key key line) line) lines ≡ lines
others_done key own [] is all = refl
others_done key own (line ∷ lines) is all =
    let here : has_key key line ≡ true → line.completed ≡ true = λ e. all.0 (ap (λ (k : Option (List ℕ)). same_key (equal_key line.issued.ban) k) is ∙ e) in
    rw (done_already (has_key key line) line here, others_done key own lines is all.1) refl

with_done_at : (at : ℕ) (line : BanLine) (lines : List BanLine) → at ≡ 0 → with_done at (line ∷ lines) ≡ record line { completed = true } ∷ lines
with_done_at zero line lines e = refl
with_done_at (suc at) line lines e = cc

-- a number that an older line has is below that of a new one
pub done_older : (line : BanLine) (lines : List BanLine) (found : Option ℕ) → ((number : ℕ) → found ≡ Some number → number < number_of line)
    → completed_at found (line ∷ lines) ≡ line ∷ completed_at found lines
done_older line lines None below = refl
done_older line lines (Some number) below =
    ap (λ (at : ℕ). with_done at (line ∷ lines)) (filter_first (is_newer number) line lines (lt-ltb number (number_of line) (below number refl)))

completed_step : (key : List ℕ) (line : BanLine) (lines : List BanLine) (h : Bool) → has_key key line ≡ h → AreFalling (number_of line) lines → CompletesOlder line lines
    → completed_at (newest_with key lines) lines ≡ map (λ line. done_where (has_key key line) line) lines
    → completed_at (newest_with key (line ∷ lines)) (line ∷ lines) ≡ map (λ line. done_where (has_key key line) line) (line ∷ lines)
completed_step key line lines true e falling older rest =
    let same : equal_key line.issued.ban ≡ Some key = same_key_is (equal_key line.issued.ban) (Some key) e in
    let first : newer (number_of line) (line ∷ lines) ≡ 0 =
    filter_not_first (is_newer (number_of line)) line lines (le-ltb (number_of line) (number_of line) (omega arith)) ∙ none_newer (number_of line) lines falling in
    rw e (with_done_at (newer (number_of line) (line ∷ lines)) line lines first
    ∙ ap (λ (rest : List BanLine). record line { completed = true } ∷ rest) (sym (others_done key (equal_key line.issued.ban) lines same older)))
completed_step key line lines false e falling older rest =
    rw e (done_older line lines (newest_with key lines) (λ number found. found_below (number_of line) key lines number falling found)
    ∙ ap (λ (rest : List BanLine). line ∷ rest) rest)

pub completed_found : (bound : ℕ) (key : List ℕ) (lines : List BanLine) → AreFalling bound lines → AreCompleted lines
    → completed_at (newest_with key lines) lines ≡ map (λ line. done_where (has_key key line) line) lines
completed_found bound key [] falling all = refl
completed_found bound key (line ∷ lines) falling all =
    completed_step key line lines (has_key key line) refl falling.1 all.0 (completed_found (number_of line) key lines falling.1 all.1)

-- the lines that equal a ban have its key
pub by_key : (ban : Ban) (key : List ℕ) → equal_key ban ≡ Some key → (lines : List BanLine) → map (completed_by ban) lines ≡ map (λ line. done_where (has_key key line) line) lines
by_key ban key is [] = refl
by_key ban key is (line ∷ lines) =
    rw (equal_by_keys line.issued.ban ban, is, by_key ban key is lines) refl

pub without_key : (ban : Ban) → equal_key ban ≡ None → (lines : List BanLine) → map (completed_by ban) lines ≡ lines
without_key ban is [] = refl
without_key ban is (line ∷ lines) =
    rw (equal_by_keys line.issued.ban ban, is, no_key (equal_key line.issued.ban), without_key ban is lines) refl

-- ---- the code completes a line
done_set : (lines : List BanLine) (at : ℕ) (line : BanLine) → set lines at (record (get_or lines at line) { completed = true }) ≡ with_done at lines
done_set [] at line = refl
done_set (first ∷ lines) zero line = refl
done_set (first ∷ lines) (suc at) line = ap (λ (rest : List BanLine). first ∷ rest) (done_set lines at line)

pub done_read : (lines : List BanLine) (number : Option ℕ) (n at : ℕ) (line done : BanLine) → number ≡ Some n → at ≡ newer n lines → line ≡ get_or lines at line
    → done ≡ record line { completed = true } → set lines at done ≡ completed_at number lines
done_read lines number n at line done some is read made =
    ap (set lines at) (made ∙ ap (λ (l : BanLine). record l { completed = true }) read)
    ∙ done_set lines at line
    ∙ ap (λ (k : ℕ). with_done k lines) is
    ∙ ap (λ (o : Option ℕ). completed_at o lines) (sym some)

past_done : (at : ℕ) (lines : List BanLine) → length lines ≤ at → with_done at lines ≡ lines
past_done at [] past = refl
past_done zero (line ∷ lines) past = absurd (omega (arith, past))
past_done (suc at) (line ∷ lines) past = ap (λ (rest : List BanLine). line ∷ rest) (past_done at lines (omega (arith, past)))

pub done_past : (lines : List BanLine) (number : Option ℕ) (n at : ℕ) → number ≡ Some n → at ≡ newer n lines → length lines ≤ at → lines ≡ completed_at number lines
done_past lines number n at some is past =
    sym (past_done at lines past) ∙ ap (λ (k : ℕ). with_done k lines) is ∙ ap (λ (o : Option ℕ). completed_at o lines) (sym some)

-- ---- the oldest goes
pub falling_first : (bound : ℕ) (lines : List BanLine) (left : ℕ) → AreFalling bound lines → AreFalling bound (take left lines)
falling_first bound lines zero falling = tt
falling_first bound [] (suc left) falling = tt
falling_first bound (line ∷ lines) (suc left) falling = (falling.0, falling_first (number_of line) lines left falling.1)

all_first : (P : BanLine → Type 0) (lines : List BanLine) (left : ℕ) → AllByRecursion P lines → AllByRecursion P (take left lines)
all_first P lines zero all = tt
all_first P [] (suc left) all = tt
all_first P (line ∷ lines) (suc left) all = (all.0, all_first P lines left all.1)

pub completed_first : (lines : List BanLine) (left : ℕ) → AreCompleted lines → AreCompleted (take left lines)
completed_first lines zero all = tt
completed_first [] (suc left) all = tt
completed_first (line ∷ lines) (suc left) all =
    (all_first (λ older. same_key (equal_key older.issued.ban) (equal_key line.issued.ban) ≡ true → older.completed ≡ true) lines left all.0, completed_first lines left all.1)

abbrev pub without_number : Bool → Option ℕ → ℕ → Option ℕ
without_number own found number = cond (own && is_number found number) None found

last_step : (key : List ℕ) (line : BanLine) (h : Bool) → has_key key line ≡ h → without_number (has_key key line) (newest_with key (line ∷ [])) (number_of line) ≡ None
last_step key line true e = rw e (ap (λ (b : Bool). cond b None (Some (number_of line))) (eq-eqb (number_of line) (number_of line) refl))
last_step key line false e = rw e refl

pub other_number : (own : Bool) (number other : ℕ) → (number ≡ other → ⊥) → without_number own (Some number) other ≡ Some number
other_number true number other apart = ap (λ (b : Bool). cond b None (Some number)) (ne_eqb number other apart)
other_number false number other apart = refl

older_step : (key : List ℕ) (line last : BanLine) (lines : List BanLine) (h : Bool) → has_key key line ≡ h → number_of last < number_of line
    → without_number (has_key key last) (newest_with key (lines ++ last ∷ [])) (number_of last) ≡ newest_with key lines
    → without_number (has_key key last) (newest_with key (line ∷ (lines ++ last ∷ []))) (number_of last) ≡ newest_with key (line ∷ lines)
older_step key line last lines true e above rest =
    rw e (other_number (has_key key last) (number_of line) (number_of last) (λ same. absurd (omega (arith, above, same))))
older_step key line last lines false e above rest = rw e rest

last_below : (bound : ℕ) (lines : List BanLine) (last : BanLine) → AreFalling bound (lines ++ last ∷ []) → number_of last < bound
last_below bound [] last falling = falling.0
last_below bound (line ∷ lines) last falling =
    let below : number_of last < number_of line = last_below (number_of line) lines last falling.1 in
    omega (arith, falling.0, below)

pub newest_left : (bound : ℕ) (key : List ℕ) (lines : List BanLine) (last : BanLine) → AreFalling bound (lines ++ last ∷ [])
    → without_number (has_key key last) (newest_with key (lines ++ last ∷ [])) (number_of last) ≡ newest_with key lines
newest_left bound key [] last falling = last_step key last (has_key key last) refl
newest_left bound key (line ∷ lines) last falling =
    older_step key line last lines (has_key key line) refl (last_below (number_of line) lines last falling.1) (newest_left (number_of line) key lines last falling.1)
