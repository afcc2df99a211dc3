-- A list of bans, of which those that nothing needs go, while its lines are gone over from the oldest on.
use Rattle.std.proofs.Common.{◌≡◌, ◌<◌, ◌≤◌, ◌+◌, ◌-◌, ℕ, zero, suc, Bool, true, false, not, ◌&&◌, cond, List, [], ◌∷◌, ◌++◌, length, drop, Option, None, Some, refl, sym, ◌∙◌, ap, subst, arith}
use Rattle.std.specs.Prelude.{sum}
use Rattle.std.specs.List.{AllByRecursion}
use Rattle.std.proofs.lemmas.Bool.{false≢true, eq-eqb}
use Rattle.std.proofs.lemmas.List.{append_assoc, append-nil, length-append}
use Rattle.std.proofs.lemmas.List.Sums.{sum_by-append}
use Rattle.indexmap.specs.IndexMap.{IndexMap}
use Rattle.cache_law.specs.declared.ban.BanLine.{BanLine}
use Rattle.ban_list.specs.Bans.{are_needed, below, is_wanted, line_before, lines_left, count_before, counts_left}
use Rattle.ban_list.specs.Keys.{equal_key, same_key}
use Rattle.ban_list.specs.Kept.{number_of, has_key, newest_with, AreFalling, CompletesOlder, AreCompleted, AreCounts, AreFew, IsIndexOf, ForgetsUnless, is_number}
use Rattle.ban_list.proofs.LineLemmas.{falling_weaker, same_key_is, without_number, other_number}

-- ---- the last of a list
pub record IsSplit {X : Type 0} (items : List X) (n : ℕ) : Type 0 where
  pub others : List X
  pub last : X
  pub is : items ≡ others ++ last ∷ []
  pub long : length others ≡ n

pub split_last : {X : Type 0} (items : List X) (n : ℕ) → length items ≡ n + 1 → IsSplit items n
split_last [] n long = absurd (omega (arith, long))
split_last (x ∷ []) n long = record { others = []; last = x; is = refl; long = omega (arith, long) }
split_last (x ∷ y ∷ items) zero long = absurd (omega (arith, long))
split_last (x ∷ y ∷ items) (suc n) long =
    let rest = split_last (y ∷ items) n (omega (arith, long)) in
    record { others = x ∷ rest.others; last = rest.last; is = ap (λ more. x ∷ more) rest.is; long = ap suc rest.long }

-- ---- lines that are left
pub length_needed : (lines : List BanLine) (placed marked : List ℕ) → length (are_needed lines placed marked) ≡ length lines
length_needed [] placed marked = refl
length_needed (line ∷ lines) placed marked = ap suc (length_needed lines (drop 1 placed) (drop 1 marked))

falling_step : (stays : Bool) (bound : ℕ) (line : BanLine) (lines : List BanLine) → number_of line < bound → AreFalling (number_of line) lines → AreFalling bound (line_before stays line lines)
falling_step true bound line lines first rest = (first, rest)
falling_step false bound line lines first rest = falling_weaker (number_of line) bound lines (omega (arith, first)) rest

pub falling_left : (stays : List Bool) (bound : ℕ) (lines : List BanLine) → AreFalling bound lines → AreFalling bound (lines_left stays lines)
falling_left [] bound lines falling = falling
falling_left (one ∷ stays) bound [] falling = tt
falling_left (one ∷ stays) bound (line ∷ lines) falling =
    falling_step one bound line (lines_left stays lines) falling.0 (falling_left stays (number_of line) lines falling.1)

all_step : (P : BanLine → Type 0) (stays : Bool) (line : BanLine) (lines : List BanLine) → P line → AllByRecursion P lines → AllByRecursion P (line_before stays line lines)
all_step P true line lines first rest = (first, rest)
all_step P false line lines first rest = rest

all_left : (P : BanLine → Type 0) (stays : List Bool) (lines : List BanLine) → AllByRecursion P lines → AllByRecursion P (lines_left stays lines)
all_left P [] lines all = all
all_left P (one ∷ stays) [] all = tt
all_left P (one ∷ stays) (line ∷ lines) all = all_step P one line (lines_left stays lines) all.0 (all_left P stays lines all.1)

completed_step : (stays : Bool) (line : BanLine) (lines : List BanLine) → CompletesOlder line lines → AreCompleted lines → AreCompleted (line_before stays line lines)
completed_step true line lines first rest = (first, rest)
completed_step false line lines first rest = rest

pub completed_left : (stays : List Bool) (lines : List BanLine) → AreCompleted lines → AreCompleted (lines_left stays lines)
completed_left [] lines all = all
completed_left (one ∷ stays) [] all = tt
completed_left (one ∷ stays) (line ∷ lines) all =
    completed_step one line (lines_left stays lines)
    (all_left (λ older. same_key (equal_key older.issued.ban) (equal_key line.issued.ban) ≡ true → older.completed ≡ true) stays lines all.0)
    (completed_left stays lines all.1)

-- ---- counts that are left
first_sum : (count : ℕ) (counts : List ℕ) → sum (count ∷ counts) ≡ count + sum counts
first_sum count counts =
    let apart : sum (count ∷ counts) ≡ sum (count ∷ []) + sum counts = sum_by-append (λ n. n) (count ∷ []) counts in
    let one : sum (count ∷ []) ≡ 0 + count = refl in
    omega (arith, apart, one)

sum_before : (stays : Bool) (count : ℕ) (counts : List ℕ) → sum (count_before stays count counts) ≡ count + sum counts
sum_before true count counts = first_sum count counts
sum_before false count [] = first_sum count []
sum_before false count (older ∷ counts) =
    let both : sum ((count + older) ∷ counts) ≡ (count + older) + sum counts = first_sum (count + older) counts in
    let behind : sum (older ∷ counts) ≡ older + sum counts = first_sum older counts in
    omega (arith, both, behind)

sum_left : (stays : List Bool) (counts : List ℕ) → sum (counts_left stays counts) ≡ sum counts
sum_left [] counts = refl
sum_left (one ∷ stays) [] = refl
sum_left (one ∷ stays) (count ∷ counts) =
    sum_before one count (counts_left stays counts) ∙ ap (λ (n : ℕ). count + n) (sum_left stays counts) ∙ sym (first_sum count counts)

some_before : (stays : Bool) (count : ℕ) (counts : List ℕ) → 0 < length (count_before stays count counts)
some_before true count counts = omega arith
some_before false count [] = omega arith
some_before false count (older ∷ counts) = omega arith

pub some_left : (stays : List Bool) (counts : List ℕ) → 0 < length counts → 0 < length (counts_left stays counts)
some_left [] counts some = some
some_left (one ∷ stays) [] some = some
some_left (one ∷ stays) (count ∷ counts) some = some_before one count (counts_left stays counts)

one_each_step : (stays : Bool) (line : BanLine) (lines : List BanLine) (count : ℕ) (counts : List ℕ) → length counts ≡ length lines + 1
    → length (count_before stays count counts) ≡ length (line_before stays line lines) + 1
one_each_step true line lines count counts one_each = ap suc one_each ∙ omega arith
one_each_step false line lines count [] one_each = absurd (omega (arith, one_each))
one_each_step false line lines count (older ∷ counts) one_each = one_each

one_each_left : (stays : List Bool) (lines : List BanLine) (counts : List ℕ) → length stays ≡ length lines → length counts ≡ length lines + 1
    → length (counts_left stays counts) ≡ length (lines_left stays lines) + 1
one_each_left [] lines counts same one_each = one_each
one_each_left (one ∷ stays) [] counts same one_each = absurd (omega (arith, same))
one_each_left (one ∷ stays) (line ∷ lines) [] same one_each = absurd (omega (arith, one_each))
one_each_left (one ∷ stays) (line ∷ lines) (count ∷ counts) same one_each =
    one_each_step one line (lines_left stays lines) count (counts_left stays counts) (one_each_left stays lines counts (omega (arith, same)) (omega (arith, one_each)))

pub counts_left_are : (lines : List BanLine) (placed marked counts : List ℕ) (objects : ℕ) → AreCounts lines counts objects
    → AreCounts (lines_left (are_needed lines placed marked) lines) (counts_left (are_needed lines placed marked) counts) objects
counts_left_are lines placed marked counts objects are =
    record {
      one_each = one_each_left (are_needed lines placed marked) lines counts (length_needed lines placed marked) are.one_each;
      all = sum_left (are_needed lines placed marked) counts ∙ are.all;
    }

-- ---- a key of a line that goes
open_of : (completed : Bool) (wanted : Bool) → (not completed && wanted) ≡ true → completed ≡ false
open_of true wanted e = absurd (false≢true e)
open_of false wanted e = refl

other_first : (key : List ℕ) (line : BanLine) (rest : List BanLine) → has_key key line ≡ false → newest_with key rest ≡ None → newest_with key (line ∷ rest) ≡ None
other_first key line rest e none = rw e none

others_key : (h : Bool) → (h ≡ true → ⊥) → h ≡ false
others_key true apart = absurd (apart refl)
others_key false apart = refl

none_step : (key : List ℕ) (line : BanLine) (rest : List BanLine) (stays : Bool) → (stays ≡ true → line.completed ≡ false) → (has_key key line ≡ true → line.completed ≡ true)
    → newest_with key rest ≡ None → newest_with key (line_before stays line rest) ≡ None
none_step key line rest true still done none =
    other_first key line rest (others_key (has_key key line) (λ h. false≢true (sym (still refl) ∙ done h))) none
none_step key line rest false still done none = none

-- no line that is left has the key of a newer one
none_left : (key : List ℕ) (own : Option (List ℕ)) (lines : List BanLine) (placed marked : List ℕ) → own ≡ Some key
    → AllByRecursion (λ older. same_key (equal_key older.issued.ban) own ≡ true → older.completed ≡ true) lines
    → newest_with key (lines_left (are_needed lines placed marked) lines) ≡ None
none_left key own [] placed marked is all = refl
none_left key own (line ∷ lines) placed marked is all =
    none_step key line (lines_left (are_needed lines (drop 1 placed) (drop 1 marked)) lines) (is_wanted line (below 0 placed) (below 0 marked))
    (open_of line.completed _)
    (λ h. all.0 (ap (λ (k : Option (List ℕ)). same_key (equal_key line.issued.ban) k) is ∙ h))
    (none_left key own lines (drop 1 placed) (drop 1 marked) is all.1)

gone_first : (key : List ℕ) (line : BanLine) (rest : List BanLine) (h : Bool) → has_key key line ≡ h → (h ≡ true → newest_with key rest ≡ None)
    → without_number (has_key key line) (newest_with key (line ∷ rest)) (number_of line) ≡ newest_with key rest
gone_first key line rest true e none = rw e (gone_own (number_of line) ∙ sym (none refl)) where
  gone_own : (number : ℕ) → cond (is_number (Some number) number) None (Some number) ≡ None
  gone_own number = ap (λ (b : Bool). cond b None (Some number)) (eq-eqb number number refl)
gone_first key line rest false e none = rw e refl

gone_newer : (key : List ℕ) (newer line : BanLine) (rest left : List BanLine) (h : Bool) → has_key key newer ≡ h → number_of line < number_of newer
    → without_number (has_key key line) (newest_with key rest) (number_of line) ≡ newest_with key left
    → without_number (has_key key line) (newest_with key (newer ∷ rest)) (number_of line) ≡ newest_with key (newer ∷ left)
gone_newer key newer line rest left true e above same =
    rw e (other_number (has_key key line) (number_of newer) (number_of line) (λ equal. absurd (omega (arith, above, equal))))
gone_newer key newer line rest left false e above same = rw e same

number_below : (bound : ℕ) (newer : List BanLine) (line : BanLine) (older : List BanLine) → AreFalling bound (newer ++ line ∷ older) → number_of line < bound
number_below bound [] line older falling = falling.0
number_below bound (first ∷ newer) line older falling =
    let behind : number_of line < number_of first = number_below (number_of first) newer line older falling.1 in
    omega (arith, falling.0, behind)

key_gone : (bound : ℕ) (key : List ℕ) (newer : List BanLine) (line : BanLine) (older left : List BanLine) → AreFalling bound (newer ++ line ∷ older)
    → (has_key key line ≡ true → newest_with key left ≡ None)
    → without_number (has_key key line) (newest_with key (newer ++ line ∷ left)) (number_of line) ≡ newest_with key (newer ++ left)
key_gone bound key [] line older left falling none = gone_first key line left (has_key key line) refl none
key_gone bound key (first ∷ newer) line older left falling none =
    gone_newer key first line (newer ++ line ∷ left) (newer ++ left) (has_key key first) refl
    (number_below (number_of first) newer line older falling.1) (key_gone (number_of first) key newer line older left falling.1 none)

completes_behind : (newer : List BanLine) (line : BanLine) (older : List BanLine) → AreCompleted (newer ++ line ∷ older) → CompletesOlder line older
completes_behind [] line older all = all.0
completes_behind (first ∷ newer) line older all = completes_behind newer line older all.1

module _ {S : Type 0} where
  index_turned : (bound : ℕ) (newer : List BanLine) (line : BanLine) (older : List BanLine) (placed marked : List ℕ) (stays : Bool) (old new : IndexMap (List ℕ) ℕ S)
      → AreFalling bound (newer ++ line ∷ older) → AreCompleted (newer ++ line ∷ older)
      → IsIndexOf (newer ++ line ∷ lines_left (are_needed older placed marked) older) old
      → ForgetsUnless stays old (equal_key line.issued.ban) line.issued.number new
      → IsIndexOf (newer ++ line_before stays line (lines_left (are_needed older placed marked) older)) new
  index_turned bound newer line older placed marked true old new falling completed index is = λ key. is key ∙ index key
  index_turned bound newer line older placed marked false old new falling completed index is = λ key.
      is key
      ∙ ap (λ (found : Option ℕ). without_number (has_key key line) found (number_of line)) (index key)
      ∙ key_gone bound key newer line older (lines_left (are_needed older placed marked) older) falling
      (λ h. none_left key (equal_key line.issued.ban) older placed marked (same_key_is (equal_key line.issued.ban) (Some key) h) (completes_behind newer line older completed))

-- ---- the lines are gone over
before_more : (stays : Bool) (line : BanLine) (left newer : List BanLine) → line_before stays line (left ++ newer) ≡ line_before stays line left ++ newer
before_more true line left newer = refl
before_more false line left newer = refl

count_more : (stays : Bool) (count : ℕ) (left newer : List ℕ) → 0 < length left → count_before stays count (left ++ newer) ≡ count_before stays count left ++ newer
count_more stays count [] newer some = absurd (omega (arith, some))
count_more true count (first ∷ left) newer some = refl
count_more false count (first ∷ left) newer some = refl

module _ {S : Type 0} where
  -- So many of the newest lines are still to be gone over; those of the older ones that are needed stand before them.
  pub record Turns (all_lines : List BanLine) (all_placed all_marked : List ℕ) (left : ℕ) (lines : List BanLine) (placed marked : List ℕ) (placed_below marked_below : ℕ)
      (equals : IndexMap (List ℕ) ℕ S) : Type 0 where
    pub newer : List BanLine
    pub older : List BanLine
    pub newer_placed : List ℕ
    pub older_placed : List ℕ
    pub newer_marked : List ℕ
    pub older_marked : List ℕ
    pub whole : all_lines ≡ newer ++ older
    pub whole_placed : all_placed ≡ newer_placed ++ older_placed
    pub whole_marked : all_marked ≡ newer_marked ++ older_marked
    pub long : length newer ≡ left
    pub long_placed : length newer_placed ≡ left
    pub long_marked : length newer_marked ≡ left
    pub some_placed : 0 < length older_placed
    pub some_marked : 0 < length older_marked
    pub lines_are : lines ≡ lines_left (are_needed older older_placed older_marked) older ++ newer
    pub placed_are : placed ≡ counts_left (are_needed older older_placed older_marked) older_placed ++ newer_placed
    pub marked_are : marked ≡ counts_left (are_needed older older_placed older_marked) older_marked ++ newer_marked
    pub placed_sum : placed_below ≡ sum older_placed
    pub marked_sum : marked_below ≡ sum older_marked
    pub index : IsIndexOf (newer ++ lines_left (are_needed older older_placed older_marked) older) equals

  -- what a turn of the oldest line and of a last count says, at each front and last of the list
  abbrev pub TurnsLine : List BanLine → IndexMap (List ℕ) ℕ S → ℕ → ℕ → Bool → List BanLine → IndexMap (List ℕ) ℕ S → Type 0
  TurnsLine old old_equals placed_below marked_below stays new new_equals = (others : List BanLine) (oldest : BanLine) → old ≡ others ++ oldest ∷ []
      → (stays ≡ is_wanted oldest placed_below marked_below) × (new ≡ line_before stays oldest others)
      × ForgetsUnless stays old_equals (equal_key oldest.issued.ban) oldest.issued.number new_equals

abbrev pub TurnsCount : List ℕ → Bool → ℕ → List ℕ → Type 0
TurnsCount old stays count new = (others : List ℕ) (last : ℕ) → old ≡ others ++ last ∷ [] → (count ≡ last) × (new ≡ count_before stays last others)

turned_sum : (stays : List Bool) (all newer older placed : List ℕ) → all ≡ newer ++ older → placed ≡ counts_left stays older ++ newer → sum placed ≡ sum all
turned_sum stays all newer older placed whole is =
    let apart : sum (counts_left stays older ++ newer) ≡ sum (counts_left stays older) + sum newer = sum_by-append (λ n. n) (counts_left stays older) newer in
    let both : sum (newer ++ older) ≡ sum newer + sum older = sum_by-append (λ n. n) newer older in
    let left : sum (counts_left stays older) ≡ sum older = sum_left stays older in
    let now : sum placed ≡ sum (counts_left stays older ++ newer) = ap sum is in
    let all_is : sum all ≡ sum (newer ++ older) = ap sum whole in
    omega (arith, apart, both, left, now, all_is)

none_newer_left : {X : Type 0} (newer older all : List X) → length newer ≡ 0 → all ≡ newer ++ older → older ≡ all
none_newer_left [] older all none whole = sym whole
none_newer_left (x ∷ newer) older all none whole = absurd (omega (arith, none))

none_behind : {X : Type 0} (left newer items : List X) → length newer ≡ 0 → items ≡ left ++ newer → items ≡ left
none_behind left [] items none is = is ∙ append-nil left
none_behind left (x ∷ newer) items none is = absurd (omega (arith, none))

-- what counts at the next line and below it is no more than what counts in all
pub count_within : (all newer older counts kept : List ℕ) (left below count : ℕ) (stays : Bool) (turned : List ℕ) → all ≡ newer ++ older → length newer ≡ left → 0 < left
    → counts ≡ kept ++ newer → below ≡ sum older → TurnsCount counts stays count turned → below + count ≤ sum all
count_within all newer older counts kept left below count stays turned whole long some is below_is turn =
    let split = split_last newer (left - 1) (omega (arith, long, some)) in
    let last = turn (kept ++ split.others) split.last (is ∙ ap (λ (more : List ℕ). kept ++ more) split.is ∙ sym (append_assoc kept split.others (split.last ∷ []))) in
    let both : sum (newer ++ older) ≡ sum newer + sum older = sum_by-append (λ n. n) newer older in
    let all_is : sum all ≡ sum (newer ++ older) = ap sum whole in
    let newer_is : sum newer ≡ sum (split.others ++ split.last ∷ []) = ap sum split.is in
    let apart : sum (split.others ++ split.last ∷ []) ≡ sum split.others + sum (split.last ∷ []) = sum_by-append (λ n. n) split.others (split.last ∷ []) in
    let one : sum (split.last ∷ []) ≡ split.last + sum [] = first_sum split.last [] in
    omega (arith, both, all_is, newer_is, apart, one, last.0, below_is)

-- ---- the first turn, of what counts below all
module _ {S : Type 0} where
  pub turns_first : (bans : List BanLine) (placed marked : List ℕ) (equals : IndexMap (List ℕ) ℕ S) (left below_placed below_marked : ℕ) (turned_placed turned_marked : List ℕ)
      → AreFew bans placed → AreFew bans marked → IsIndexOf bans equals → left ≡ length bans
      → TurnsCount placed true below_placed turned_placed → TurnsCount marked true below_marked turned_marked
      → Turns bans placed marked left bans turned_placed turned_marked below_placed below_marked equals
  turns_first bans placed marked equals left below_placed below_marked turned_placed turned_marked places marks index is turn_placed turn_marked =
      let split_placed = split_last placed (length bans) places.one_each in
      let split_marked = split_last marked (length bans) marks.one_each in
      let place = turn_placed split_placed.others split_placed.last split_placed.is in
      let mark = turn_marked split_marked.others split_marked.last split_marked.is in
      record {
        newer = bans;
        older = [];
        newer_placed = split_placed.others;
        older_placed = split_placed.last ∷ [];
        newer_marked = split_marked.others;
        older_marked = split_marked.last ∷ [];
        whole = sym (append-nil bans);
        whole_placed = split_placed.is;
        whole_marked = split_marked.is;
        long = sym is;
        long_placed = split_placed.long ∙ sym is;
        long_marked = split_marked.long ∙ sym is;
        some_placed = omega arith;
        some_marked = omega arith;
        lines_are = refl;
        placed_are = place.1;
        marked_are = mark.1;
        placed_sum = omega (arith, place.0);
        marked_sum = omega (arith, mark.0);
        index = subst (λ (lines : List BanLine). IsIndexOf lines equals) (sym (append-nil bans)) index;
      }

  -- ---- one more turn
  pub turns_on : (bound : ℕ) (bans : List BanLine) (all_placed all_marked : List ℕ) (before left below_placed below_marked : ℕ) (lines turned : List BanLine) (placed turned_placed marked turned_marked : List ℕ)
      (equals turned_equals : IndexMap (List ℕ) ℕ S) (stays : Bool) (count_placed count_marked : ℕ)
      → AreFalling bound bans → AreCompleted bans → before ≡ left + 1
      → Turns bans all_placed all_marked before lines placed marked below_placed below_marked equals
      → TurnsLine lines equals below_placed below_marked stays turned turned_equals
      → TurnsCount placed stays count_placed turned_placed → TurnsCount marked stays count_marked turned_marked
      → Turns bans all_placed all_marked left turned turned_placed turned_marked (below_placed + count_placed) (below_marked + count_marked) turned_equals
  turns_on bound bans all_placed all_marked before left below_placed below_marked lines turned placed turned_placed marked turned_marked equals turned_equals stays count_placed count_marked
      falling completed one_less turns turn_line turn_placed turn_marked =
      let split = split_last turns.newer left (turns.long ∙ one_less) in
      let split_placed = split_last turns.newer_placed left (turns.long_placed ∙ one_less) in
      let split_marked = split_last turns.newer_marked left (turns.long_marked ∙ one_less) in
      let stay = are_needed turns.older turns.older_placed turns.older_marked in
      let kept = lines_left stay turns.older in
      let kept_placed = counts_left stay turns.older_placed in
      let kept_marked = counts_left stay turns.older_marked in
      let line = turn_line (kept ++ split.others) split.last (turns.lines_are ∙ ap (λ (more : List BanLine). kept ++ more) split.is ∙ sym (append_assoc kept split.others (split.last ∷ []))) in
      let place = turn_placed (kept_placed ++ split_placed.others) split_placed.last
      (turns.placed_are ∙ ap (λ (more : List ℕ). kept_placed ++ more) split_placed.is ∙ sym (append_assoc kept_placed split_placed.others (split_placed.last ∷ []))) in
      let mark = turn_marked (kept_marked ++ split_marked.others) split_marked.last
      (turns.marked_are ∙ ap (λ (more : List ℕ). kept_marked ++ more) split_marked.is ∙ sym (append_assoc kept_marked split_marked.others (split_marked.last ∷ []))) in
      let needed : stays ≡ is_wanted split.last (sum turns.older_placed) (sum turns.older_marked) =
      line.0 ∙ ap (λ (n : ℕ). is_wanted split.last n below_marked) turns.placed_sum ∙ ap (λ (n : ℕ). is_wanted split.last (sum turns.older_placed) n) turns.marked_sum in
      let whole : bans ≡ split.others ++ split.last ∷ turns.older =
      turns.whole ∙ ap (λ (more : List BanLine). more ++ turns.older) split.is ∙ append_assoc split.others (split.last ∷ []) turns.older in
      let indexed : IsIndexOf (split.others ++ split.last ∷ kept) equals =
      subst (λ (more : List BanLine). IsIndexOf more equals) (ap (λ (more : List BanLine). more ++ kept) split.is ∙ append_assoc split.others (split.last ∷ []) kept) turns.index in
      record {
        newer = split.others;
        older = split.last ∷ turns.older;
        newer_placed = split_placed.others;
        older_placed = split_placed.last ∷ turns.older_placed;
        newer_marked = split_marked.others;
        older_marked = split_marked.last ∷ turns.older_marked;
        whole = whole;
        whole_placed = turns.whole_placed ∙ ap (λ (more : List ℕ). more ++ turns.older_placed) split_placed.is ∙ append_assoc split_placed.others (split_placed.last ∷ []) turns.older_placed;
        whole_marked = turns.whole_marked ∙ ap (λ (more : List ℕ). more ++ turns.older_marked) split_marked.is ∙ append_assoc split_marked.others (split_marked.last ∷ []) turns.older_marked;
        long = split.long;
        long_placed = split_placed.long;
        long_marked = split_marked.long;
        some_placed = omega arith;
        some_marked = omega arith;
        lines_are = line.1 ∙ before_more stays split.last kept split.others ∙ ap (λ (b : Bool). line_before b split.last kept ++ split.others) needed;
        placed_are =
            place.1 ∙ count_more stays split_placed.last kept_placed split_placed.others (some_left stay turns.older_placed turns.some_placed)
            ∙ ap (λ (b : Bool). count_before b split_placed.last kept_placed ++ split_placed.others) needed;
        marked_are =
            mark.1 ∙ count_more stays split_marked.last kept_marked split_marked.others (some_left stay turns.older_marked turns.some_marked)
            ∙ ap (λ (b : Bool). count_before b split_marked.last kept_marked ++ split_marked.others) needed;
        placed_sum = omega (arith, turns.placed_sum, place.0, first_sum split_placed.last turns.older_placed);
        marked_sum = omega (arith, turns.marked_sum, mark.0, first_sum split_marked.last turns.older_marked);
        index =
            subst (λ (b : Bool). IsIndexOf (split.others ++ line_before b split.last kept) turned_equals) needed
            (index_turned bound split.others split.last turns.older turns.older_placed turns.older_marked stays equals turned_equals
            (subst (AreFalling bound) whole falling) (subst AreCompleted whole completed) indexed line.2);
      }

  -- ---- what a turn may count on
  pub some_lines : (bans : List BanLine) (all_placed all_marked : List ℕ) (left below_placed below_marked : ℕ) (lines : List BanLine) (placed marked : List ℕ) (equals : IndexMap (List ℕ) ℕ S)
      → Turns bans all_placed all_marked left lines placed marked below_placed below_marked equals → 0 < left → 0 < length lines
  some_lines bans all_placed all_marked left below_placed below_marked lines placed marked equals turns some =
      let both = length-append (lines_left (are_needed turns.older turns.older_placed turns.older_marked) turns.older) turns.newer in
      let long = ap length turns.lines_are in
      omega (arith, both, long, turns.long, some)

  pub sums_same : (bans : List BanLine) (all_placed all_marked : List ℕ) (left below_placed below_marked : ℕ) (lines : List BanLine) (placed marked : List ℕ) (equals : IndexMap (List ℕ) ℕ S)
      → Turns bans all_placed all_marked left lines placed marked below_placed below_marked equals → (sum placed ≡ sum all_placed) × (sum marked ≡ sum all_marked)
  sums_same bans all_placed all_marked left below_placed below_marked lines placed marked equals turns =
      let stay = are_needed turns.older turns.older_placed turns.older_marked in (
        turned_sum stay all_placed turns.newer_placed turns.older_placed placed turns.whole_placed turns.placed_are,
        turned_sum stay all_marked turns.newer_marked turns.older_marked marked turns.whole_marked turns.marked_are,
      )

  pub some_counts : (bans : List BanLine) (all_placed all_marked : List ℕ) (left below_placed below_marked : ℕ) (lines : List BanLine) (placed marked : List ℕ) (equals : IndexMap (List ℕ) ℕ S)
      → Turns bans all_placed all_marked left lines placed marked below_placed below_marked equals → (0 < length placed) × (0 < length marked)
  some_counts bans all_placed all_marked left below_placed below_marked lines placed marked equals turns =
      let stay = are_needed turns.older turns.older_placed turns.older_marked in
      let place = some_left stay turns.older_placed turns.some_placed in
      let mark = some_left stay turns.older_marked turns.some_marked in
      let long_placed = ap length turns.placed_are ∙ length-append (counts_left stay turns.older_placed) turns.newer_placed in
      let long_marked = ap length turns.marked_are ∙ length-append (counts_left stay turns.older_marked) turns.newer_marked in
      (omega (arith, place, long_placed), omega (arith, mark, long_marked))

  -- ---- all are gone over
  none_before : (left newer : List BanLine) (equals : IndexMap (List ℕ) ℕ S) → length newer ≡ 0 → IsIndexOf (newer ++ left) equals → IsIndexOf left equals
  none_before left [] equals none index = index
  none_before left (x ∷ newer) equals none index = absurd (omega (arith, none))

  pub record IsTurned (bans : List BanLine) (all_placed all_marked : List ℕ) (lines : List BanLine) (placed marked : List ℕ) (equals : IndexMap (List ℕ) ℕ S) : Type 0 where
    pub lines_are : lines ≡ lines_left (are_needed bans all_placed all_marked) bans
    pub index : IsIndexOf lines equals
    pub placed_are : placed ≡ counts_left (are_needed bans all_placed all_marked) all_placed
    pub marked_are : marked ≡ counts_left (are_needed bans all_placed all_marked) all_marked

  pub turns_end : (bans : List BanLine) (all_placed all_marked : List ℕ) (left below_placed below_marked : ℕ) (lines : List BanLine) (placed marked : List ℕ) (equals : IndexMap (List ℕ) ℕ S)
      → Turns bans all_placed all_marked left lines placed marked below_placed below_marked equals → left ≡ 0 → IsTurned bans all_placed all_marked lines placed marked equals
  turns_end bans all_placed all_marked left below_placed below_marked lines placed marked equals turns end =
      let stay = are_needed turns.older turns.older_placed turns.older_marked in
      let none = turns.long ∙ end in
      let none_placed = turns.long_placed ∙ end in
      let none_marked = turns.long_marked ∙ end in
      let older : turns.older ≡ bans = none_newer_left turns.newer turns.older bans none turns.whole in
      let older_placed : turns.older_placed ≡ all_placed = none_newer_left turns.newer_placed turns.older_placed all_placed none_placed turns.whole_placed in
      let older_marked : turns.older_marked ≡ all_marked = none_newer_left turns.newer_marked turns.older_marked all_marked none_marked turns.whole_marked in
      let same : stay ≡ are_needed bans all_placed all_marked =
      ap (λ (lines : List BanLine). are_needed lines turns.older_placed turns.older_marked) older
      ∙ ap (λ (counts : List ℕ). are_needed bans counts turns.older_marked) older_placed
      ∙ ap (are_needed bans all_placed) older_marked in
      let here = none_behind (lines_left stay turns.older) turns.newer lines none turns.lines_are in
      record {
        lines_are = here ∙ ap (λ (stays : List Bool). lines_left stays turns.older) same ∙ ap (lines_left (are_needed bans all_placed all_marked)) older;
        index = subst (λ (list : List BanLine). IsIndexOf list equals) (sym here) (none_before (lines_left stay turns.older) turns.newer equals none turns.index);
        placed_are =
            none_behind (counts_left stay turns.older_placed) turns.newer_placed placed none_placed turns.placed_are
            ∙ ap (λ (stays : List Bool). counts_left stays turns.older_placed) same ∙ ap (counts_left (are_needed bans all_placed all_marked)) older_placed;
        marked_are =
            none_behind (counts_left stay turns.older_marked) turns.newer_marked marked none_marked turns.marked_are
            ∙ ap (λ (stays : List Bool). counts_left stays turns.older_marked) same ∙ ap (counts_left (are_needed bans all_placed all_marked)) older_marked;
      }
