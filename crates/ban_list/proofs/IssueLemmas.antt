-- What is kept of the lines and of the numbers under keys, where a ban is issued and where the oldest line goes.
use Rattle.std.proofs.Common.{◌≡◌, ◌<◌, ◌≤◌, ◌+◌, ℕ, Bool, true, false, cond, List, [], ◌∷◌, ◌++◌, map, Option, None, Some, refl, sym, ◌∙◌, ap, arith}
use Rattle.std.specs.Str.{bytes_eq}
use Rattle.indexmap.specs.IndexMap.{IndexMap, get}
use Rattle.cache_law.specs.declared.ban.Ban.{Ban}
use Rattle.cache_law.specs.declared.ban.BanLine.{BanLine}
use Rattle.cache_law.specs.Bans.{is_equal}
use Rattle.ban_list.specs.Bans.{completed_by}
use Rattle.ban_list.specs.Keys.{equal_key}
use Rattle.ban_list.specs.Kept.{number_of, has_key, newest_with, AreFalling, AreCompleted, IsIndexOf, completed_at, found_under, Puts, Forgets}
use Rattle.ban_list.proofs.LineLemmas.{falling_weaker, falling_done, completed_done, completes_equals, newest_done, newest_left, completed_found, found_below, done_older, by_key, without_key, without_number}

pub issued_falling : (line : BanLine) (lines : List BanLine) (ban : Ban) (bound number : ℕ) → line.issued.number ≡ number → bound ≤ number → AreFalling bound lines
    → AreFalling (number + 1) (line ∷ map (completed_by ban) lines)
issued_falling line lines ban bound number is above falling =
    let first : line.issued.number < number + 1 = omega (arith, is) in
    (first, rw is (falling_done (λ older. is_equal older.issued.ban ban) number lines (falling_weaker bound number lines above falling)))

pub issued_completed : (line : BanLine) (lines : List BanLine) (ban : Ban) → line.issued.ban ≡ ban → AreCompleted lines → AreCompleted (line ∷ map (completed_by ban) lines)
issued_completed line lines ban is all =
    (completes_equals ban (equal_key line.issued.ban) (ap equal_key is) lines, completed_done (λ older. is_equal older.issued.ban ban) lines all)

first_newest : (key : List ℕ) (line : BanLine) (rest lines : List BanLine) (h : Bool) → has_key key line ≡ h → newest_with key rest ≡ newest_with key lines
    → cond h (Some (number_of line)) (newest_with key lines) ≡ newest_with key (line ∷ rest)
first_newest key line rest lines true e same = rw e refl
first_newest key line rest lines false e same = rw e (sym same)

module _ {S : Type 0} where
  pub issued_index : (line : BanLine) (lines : List BanLine) (ban : Ban) (number : ℕ) (old new : IndexMap (List ℕ) ℕ S) → IsIndexOf lines old → number ≡ line.issued.number
      → Puts old (equal_key line.issued.ban) number new → IsIndexOf (line ∷ map (completed_by ban) lines) new
  issued_index line lines ban number old new index is puts = λ key.
      puts key
      ∙ ap (λ (n : ℕ). cond (has_key key line) (Some n) (get bytes_eq old key)) is
      ∙ ap (λ (found : Option ℕ). cond (has_key key line) (Some (number_of line)) found) (index key)
      ∙ first_newest key line (map (completed_by ban) lines) lines (has_key key line) refl (newest_done (λ older. is_equal older.issued.ban ban) key lines)

  completes_so : (ban : Ban) (key : Option (List ℕ)) (lines : List BanLine) (bound : ℕ) (equals : IndexMap (List ℕ) ℕ S) → equal_key ban ≡ key → AreFalling bound lines → AreCompleted lines
      → IsIndexOf lines equals → completed_at (found_under key equals) lines ≡ map (completed_by ban) lines
  completes_so ban None lines bound equals is falling all index = sym (without_key ban is lines)
  completes_so ban (Some key) lines bound equals is falling all index =
      ap (λ (found : Option ℕ). completed_at found lines) (index key) ∙ completed_found bound key lines falling all ∙ sym (by_key ban key is lines)

  pub completes_all : (ban : Ban) (lines : List BanLine) (bound : ℕ) (equals : IndexMap (List ℕ) ℕ S) (earlier : Option ℕ) → earlier ≡ found_under (equal_key ban) equals
      → AreFalling bound lines → AreCompleted lines → IsIndexOf lines equals → completed_at earlier lines ≡ map (completed_by ban) lines
  completes_all ban lines bound equals earlier is falling all index =
      ap (λ (found : Option ℕ). completed_at found lines) is ∙ completes_so ban (equal_key ban) lines bound equals refl falling all index

  earlier_below : (key : Option (List ℕ)) (lines : List BanLine) (bound number : ℕ) (equals : IndexMap (List ℕ) ℕ S) → AreFalling bound lines → IsIndexOf lines equals
      → found_under key equals ≡ Some number → number < bound
  earlier_below None lines bound number equals falling index found = cc
  earlier_below (Some key) lines bound number equals falling index found = found_below bound key lines number falling (sym (index key) ∙ found)

  pub issued_lines : (line : BanLine) (lines : List BanLine) (ban : Ban) (bound : ℕ) (equals : IndexMap (List ℕ) ℕ S) (earlier : Option ℕ)
      → bound ≤ line.issued.number → line.issued.ban ≡ ban → AreFalling bound lines → AreCompleted lines → IsIndexOf lines equals
      → earlier ≡ found_under (equal_key line.issued.ban) equals → completed_at earlier (line ∷ lines) ≡ line ∷ map (completed_by ban) lines
  issued_lines line lines ban bound equals earlier above is falling all index found =
      done_older line lines earlier (λ n same. omega (arith, above, earlier_below (equal_key line.issued.ban) lines bound n equals falling index (sym found ∙ same)))
      ∙ ap (λ (rest : List BanLine). line ∷ rest) (completes_all ban lines bound equals earlier (found ∙ ap (λ (b : Ban). found_under (equal_key b) equals) is) falling all index)

  pub left_index : (lines : List BanLine) (last : BanLine) (bound : ℕ) (old new : IndexMap (List ℕ) ℕ S) → AreFalling bound (lines ++ last ∷ []) → IsIndexOf (lines ++ last ∷ []) old
      → Forgets old (equal_key last.issued.ban) last.issued.number new → IsIndexOf lines new
  left_index lines last bound old new falling index forgets = λ key.
      forgets key
      ∙ ap (λ (found : Option ℕ). without_number (has_key key last) found (number_of last)) (index key)
      ∙ newest_left bound key lines last falling
