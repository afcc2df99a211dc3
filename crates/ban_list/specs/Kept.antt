-- What a list of bans keeps beside its lines, as functions of keys and of lines.
use Rattle.std.specs.Prelude.{◌≡◌, ◌<◌, ◌+◌, ◌^◌, ℕ, zero, suc, Bool, true, false, ◌&&◌, cond, nat_eq, List, [], ◌∷◌, ⊤, length, sum, find, Option, None, Some}
use Rattle.std.specs.List.{AllByRecursion}
use Rattle.std.specs.Option.{option_map}
use Rattle.std.specs.Str.{bytes_eq}
use Rattle.indexmap.specs.IndexMap.{IndexMap, get}
use Rattle.cache_law.specs.declared.ban.BanLine.{BanLine}
use Rattle.ban_list.specs.Keys.{equal_key, same_key}
use Rattle.ban_list.specs.Bans.{Bans, newer}

abbrev pub number_of : BanLine → ℕ
number_of line = line.issued.number

-- the line's ban has the key
abbrev pub has_key : List ℕ → BanLine → Bool
has_key key line = same_key (equal_key line.issued.ban) (Some key)

-- the number of the newest ban with the key
abbrev pub newest_with : List ℕ → List BanLine → Option ℕ
newest_with key lines = option_map number_of (find (has_key key) lines)

-- the numbers fall, the first being below the bound
abbrev pub AreFalling : ℕ → List BanLine → Type 0
AreFalling bound [] = ⊤
AreFalling bound (line ∷ lines) = (number_of line < bound) × AreFalling (number_of line) lines

-- where a line has the key of a newer one, it is completed
abbrev pub CompletesOlder : BanLine → List BanLine → Type 0
CompletesOlder line lines = AllByRecursion (λ older. same_key (equal_key older.issued.ban) (equal_key line.issued.ban) ≡ true → older.completed ≡ true) lines

abbrev pub AreCompleted : List BanLine → Type 0
AreCompleted [] = ⊤
AreCompleted (line ∷ lines) = CompletesOlder line lines × AreCompleted lines

module _ {S : Type 0} where
  -- under each key stands the number of the newest ban that has it
  abbrev pub IsIndexOf : List BanLine → IndexMap (List ℕ) ℕ S → Type 0
  IsIndexOf lines equals = (key : List ℕ) → get bytes_eq equals key ≡ newest_with key lines

-- there is a count for each line and one behind, and all objects count
pub record AreCounts (lines : List BanLine) (counts : List ℕ) (objects : ℕ) : Type 0 where
  pub one_each : length counts ≡ length lines + 1
  pub all : sum counts ≡ objects

-- the same of counts whose sum is a number of 64 bits
pub record AreFew (lines : List BanLine) (counts : List ℕ) : Type 0 where
  pub one_each : length counts ≡ length lines + 1
  pub few : sum counts < 2 ^ 64

-- the same of a value
pub record IsWhole (bans : Bans) : Type 0 where
  pub places : length bans.placed ≡ length bans.lines + 1
  pub marks : length bans.marked ≡ length bans.lines + 1

-- ---- what one step does
-- the lines with the one at a place completed, which is that of a number
abbrev pub with_done : ℕ → List BanLine → List BanLine
with_done at [] = []
with_done zero (line ∷ lines) = record line { completed = true } ∷ lines
with_done (suc at) (line ∷ lines) = line ∷ with_done at lines

abbrev pub completed_at : Option ℕ → List BanLine → List BanLine
completed_at None lines = lines
completed_at (Some number) lines = with_done (newer number lines) lines

abbrev pub is_number : Option ℕ → ℕ → Bool
is_number None number = false
is_number (Some own) number = nat_eq own number

module _ {S : Type 0} where
  -- what stands under a key, where there is one
  abbrev pub found_under : Option (List ℕ) → IndexMap (List ℕ) ℕ S → Option ℕ
  found_under None equals = None
  found_under (Some key) equals = get bytes_eq equals key

  -- the number has come to stand under the key, and all else is as before
  abbrev pub Puts : IndexMap (List ℕ) ℕ S → Option (List ℕ) → ℕ → IndexMap (List ℕ) ℕ S → Type 0
  Puts old own number new = (key : List ℕ) → get bytes_eq new key ≡ cond (same_key own (Some key)) (Some number) (get bytes_eq old key)

  -- nothing stands under the key any more where the number did, and all else is as before
  abbrev pub Forgets : IndexMap (List ℕ) ℕ S → Option (List ℕ) → ℕ → IndexMap (List ℕ) ℕ S → Type 0
  Forgets old own number new = (key : List ℕ) → get bytes_eq new key ≡ cond (same_key own (Some key) && is_number (get bytes_eq old key) number) None (get bytes_eq old key)

  abbrev pub IsSame : IndexMap (List ℕ) ℕ S → IndexMap (List ℕ) ℕ S → Type 0
  IsSame old new = (key : List ℕ) → get bytes_eq new key ≡ get bytes_eq old key

  -- the same, unless the line stays
  abbrev pub ForgetsUnless : Bool → IndexMap (List ℕ) ℕ S → Option (List ℕ) → ℕ → IndexMap (List ℕ) ℕ S → Type 0
  ForgetsUnless true old own number new = IsSame old new
  ForgetsUnless false old own number new = Forgets old own number new
