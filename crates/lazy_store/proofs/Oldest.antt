-- An object waits for the oldest line that a cut leaves.
use Rattle.std.proofs.Common.{◌≡◌, ◌≤◌, ◌<◌, ◌+◌, ◌-◌, ◌++◌, ℕ, zero, suc, true, false, List, [], ◌∷◌, Option, Some, map, length, take, arith, sym, ap, ◌∙◌, subst}
use Rattle.std.specs.Prelude.{slice_get}
use Rattle.std.specs.Option.{option_map_or}
use Rattle.cache_law.specs.declared.ban.BanLine.{BanLine}
use Rattle.ban_list.specs.Bans as bans
use Rattle.ban_list.specs.Bans.{Bans, below, is_wanted}
use Rattle.ban_list.specs.Kept.{AreFalling}
use Rattle.ban_list.specs.Stands.{AreAt}
use Rattle.lazy_store.specs.Cutting.{IsOldestNeeded}
use Rattle.lazy_store.specs.Members.{Member, lazy_of, stand_of}
use Rattle.lazy_store.proofs.Needed.{wanted_there}

head_of : (x y : BanLine) (xs ys : List BanLine) → ◌≡◌ {A = List BanLine} (x ∷ xs) (y ∷ ys) → x ≡ y
head_of x y xs ys e = cc

tail_of : (x y : BanLine) (xs ys : List BanLine) → ◌≡◌ {A = List BanLine} (x ∷ xs) (y ∷ ys) → xs ≡ ys
tail_of x y xs ys e = cc

none_last : (P : Type 0) (newer : List BanLine) (oldest : BanLine) → ◌≡◌ {A = List BanLine} [] (newer ++ oldest ∷ []) → P
none_last P [] oldest is = absurd cc
none_last P (x ∷ newer) oldest is = absurd cc

-- the last of the lines that are taken stands there among all
taken_last : (at : ℕ) (lines newer : List BanLine) (oldest : BanLine) → at < length lines → take (suc at) lines ≡ newer ++ oldest ∷ [] → slice_get lines at ≡ Some oldest
taken_last at [] newer oldest less is = absurd (omega (arith, less))
taken_last zero (line ∷ lines) [] oldest less is = ap (λ (l : BanLine). Some l) (head_of line oldest [] [] is)
taken_last zero (line ∷ lines) (x ∷ newer) oldest less is = none_last _ newer oldest (tail_of line x [] (newer ++ oldest ∷ []) is)
taken_last (suc at) (line ∷ []) newer oldest less is = absurd (omega (arith, less))
taken_last (suc at) (line ∷ next ∷ lines) [] oldest less is = absurd cc
taken_last (suc at) (line ∷ next ∷ lines) (x ∷ newer) oldest less is =
    taken_last at (next ∷ lines) newer oldest (omega (arith, less)) (tail_of line x (take (suc at) (next ∷ lines)) (newer ++ oldest ∷ []) is)

pub oldest_needed : (bound left : ℕ) (members : List Member) (own : Bans) → AreFalling bound own.lines → AreAt own (map stand_of members) → left ≤ length own.lines
    → (0 < left → bans.is_needed own (left - 1) ≡ true) → IsOldestNeeded (lazy_of members (bans.cut_to left own))
oldest_needed bound zero members own falling stands within oldest newer line is = none_last _ newer line is
oldest_needed bound (suc at) members own falling stands within oldest newer line is =
    let there : slice_get own.lines at ≡ Some line = taken_last at own.lines newer line (omega (arith, within)) is in
    let same : suc at - 1 ≡ at = omega arith in
    let needed : bans.is_needed own at ≡ true = subst (λ (k : ℕ). bans.is_needed own k ≡ true) same (oldest (omega arith)) in
    sym (wanted_there bound at line members own falling stands there)
    ∙ sym (ap (λ (o : Option BanLine). option_map_or (λ (l : BanLine). is_wanted l (below at own.placed) (below at own.marked)) o false) there) ∙ needed
