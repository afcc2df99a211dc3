-- What the list of bans shows (varnish-cli(7), "ban.list").
use Rattle.std.specs.Prelude.{◌≡◌, ◌⊎◌, ⊤, Bool, true, not, ◌&&◌, nat_lt, List, [], ◌∷◌, map, filter}
use Rattle.std.specs.List.{AllByRecursion, list_any}
use Rattle.cache_law.specs.declared.ban.Issued.{Issued}
use Rattle.cache_law.specs.declared.ban.BanLine.{BanLine}
use Rattle.cache_law.specs.Bans.{is_equal, is_shown}
use Rattle.cache_law.specs.State.{Held}

-- the lines show each ban that a lookup has still to test one of the objects on
abbrev pub AllShown : List Issued → List Held → Type 0
AllShown lines objects = AllByRecursion (λ held. AllByRecursion (λ ban. is_shown lines ban ≡ true) held.pending) objects

-- the first list is the second with some items left out
abbrev pub IsPartOf : {X : Type 0} → List X → List X → Type 0
IsPartOf [] whole = ⊤
IsPartOf (x ∷ part) [] = ⊥
IsPartOf (x ∷ part) (y ∷ whole) = ((x ≡ y) × IsPartOf part whole) ⊎ IsPartOf (x ∷ part) whole

-- the bans of the lines that aren't marked as completed
abbrev pub those_open : List BanLine → List Issued
those_open lines = map (λ line. line.issued) (filter (λ line. not line.completed) lines)

-- a newer line has an equal ban, which does the work of this line's
abbrev pub has_newer : List BanLine → BanLine → Bool
has_newer lines line =
    list_any (λ newer. nat_lt line.issued.number newer.issued.number && is_equal newer.issued.ban line.issued.ban) lines

-- What a list of bans owes: its lines are some of the bans that were issued, newest first; those not marked as completed
-- show each ban that an object is still to be tested on, and each that is marked has a newer equal one.
pub record ShowsBans (bans : List Issued) (objects : List Held) (lines : List BanLine) : Type 0 where
  pub part : IsPartOf (map (λ line. line.issued) lines) bans
  pub shown : AllShown (those_open lines) objects
  pub completed : AllByRecursion (λ line. line.completed ≡ true → has_newer lines line ≡ true) lines
