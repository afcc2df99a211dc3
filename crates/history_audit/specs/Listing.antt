-- A list of bans that is shown by their numbers: which lines these are, and whether they may be listed.
use Rattle.std.specs.Prelude.{◌≡◌, ◌≢◌, ◌+◌, ◌==◌, ⊤, ℕ, Bool, true, false, List, [], ◌∷◌, ◌++◌, Option, Some, None, map, option_map, if◌then◌else◌}
use Rattle.std.specs.List.{AllByRecursion}
use Rattle.cache_law.specs.declared.ban.BanLine.{BanLine}
use Rattle.cache_law.specs.declared.ban.Issued.{Issued}
use Rattle.cache_law.specs.declared.call.Reply.{Reply}
use Rattle.cache_law.specs.declared.call.Reply.TheVariants.{Bans}
use Rattle.cache_law.specs.Bases.{AreAlike, AreFalling, IsSound}
use Rattle.cache_law.specs.History.{reached}
use Rattle.cache_law.specs.Law.{IsBanList}
use Rattle.cache_law.specs.ShownBans.{AllShown, IsPartOf, has_newer, those_open}
use Rattle.cache_law.specs.State.{State, at_moment}
use Rattle.cache_frame.specs.Framed.{Plain}
use Rattle.journal_text.specs.declared.shown.Shown.{Shown}
use Rattle.journal_text.specs.declared.shown.ShownBan.{ShownBan}
use Rattle.journal_text.specs.Grammar.{shown_ban, shown_of}

-- the line of a ban, as it is shown
abbrev pub line_of : Issued → ShownBan → BanLine
line_of ban shown = record { issued = ban; completed = shown.completed }

-- what the first of these numbers takes of a ban, and the numbers that are left then
abbrev pub taken_line : List ShownBan → Issued → List BanLine
taken_line [] ban = []
taken_line (shown ∷ others) ban = if ban.number == shown.number then line_of ban shown ∷ [] else []

abbrev pub left_over : List ShownBan → Issued → List ShownBan
left_over [] ban = []
left_over (shown ∷ others) ban = if ban.number == shown.number then others else shown ∷ others

-- the lines that a pass over the bans, newest first, takes for these numbers, where each finds its ban
abbrev pub found_lines : List Issued → List ShownBan → Option (List BanLine)
found_lines [] [] = Some []
found_lines [] (shown ∷ others) = None
found_lines (ban ∷ bans) wanted = option_map (λ more. taken_line wanted ban ++ more) (found_lines bans (left_over wanted ban))

-- the lines are shown so, and are some of the bans
pub record AreLinesOf (bans : List Issued) (shown : List ShownBan) (lines : List BanLine) : Type 0 where
  pub shows : map shown_ban lines ≡ shown
  pub part : IsPartOf (map (λ line. line.issued) lines) bans

-- each line that is marked as completed has a newer equal one, and the others show each ban that an object of the cache's has still to
-- be tested on
pub record IsAllowed (core : Plain) (moment : ℕ) (lines : List BanLine) : Type 0 where
  pub completed : AllByRecursion (λ line. line.completed ≡ true → has_newer lines line ≡ true) lines
  pub shown : AllShown (those_open lines) (at_moment moment (reached core.beginning core.entries)).objects

-- a list of bans that the law allows in the state, and that is shown so
pub record IsListed (state : State) (reply : Shown) : Type 0 where
  pub listed : Reply
  pub shown : shown_of listed ≡ reply
  pub allowed : IsBanList state listed

-- The test told whether the law allows a list of bans that is shown so, in each state that the cache stands for, whose bans these are.
abbrev pub ListsIf : Plain → List Issued → ℕ → Shown → Bool → Type 0
ListsIf core bans moment reply true =
    (state : State) → AreAlike (reached core.beginning core.entries) state → IsSound state → bans ≡ state.bans → IsListed (at_moment moment state) reply
ListsIf core bans moment reply false =
    (state : State) → AreAlike (reached core.beginning core.entries) state → IsSound state → bans ≡ state.bans
    → (listed : Reply) → IsBanList (at_moment moment state) listed → shown_of listed ≢ reply
