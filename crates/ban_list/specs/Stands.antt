-- Objects among the bans, and how many of them count where.
use Rattle.std.specs.Prelude.{◌≡◌, ℕ, List, [], ◌∷◌, length, map}
use Rattle.cache_law.specs.declared.ban.BanLine.{BanLine}
use Rattle.ban_list.specs.declared.list.Stand.{Stand}
use Rattle.ban_list.specs.Bans.{Bans, newer, one_more}

abbrev pub no_counts : List BanLine → List ℕ
no_counts [] = 0 ∷ []
no_counts (line ∷ lines) = 0 ∷ no_counts lines

-- how many objects of these places, or marks, count at each line and below all: each at the newest line that isn't above it
abbrev pub counts_of : List BanLine → List ℕ → List ℕ
counts_of lines [] = no_counts lines
counts_of lines (number ∷ numbers) = one_more (newer number lines) (counts_of lines numbers)

abbrev pub places_of : List Stand → List ℕ
places_of stands = map (λ stand. stand.place) stands

abbrev pub marks_of : List Stand → List ℕ
marks_of stands = map (λ stand. stand.mark) stands

-- the objects that are counted are those that stand so
pub record AreAt (bans : Bans) (stands : List Stand) : Type 0 where
  pub placed : bans.placed ≡ counts_of bans.lines (places_of stands)
  pub marked : bans.marked ≡ counts_of bans.lines (marks_of stands)
  pub all : bans.objects ≡ length stands
