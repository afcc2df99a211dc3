-- The bans that a cache keeps which tests its objects on them later, and how many objects stand where among them.
use Rattle.std.specs.Prelude.{◌≡◌, ℕ, ◌+◌, ◌-◌, ◌<◌, ◌≤◌, Bool, true, false, not, ◌&&◌, nat_lt, List, [], ◌∷◌, ◌++◌, length, map, filter, take, drop, set, get_or, sum, if◌then◌else◌}
use Rattle.std.specs.List.{slice_get}
use Rattle.std.specs.Option.{option_map_or}
use Rattle.cache_law.specs.declared.ban.Ban.{Ban}
use Rattle.cache_law.specs.declared.ban.BanLine.{BanLine}
use Rattle.cache_law.specs.Bans.{is_equal, object_only}
use Rattle.cache_law.specs.BansAtOnce.{open_line}

-- Bans are numbered from 1 on as they are issued. Those that are kept are lines, the newest first, whose numbers may have
-- gaps.
pub record Bans : Type 0 where
  -- how many bans were issued, which is the number of the newest
  pub issued : ℕ
  pub lines : List BanLine
  -- Of each line how many objects have their place there: at its ban, or at a newer one, while the next newer line is above
  -- that. Behind all lines how many have their place below each.
  pub placed : List ℕ
  -- the same of their marks
  pub marked : List ℕ
  -- how many objects there are
  pub objects : ℕ

abbrev pub no_bans : Bans
no_bans = record { issued = 0; lines = []; placed = 0 ∷ []; marked = 0 ∷ []; objects = 0 }

-- the line's ban is newer than that of the number
abbrev pub is_newer : ℕ → BanLine → Bool
is_newer number line = nat_lt number line.issued.number

-- how many lines are of newer bans than that of the number, which is where an object of this place, or mark, counts
abbrev pub newer : ℕ → List BanLine → ℕ
newer number lines = length (filter (is_newer number) lines)

-- ---- a ban is issued
-- the line once an equal ban is issued behind it
abbrev pub completed_by : Ban → BanLine → BanLine
completed_by ban line = if is_equal line.issued.ban ban then record line { completed = true } else line

-- a ban comes first, under a number above those of all others
abbrev pub with_ban : ℕ → ℕ → Ban → Bans → Bans
with_ban number moment ban bans =
    record {
      issued = number;
      lines = open_line (record { number = number; moment = moment; ban = ban }) ∷ map (completed_by ban) bans.lines;
      placed = 0 ∷ bans.placed;
      marked = 0 ∷ bans.marked;
      objects = bans.objects;
    }

-- ---- an object comes and goes
abbrev pub one_more : ℕ → List ℕ → List ℕ
one_more at counts = set counts at (get_or counts at 0 + 1)

abbrev pub one_less : ℕ → List ℕ → List ℕ
one_less at counts = set counts at (get_or counts at 0 - 1)

-- how many count where an object of this place, or mark, does
abbrev pub standing : ℕ → List BanLine → List ℕ → ℕ
standing number lines counts = get_or counts (newer number lines) 0

abbrev pub entered : ℕ → ℕ → Bans → Bans
entered place mark bans =
    record bans {
      placed = one_more (newer place bans.lines) bans.placed;
      marked = one_more (newer mark bans.lines) bans.marked;
      objects = bans.objects + 1;
    }

abbrev pub departed : ℕ → ℕ → Bans → Bans
departed place mark bans =
    record bans {
      placed = one_less (newer place bans.lines) bans.placed;
      marked = one_less (newer mark bans.lines) bans.marked;
      objects = bans.objects - 1;
    }

-- ---- lines go
-- how many objects count below a line
abbrev pub below : ℕ → List ℕ → ℕ
below at counts = sum (drop (at + 1) counts)

-- An object has still to be tested on the line's ban, which isn't completed: where the ban looks at objects alone, one
-- whose mark is below it, and else one whose place is.
abbrev pub is_wanted : BanLine → ℕ → ℕ → Bool
is_wanted line placed_below marked_below =
    not line.completed && nat_lt 0 (if object_only line.issued.ban then marked_below else placed_below)

abbrev pub is_needed : Bans → ℕ → Bool
is_needed bans at = option_map_or (λ line. is_wanted line (below at bans.placed) (below at bans.marked)) (slice_get bans.lines at) false

-- so many are left, and the objects of the others count below all lines
abbrev pub summed : ℕ → List ℕ → List ℕ
summed left counts = take left counts ++ sum (drop left counts) ∷ []

abbrev pub cut_to : ℕ → Bans → Bans
cut_to left bans = record bans { lines = take left bans.lines; placed = summed left bans.placed; marked = summed left bans.marked }

-- The oldest lines are gone, none of which was needed, and the oldest that is left is.
pub record IsCut (old : Bans) (new : Bans) : Type 0 where
  pub left : ℕ
  pub within : left ≤ length old.lines
  pub is : new ≡ cut_to left old
  pub gone : (at : ℕ) → left ≤ at → at < length old.lines → is_needed old at ≡ false
  pub oldest : 0 < left → is_needed old (left - 1) ≡ true

-- ---- all that nothing needs goes, wherever it stands
-- of each line whether it is needed
abbrev pub are_needed : List BanLine → List ℕ → List ℕ → List Bool
are_needed [] placed marked = []
are_needed (line ∷ lines) placed marked = is_wanted line (below 0 placed) (below 0 marked) ∷ are_needed lines (drop 1 placed) (drop 1 marked)

-- the line before older ones, where it stays
abbrev pub line_before : Bool → BanLine → List BanLine → List BanLine
line_before stays line lines = if stays then line ∷ lines else lines

abbrev pub lines_left : List Bool → List BanLine → List BanLine
lines_left [] lines = lines
lines_left (stays ∷ others) [] = []
lines_left (stays ∷ others) (line ∷ lines) = line_before stays line (lines_left others lines)

-- What counts at a line that stays counts there, and at another it counts at the next older one that stays, or below all.
abbrev pub count_before : Bool → ℕ → List ℕ → List ℕ
count_before true count counts = count ∷ counts
count_before false count [] = count ∷ []
count_before false count (older ∷ counts) = (count + older) ∷ counts

abbrev pub counts_left : List Bool → List ℕ → List ℕ
counts_left [] counts = counts
counts_left (stays ∷ others) [] = []
counts_left (stays ∷ others) (count ∷ counts) = count_before stays count (counts_left others counts)

-- the lines that are needed are left
abbrev pub with_needed : List Bool → Bans → Bans
with_needed stays bans = record bans { lines = lines_left stays bans.lines; placed = counts_left stays bans.placed; marked = counts_left stays bans.marked }

abbrev pub only_needed : Bans → Bans
only_needed bans = with_needed (are_needed bans.lines bans.placed bans.marked) bans
