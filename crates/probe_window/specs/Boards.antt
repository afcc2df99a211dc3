-- A board: the windows of the probed backends, and which of them are forced.
use Rattle.std.specs.Prelude.{ℕ, Bool, true, false, ◌||◌, List, [], ◌∷◌, Option, Some, None, option_map, codes, find, if◌then◌else◌}
use Rattle.std.specs.Option.{option_and_then}
use Rattle.std.specs.Str.{bytes_eq}
use Rattle.vcl_attributes.specs.declared.probe_attributes.Probe.{Probe}
use Rattle.probe_window.specs.declared.board.Watched.{Watched}
use Rattle.probe_window.specs.Windows.{Counted, counted, window_of, with_result, is_healthy, is_out_of_range}

abbrev pub watched_of : List ℕ → Counted → Bool → Watched
watched_of backend window forced = record { backend = backend; window = window; forced = forced }

-- each backend begins with its probe's window, and isn't forced
abbrev pub begun : Probe → Watched
begun probe = watched_of probe.backend (counted probe.threshold (window_of probe.window probe.initial [])) false

-- a probe whose numbers no window has
abbrev pub has_no_window : Probe → Bool
has_no_window probe = is_out_of_range probe.window probe.threshold probe.initial

abbrev pub is_named : List ℕ → Watched → Bool
is_named name watched = bytes_eq watched.backend name

-- the first backend of a name is changed, the others stay
abbrev pub changed : (Watched → Watched) → List ℕ → List Watched → List Watched
changed change name [] = []
changed change name (watched ∷ more) = if is_named name watched then change watched ∷ more else watched ∷ changed change name more

-- health, which none has that isn't probed
abbrev pub health_in : List ℕ → List Watched → Option Bool
health_in name board = option_map (λ watched. is_healthy watched.window) (find (is_named name) board)

-- a result of a backend
abbrev pub with_good : Bool → Watched → Watched
with_good good watched = watched_of watched.backend (with_result watched.window good) watched.forced

-- a health that is another one than the one before
abbrev pub other_than : Bool → Bool → Option Bool
other_than true false = Some false
other_than false true = Some true
other_than _ _ = None

-- the health that a result brings, where it is another one and the backend isn't forced
abbrev pub news_of : Bool → Watched → Option Bool
news_of good watched =
    if watched.forced then None else other_than (is_healthy watched.window) (is_healthy (with_result watched.window good))

abbrev pub news : Bool → List ℕ → List Watched → Option Bool
news good name board = option_and_then (news_of good) (find (is_named name) board)

-- what a state that is set says: that the backend is forced, or that it isn't; another word says nothing
abbrev pub forces : List ℕ → Option Bool
forces state =
    if bytes_eq state (codes "auto") then Some false
    else (if bytes_eq state (codes "healthy") || bytes_eq state (codes "sick") then Some true else None)

abbrev pub with_forced : Option Bool → Watched → Watched
with_forced None watched = watched
with_forced (Some forced) watched = watched_of watched.backend watched.window forced

-- a backend that is freed has its window's health
abbrev pub freed_health : Option Bool → Watched → Option Bool
freed_health (Some false) watched = Some (is_healthy watched.window)
freed_health _ watched = None

abbrev pub freed : Option Bool → List ℕ → List Watched → Option Bool
freed forced name board = option_and_then (freed_health forced) (find (is_named name) board)
