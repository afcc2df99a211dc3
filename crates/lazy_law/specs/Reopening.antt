-- What a cache that tests its objects on bans later keeps of them where a new history begins, and the state that the history begins in.
use Rattle.std.specs.Prelude.{ℕ}
use Rattle.cache_law.specs.State.{State}
use Rattle.lazy_law.specs.Placed.{Lazy, kept_bans, seen, tidied}
use Rattle.lazy_law.specs.Banning.{needed_lines}

-- the objects that are in time and not dead, once they were tested on all bans on objects alone, and the lines that they need
abbrev pub reopened : ℕ → Lazy → Lazy
reopened moment lazy =
    let objects = tidied moment (kept_bans lazy) lazy.issued lazy.objects in
    record { issued = lazy.issued; lines = needed_lines objects lazy.lines; objects = objects }

-- the state of the law at a desk that what is kept stands for by its own bans
abbrev pub state_of : State → Lazy → State
state_of desk lazy =
    record desk { issued = lazy.issued; bans = kept_bans lazy; objects = seen desk.moment (kept_bans lazy) lazy.objects }
