-- When what was found of an object is settled.
use Rattle.std.specs.Prelude.{ℕ, Bool, ◌&&◌, ◌||◌, nat_le, List, if◌then◌else◌}
use Rattle.std.specs.List.{list_any}
use Rattle.cache_law.specs.declared.ban.Issued.{Issued}
use Rattle.ban_lurker.specs.declared.chore.Verdict.{Verdict}
use Rattle.lazy_law.specs.Placed.{Lazy, Placed, is_unswept, kept_bans}
use Rattle.lazy_law.specs.Sweeping.{is_asked, judged_lazy}

-- the object is as the verdict has it, and waits for the lurker
abbrev pub is_open : List Issued → Verdict → Placed → Bool
is_open bans verdict placed = is_asked verdict placed && is_unswept bans placed

-- the verdict is on bans that were issued, and not on fewer than the object was tested on
abbrev pub is_sound : ℕ → Verdict → Bool
is_sound issued verdict = verdict.dead || (nat_le verdict.mark verdict.upto && nat_le verdict.upto issued)

abbrev pub is_settled : Verdict → Lazy → Bool
is_settled verdict lazy = is_sound lazy.issued verdict && list_any (is_open (kept_bans lazy) verdict) lazy.objects

abbrev pub settled : Verdict → Lazy → Lazy
settled verdict lazy = if is_settled verdict lazy then judged_lazy verdict lazy else lazy
