-- What a lurker does to objects: it tests them on bans on objects alone, and never moves their place (Varnish Users Guide, "Purging
-- and banning", on the ban lurker).
use Rattle.std.specs.Prelude.{ℕ, Bool, not, List, ◌&&◌, ◌==◌, filter, length, map, if◌then◌else◌}
use Rattle.cache_law.specs.declared.ban.Issued.{Issued}
use Rattle.ban_lurker.specs.declared.chore.Chore.{Chore}
use Rattle.ban_lurker.specs.declared.chore.Verdict.{Verdict}
use Rattle.lazy_law.specs.Placed.{Lazy, Placed, above, is_dead, is_unswept, kept_bans, marked_at}

-- how many objects wait for the lurker
abbrev pub count_unswept : Lazy → ℕ
count_unswept lazy = length (filter (is_unswept (kept_bans lazy)) lazy.objects)

abbrev pub sweeping : (Placed → Bool) → ℕ → Placed → Placed
sweeping chosen issued placed = if chosen placed then marked_at issued placed else placed

-- the objects once those that were chosen are tested on all bans on objects alone: a dead one is gone
abbrev pub swept : (Placed → Bool) → List Issued → ℕ → List Placed → List Placed
swept chosen bans issued objects =
    map (sweeping chosen issued) (filter (λ placed. not (chosen placed && is_dead bans placed)) objects)

abbrev pub swept_lazy : (Placed → Bool) → Lazy → Lazy
swept_lazy chosen lazy = record lazy { objects = swept chosen (kept_bans lazy) lazy.issued lazy.objects }

-- of those that wait for the lurker, how many were chosen
abbrev pub count_chosen : (Placed → Bool) → Lazy → ℕ
count_chosen chosen lazy = length (filter chosen (filter (is_unswept (kept_bans lazy)) lazy.objects))

-- the object with all bans on objects alone that it wasn't tested on
abbrev pub chore_of : Lazy → Placed → Chore
chore_of lazy placed =
    record {
      object = placed.view.number;
      mark = placed.mark;
      upto = lazy.issued;
      view = placed.view;
      bans = above placed.mark (kept_bans lazy);
    }

-- the verdict is on the object as it is
abbrev pub is_asked : Verdict → Placed → Bool
is_asked verdict placed = (placed.view.number == verdict.object) && (placed.mark == verdict.mark)

abbrev pub judging : Verdict → Placed → Placed
judging verdict placed = if is_asked verdict placed then marked_at verdict.upto placed else placed

-- the objects once the verdict is settled
abbrev pub judged_late : Verdict → List Placed → List Placed
judged_late verdict objects = map (judging verdict) (filter (λ placed. not (is_asked verdict placed && verdict.dead)) objects)

abbrev pub judged_lazy : Verdict → Lazy → Lazy
judged_lazy verdict lazy = record lazy { objects = judged_late verdict lazy.objects }
