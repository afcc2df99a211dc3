-- Which member a target stands for: the health of backends, the counters of directors and the choice (Varnish Users Guide,
-- "Directors"; varnish-cli(7), "backend.set_health").
use Rattle.std.specs.Prelude.{ℕ, Bool, true, false, not, List, ◌∷◌, ◌+◌, ◌==◌, ◌&&◌, Option, map, filter, find, if◌then◌else◌}
use Rattle.std.specs.List.{slice_get}
use Rattle.std.specs.Option.{option_map, option_map_or}
use Rattle.std.specs.Str.{bytes_eq}
use Rattle.directors.specs.declared.director.DirectorKind.{DirectorKind}
use Rattle.directors.specs.declared.director.DirectorKind.TheVariants.{RoundRobin}
use Rattle.directors.specs.Choice.{choice}
use Rattle.directors.specs.declared.target.Member.{Member}
use Rattle.directors.specs.declared.target.Target.{Target}
use Rattle.cache_law.specs.declared.vcl.Counter.{Counter}
use Rattle.cache_law.specs.declared.vcl.Health.{Health}
use Rattle.cache_law.specs.declared.vcl.Health.TheVariants.{Auto, Healthy, Sick}
use Rattle.cache_law.specs.declared.vcl.ForcedHealth.{ForcedHealth}

-- it was set for this backend of the VCL
abbrev pub is_health_of : ℕ → List ℕ → ForcedHealth → Bool
is_health_of vcl backend forced = (forced.vcl == vcl) && bytes_eq forced.backend backend

-- a backend is healthy unless it was set to be sick
abbrev pub is_healthy : List ForcedHealth → ℕ → List ℕ → Bool
is_healthy health vcl backend = option_map_or (λ forced. forced.is_healthy) (find (is_health_of vcl backend) health) true

abbrev pub without_health : ℕ → List ℕ → List ForcedHealth → List ForcedHealth
without_health vcl backend health = filter (λ forced. not (is_health_of vcl backend forced)) health

-- the health that was set, with that of one backend set anew
abbrev pub with_health : ℕ → List ℕ → Health → List ForcedHealth → List ForcedHealth
with_health vcl backend Auto health = without_health vcl backend health
with_health vcl backend Healthy health = record { vcl = vcl; backend = backend; is_healthy = true } ∷ without_health vcl backend health
with_health vcl backend Sick health = record { vcl = vcl; backend = backend; is_healthy = false } ∷ without_health vcl backend health

-- a sick member weighs nothing
abbrev pub weight_of : List ForcedHealth → ℕ → Member → ℕ
weight_of health vcl member = if is_healthy health vcl member.name then member.weight else 0

abbrev pub weights_of : List ForcedHealth → ℕ → Target → List ℕ
weights_of health vcl target = map (weight_of health vcl) target.members

-- it is the counter of this director of the VCL
abbrev pub is_counter_of : ℕ → List ℕ → Counter → Bool
is_counter_of vcl director counter = (counter.vcl == vcl) && bytes_eq counter.director director

-- how far the director has counted, from 0 on
abbrev pub counter_of : List Counter → ℕ → List ℕ → ℕ
counter_of counters vcl director = option_map_or (λ counter. counter.next) (find (is_counter_of vcl director) counters) 0

abbrev pub with_counter : ℕ → List ℕ → ℕ → List Counter → List Counter
with_counter vcl director next counters =
    record { vcl = vcl; director = director; next = next } ∷ filter (λ counter. not (is_counter_of vcl director counter)) counters

-- the place that the target chooses, with its counter and the word
abbrev pub chosen : List ForcedHealth → List Counter → ℕ → Target → ℕ → Option ℕ
chosen health counters vcl target word = choice target.kind (weights_of health vcl target) (counter_of counters vcl target.name) word

-- the counters once this place is chosen: a director of kind round_robin goes on behind it
abbrev pub counted_on : DirectorKind → ℕ → List ℕ → ℕ → List Counter → List Counter
counted_on RoundRobin vcl director place counters = with_counter vcl director (place + 1) counters
counted_on kind vcl director place counters = counters

-- the name of the member at a place
abbrev pub name_at : ℕ → List Member → Option (List ℕ)
name_at place members = option_map (λ member. member.name) (slice_get members place)
