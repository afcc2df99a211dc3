-- What a purge does to the objects, and a purge by xkeys (Varnish Users Guide, "Purging and banning"; vmod_xkey, "purge"
-- and "softpurge").
use Rattle.std.specs.Prelude.{ℕ, Bool, not, List, [], ◌-ℤ◌, pos, map, filter, length, if◌then◌else◌}
use Rattle.std.specs.List.{list_any}
use Rattle.std.specs.Int.{int_min}
use Rattle.std.specs.Str.{bytes_eq}
use Rattle.freshness.specs.declared.times.Timing.{Timing}
use Rattle.cache_law.specs.declared.object.Object.{Object}
use Rattle.cache_law.specs.declared.object.Object.TheVariants.{Ordinary, HitForMiss, HitForPass}
use Rattle.cache_law.specs.Object.{key_of, same_texts}
use Rattle.cache_law.specs.State.{Held}

-- how many pass the test
abbrev pub count_of : (Held → Bool) → List Held → ℕ
count_of test objects = length (filter test objects)

abbrev pub has_key : List (List ℕ) → Held → Bool
has_key key held = same_texts (key_of held.view.object) key

-- what the purge of a key leaves
abbrev pub without_key : List (List ℕ) → List Held → List Held
without_key key objects = filter (λ held. not (has_key key held)) objects

-- a marker has no xkeys
abbrev pub xkeys_of : Object → List (List ℕ)
xkeys_of (Ordinary response) = response.content.xkeys
xkeys_of (HitForMiss marker) = []
xkeys_of (HitForPass marker) = []

-- it has at least one of the xkeys
abbrev pub has_xkey : List (List ℕ) → Held → Bool
has_xkey keys held = list_any (λ own. list_any (bytes_eq own) keys) (xkeys_of held.view.object)

-- the lifetime ends at the moment, where it doesn't end before
abbrev pub ended_by : ℕ → Timing → Timing
ended_by moment timing = record timing { ttl = int_min timing.ttl (pos moment -ℤ timing.origin) }

abbrev pub softened : ℕ → Object → Object
softened moment (Ordinary response) = Ordinary (record response { timing = ended_by moment response.timing })
softened moment object = object

-- the object is softened where it has one of the xkeys
abbrev pub softening : ℕ → List (List ℕ) → Held → Held
softening moment keys held =
    let view = held.view in
    if has_xkey keys held then record held { view = record view { object = softened moment view.object } } else held

-- what a purge by xkeys leaves: a soft one softens the objects that another removes
abbrev pub xkey_over : ℕ → List (List ℕ) → Bool → List Held → List Held
xkey_over moment keys soft objects =
    if soft then map (softening moment keys) objects else filter (λ held. not (has_xkey keys held)) objects
