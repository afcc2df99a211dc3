-- How long a response serves: its age (RFC 9111, section 4.2.3), its lifetime (section 4.2.1), and for how long it
-- serves when that is over (RFC 5861, section 3; Varnish Users Guide, "Grace mode and keep").
use Rattle.std.specs.Prelude.{ℕ, ℤ, ◌-◌, ◌*◌, ◌/◌, ◌-ℤ◌, pos, Bool, ◌==◌, ◌||◌, List, [], ◌∷◌, Option, min, unwrap_or, option_and_then, codes, if◌then◌else◌}
use Rattle.std.specs.List.{list_any}
use Rattle.std.specs.Option.{option_map, option_or, option_map_or}
use Rattle.httpdate.specs.Date.{parse_secs}
use Rattle.http_heads.specs.declared.fields.Field.{Field}
use Rattle.http_heads.specs.Fields.{first_value}
use Rattle.freshness.specs.declared.times.Timing.{Timing}
use Rattle.freshness.specs.declared.times.Defaults.{Defaults}
use Rattle.freshness.specs.Directives.{seconds_of, directive}

-- the last millisecond of the year 9999
abbrev pub last_moment : ℕ
last_moment = 253_402_300_799_999

-- statuses of responses that serve for the default lifetime where they say none
abbrev pub cacheable_by_default : List ℕ
cacheable_by_default = 200 ∷ 203 ∷ 204 ∷ 300 ∷ 301 ∷ 404 ∷ 410 ∷ 414 ∷ []

-- statuses of responses that serve only for a lifetime that they say
abbrev pub cacheable_if_said : List ℕ
cacheable_if_said = 302 ∷ 307 ∷ []

abbrev pub is_among : List ℕ → ℕ → Bool
is_among statuses status = list_any (λ one. one == status) statuses

-- the milliseconds of so many seconds
abbrev pub millis : ℕ → ℤ
millis seconds = pos (1000 * seconds)

-- the seconds since the response was made, by its first Age field
abbrev pub age : List Field → ℕ
age fields = unwrap_or (option_and_then seconds_of (first_value (codes "age") fields)) 0

-- the second since 1970 that the first field of the name shows
abbrev pub date : List ℕ → List Field → Option ℕ
date name fields = option_and_then parse_secs (first_value name fields)

-- the second in which the response was made: by its Date, or the moment's own
abbrev pub made : ℕ → List Field → ℕ
made moment fields = unwrap_or (date (codes "date") fields) (moment / 1000)

-- the lifetime by Expires, where the field is there: none is left where it shows no date
abbrev pub by_expires : ℕ → List Field → Option ℕ
by_expires moment fields =
    option_map (λ text. option_map_or (λ end. end - made moment fields) (parse_secs text) 0) (first_value (codes "expires") fields)

-- the lifetime in seconds that the response says: by s-maxage, else by max-age, else by Expires
abbrev pub lifetime : ℕ → List Field → Option ℕ
lifetime moment fields =
    option_or (directive (codes "s-maxage") fields) (option_or (directive (codes "max-age") fields) (by_expires moment fields))

-- for how long it is fresh: as it says, else by its status
abbrev pub fresh_for : ℕ → Option ℕ → Defaults → ℤ
fresh_for status said defaults =
    if is_among cacheable_by_default status then option_map_or millis said defaults.ttl
    else if is_among cacheable_if_said status then option_map_or millis said (pos 0)
    else pos 0

-- for how long it serves in grace, and is kept: not at all with a status that never serves
abbrev pub in_grace_for : ℕ → List Field → Defaults → ℤ
in_grace_for status fields defaults =
    if is_among cacheable_by_default status || is_among cacheable_if_said status
    then option_map_or millis (directive (codes "stale-while-revalidate") fields) defaults.grace
    else pos 0

abbrev pub kept_for : ℕ → Defaults → ℤ
kept_for status defaults = if is_among cacheable_by_default status || is_among cacheable_if_said status then defaults.keep else pos 0

-- how long a response with these fields serves that came at the moment
abbrev pub timing_of : ℕ → List Field → ℕ → Defaults → Timing
timing_of status fields moment defaults =
    let at = min moment last_moment in
    record {
      origin = pos at -ℤ millis (age fields);
      ttl = fresh_for status (lifetime at fields) defaults;
      grace = in_grace_for status fields defaults;
      keep = kept_for status defaults;
    }
