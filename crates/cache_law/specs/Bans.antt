-- What a ban matches, which bans are equal, and which line shows a ban (Varnish Users Guide, "Purging and banning";
-- vcl(7) and varnish-cli(7), "ban").
use Rattle.std.specs.Prelude.{ℕ, ℤ, pos, ◌+ℤ◌, ◌-ℤ◌, Bool, true, false, not, ◌&&◌, ◌==◌, nat_le, List, [], Option, Some, None, is_some, option_and_then, if◌then◌else◌}
use Rattle.std.specs.List.{list_any, list_all}
use Rattle.std.specs.Option.{option_map, option_map_or}
use Rattle.std.specs.Str.{bytes_eq}
use Rattle.std.specs.Fmt.{decimal}
use Rattle.std.specs.Ordering.{int_eq}
use Rattle.std.specs.Int.Signed.{lt_z}
use Rattle.std.specs.Cmp.Lexicographic.{pointwise}
use Rattle.http_heads.specs.declared.fields.Field.{Field}
use Rattle.http_heads.specs.Fields.{first_value}
use Rattle.vcl_values.specs.Readings.{first_found}
use Rattle.vcl_values.specs.declared.comparisons.Comparison.{Comparison}
use Rattle.vcl_values.specs.declared.comparisons.Comparison.TheVariants as comparison
use Rattle.cache_law.specs.declared.object.Object.{Object}
use Rattle.cache_law.specs.declared.object.Object.TheVariants.{Ordinary, HitForMiss, HitForPass}
use Rattle.cache_law.specs.declared.call.RequestView.{RequestView}
use Rattle.cache_law.specs.declared.ban.TextField.{TextField}
use Rattle.cache_law.specs.declared.ban.TextField.TheVariants.{RequestUrl, RequestHeader, ObjectStatus, ObjectHeader}
use Rattle.cache_law.specs.declared.ban.TextOperator.{TextOperator}
use Rattle.cache_law.specs.declared.ban.TextOperator.TheVariants as text
use Rattle.cache_law.specs.declared.ban.TimeField.{TimeField}
use Rattle.cache_law.specs.declared.ban.TimeField.TheVariants.{Ttl, Age, Grace, Keep}
use Rattle.cache_law.specs.declared.ban.Condition.{Condition}
use Rattle.cache_law.specs.declared.ban.Condition.TheVariants.{OnText, OnTime}
use Rattle.cache_law.specs.declared.ban.Ban.{Ban}
use Rattle.cache_law.specs.declared.ban.Issued.{Issued}
use Rattle.cache_law.specs.Object.{timing_of}

abbrev pub status_of : Object → ℕ
status_of (Ordinary response) = response.content.status
status_of (HitForMiss marker) = marker.status
status_of (HitForPass marker) = marker.status

-- a marker has no fields
abbrev pub fields_of : Object → List Field
fields_of (Ordinary response) = response.content.fields
fields_of (HitForMiss marker) = []
fields_of (HitForPass marker) = []

-- the URL and the first value of a header of a request, where there is one
abbrev pub url_in : Option RequestView → Option (List ℕ)
url_in request = option_map (λ view. view.url) request

abbrev pub header_in : Option RequestView → List ℕ → Option (List ℕ)
header_in request name = option_and_then (λ view. first_value name view.fields) request

-- The text of a field, where it is there: the first value of a header, and a status as its decimal digits. Without
-- a request its fields aren't there.
abbrev pub text_of : Object → Option RequestView → TextField → Option (List ℕ)
text_of object request RequestUrl = url_in request
text_of object request (RequestHeader name) = header_in request name
text_of object request ObjectStatus = Some (decimal (status_of object))
text_of object request (ObjectHeader name) = first_value name (fields_of object)

-- the text is there and is the argument; it is there and the argument matches somewhere in it
abbrev pub is_argument : List ℕ → Option (List ℕ) → Bool
is_argument argument found = option_map_or (λ value. bytes_eq value argument) found false

abbrev pub has_match : List ℕ → Option (List ℕ) → Bool
has_match argument found = option_map_or (λ value. is_some (first_found argument value)) found false

-- what an operator says of a text, so that one that isn't there differs from all and matches nothing
abbrev pub passes : TextOperator → List ℕ → Option (List ℕ) → Bool
passes text.Equal argument found = is_argument argument found
passes text.NotEqual argument found = not (is_argument argument found)
passes text.Matches argument found = has_match argument found
passes text.MatchesNot argument found = not (has_match argument found)

-- a time of an object in milliseconds, for a ban that was issued at the moment
abbrev pub time_of : ℕ → Object → TimeField → ℤ
time_of moment object Ttl = ((timing_of object).origin +ℤ (timing_of object).ttl) -ℤ pos moment
time_of moment object Age = pos moment -ℤ (timing_of object).origin
time_of moment object Grace = (timing_of object).grace
time_of moment object Keep = (timing_of object).keep

abbrev pub compares : Comparison → ℤ → ℤ → Bool
compares comparison.Equal left right = int_eq left right
compares comparison.NotEqual left right = not (int_eq left right)
compares comparison.Less left right = lt_z left right
compares comparison.LessOrEqual left right = not (lt_z right left)
compares comparison.Greater left right = lt_z right left
compares comparison.GreaterOrEqual left right = not (lt_z left right)

-- a condition of a ban that was issued at the moment holds of an object, and of a request where there is one
abbrev pub holds : ℕ → Object → Option RequestView → Condition → Bool
holds moment object request (OnText field operator argument) = passes operator argument (text_of object request field)
holds moment object request (OnTime field comparison milliseconds) = compares comparison (time_of moment object field) milliseconds

-- a ban that was issued at the moment matches where all its conditions hold
unfoldable pub ban_matches : Ban → ℕ → Object → Option RequestView → Bool
ban_matches ban moment object request = list_all (holds moment object request) ban.conditions

-- the ban matches the object, whatever the request
abbrev pub matches : Object → Issued → Bool
matches object issued = ban_matches issued.ban issued.moment object None

-- the ban matches the object with this request
abbrev pub meets : Object → RequestView → Issued → Bool
meets object request issued = ban_matches issued.ban issued.moment object (Some request)

-- the condition looks at the object alone
abbrev pub is_on_object : Condition → Bool
is_on_object (OnText RequestUrl operator argument) = false
is_on_object (OnText (RequestHeader name) operator argument) = false
is_on_object (OnText field operator argument) = true
is_on_object (OnTime field comparison milliseconds) = true

-- all conditions of the ban look at the object alone
unfoldable pub object_only : Ban → Bool
object_only ban = list_all is_on_object ban.conditions

abbrev pub is_on_time : Condition → Bool
is_on_time (OnText field operator argument) = false
is_on_time (OnTime field comparison milliseconds) = true

-- a condition of the ban looks at a time, so that its meaning lasts with the moment of its issue
unfoldable pub lasting : Ban → Bool
lasting ban = list_any is_on_time ban.conditions

abbrev pub same_field : TextField → TextField → Bool
same_field RequestUrl RequestUrl = true
same_field (RequestHeader name) (RequestHeader other) = bytes_eq name other
same_field ObjectStatus ObjectStatus = true
same_field (ObjectHeader name) (ObjectHeader other) = bytes_eq name other
same_field field other = false

abbrev pub same_operator : TextOperator → TextOperator → Bool
same_operator text.Equal text.Equal = true
same_operator text.NotEqual text.NotEqual = true
same_operator text.Matches text.Matches = true
same_operator text.MatchesNot text.MatchesNot = true
same_operator operator other = false

-- two conditions on texts are the same; one on a time is no other's equal
abbrev pub same_condition : Condition → Condition → Bool
same_condition (OnText field operator argument) (OnText other_field other_operator other_argument) =
    same_field field other_field && same_operator operator other_operator && bytes_eq argument other_argument
same_condition condition other = false

-- two bans have the same conditions in the same order, and none on a time: a later one does the work of an earlier
unfoldable pub is_equal : Ban → Ban → Bool
is_equal ban other = pointwise same_condition ban.conditions other.conditions

-- the line does the ban's work: it is the ban's own where the ban looks at a time, and one of an equal ban else
unfoldable pub stands_for : Issued → Issued → Bool
stands_for ban line =
    if lasting ban.ban then lasting line.ban && line.number == ban.number else is_equal line.ban ban.ban

-- a line that isn't older than the ban does its work
abbrev pub is_shown : List Issued → Issued → Bool
is_shown lines ban = list_any (λ line. nat_le ban.number line.number && stands_for ban line) lines
