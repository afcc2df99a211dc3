-- Objects, how long they serve, and how much room they take (Varnish Users Guide, "Grace mode and keep", "Hit-for-miss").
use Rattle.std.specs.Prelude.{ℕ, Bool, true, false, List, ◌+◌, ◌*◌, ◌+ℤ◌, pos, length, sum_by}
use Rattle.std.specs.Int.Signed.{lt_z}
use Rattle.std.specs.Str.{bytes_eq}
use Rattle.std.specs.Cmp.Lexicographic.{pointwise}
use Rattle.http_heads.specs.declared.fields.Field.{Field}
use Rattle.freshness.specs.declared.times.Timing.{Timing}
use Rattle.freshness.specs.Validators.{has_validator}
use Rattle.cache_law.specs.declared.object.VaryItem.{VaryItem}
use Rattle.cache_law.specs.declared.object.Object.{Object}
use Rattle.cache_law.specs.declared.object.Object.TheVariants.{Ordinary, HitForMiss, HitForPass}

abbrev pub key_of : Object → List (List ℕ)
key_of (Ordinary response) = response.content.key
key_of (HitForMiss marker) = marker.key
key_of (HitForPass marker) = marker.key

abbrev pub vary_of : Object → List VaryItem
vary_of (Ordinary response) = response.content.vary
vary_of (HitForMiss marker) = marker.vary
vary_of (HitForPass marker) = marker.vary

-- it was chosen by more than the fields of a request
abbrev pub varies_always : Object → Bool
varies_always (Ordinary response) = response.content.varies_always
varies_always (HitForMiss marker) = false
varies_always (HitForPass marker) = false

abbrev pub is_marker : Object → Bool
is_marker (Ordinary response) = false
is_marker (HitForMiss marker) = true
is_marker (HitForPass marker) = true

-- a marker has no grace and isn't kept
abbrev pub timing_of : Object → Timing
timing_of (Ordinary response) = response.timing
timing_of (HitForMiss marker) = record { origin = marker.origin; ttl = marker.ttl; grace = pos 0; keep = pos 0 }
timing_of (HitForPass marker) = record { origin = marker.origin; ttl = marker.ttl; grace = pos 0; keep = pos 0 }

-- a response that can be asked for again with a condition
abbrev pub can_confirm : Object → Bool
can_confirm (Ordinary response) = has_validator response.content.status response.content.fields
can_confirm (HitForMiss marker) = false
can_confirm (HitForPass marker) = false

-- one list of texts is another
abbrev pub same_texts : List (List ℕ) → List (List ℕ) → Bool
same_texts = pointwise bytes_eq

-- it is fresh, in grace or kept
abbrev pub in_time : ℕ → Object → Bool
in_time moment object =
    let timing = timing_of object in
    lt_z (pos moment) ((timing.origin +ℤ timing.ttl) +ℤ (timing.grace +ℤ timing.keep))

-- what the texts of a list take
abbrev pub texts_len : List (List ℕ) → ℕ
texts_len texts = sum_by length texts

-- the names and values of fields
abbrev pub fields_len : List Field → ℕ
fields_len fields = sum_by (λ field. length field.name + length field.value) fields

-- the names and values by which a response was chosen
abbrev pub vary_len : List VaryItem → ℕ
vary_len vary = sum_by (λ item. length item.name + texts_len item.values) vary

-- a response that was chosen by more than the fields of a request has one name more, `*`
abbrev pub star_len : Bool → ℕ
star_len true = 1
star_len false = 0

-- how many fields it has; a marker has none
abbrev pub count_fields : Object → ℕ
count_fields (Ordinary response) = length response.content.fields
count_fields (HitForMiss marker) = 0
count_fields (HitForPass marker) = 0

-- all texts of an object
abbrev pub object_len : Object → ℕ
object_len (Ordinary response) =
    let content = response.content in
    texts_len content.key + star_len content.varies_always + vary_len content.vary + length content.reason + fields_len content.fields + length content.body + texts_len content.xkeys
object_len (HitForMiss marker) = texts_len marker.key + vary_len marker.vary
object_len (HitForPass marker) = texts_len marker.key + vary_len marker.vary

-- What an object takes of the room: 512 bytes, its key, its fields with 4 bytes for each, and its body. A marker has
-- neither fields nor body.
abbrev pub size_of : Object → ℕ
size_of (Ordinary response) =
    let content = response.content in
    512 + texts_len content.key + fields_len content.fields + 4 * length content.fields + length content.body
size_of (HitForMiss marker) = 512 + texts_len marker.key
size_of (HitForPass marker) = 512 + texts_len marker.key
