-- Which fields say where a body ends (RFC 9112, section 6.3).
use Rattle.std.specs.Prelude.{◌≡◌, ◌<◌, IsTrue, IsSomeAnd, ℕ, ◌^◌, Bool, not, ◌&&◌, ◌||◌, ◌==◌, nat_lt, List, length, codes, Option, Some, None, true, false, if◌then◌else◌}
use Rattle.std.specs.List.{list_all}
use Rattle.std.specs.Char.{is_digit}
use Rattle.std.specs.Str.Parse.{digits_value}
use Rattle.http_heads.specs.declared.fields.Field.{Field}
use Rattle.units.specs.Folding.{folded}
use Rattle.http_heads.specs.Fields.{is_named, count_of, first_value}
use Rattle.http_bodies.specs.declared.framing.Kind.{Kind}
use Rattle.http_bodies.specs.declared.framing.Kind.TheVariants.{Request, Reply, Interim, NoBody}
use Rattle.http_bodies.specs.declared.framing.Framing.{Framing}
use Rattle.http_bodies.specs.declared.framing.Framing.TheVariants.{Nothing, Length, Chunked, UntilEnd}

abbrev pub length_name : List ℕ
length_name = codes "content-length"

abbrev pub coding_name : List ℕ
coding_name = codes "transfer-encoding"

-- the kind of a reply: interim with a status of 1xx, and without a body where the request was HEAD or the status is 204
-- or 304
abbrev pub reply_kind : ℕ → Bool → Kind
reply_kind status to_head =
    if nat_lt 99 status && nat_lt status 200 then Interim
    else if to_head || status == 204 || status == 304 then NoBody else Reply

-- the number that the bytes write: digits alone, at least one, with zeros in front or not, within 64 bits
abbrev pub length_number : List ℕ → Option ℕ
length_number value =
    if nat_lt 0 (length value) && list_all (λ byte. is_digit byte 10) value && nat_lt (digits_value 10 value) (2 ^ 64)
    then Some (digits_value 10 value) else None

abbrev pub is_that : ℕ → Option ℕ → Bool
is_that n None = false
is_that n (Some m) = m == n

abbrev pub is_length : ℕ → List ℕ → Bool
is_length n value = is_that n (length_number value)

-- each Content-Length says this length
abbrev pub says_length : ℕ → List Field → Bool
says_length n fields = list_all (λ field. not (is_named length_name field) || is_length n field.value) fields

-- whether the fields of such a message may frame a body
abbrev pub has_body : Kind → Bool
has_body Request = true
has_body Reply = true
has_body Interim = false
has_body NoBody = false

-- where no field says it: a request without a length has no body, and a reply goes to the end
abbrev pub unsaid : Kind → Framing
unsaid Request = Nothing
unsaid Reply = UntilEnd
unsaid Interim = Nothing
unsaid NoBody = Nothing

-- These fields say so where the body of such a message ends: one `chunked` as the only coding; or lengths, which agree;
-- a message with both says nothing.
abbrev pub Says : Kind → List Field → Framing → Type 0
Says kind fields Nothing = (count_of length_name fields ≡ 0) × (count_of coding_name fields ≡ 0) × (unsaid kind ≡ Nothing)
Says kind fields UntilEnd = (count_of length_name fields ≡ 0) × (count_of coding_name fields ≡ 0) × (unsaid kind ≡ UntilEnd)
Says kind fields Chunked =
    (count_of length_name fields ≡ 0) × (count_of coding_name fields ≡ 1)
    × IsSomeAnd (first_value coding_name fields) (λ coding. folded coding ≡ codes "chunked")
Says kind fields (Length n) = (0 < count_of length_name fields) × (count_of coding_name fields ≡ 0) × IsTrue (says_length n fields)

-- the framing of a message of this kind with these fields
abbrev pub Frames : Kind → List Field → Framing → Type 0
Frames NoBody fields framing = framing ≡ Nothing
Frames Interim fields framing = framing ≡ Nothing
Frames Request fields framing = Says Request fields framing
Frames Reply fields framing = Says Reply fields framing
