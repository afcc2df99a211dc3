-- The fields that go on from one connection to the next (RFC 9110, sections 7.6.1, 10.1.1 and 10.1.4).
use Rattle.std.specs.Prelude.{ℕ, Bool, true, false, not, ◌&&◌, ◌||◌, List, [], ◌∷◌, filter, codes}
use Rattle.std.specs.List.{list_any}
use Rattle.http_heads.specs.declared.fields.Field.{Field}
use Rattle.http_heads.specs.Fields.{is_named}
use Rattle.http_heads.specs.Lists.{is_listed}
use Rattle.backend_request.specs.declared.purpose.Purpose.{Purpose}
use Rattle.backend_request.specs.declared.purpose.Purpose.TheVariants.{Store, Pass}

-- fields for one connection, and those that frame a body
abbrev pub connection_names : List (List ℕ)
connection_names =
    codes "connection" ∷ codes "keep-alive" ∷ codes "proxy-connection" ∷ codes "trailer" ∷ codes "transfer-encoding"
    ∷ codes "upgrade" ∷ codes "content-length" ∷ []

-- what a request says to the server that it is sent to
abbrev pub request_names : List (List ℕ)
request_names = codes "te" ∷ codes "expect" ∷ []

-- fields of a request by which less than a whole response may come (RFC 9110, sections 13.1 and 14.2)
abbrev pub partial_names : List (List ℕ)
partial_names =
    codes "range" ∷ codes "if-match" ∷ codes "if-none-match" ∷ codes "if-modified-since" ∷ codes "if-unmodified-since"
    ∷ codes "if-range" ∷ []

abbrev pub is_one_of : List (List ℕ) → Field → Bool
is_one_of names f = list_any (λ name. is_named name f) names

-- it is for one connection by its name, or because Connection names it
abbrev pub is_of_connection : List Field → Field → Bool
is_of_connection fields f = is_one_of connection_names f || is_listed (codes "connection") f.name fields

abbrev pub is_store : Purpose → Bool
is_store Store = true
is_store Pass = false

-- it goes on to the backend: always where it is Host, by which the site is found
abbrev pub stays_in_request : Purpose → List Field → Field → Bool
stays_in_request purpose fields f =
    is_named (codes "host") f
    || not (is_of_connection fields f || (is_one_of request_names f || (is_store purpose && is_one_of partial_names f)))

-- the fields of a client's request that go to a backend
abbrev pub passed_request : Purpose → List Field → List Field
passed_request purpose fields = filter (stays_in_request purpose fields) fields

-- the fields of a backend's reply that are kept
abbrev pub passed_reply : List Field → List Field
passed_reply fields = filter (λ f. not (is_of_connection fields f)) fields
