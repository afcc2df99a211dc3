-- The line of an exchange: the combined form, and behind it the seconds that it took, whether a stored object answered, and its number.
use Rattle.std.specs.Prelude.{ℕ, Bool, ◌/◌, ◌==◌, List, [], ◌∷◌, ◌++◌, Option, Some, None, take, codes, if◌then◌else◌}
use Rattle.std.specs.List.{position}
use Rattle.std.specs.Option.{option_or, option_map_or}
use Rattle.std.specs.Fmt.{decimal}
use Rattle.units.specs.Quoted.{quote_of}
use Rattle.http_heads.specs.Fields.{first_value, is_named}
use Rattle.http_heads.specs.Printed.{version_text, three_digits}
use Rattle.http_heads.specs.declared.fields.Field.{Field}
use Rattle.http_heads.specs.declared.message.RequestHead.{RequestHead}
use Rattle.http_heads.specs.declared.message.ResponseHead.{ResponseHead}
use Rattle.access_log.specs.declared.exchange.Exchange.{Exchange}

-- a dash stands for what isn't there
abbrev pub dash : List ℕ
dash = 45 ∷ []

-- the method, the target and the version
abbrev pub request_line : RequestHead → List ℕ
request_line head = head.method ++ 32 ∷ head.url ++ 32 ∷ version_text head.version

abbrev pub request_text : Option RequestHead → List ℕ
request_text None = quote_of dash
request_text (Some head) = quote_of (request_line head)

-- the value of the first field of the name
abbrev pub told_text : List ℕ → Option RequestHead → List ℕ
told_text name None = quote_of dash
told_text name (Some head) = quote_of (option_map_or (λ value. value) (first_value name head.fields) dash)

abbrev pub status_text : Option ResponseHead → List ℕ
status_text None = dash
status_text (Some head) = three_digits head.status

-- seconds with three decimals
abbrev pub seconds_text : ℕ → List ℕ
seconds_text millis = decimal (millis / 1000) ++ 46 ∷ three_digits millis

abbrev pub value_of : List ℕ → Field → Option (List ℕ)
value_of name field = if is_named name field then Some field.value else None

-- the value of the last field of the name
abbrev pub last_value : List ℕ → List Field → Option (List ℕ)
last_value name [] = None
last_value name (field ∷ rest) = option_or (last_value name rest) (value_of name field)

abbrev pub is_blank : ℕ → Bool
is_blank byte = byte == 32

-- by the value of X-Varnish, which has the request's number, and behind a blank that of the stored object that answered, if one did
abbrev pub numbers_text : List ℕ → List ℕ
numbers_text value = option_map_or (λ place. codes "hit " ++ take place value) (position is_blank value) (codes "miss " ++ value)

abbrev pub outcome_text : Option ResponseHead → List ℕ
outcome_text None = codes "- -"
outcome_text (Some head) = option_map_or numbers_text (last_value (codes "X-Varnish") head.fields) (codes "- -")

-- the client, the moment and the request line
abbrev pub front_text : Exchange → List ℕ → List ℕ
front_text exchange moment = exchange.address ++ codes " - - [" ++ moment ++ codes "] " ++ request_text exchange.request

-- the status, the bytes of the body, and two fields of the request
abbrev pub middle_text : Exchange → List ℕ
middle_text exchange = 32 ∷ status_text exchange.response ++ 32 ∷ decimal exchange.sent ++ 32 ∷ told_text (codes "Referer") exchange.request
    ++ 32 ∷ told_text (codes "User-Agent") exchange.request

abbrev pub line_text : Exchange → List ℕ → List ℕ
line_text exchange moment = front_text exchange moment ++ middle_text exchange ++ 32 ∷ seconds_text exchange.millis ++ 32 ∷ outcome_text exchange.response ++ 10 ∷ []
