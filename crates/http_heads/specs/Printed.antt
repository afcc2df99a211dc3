-- Heads as they are printed: a space between the parts of the start line, `name: value` in each field line, CR LF behind
-- each line (RFC 9112, sections 3, 4 and 5).
use Rattle.std.specs.Prelude.{◌≡◌, ℕ, ◌+◌, ◌/◌, ◌%◌, ◌<◌, ◌≤◌, ◌⊎◌, ◌==◌, if◌then◌else◌, List, [], ◌∷◌, ◌++◌, length, All, codes, IsUtf8}
use Rattle.std.specs.List.{flat_map}
use Rattle.httparse.specs.Grammar.{IsToken, AllPass, is_uri_byte, is_value_byte, trim_ows}
use Rattle.http_heads.specs.Limits.{head_limit, field_limit}
use Rattle.http_heads.specs.declared.fields.Field.{Field}
use Rattle.http_heads.specs.declared.message.RequestHead.{RequestHead}
use Rattle.http_heads.specs.declared.message.ResponseHead.{ResponseHead}

-- CR LF
abbrev pub line_end : List ℕ
line_end = 13 ∷ 10 ∷ []

abbrev pub version_text : ℕ → List ℕ
version_text version = if version == 10 then codes "HTTP/1.0" else codes "HTTP/1.1"

-- the last three digits
abbrev pub three_digits : ℕ → List ℕ
three_digits n = (48 + n / 100 % 10) ∷ (48 + n / 10 % 10) ∷ (48 + n % 10) ∷ []

-- the name, a colon, a space and the value
abbrev pub field_text : Field → List ℕ
field_text f = f.name ++ 58 ∷ 32 ∷ f.value ++ line_end

-- the field lines, and the empty line behind them
abbrev pub fields_text : List Field → List ℕ
fields_text fields = flat_map field_text fields ++ line_end

unfoldable pub request_text : RequestHead → List ℕ
request_text m = m.method ++ 32 ∷ m.url ++ 32 ∷ version_text m.version ++ line_end ++ fields_text m.fields

unfoldable pub response_text : ResponseHead → List ℕ
response_text m = version_text m.version ++ 32 ∷ three_digits m.status ++ 32 ∷ m.reason ++ line_end ++ fields_text m.fields

-- a field that reads as it is printed: its value has no white space at its ends
pub record IsPlainField (f : Field) : Type 0 where
  pub name : IsToken f.name
  pub value : AllPass is_value_byte f.value
  pub trimmed : trim_ows f.value ≡ f.value

-- each part of the message is of its class
pub record IsRequestShape (m : RequestHead) : Type 0 where
  pub method : IsToken m.method
  pub url : (0 < length m.url) × AllPass is_uri_byte m.url
  pub url_text : IsUtf8 m.url
  pub version : (m.version ≡ 10) ⊎ (m.version ≡ 11)
  pub fields : All IsPlainField m.fields

pub record IsResponseShape (m : ResponseHead) : Type 0 where
  pub version : (m.version ≡ 10) ⊎ (m.version ≡ 11)
  pub status : m.status < 1000
  pub reason : AllPass is_value_byte m.reason
  pub fields : All IsPlainField m.fields

-- a message whose text is so long, with these fields, is within the limits of a head
pub record IsWithinLimits (fields : List Field) (text : List ℕ) : Type 0 where
  pub few : length fields ≤ field_limit
  pub short : length text ≤ head_limit

-- the message is a head: each part is of its class, and the text is within the limits
pub record IsRequestMessage (m : RequestHead) : Type 0 where
  pub shape : IsRequestShape m
  pub limits : IsWithinLimits m.fields (request_text m)

pub record IsResponseMessage (m : ResponseHead) : Type 0 where
  pub shape : IsResponseShape m
  pub limits : IsWithinLimits m.fields (response_text m)
