-- What is stored of a response (RFC 9111, section 4.1; Varnish Users Guide, "Hit-for-miss"; vmod_xkey).
use Rattle.std.specs.Prelude.{ℕ, ℤ, Bool, not, List, [], map, filter, Option, Some, None, codes}
use Rattle.std.specs.List.{list_any}
use Rattle.std.specs.Str.{bytes_eq}
use Rattle.http_heads.specs.declared.fields.Field.{Field}
use Rattle.http_heads.specs.declared.message.ResponseHead.{ResponseHead}
use Rattle.freshness.specs.declared.times.Timing.{Timing}
use Rattle.freshness.specs.Directives.{values_of}
use Rattle.http_heads.specs.declared.parts.Separators.TheVariants.{Commas, CommasAndBlanks}
use Rattle.http_heads.specs.Lists.{listed}
use Rattle.cache_law.specs.declared.call.Query.{Query}
use Rattle.cache_law.specs.declared.object.VaryItem.{VaryItem}
use Rattle.cache_law.specs.declared.object.Content.{Content}
use Rattle.cache_law.specs.declared.object.Marker.{Marker}
use Rattle.cache_law.specs.declared.object.Response.{Response}

-- `*` in a Vary field stands for more than the fields of a request
abbrev pub is_star : List ℕ → Bool
is_star name = bytes_eq name (codes "*")

-- a field that the response was chosen by, with its values in the request that was looked up
abbrev pub item_in : List Field → List ℕ → VaryItem
item_in fields name = record { name = name; values = values_of name fields }

abbrev pub items_for : List Field → List (List ℕ) → List VaryItem
items_for fields names = map (item_in fields) (filter (λ name. not (is_star name)) names)

-- the names that the Vary fields list
abbrev pub vary_names : List Field → List (List ℕ)
vary_names fields = listed Commas (codes "vary") fields

-- what was looked up: nothing, where the request was passed
abbrev pub key_of : Option Query → List (List ℕ)
key_of None = []
key_of (Some query) = query.key

abbrev pub fields_of : Option Query → List Field
fields_of None = []
fields_of (Some query) = query.request.fields

abbrev pub content_of : Option Query → ResponseHead → List ℕ → Content
content_of looked head body = record {
  key = key_of looked;
  vary = items_for (fields_of looked) (vary_names head.fields);
  varies_always = list_any is_star (vary_names head.fields);
  status = head.status;
  reason = head.reason;
  fields = head.fields;
  body = body;
  xkeys = listed CommasAndBlanks (codes "xkey") head.fields;
}

-- the response that VCL left of a fetch
abbrev pub response_of : Option Query → ResponseHead → List ℕ → Timing → Response
response_of looked head body timing = record { timing = timing; content = content_of looked head body }

-- what is remembered of a response that isn't kept
abbrev pub marker_of : Response → ℤ → Marker
marker_of response ttl = record {
  key = response.content.key;
  vary = response.content.vary;
  status = response.content.status;
  origin = response.timing.origin;
  ttl = ttl;
}
