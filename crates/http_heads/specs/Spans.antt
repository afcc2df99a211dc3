-- The message that the parser's offsets show.
use Rattle.std.specs.Prelude.{ℕ, ◌+◌, List, map, take}
use Rattle.httparse.specs.Spans.{span_bytes}
use Rattle.httparse.specs.declared.spans.HeaderSpan.{HeaderSpan}
use Rattle.httparse.specs.declared.spans.RequestSpans.{RequestSpans}
use Rattle.httparse.specs.declared.spans.ResponseSpans.{ResponseSpans}
use Rattle.http_heads.specs.declared.fields.Field.{Field}
use Rattle.http_heads.specs.declared.message.RequestHead.{RequestHead}
use Rattle.http_heads.specs.declared.message.ResponseHead.{ResponseHead}

abbrev pub field_at : List ℕ → HeaderSpan → Field
field_at buf span = record { name = span_bytes buf span.name; value = span_bytes buf span.value }

abbrev pub request_at : List ℕ → List HeaderSpan → RequestSpans → RequestHead
request_at buf room spans = record {
  method = span_bytes buf spans.method;
  url = span_bytes buf spans.path;
  version = 10 + spans.version;
  fields = map (field_at buf) (take spans.headers room);
}

abbrev pub response_at : List ℕ → List HeaderSpan → ResponseSpans → ResponseHead
response_at buf room spans = record {
  version = 10 + spans.version;
  status = spans.code;
  reason = span_bytes buf spans.reason;
  fields = map (field_at buf) (take spans.headers room);
}
