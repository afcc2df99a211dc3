-- The response that the parser's offsets show.
use Rattle.std.proofs.Common.{◌≡◌, ℕ, ◌+◌, ◌≤◌, List, length, take, sym, ◌∙◌, arith}
use Rattle.httparse.specs.Grammar.{ResponseHead as ResponseTree}
use Rattle.httparse.specs.Spans.{IsResponseOf, IsResponseAt, IsResponseWithin, ResponseExceeds}
use Rattle.httparse.specs.declared.spans.HeaderSpan.{HeaderSpan}
use Rattle.httparse.specs.declared.spans.ResponseSpans.{ResponseSpans}
use Rattle.http_heads.specs.declared.message.ResponseHead.{ResponseHead}
use Rattle.http_heads.specs.Heads.{HasResponse, responses, response_of}
use Rattle.http_heads.specs.Lines.{full_lines}
use Rattle.http_heads.specs.Spans.{response_at}
use Rattle.http_heads.proofs.Fronts.{same_fields, fields_fit}
use Rattle.http_heads.proofs.HeadLines.{lines_of_responses}
use Rattle.http_heads.proofs.HeadFacts as heads

-- the message that the spans show
shown : (front : List ℕ) (room : List HeaderSpan) (spans : ResponseSpans) (tree : ResponseTree)
    → IsResponseAt front room spans tree → response_at front room spans ≡ response_of tree
shown front room spans tree at =
    let fields = same_fields front (take spans.headers room) tree.fields at.fields in
    λ i. record { version = 10 + at.version i; status = at.code i; reason = at.reason i; fields = fields i }

pub found : (bytes front : List ℕ) (room : List HeaderSpan) (spans : ResponseSpans)
    → front ≡ take 32768 bytes → length room ≡ 64 → IsResponseWithin front room spans → IsResponseOf front room spans
    → HasResponse bytes (response_at front room spans) spans.len
found bytes front room spans is size within of =
    let tree = of.0 in
    let at = of.1 in
    heads.found responses bytes front tree (response_at front room spans) spans.len is at.reads at.len within.section.len_fits
    (omega (arith, fields_fit front room spans.headers tree.fields at.fields, size)) (shown front room spans tree at)

-- the message of a head is what the spans show
pub same : (bytes front : List ℕ) (room : List HeaderSpan) (spans : ResponseSpans) (message : ResponseHead) (count : ℕ)
    (has : HasResponse bytes message count) → IsResponseAt front room spans has.tree
    → ◌≡◌ {A = ResponseHead × ℕ} (response_at front room spans, spans.len) (message, count)
same bytes front room spans message count has at =
    let messages : response_at front room spans ≡ message = shown front room spans has.tree at ∙ sym has.is in
    let counts : spans.len ≡ count = at.len ∙ sym has.counted in
    λ i. (messages i, counts i)

pub many_lines : (front : List ℕ) → ResponseExceeds 64 front → 66 ≤ full_lines front
many_lines front exceeds =
    heads.many_lines responses lines_of_responses front exceeds.0 exceeds.1 exceeds.3 exceeds.2 exceeds.4 exceeds.5
