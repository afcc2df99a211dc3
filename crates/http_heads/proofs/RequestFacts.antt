-- The request that the parser's offsets show.
use Rattle.std.proofs.Common.{◌≡◌, ℕ, ◌+◌, ◌≤◌, List, length, take, sym, ◌∙◌, arith}
use Rattle.httparse.specs.Grammar.{RequestHead as RequestTree}
use Rattle.httparse.specs.Spans.{IsRequestOf, IsRequestAt, IsRequestWithin, RequestExceeds}
use Rattle.httparse.specs.declared.spans.HeaderSpan.{HeaderSpan}
use Rattle.httparse.specs.declared.spans.RequestSpans.{RequestSpans}
use Rattle.http_heads.specs.declared.message.RequestHead.{RequestHead}
use Rattle.http_heads.specs.Heads.{HasRequest, requests, request_of}
use Rattle.http_heads.specs.Lines.{full_lines}
use Rattle.http_heads.specs.Spans.{request_at}
use Rattle.http_heads.proofs.Fronts.{same_fields, fields_fit}
use Rattle.http_heads.proofs.HeadLines.{lines_of_requests}
use Rattle.http_heads.proofs.HeadFacts as heads

-- the message that the spans show
shown : (front : List ℕ) (room : List HeaderSpan) (spans : RequestSpans) (tree : RequestTree)
    → IsRequestAt front room spans tree → request_at front room spans ≡ request_of tree
shown front room spans tree at =
    let fields = same_fields front (take spans.headers room) tree.fields at.fields in
    λ i. record { method = at.method i; url = at.path i; version = 10 + at.version i; fields = fields i }

pub found : (bytes front : List ℕ) (room : List HeaderSpan) (spans : RequestSpans)
    → front ≡ take 32768 bytes → length room ≡ 64 → IsRequestWithin front room spans → IsRequestOf front room spans
    → HasRequest bytes (request_at front room spans) spans.len
found bytes front room spans is size within of =
    let tree = of.0 in
    let at = of.1 in
    heads.found requests bytes front tree (request_at front room spans) spans.len is at.reads at.len within.section.len_fits
    (omega (arith, fields_fit front room spans.headers tree.fields at.fields, size)) (shown front room spans tree at)

-- the message of a head is what the spans show
pub same : (bytes front : List ℕ) (room : List HeaderSpan) (spans : RequestSpans) (message : RequestHead) (count : ℕ)
    (has : HasRequest bytes message count) → IsRequestAt front room spans has.tree
    → ◌≡◌ {A = RequestHead × ℕ} (request_at front room spans, spans.len) (message, count)
same bytes front room spans message count has at =
    let messages : request_at front room spans ≡ message = shown front room spans has.tree at ∙ sym has.is in
    let counts : spans.len ≡ count = at.len ∙ sym has.counted in
    λ i. (messages i, counts i)

pub many_lines : (front : List ℕ) → RequestExceeds 64 front → 66 ≤ full_lines front
many_lines front exceeds =
    heads.many_lines requests lines_of_requests front exceeds.0 exceeds.1 exceeds.3 exceeds.2 exceeds.4 exceeds.5
