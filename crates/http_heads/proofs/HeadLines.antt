-- The lines of a head.
use Rattle.std.proofs.Common.{◌≡◌, ℕ, suc, ◌+◌, ◌≤◌, Bool, true, false, Option, Some, None, List, [], ◌∷◌, ◌++◌, length, refl, sym, ◌∙◌, ap, subst, arith, eqb, inl, inr, append_assoc, append-nil, length-append}
use Rattle.std.specs.List.{prefix_len, flat_map, All, AllByRecursion}
use Rattle.std.specs.Prelude.{IsTrue}
use Rattle.std.specs.Char.{is_ascii_digit}
use Rattle.std.proofs.lemmas.Bool.{cases_eq}
use Rattle.std.proofs.lemmas.Bool.Decides.{nat_tests}
use Rattle.std.proofs.lemmas.List.Elements.{recursion_from_All}
use Rattle.httparse.specs.Grammar.{is_token_byte, is_uri_byte, is_value_byte, AllPass, LineEnd, print_end, print_blank, print_version, Field, print_field, IsField, RequestHead, print_request, IsRequestHead, ResponseHead, print_response, IsResponseHead, print_reason, reason_phrase}
use Rattle.httparse.specs.Grammar.LineEnd.{crlf, lf}
use Rattle.http_heads.specs.Heads.{HeadKind, requests, responses}
use Rattle.http_heads.specs.Lines.{ended_lines, is_empty_line, is_full_line, from_full, full_lines}
use Rattle.httparse.proofs.GrammarLemmas.{cons-append, print_request-append, print_response-append}
use Rattle.http_heads.proofs.LineLemmas.{from_full-empty, from_full-full}

-- no byte is LF
abbrev pub NoFeed : List ℕ → Type 0
NoFeed bytes = AllByRecursion (λ byte. eqb byte 10 ≡ false) bytes

pub NoFeed-append : (a b : List ℕ) → NoFeed a → NoFeed b → NoFeed (a ++ b)
NoFeed-append [] b p q = q
NoFeed-append (x ∷ a) b p q = (p.0, NoFeed-append a b p.1 q)

passes_no_feed : (test : ℕ → Bool) (byte : ℕ) → IsTrue (test byte) → test 10 ≡ false → eqb byte 10 ≡ false
passes_no_feed test byte pass fails = elim (cases_eq byte 10) [
  | inl same ↦
      let at_feed : test 10 ≡ true = subst (λ (b : ℕ). test b ≡ true) same pass in
      cc
  | inr differs ↦ grind (arith, nat_tests)
]

token_feed : is_token_byte 10 ≡ false
unfolding is_token_byte
token_feed = refl

-- LF ends the line in front of it
ended_line : (line rest : List ℕ) → NoFeed line → ended_lines (line ++ 10 ∷ rest) ≡ line ∷ ended_lines rest
unfolding ended_lines
ended_line [] rest none = refl
ended_line (byte ∷ line) rest none = rw (none.0, ended_line line rest none.1) refl

NoFeed-each : (test : ℕ → Bool) (bytes : List ℕ) → test 10 ≡ false → AllByRecursion (λ b. IsTrue (test b)) bytes → NoFeed bytes
NoFeed-each test [] fails pass = tt
NoFeed-each test (byte ∷ bytes) fails pass = (passes_no_feed test byte pass.0 fails, NoFeed-each test bytes fails pass.1)

pub NoFeed-from : (test : ℕ → Bool) (bytes : List ℕ) → test 10 ≡ false → AllPass test bytes → NoFeed bytes
NoFeed-from test bytes fails pass = NoFeed-each test bytes fails (recursion_from_All (λ b. IsTrue (test b)) bytes pass)

-- what stands of a line's end in front of its LF
abbrev pub before_feed : LineEnd → List ℕ
before_feed crlf = 13 ∷ []
before_feed lf = []

pub print_end-feed : (end : LineEnd) → print_end end ≡ before_feed end ++ 10 ∷ []
print_end-feed crlf = refl
print_end-feed lf = refl

ended : (line : List ℕ) (end : LineEnd) (rest : List ℕ) → NoFeed line → ended_lines (line ++ (print_end end ++ rest)) ≡ (line ++ before_feed end) ∷ ended_lines rest
ended line crlf rest none =
    let joined : line ++ 13 ∷ 10 ∷ rest ≡ (line ++ 13 ∷ []) ++ 10 ∷ rest = sym (append_assoc line (13 ∷ []) (10 ∷ rest)) in
    ap ended_lines joined ∙ ended_line (line ++ 13 ∷ []) rest (NoFeed-append line (13 ∷ []) none (refl, tt))
ended line lf rest none = ended_line line rest none ∙ ap (λ (l : List ℕ). l ∷ ended_lines rest) (sym (append-nil line))

empty_end : (end : LineEnd) → is_empty_line (before_feed end) ≡ true
empty_end crlf = refl
empty_end lf = refl

-- a line of two bytes isn't empty
long_line : (line : List ℕ) → 2 ≤ length line → is_empty_line line ≡ false
long_line [] long = absurd (omega arith)
long_line (a ∷ []) long = absurd (omega arith)
long_line (a ∷ b ∷ line) long = refl

-- the empty lines in front are passed over
blank_lines : (ends : List LineEnd) (rest : List ℕ) → from_full (ended_lines (print_blank ends ++ rest)) ≡ from_full (ended_lines rest)
blank_lines [] rest = refl
blank_lines (end ∷ ends) rest =
    let joined : print_blank (end ∷ ends) ++ rest ≡ print_end end ++ (print_blank ends ++ rest) = append_assoc (print_end end) (print_blank ends) rest in
    let lines : ended_lines (print_blank (end ∷ ends) ++ rest) ≡ before_feed end ∷ ended_lines (print_blank ends ++ rest) =
    ap ended_lines joined ∙ ended [] end (print_blank ends ++ rest) tt in
    ap from_full lines ∙ from_full-empty (before_feed end) (ended_lines (print_blank ends ++ rest)) (empty_end end) ∙ blank_lines ends rest

-- a line of two bytes or more counts as one
counts : (line : List ℕ) (end : LineEnd) (rest : List ℕ) → NoFeed line → 2 ≤ length line
    → prefix_len is_full_line (ended_lines (line ++ (print_end end ++ rest))) ≡ suc (prefix_len is_full_line (ended_lines rest))
counts line end rest none long =
    let full : is_empty_line (line ++ before_feed end) ≡ false = long_line (line ++ before_feed end) (omega (arith, length-append line (before_feed end))) in
    let lines = ended line end rest none in
    rw (lines, full) (omega arith)

-- the lines of the fields
field_lines : (fields : List Field) (rest : List ℕ) → AllByRecursion IsField fields
    → prefix_len is_full_line (ended_lines (flat_map print_field fields ++ rest)) ≡ length fields + prefix_len is_full_line (ended_lines rest)
field_lines [] rest each = omega arith
field_lines (f ∷ fields) rest each =
    let behind = flat_map print_field fields ++ rest in
    let line = f.name ++ 58 ∷ f.raw in
    let none : NoFeed line = NoFeed-append f.name (58 ∷ f.raw) (NoFeed-from is_token_byte f.name token_feed each.0.name.1) (refl, NoFeed-from is_value_byte f.raw refl each.0.raw) in
    let long : 2 ≤ length line = omega (arith, length-append f.name (58 ∷ f.raw), each.0.name.0) in
    let joined : flat_map print_field (f ∷ fields) ++ rest ≡ line ++ (print_end f.end ++ behind) = regroup f.name f.raw (print_end f.end) (flat_map print_field fields) rest in
    let one = counts line f.end behind none long in
    let others = field_lines fields rest each.1 in
    ap (λ (l : List ℕ). prefix_len is_full_line (ended_lines l)) joined ∙ one ∙ ap suc others ∙ omega arith
  where
    regroup : (a b c d r : List ℕ) → ((a ++ 58 ∷ b ++ c) ++ d) ++ r ≡ (a ++ 58 ∷ b) ++ (c ++ (d ++ r))
    regroup a b c d r = simp (append_assoc, cons-append)

-- a start line and fields behind empty lines
pub head_lines : (blank : List LineEnd) (start : List ℕ) (end : LineEnd) (fields : List Field) (rest : List ℕ)
    → NoFeed start → 2 ≤ length start → All IsField fields
    → full_lines (print_blank blank ++ (start ++ (print_end end ++ (flat_map print_field fields ++ rest))))
    ≡ suc (length fields + prefix_len is_full_line (ended_lines rest))
head_lines blank start end fields rest none long each =
    let behind = flat_map print_field fields ++ rest in
    let text = start ++ (print_end end ++ behind) in
    let full : is_empty_line (start ++ before_feed end) ≡ false = long_line (start ++ before_feed end) (omega (arith, length-append start (before_feed end))) in
    let lines = ended start end behind none in
    let stays : from_full (ended_lines text) ≡ ended_lines text = rw lines (from_full-full (start ++ before_feed end) (ended_lines behind) full) in
    ap (prefix_len is_full_line) (blank_lines blank text ∙ stays) ∙ counts start end behind none long
    ∙ ap suc (field_lines fields rest (recursion_from_All IsField fields each))

-- the empty line behind the fields ends the count
pub last_line : (end : LineEnd) (rest : List ℕ) → prefix_len is_full_line (ended_lines (print_end end ++ rest)) ≡ 0
last_line end rest =
    let lines = ended [] end rest tt in
    rw (lines, empty_end end) refl

-- a head up to its last line, from its parts
abbrev pub head_front : List LineEnd → List ℕ → LineEnd → List Field → List ℕ → List ℕ
head_front blank start end fields rest = print_blank blank ++ (start ++ (print_end end ++ (flat_map print_field fields ++ rest)))

pub head_front-append : (blank : List LineEnd) (start : List ℕ) (end : LineEnd) (fields : List Field) (a b : List ℕ)
    → head_front blank start end fields (a ++ b) ≡ head_front blank start end fields a ++ b
head_front-append blank start end fields a b = regroup (print_blank blank) start (print_end end) (flat_map print_field fields) a b
  where
    regroup : (w x y z a b : List ℕ) → w ++ (x ++ (y ++ (z ++ (a ++ b)))) ≡ (w ++ (x ++ (y ++ (z ++ a)))) ++ b
    regroup w x y z a b = simp append_assoc

-- the lines of a kind of head: each head is a front and its last line's end, and the lines of its front are counted
pub record HasLines {Tree Message : Type 0} (kind : HeadKind Tree Message) : Type 0 where
  pub front : Tree → List ℕ → List ℕ
  pub last : Tree → LineEnd
  pub printed : (tree : Tree) (rest : List ℕ) → kind.print tree ++ rest ≡ front tree (print_end (last tree) ++ rest)
  pub joined : (tree : Tree) (a b : List ℕ) → front tree (a ++ b) ≡ front tree a ++ b
  pub lines : (tree : Tree) (rest : List ℕ) → kind.IsTree tree
      → full_lines (front tree rest) ≡ suc (length (kind.lines tree) + prefix_len is_full_line (ended_lines rest))

-- the start line of a request
abbrev request_start : RequestHead → List ℕ
request_start h = h.method ++ 32 ∷ (h.target ++ 32 ∷ print_version h.minor)

-- a request's head up to its last line
abbrev request_front : RequestHead → List ℕ → List ℕ
request_front h rest = head_front h.blank (request_start h) h.line_end h.fields rest

print_request-front : (h : RequestHead) (rest : List ℕ) → print_request h ++ rest ≡ request_front h (print_end h.last ++ rest)
print_request-front h rest = print_request-append h rest ∙ regroup (print_blank h.blank) h.method h.target (print_version h.minor) (print_end h.line_end) (flat_map print_field h.fields) (print_end h.last) rest
  where
    regroup : (a b c d e f g r : List ℕ)
        → a ++ (b ++ 32 ∷ (c ++ 32 ∷ (d ++ (e ++ ((f ++ g) ++ r))))) ≡ a ++ ((b ++ 32 ∷ (c ++ 32 ∷ d)) ++ (e ++ (f ++ (g ++ r))))
    regroup a b c d e f g r = simp (append_assoc, cons-append)

version_feed : (minor : ℕ) → minor ≤ 1 → NoFeed (print_version minor)
version_feed minor small =
    let digit : eqb (48 + minor) 10 ≡ false = grind (arith, nat_tests) in
    (refl, (refl, (refl, (refl, (refl, (refl, (refl, (digit, tt))))))))

request_lines : (h : RequestHead) (rest : List ℕ) → IsRequestHead h
    → full_lines (request_front h rest) ≡ suc (length h.fields + prefix_len is_full_line (ended_lines rest))
request_lines h rest is =
    let none : NoFeed (request_start h) =
    NoFeed-append h.method _ (NoFeed-from is_token_byte h.method token_feed is.method.1)
    (refl, NoFeed-append h.target _ (NoFeed-from is_uri_byte h.target refl is.target.1) (refl, version_feed h.minor is.minor)) in
    let long : 2 ≤ length (request_start h) = omega (arith, length-append h.method (32 ∷ (h.target ++ 32 ∷ print_version h.minor)), is.method.0) in
    head_lines h.blank (request_start h) h.line_end h.fields rest none long is.fields

-- the start line of a response
abbrev response_start : ResponseHead → List ℕ
response_start h = print_version h.minor ++ 32 ∷ (h.digits ++ print_reason h.reason)

-- a response's head up to its last line
abbrev response_front : ResponseHead → List ℕ → List ℕ
response_front h rest = head_front h.blank (response_start h) h.line_end h.fields rest

print_response-front : (h : ResponseHead) (rest : List ℕ) → print_response h ++ rest ≡ response_front h (print_end h.last ++ rest)
print_response-front h rest = print_response-append h rest ∙ regroup (print_blank h.blank) (print_version h.minor) h.digits (print_reason h.reason) (print_end h.line_end) (flat_map print_field h.fields) (print_end h.last) rest
  where
    regroup : (a b c d e f g r : List ℕ)
        → a ++ (b ++ 32 ∷ (c ++ (d ++ (e ++ ((f ++ g) ++ r))))) ≡ a ++ ((b ++ 32 ∷ (c ++ d)) ++ (e ++ (f ++ (g ++ r))))
    regroup a b c d e f g r = simp (append_assoc, cons-append)

reason_feed : (reason : Option (List ℕ)) → AllPass is_value_byte (reason_phrase reason) → NoFeed (print_reason reason)
reason_feed None pass = tt
reason_feed (Some phrase) pass = (refl, NoFeed-from is_value_byte phrase refl pass)

response_lines : (h : ResponseHead) (rest : List ℕ) → IsResponseHead h
    → full_lines (response_front h rest) ≡ suc (length h.fields + prefix_len is_full_line (ended_lines rest))
response_lines h rest is =
    let none : NoFeed (response_start h) =
    NoFeed-append (print_version h.minor) (32 ∷ (h.digits ++ print_reason h.reason)) (version_feed h.minor is.minor)
    (refl, NoFeed-append h.digits (print_reason h.reason) (NoFeed-from is_ascii_digit h.digits refl is.digits.1) (reason_feed h.reason is.reason)) in
    let long : 2 ≤ length (response_start h) = omega (arith, length-append (print_version h.minor) (32 ∷ (h.digits ++ print_reason h.reason))) in
    head_lines h.blank (response_start h) h.line_end h.fields rest none long is.fields

pub lines_of_requests : HasLines requests
lines_of_requests = record {
  front = request_front;
  last = λ h. h.last;
  printed = print_request-front;
  joined = λ h a b. head_front-append h.blank (request_start h) h.line_end h.fields a b;
  lines = request_lines;
}

pub lines_of_responses : HasLines responses
lines_of_responses = record {
  front = response_front;
  last = λ h. h.last;
  printed = print_response-front;
  joined = λ h a b. head_front-append h.blank (response_start h) h.line_end h.fields a b;
  lines = response_lines;
}
