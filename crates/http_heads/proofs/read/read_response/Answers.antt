-- What the parser told of the front holds of the bytes.
use Rattle.std.proofs.Common.{ap, sym, subst, ◌∙◌, inl, List, ℕ, ◌≤◌, Ok, Err, Some}
use Rattle.httparse.specs.Grammar.{NeverHasResponse, MayBecomeResponse}
use Rattle.http_heads.specs.declared.message.HeadError.TheVariants.{NoMemory}
use Rattle.http_heads.specs.Heads.{HasResponse, AnswersResponse, responses}
use Rattle.http_heads.specs.Lines.{full_lines}
use Rattle.http_heads.proofs.HeadLines.{lines_of_responses}
use Rattle.http_heads.proofs.HeadFacts.{stands, lacks, never_lacks, few_lines, told_none, told_long, passed_on}
use Rattle.http_heads.proofs.ResponseFacts.{found, same, many_lines}
use Rattle.http_heads.proofs.read.read_response.Goals as goal

pub returns-in_default-clause-found : goal.returns-in_default-clause-found
returns-in_default-clause-found c message count has =
    absurd (few_lines responses lines_of_responses c.args.bytes.now message count has c.in_default.ensures)

pub returns-in_ok-head-in-Ok-Complete-clause-answer : goal.returns-in_ok-head-in-Ok-Complete-clause-answer
returns-in_ok-head-in-Ok-Complete-clause-answer c =
    let within = rw c.in-Ok-Complete.field-0-is at c.in-Ok-Complete.ensures.within in
    let complete = rw c.in-Ok-Complete.field-0-is at c.in-Ok-Complete.ensures.complete in
    let has = found c.args.bytes.now c.in-Some.front.now c.parse_response.new.headers c.in-Ok-Complete.spans
    c.in-Some.ensures.0 c.parse_response.auto.headers within complete in
    let here = subst (λ m. HasResponse c.args.bytes.now m c.in-Ok-Complete.spans.len) (sym c.in_ok-head-in-Ok-Complete.ensures) has in
    (here, c.in-Some.ensures.1)

pub returns-in_ok-head-in-Ok-Complete-clause-found : goal.returns-in_ok-head-in-Ok-Complete-clause-found
returns-in_ok-head-in-Ok-Complete-clause-found c message count has =
    let front = c.in-Some.front.now in
    let there = stands responses c.args.bytes.now front message count has c.in-Some.ensures.0 in
    let found_in = rw c.in-Ok-Complete.field-0-is at c.in-Ok-Complete.ensures.found in
    let at = found_in has.tree there.0 there.1 has.few in
    let equal = same c.args.bytes.now front c.parse_response.new.headers c.in-Ok-Complete.spans message count has at in
    inl (ap (λ m. Ok (Some (m, c.in-Ok-Complete.spans.len))) c.in_ok-head-in-Ok-Complete.ensures ∙ ap (λ p. Ok (Some p)) equal)

pub returns-in_err-head-in-Ok-Complete-clause-answer : goal.returns-in_err-head-in-Ok-Complete-clause-answer
returns-in_err-head-in-Ok-Complete-clause-answer c =
    let within = rw c.in-Ok-Complete.field-0-is at c.in-Ok-Complete.ensures.within in
    let complete = rw c.in-Ok-Complete.field-0-is at c.in-Ok-Complete.ensures.complete in
    let has = found c.args.bytes.now c.in-Some.front.now c.parse_response.new.headers c.in-Ok-Complete.spans
    c.in-Some.ensures.0 c.parse_response.auto.headers within complete in
    subst (AnswersResponse c.args.bytes.now) (sym (passed_on c.from_residual.result NoMemory c.from_residual.ensures.1)) (_, _, has, c.in-Some.ensures.1)

pub returns-then-front-lt-MAX_HEAD-clause-answer : goal.returns-then-front-lt-MAX_HEAD-clause-answer
returns-then-front-lt-MAX_HEAD-clause-answer c =
    let none = rw c.in-Ok-Partial.field-0-is at c.in-Ok-Partial.ensures.partial in
    let open_end = rw c.in-Ok-Partial.field-0-is at c.in-Ok-Partial.ensures.unfinished in
    told_none responses NeverHasResponse MayBecomeResponse c.args.bytes.now c.in-Some.front.now c.in-Some.ensures.0 c.in-Some.ensures.1 none open_end
    c.if-front-lt-MAX_HEAD.true

pub returns-then-front-lt-MAX_HEAD-clause-found : goal.returns-then-front-lt-MAX_HEAD-clause-found
returns-then-front-lt-MAX_HEAD-clause-found c message count has =
    let none = rw c.in-Ok-Partial.field-0-is at c.in-Ok-Partial.ensures.partial in
    absurd (lacks responses c.args.bytes.now c.in-Some.front.now c.in-Some.ensures.0 none message count has)

pub returns-else-front-lt-MAX_HEAD-clause-answer : goal.returns-else-front-lt-MAX_HEAD-clause-answer
returns-else-front-lt-MAX_HEAD-clause-answer c =
    let none = rw c.in-Ok-Partial.field-0-is at c.in-Ok-Partial.ensures.partial in
    let open_end = rw c.in-Ok-Partial.field-0-is at c.in-Ok-Partial.ensures.unfinished in
    told_long responses NeverHasResponse MayBecomeResponse c.args.bytes.now c.in-Some.front.now c.in-Some.ensures.0 c.in-Some.ensures.1 none open_end
    c.if-front-lt-MAX_HEAD.false

pub returns-else-front-lt-MAX_HEAD-clause-found : goal.returns-else-front-lt-MAX_HEAD-clause-found
returns-else-front-lt-MAX_HEAD-clause-found c message count has =
    let none = rw c.in-Ok-Partial.field-0-is at c.in-Ok-Partial.ensures.partial in
    absurd (lacks responses c.args.bytes.now c.in-Some.front.now c.in-Some.ensures.0 none message count has)

pub returns-in-Err-clause-answer : goal.returns-in-Err-clause-answer
returns-in-Err-clause-answer c =
    let is = c.in-Some.ensures.0 in
    let never = c.in-Err.ensures.invalid (λ full. c.in-Some.ensures.1
    (subst (λ (l : List ℕ). 66 ≤ full_lines l) is (many_lines c.in-Some.front.now (c.in-Err.ensures.too_many (ap Err full))))) in
    (subst NeverHasResponse is never, c.in-Some.ensures.1)

pub returns-in-Err-clause-found : goal.returns-in-Err-clause-found
returns-in-Err-clause-found c message count has =
    let is = c.in-Some.ensures.0 in
    let never = c.in-Err.ensures.invalid (λ full. c.in-Some.ensures.1
    (subst (λ (l : List ℕ). 66 ≤ full_lines l) is (many_lines c.in-Some.front.now (c.in-Err.ensures.too_many (ap Err full))))) in
    absurd (never_lacks responses c.args.bytes.now c.in-Some.front.now is never message count has)
