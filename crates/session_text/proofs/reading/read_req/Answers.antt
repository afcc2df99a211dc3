use Rattle.std.proofs.Common.{refl, ap, ◌∙◌, List, ℕ, ◌<◌, arith, length, [], ◌++◌, ◌∷◌}
use Rattle.std.specs.Prelude.{codes}
use Rattle.units.specs.Quoted.{IsQuoted}
use Rattle.session_text.specs.declared.session.Line.TheVariants.{Req}
use Rattle.session_text.specs.Readings.{IsLine}
use Rattle.session_text.proofs.Commanded.{text_line_of}
use Rattle.std.proofs.lemmas.Bool.{false≢true}
use Rattle.session_text.proofs.Words.{req_alone, req_bad_text, req_bad_number}
use Rattle.session_text.proofs.reading.read_req.Goals as goal

pub returns-in_default : goal.returns-in_default
returns-in_default c = req_alone c.args.argument.now c.in_default.ensures

pub returns-then-not-is_quoted : goal.returns-then-not-is_quoted
returns-then-not-is_quoted c = req_bad_text c.args.argument.now c.in-Some.number.now c.in-Some.quoted.now c.in-Some.ensures.0 c.in-Some.ensures.1 (λ values h. false≢true (c.if-not-is_quoted.ensures.1 (values, h)))

pub returns-in_default-client_of : goal.returns-in_default-client_of
returns-in_default-client_of c =
    let text = c.if-not-is_quoted.ensures.0 refl in
    req_bad_number c.args.argument.now c.in-Some.number.now c.in-Some.quoted.now text.0 c.in-Some.ensures.0 c.in-Some.ensures.1 text.1 (λ n h l m long. c.in_default-client_of.ensures n h l m)

pub returns-then-is_empty_text : goal.returns-then-is_empty_text
returns-then-is_empty_text c =
    req_bad_number c.args.argument.now c.in-Some.number.now c.in-Some.quoted.now [] c.in-Some.ensures.0 c.in-Some.ensures.1 (34 ∷ [], c.if-is_empty_text.ensures.0 refl, refl) (λ n h l m long. omega arith)

some_bytes : (quoted values : List ℕ) → (IsQuoted [] quoted [] → ⊥) → IsQuoted values quoted [] → 0 < length values
some_bytes quoted [] none h = absurd (none h)
some_bytes quoted (value ∷ values) none h = omega arith

pub returns : goal.returns
returns c =
    let text = c.if-not-is_quoted.ensures.0 refl in
    let client = c.in-Some-client_of.ensures in
    text_line_of (λ line. IsLine (codes "req" ++ 32 ∷ c.args.argument.now) line) (λ t. Req c.in-Some-client_of.client t) c.in-Some.quoted.now text.0 text.1
    (λ t h. (c.args.argument.now, refl, (c.in-Some.number.now, c.in-Some.quoted.now, c.in-Some.ensures.1, client.0, client.1, client.2, h, some_bytes c.in-Some.quoted.now t (λ e. false≢true (c.if-is_empty_text.ensures.1 (e.1 ∙ ap (λ b. 34 ∷ b) e.2))) h)))
