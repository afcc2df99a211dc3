use Rattle.std.proofs.Common.{refl, ◌++◌, ◌∷◌}
use Rattle.std.specs.Prelude.{codes}
use Rattle.session_text.specs.declared.session.Line.TheVariants.{Reply}
use Rattle.session_text.specs.Readings.{IsLine}
use Rattle.session_text.proofs.Commanded.{text_line_of}
use Rattle.std.proofs.lemmas.Bool.{false≢true}
use Rattle.session_text.proofs.Words.{reply_alone, reply_bad_text, reply_bad_number}
use Rattle.session_text.proofs.reading.read_reply.Goals as goal

pub returns-in_default : goal.returns-in_default
returns-in_default c = reply_alone c.args.argument.now c.in_default.ensures

pub returns-then-not-is_quoted : goal.returns-then-not-is_quoted
returns-then-not-is_quoted c = reply_bad_text c.args.argument.now c.in-Some.number.now c.in-Some.quoted.now c.in-Some.ensures.0 c.in-Some.ensures.1 (λ values h. false≢true (c.if-not-is_quoted.ensures.1 (values, h)))

pub returns-in-None : goal.returns-in-None
returns-in-None c =
    let text = c.if-not-is_quoted.ensures.0 refl in
    reply_bad_number c.args.argument.now c.in-Some.number.now c.in-Some.quoted.now text.0 c.in-Some.ensures.0 c.in-Some.ensures.1 text.1 (λ n h. c.in-None.ensures n h)

pub returns-in-Some-read_number : goal.returns-in-Some-read_number
returns-in-Some-read_number c =
    let text = c.if-not-is_quoted.ensures.0 refl in
    text_line_of (λ line. IsLine (codes "reply" ++ 32 ∷ c.args.argument.now) line) (λ t. Reply c.in-Some-read_number.fetch t) c.in-Some.quoted.now text.0 text.1
    (λ t h. (c.args.argument.now, refl, (c.in-Some.number.now, c.in-Some.quoted.now, c.in-Some.ensures.1, c.in-Some-read_number.ensures, h)))
