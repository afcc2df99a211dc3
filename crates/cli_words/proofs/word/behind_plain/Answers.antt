use Rattle.std.proofs.Common.{sym, refl, arith, [], ◌∷◌, ◌++◌}
use Rattle.std.proofs.lemmas.List.{length_push}
use Rattle.std.proofs.lemmas.Bool.{false≢true}
use Rattle.cli_words.proofs.Reading.{plain_push, plain_shorter, plain_none, none_plain}
use Rattle.cli_words.proofs.word.behind_plain.Goals as goal

pub returns-in_err-first-clause-word : goal.returns-in_err-first-clause-word
returns-in_err-first-clause-word c = rw c.from_residual.ensures (λ word rest some h end. none_plain [] c.args.start.now c.args.start.now refl (sym c.in_err-first.ensures.piece) refl word rest some h end)

pub pieces-init : goal.pieces-init
pieces-init c =
    let piece = sym c.in_ok-first.ensures.piece in
    (c.in_ok-first.field-0-0 ∷ [], omega arith, (c.in_ok-first.first.now, piece, refl), plain_shorter c.args.start.now c.in_ok-first.field-0-0 c.in_ok-first.first.now piece)

pub pieces-smaller : goal.pieces-smaller
pieces-smaller c = plain_shorter c.pieces.rest.now c.in-Some.field-0-0 c.in-Some.behind.now (sym c.in-Some.ensures.piece)

pub pieces-preserved : goal.pieces-preserved
pieces-preserved c =
    let far = c.pieces.invariant in
    let piece = sym c.in-Some.ensures.piece in
    let short = plain_shorter c.pieces.rest.now c.in-Some.field-0-0 c.in-Some.behind.now piece in
    (far.0 ++ c.in-Some.field-0-0 ∷ [], omega (arith, length_push far.0 c.in-Some.field-0-0), plain_push far.0 c.args.start.now c.pieces.rest.now c.in-Some.field-0-0 c.in-Some.behind.now far.2 piece, omega (arith, short, far.3))

pub returns-else-is_word_end-clause-word : goal.returns-else-is_word_end-clause-word
returns-else-is_word_end-clause-word c = λ word rest some h end.
    let far = c.pieces.invariant in
    plain_none far.0 c.args.start.now c.pieces.rest.now far.2 (sym c.in_default.ensures.piece) (λ w. false≢true (c.if-is_word_end.ensures.1 w)) word rest h end
