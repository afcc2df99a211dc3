use Rattle.std.proofs.Common.{sym, subst, arith, List, ℕ, length, ◌≡◌, ap, ◌+◌, ◌∙◌}
use Rattle.std.proofs.lemmas.List.{length_push}
use Rattle.std.proofs.lemmas.Bool.{false≢true}
use Rattle.cli_words.specs.Words.{ReadsPlain}
use Rattle.cli_words.proofs.Reading.{plain_push, plain_shorter, plain_none, none_plain}
use Rattle.cli_words.proofs.word.read_plain.Goals as goal

pub pieces-preserved : goal.pieces-preserved
pieces-preserved c =
    let piece = sym c.in-Some.ensures.piece in
    let more = plain_push c.pieces.word.items c.args.start.now c.pieces.rest.now c.in-Some.value c.in-Some.behind.now c.pieces.invariant.0 piece in
    let at : List ℕ → Type 0 = λ v. ReadsPlain v c.args.start.now c.in-Some.behind.now in
    let short = plain_shorter c.pieces.rest.now c.in-Some.value c.in-Some.behind.now piece in
    let long : length c.push.new.self.items ≡ length c.pieces.word.items + 1 = ap length c.in_ok-push.ensures.items ∙ length_push c.pieces.word.items c.in-Some.value in
    (subst at (sym c.in_ok-push.ensures.items) more, omega (arith, short, long, c.pieces.invariant.1))

pub returns-then-len-eq0-clause-word : goal.returns-then-len-eq0-clause-word
returns-then-len-eq0-clause-word c = λ word rest some h end.
    none_plain c.pieces.word.items c.args.start.now c.pieces.rest.now c.pieces.invariant.0 (sym c.in_default.ensures.piece) (omega (arith, c.pieces.word.ok.0, c.len.ensures, c.if-len-eq0.true)) word rest some h end

pub returns-then-not-is_word_end-clause-word : goal.returns-then-not-is_word_end-clause-word
returns-then-not-is_word_end-clause-word c = λ word rest some h end.
    plain_none c.pieces.word.items c.args.start.now c.pieces.rest.now c.pieces.invariant.0 (sym c.in_default.ensures.piece) (λ w. false≢true (c.if-not-is_word_end.ensures.1 w)) word rest h end
