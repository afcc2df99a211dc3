use Rattle.std.proofs.Common.{arith, sym, ◌∙◌}
use Rattle.std.proofs.lemmas.List.{take_rest}
use Rattle.cli_words.proofs.Reading.{blanks_end, blanks_all}
use Rattle.cli_words.proofs.line.skip_blanks.Goals as goal

pub returns-then-not-is_blank_byte-clause-start : goal.returns-then-not-is_blank_byte-clause-start
returns-then-not-is_blank_byte-clause-start c =
    blanks_end c.args.bytes.now c.loop-place.place c.loop-place-test.true c.loop-place.invariant (sym c.if-not-is_blank_byte.ensures) ∙ sym (take_rest c.args.bytes.now c.loop-place.place)

pub returns-clause-start : goal.returns-clause-start
returns-clause-start c = blanks_all c.args.bytes.now c.loop-place.place (omega arith) c.loop-place.invariant
