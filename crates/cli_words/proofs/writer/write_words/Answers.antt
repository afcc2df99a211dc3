use Rattle.std.proofs.Common.{◌∷◌, length, ap, ◌∙◌, sym}
use Rattle.std.proofs.lemmas.Slice.{first_rest}
use Rattle.std.specs.List.{between}
use Rattle.cli_words.proofs.Written.{written_words}
use Rattle.cli_words.proofs.writer.write_words.Goals as goal

pub returns-in-len1-up-clause-read_again : goal.returns-in-len1-up-clause-read_again
returns-in-len1-up-clause-read_again c =
    let whole = first_rest c.args.words.now c.first-item.result c.in-len1-up.len_at_least in
    written_words c.write_some.result c.args.words.now c.first-item.result _ (whole ∙ ap (λ w. w ∷ between 1 (length c.args.words.now) c.args.words.now) (sym c.first-item.is)) c.write_some.ensures.read_again
