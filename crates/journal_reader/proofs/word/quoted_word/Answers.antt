use Rattle.std.proofs.Common.{rules, ◌≡◌, ◌∷◌, ◌++◌, ap, sym, ◌∙◌}
use Rattle.units.specs.Quoted.{IsQuotedAt, quote_of}
use Rattle.journal_reader.proofs.Firsts.{no_behind}
use Rattle.journal_reader.proofs.word.quoted_word.Goals as goal

pub returns-in_default-behind : goal.returns-in_default-behind
returns-in_default-behind c =
    let found : IsQuotedAt c.args.bytes.now 0 c.in-Some.text c.in-Some.field-0-1 = search rules in
    let written : c.bytes-3.result.now ≡ quote_of c.in-Some.text = search rules in
    no_behind _ c.in-Some.text c.in-Some.field-0-1 c.requires found (λ rest e. c.in_default-behind.ensures rest (e ∙ ap (λ q. q ++ 32 ∷ rest) (sym written)))
