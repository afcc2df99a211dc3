use Rattle.std.proofs.Common.{ℕ, List, sym, ap, ◌∙◌, position}
use Rattle.std.specs.Str.{bytes_eq}
use Rattle.vcl_program.proofs.Found.{found-there, found-is}
use Rattle.vcl_program.proofs.compiled.place.Goals as goal

pub unreachable-requires : goal.unreachable-requires
unreachable-requires c =
    found-there c.args.source.now c.args.texts.now c.requires
    (ap (λ (n : List ℕ). position (λ other. bytes_eq n other) c.args.texts.now) (sym c.bytes.ensures) ∙ sym c.find.ensures ∙ c.in-None.is)

pub returns : goal.returns
returns c =
    found-is c.args.source.now c.args.texts.now c.in-Some.number
    (ap (λ (n : List ℕ). position (λ other. bytes_eq n other) c.args.texts.now) (sym c.bytes.ensures) ∙ sym c.find.ensures ∙ c.in-Some.is)
