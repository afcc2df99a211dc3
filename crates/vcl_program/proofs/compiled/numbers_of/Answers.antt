use Rattle.std.proofs.Common.{ap, ◌∙◌}
use Rattle.vcl_program.specs.declared.code.Code.{Code}
use Rattle.vcl_program.proofs.PatternsSaid.{all-said}
use Rattle.vcl_program.proofs.compiled.numbers_of.Goals as goal

pub places-numbers-requires : goal.places-numbers-requires
places-numbers-requires c =
    all-said c.args.program.now.tree.items c.args.program.now.stored c.in_ok-texts.texts c.as_slice.result.now c.in_ok-texts.ensures
    (c.as_slice.ensures ∙ ap (λ (k : Code). k.arena.patterns) c.requires)
