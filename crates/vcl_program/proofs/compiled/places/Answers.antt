use Rattle.std.proofs.Common.{List, ℕ, sym, subst, arith}
use Rattle.std.specs.Prelude.{Contains}
use Rattle.vcl_program.proofs.compiled.places.Goals as goal

pub place-requires : goal.place-requires
place-requires c =
    let P : List ℕ → Type 0 = λ s. Contains c.args.texts.now s in
    subst P (sym c.source-item.is) (c.requires c.loop-source.source-index c.source-item.result (omega arith))
