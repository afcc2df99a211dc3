use Rattle.std.proofs.Common.{◌∙◌, ap, sym, List, ℕ}
use Rattle.std.specs.Prelude.{slice_get}
use Rattle.std.specs.Map.{keys_of}
use Rattle.object_heads.specs.declared.heads.Kept.{Kept}
use Rattle.object_heads.proofs.MemberLemmas.{first_shown}
use Rattle.object_heads.proofs.heads.Heads.first_from.Goals as goal

pub returns-in-Some : goal.returns-in-Some
returns-in-Some g c =
    let shown = first_shown c.args.handle c.self.inside.items.entries c.range.result (c.range.ensures.between tt) in
    let found = ap (λ (es : List (ℕ × Kept g.row.P.Denot)). slice_get (keys_of es) 0) (sym c.in-Some.ensures.steps) ∙ shown in
    rw (← c.self.view_is) found

pub returns-in-None : goal.returns-in-None
returns-in-None g c =
    let shown = first_shown c.args.handle c.self.inside.items.entries c.range.result (c.range.ensures.between tt) in
    let found = ap (λ (es : List (ℕ × Kept g.row.P.Denot)). slice_get (keys_of es) 0) (sym c.in-None.ensures.steps.0) ∙ shown in
    rw (← c.self.view_is) found
