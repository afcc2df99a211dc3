use Rattle.std.proofs.Common.{◌∙◌, ap, sym}
use Rattle.std.specs.Prelude.{option_map}
use Rattle.object_heads.specs.declared.heads.Kept.{Kept}
use Rattle.object_heads.proofs.MemberLemmas.{shown-lookup}
use Rattle.object_heads.proofs.heads.Heads.get.Goals as goal

pub returns-in-Some : goal.returns-in-Some
returns-in-Some g c =
    let found = ap (option_map (λ (kept : Kept g.row.P.Denot). kept.item)) c.in-Some.ensures.value ∙ sym (shown-lookup c.args.handle c.self.inside.items.entries) in
    rw (← c.self.view_is) found

pub returns-in-None : goal.returns-in-None
returns-in-None g c =
    let found = ap (option_map (λ (kept : Kept g.row.P.Denot). kept.item)) c.in-None.ensures.value ∙ sym (shown-lookup c.args.handle c.self.inside.items.entries) in
    rw (← c.self.view_is) found
