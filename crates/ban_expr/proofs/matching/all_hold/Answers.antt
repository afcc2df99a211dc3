use Rattle.std.proofs.Common.{sym, ◌∙◌}
use Rattle.std.specs.List.{list_all}
use Rattle.std.specs.Option.{option_copied}
use Rattle.std.proofs.lemmas.List.{at_drop_all}
use Rattle.cache_law.specs.Bans.{holds}
use Rattle.ban_expr.proofs.matching.all_hold.Goals as goal

pub returns : goal.returns
returns c =
    let rest = at_drop_all (list_all (holds c.args.issued c.args.object.now (option_copied c.args.request))) c.args.conditions.now c.loop-place.place c.loop-place-test.false in
    sym rest ∙ c.loop-place.invariant
