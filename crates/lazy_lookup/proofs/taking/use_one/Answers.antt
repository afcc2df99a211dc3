use Rattle.std.proofs.Common.{ap, sym, ◌∙◌}
use Rattle.cache_frame.specs.declared.seen.Use.{Use}
use Rattle.lazy_store.specs.Uses.{with_hit}
use Rattle.lazy_lookup.specs.Marks.{used_in}
use Rattle.lazy_lookup.proofs.Takes.{hit_is}
use Rattle.lazy_lookup.proofs.taking.use_one.Goals as goal

pub returns-in_ok-use_at-in-Hit-clause-ok : goal.returns-in_ok-use_at-in-Hit-clause-ok
returns-in_ok-use_at-in-Hit-clause-ok c =
    c.count_hit.ensures ∙ ap (with_hit c.in-Hit.number) c.in_ok-use_at-in-Hit.ensures.ok ∙ hit_is c.args.used c.in-Hit.number c.args.store.now
    ∙ ap (λ (u : Use). record c.args.store.now { objects = used_in c.args.used u c.args.store.now.objects }) (sym c.in-Hit.is)
