use Rattle.std.proofs.Common.{ap, ◌∙◌}
use Rattle.lazy_law.specs.Insertion.{new_placed}
use Rattle.lazy_store.specs.Numbered.{without_all}
use Rattle.lazy_insert.specs.Putting.{replaced}
use Rattle.lazy_insert.proofs.Inserts.{put_first}
use Rattle.lazy_insert.proofs.putting.put_over.Goals as goal

pub returns-clause-ok : goal.returns-clause-ok
returns-clause-ok c =
    c.replace.ensures ∙ ap (replaced c.args.stale c.args.number) (c.drop_all.ensures ∙ ap (without_all c.args.out.now) c.in_ok-put.ensures.ok)
    ∙ put_first (new_placed c.args.used c.args.number c.args.object.now c.args.place c.args.store.now.issued) c.args.out.now c.requires.other c.args.store.now.objects c.args.stale c.args.store.now c.requires.own
