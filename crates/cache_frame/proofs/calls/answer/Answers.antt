use Rattle.std.proofs.Common.{refl}
use Rattle.cache_law.specs.declared.call.Call.TheVariants as calls
use Rattle.cache_desk.specs.Stock.{no_stock}
use Rattle.cache_frame.proofs.Joins.{desk_joins}
use Rattle.cache_frame.proofs.Results.{ok_map}
use Rattle.cache_frame.proofs.calls.answer.Goals as goal

pub returns-in-Begin-clause-ok : goal.returns-in-Begin-clause-ok
returns-in-Begin-clause-ok g c =
    rw c.in-Begin.is (ok_map _ _ (λ answer answers. desk_joins g.S.Shelf.Stands c.args.room c.args.desk.now c.begin.new.self c.args.caller c.args.moment c.args.shelf.now (g.met.S.Shelf.rests c.args.shelf.now) calls.Begin answer refl answers) c.begin.result c.begin.ensures.ok)

pub returns-in-Draw-clause-ok : goal.returns-in-Draw-clause-ok
returns-in-Draw-clause-ok g c =
    rw c.in-Draw.is (desk_joins g.S.Shelf.Stands c.args.room c.args.desk.now c.draw.new.self c.args.caller c.args.moment c.args.shelf.now (g.met.S.Shelf.rests c.args.shelf.now) calls.Draw c.draw.result refl c.draw.ensures)

pub returns-in-Pick-clause-ok : goal.returns-in-Pick-clause-ok
returns-in-Pick-clause-ok g c =
    rw (c.in-Pick.is, ← c.deref-in-Pick.ensures) (ok_map _ _ (λ answer answers. desk_joins g.S.Shelf.Stands c.args.room c.args.desk.now c.pick.new.self c.args.caller c.args.moment c.args.shelf.now (g.met.S.Shelf.rests c.args.shelf.now) (calls.Pick c.in-Pick.vcl c.deref-in-Pick.result.now c.in-Pick.word) answer refl answers) c.pick.result c.pick.ensures.ok)

pub returns-in-SetHealth-clause-ok : goal.returns-in-SetHealth-clause-ok
returns-in-SetHealth-clause-ok g c =
    rw c.in-SetHealth.is (ok_map _ _ (λ answer answers. desk_joins g.S.Shelf.Stands c.args.room c.args.desk.now c.set_health.new.self c.args.caller c.args.moment c.args.shelf.now (g.met.S.Shelf.rests c.args.shelf.now) (calls.SetHealth c.in-SetHealth.backend c.in-SetHealth.health) answer refl answers) c.set_health.result c.set_health.ensures.ok)

pub returns-in-Load-clause-ok : goal.returns-in-Load-clause-ok
returns-in-Load-clause-ok g c =
    rw (c.in-Load.is, ← c.deref-in-Load.ensures) (ok_map _ _ (λ answer answers. desk_joins g.S.Shelf.Stands c.args.room c.args.desk.now c.load.new.self c.args.caller c.args.moment c.args.shelf.now (g.met.S.Shelf.rests c.args.shelf.now) (calls.Load c.deref-in-Load.result.now) answer refl answers) c.load.result c.load.ensures.ok)

pub returns-in-Switch-clause-ok : goal.returns-in-Switch-clause-ok
returns-in-Switch-clause-ok g c =
    rw c.in-Switch.is (ok_map _ _ (λ answer answers. desk_joins g.S.Shelf.Stands c.args.room c.args.desk.now c.switch.new.self c.args.caller c.args.moment c.args.shelf.now (g.met.S.Shelf.rests c.args.shelf.now) (calls.Switch c.in-Switch.name) answer refl answers) c.switch.result c.switch.ensures.ok)

pub returns-in-Discard-clause-ok : goal.returns-in-Discard-clause-ok
returns-in-Discard-clause-ok g c =
    rw c.in-Discard.is (desk_joins g.S.Shelf.Stands c.args.room c.args.desk.now c.discard.new.self c.args.caller c.args.moment c.args.shelf.now (g.met.S.Shelf.rests c.args.shelf.now) (calls.Discard c.in-Discard.name) c.discard.result refl c.discard.ensures)

pub returns-in-VclList-clause-ok : goal.returns-in-VclList-clause-ok
returns-in-VclList-clause-ok g c =
    rw c.in-VclList.is (ok_map _ _ (λ answer answers. desk_joins g.S.Shelf.Stands c.args.room c.args.desk.now c.list_vcls.new.self c.args.caller c.args.moment c.args.shelf.now (g.met.S.Shelf.rests c.args.shelf.now) calls.VclList answer refl answers) c.list_vcls.result c.list_vcls.ensures.ok)

pub returns-in-Drop-clause-ok : goal.returns-in-Drop-clause-ok
returns-in-Drop-clause-ok g c =
    rw c.in-Drop.is (desk_joins g.S.Shelf.Stands c.args.room c.args.desk.now c.drop_fetch.new.self c.args.caller c.args.moment c.args.shelf.now (g.met.S.Shelf.rests c.args.shelf.now) (calls.Drop c.in-Drop.token) c.drop_fetch.result refl c.drop_fetch.ensures)

pub returns-in-End-clause-ok : goal.returns-in-End-clause-ok
returns-in-End-clause-ok g c =
    rw c.in-End.is (desk_joins g.S.Shelf.Stands c.args.room c.args.desk.now c.end.new.self c.args.caller c.args.moment c.args.shelf.now (g.met.S.Shelf.rests c.args.shelf.now) calls.End c.end.result refl c.end.ensures)

pub load-requires : goal.load-requires
load-requires g c = rw c.deref-in-Load.ensures (rw c.in-Load.is at c.requires.vcls no_stock)
