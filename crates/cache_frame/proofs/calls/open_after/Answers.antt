use Rattle.cache_frame.proofs.Reserves.{desk_begin, desk_draw, desk_drop, desk_end, desk_lookup, insert_judged}
use Rattle.cache_frame.specs.Asked.{found_in}
use Rattle.cache_law.specs.History.{reached}
use Rattle.cache_frame.proofs.calls.open_after.Goals as goal

pub returns-in-Begin-clause-reserve : goal.returns-in-Begin-clause-reserve
returns-in-Begin-clause-reserve g c room beginning entries stands later =
    rw (c.in-Begin.is, c.open_with_round.ensures.value) (desk_begin c.args.desk.now (reached beginning entries) c.args.moment c.args.caller stands.desk)

pub returns-in-Draw-clause-reserve : goal.returns-in-Draw-clause-reserve
returns-in-Draw-clause-reserve g c room beginning entries stands later =
    rw (c.in-Draw.is, c.open.ensures.value) (desk_draw c.args.desk.now (reached beginning entries) c.args.moment c.args.caller stands.desk)

pub returns-in-Lookup-clause-reserve : goal.returns-in-Lookup-clause-reserve
returns-in-Lookup-clause-reserve g c room beginning entries stands later =
    rw (c.in-Lookup.is, c.open_with.ensures.value) (desk_lookup c.args.desk.now (reached beginning entries) c.args.moment c.args.caller stands.desk c.in-Lookup.field-0 (found_in c.args.asked.now) ((rw c.in-Lookup.is at c.requires).1.answers beginning entries stands later))

pub returns-in-Insert-clause-reserve : goal.returns-in-Insert-clause-reserve
returns-in-Insert-clause-reserve g c room beginning entries stands later =
    rw (c.in-Insert.is, c.open_without_inserted.ensures.value)
    (insert_judged g.S.Shelf.Stands c.args.desk.now c.args.shelf.now c.args.moment c.args.caller room c.in-Insert.token c.in-Insert.object c.in-Insert.stale c.args.asked.now (rw c.in-Insert.is at c.requires) beginning entries stands later)

pub returns-in-Drop-clause-reserve : goal.returns-in-Drop-clause-reserve
returns-in-Drop-clause-reserve g c room beginning entries stands later =
    rw (c.in-Drop.is, c.open_without_fetch.ensures.value) (desk_drop c.args.desk.now (reached beginning entries) c.args.moment c.args.caller stands.desk c.in-Drop.token)

pub returns-in-End-clause-reserve : goal.returns-in-End-clause-reserve
returns-in-End-clause-reserve g c room beginning entries stands later =
    rw (c.in-End.is, c.open_without_round.ensures.value) (desk_end c.args.desk.now (reached beginning entries) c.args.moment c.args.caller stands.desk)
