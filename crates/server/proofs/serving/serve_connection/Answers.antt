-- The rounds of a connection, and then its end.
use Rattle.std.proofs.Common.{◌∷◌, [], ◌++◌, map, refl}
use Rattle.server.specs.declared.keeping.Event.TheVariants.{Led, Over}
use Rattle.server.proofs.Completing.{all_answered}
use Rattle.server.proofs.Tallies.{told_then}
use Rattle.server.proofs.serving.serve_connection.Goals as goal

pub returns-clause-served : goal.returns-clause-served
returns-clause-served g c =
    let rounds = c.serve_rounds-shift.ensures.tells in
    let over = c.shut.new.self in
    let ended = c.serve_rounds-shift.result.2 in (
      map Led rounds.tells.rounds ++ Over over ended ∷ [],
      told_then g.N.Keeper.Told c.args.keeper c.serve_rounds-shift.result.1 c.keep.new.self (map Led rounds.tells.rounds) (Over over ended ∷ []) rounds.tells.told c.keep.ensures.told,
      record {
        rounds = rounds.tells.rounds;
        over = over;
        ended = ended;
        events_are = refl;
        turns = rounds.turns;
        led = rounds.tells.led;
        link = rw c.shut.ensures.bytes rounds.link;
        stays = rw c.shut.ensures.peer c.serve_rounds-shift.ensures.peer;
        closed = c.shut.ensures.closed;
        faults = rw (c.shut.ensures.reads, c.shut.ensures.writes) (record {
          reads = c.serve_rounds-shift.ensures.reads;
          writes = c.serve_rounds-shift.ensures.writes;
          later_reads = c.serve_rounds-shift.ensures.later_reads;
          later_writes = c.serve_rounds-shift.ensures.later_writes;
        });
        complete = rw (c.shut.ensures.reads, c.shut.ensures.writes)
            (all_answered rounds.turns _ _ ended rounds.link _ _ _ _ c.serve_rounds-shift.ensures.reads c.serve_rounds-shift.ensures.writes);
      },
    )
