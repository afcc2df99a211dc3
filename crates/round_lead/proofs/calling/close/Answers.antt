-- The End of an open round is made.
use Rattle.std.proofs.Common.{refl}
use Rattle.std.proofs.lemmas.Bool.{false≢true}
use Rattle.round_lead.proofs.calling.close.Goals as goal

pub unreachable-requires : goal.unreachable-requires
unreachable-requires g c = false≢true (c.in-Err.ensures.closes refl c.requires.opened)

pub returns-clause-made : goal.returns-clause-made
returns-clause-made g c =
    let made = c.in-Ok.ensures.answer in (
      c.in-Ok.told,
      record {
        reading = made.0;
        read = made.1;
        called = made.2;
        knows = c.in-Ok.ensures.pass.1;
        places_are = c.push_reserved.ensures.items;
        rest = record { exchanges = refl; sent = refl; closes = refl };
      },
    )
