-- A round for a request, or none for want of memory.
use Rattle.std.proofs.Common.{[], ◌∷◌, arith, rules, refl, ap}
use Rattle.std.proofs.lemmas.Grind.{common_steps}
use Rattle.wire.proofs.Flowing.{Moves-none}
use Rattle.round_lead.proofs.Told.{Went-none}
use Rattle.server.specs.declared.keeping.Event.TheVariants.{Led}
use Rattle.server.proofs.Tallies.{told_then}
use Rattle.server.proofs.Leads.{as_turn, unled}
use Rattle.server.proofs.responding.ServerResponder.respond.Goals as goal

pub returns-then-is_err-clause-told : goal.returns-then-is_err-clause-told
returns-then-is_err-clause-told g c = (
  [],
  Moves-none _,
  (
    refl,
    refl,
    record { pass = c.requires.sound.pass; idle = c.requires.sound.idle; legal = c.requires.sound.legal; room = first_of (search rules, grind (arith, common_steps)) },
    record {
      round = c.unled.result;
      led = record {
        is = record { request = ap as_turn c.unled.ensures.0; from = c.unled.ensures.1; sent = c.unled.ensures.4 };
        led = unled _ _ _ _ _ _ c.unled.result c.requires.sound.legal c.unled.ensures.2 c.unled.ensures.3 c.unled.ensures.4;
        read = Went-none _;
        drew = Went-none _;
      };
      told = told_then g.N.Keeper.Told c.args.self.now.keeper c.reserve.new.self c.keep.new.self [] (Led c.unled.result ∷ []) c.reserve.ensures.told c.keep.ensures.told;
    },
  ),
)

pub returns-clause-ready : goal.returns-clause-ready
returns-clause-ready g c = λ is. record {
  sound = record { pass = c.lead-round.ensures.pass; idle = c.lead-round.ensures.idle; legal = c.lead-round.ensures.legal; room = first_of (search rules, grind (arith, common_steps)) };
  room = first_of (search rules, grind (arith, common_steps));
}

pub returns-clause-told : goal.returns-clause-told
returns-clause-told g c = (
  c.lead-round.result.0.sent.items,
  c.lead-round.ensures.moves,
  (
    refl,
    refl,
    record { pass = c.lead-round.ensures.pass; idle = c.lead-round.ensures.idle; legal = c.lead-round.ensures.legal; room = first_of (search rules, grind (arith, common_steps)) },
    record {
      round = c.lead-round.result.0;
      led = record {
        is = record { request = ap as_turn c.lead-round.ensures.request.0; from = c.lead-round.ensures.request.1; sent = refl };
        led = c.lead-round.ensures.led;
        read = c.lead-round.ensures.clock.0;
        drew = c.lead-round.ensures.clock.1;
      };
      told = told_then g.N.Keeper.Told c.args.self.now.keeper c.reserve.new.self c.keep-2.new.self [] (Led c.lead-round.result.0 ∷ []) c.reserve.ensures.told c.keep-2.ensures.told;
    },
  ),
)
