use Rattle.std.proofs.Common.{rules}
use Rattle.turnstile.specs.Handles.{known, held_known}
use Rattle.turnstile.proofs.Places.{meets_later, known_later, grown_later}
use Rattle.turnstile.proofs.lock.Turnstile.turn_when.Goals as goal

pub returns-then-is_closed-clause-history : goal.returns-then-is_closed-clause-history
returns-then-is_closed-clause-history g c =
    let now = c.turns.invariant in meets_later g.T.Chronicle.caller (known c.args.pass.now) _ _ now.knows now.grown c.turn-held.ensures.history

pub turns-preserved : goal.turns-preserved
turns-preserved g c =
    let now = c.turns.invariant in
    let held = c.turn-held.ensures in
    let back = c.pass_on.ensures in record {
      pass = back.pass.0;
      number = search rules;
      knows = known_later g.T.Chronicle.caller (known c.args.pass.now) _ _ _ _ now.knows held.held.1 back.pass.1;
      grown = grown_later g.T.Chronicle.caller (known c.args.pass.now) _ (held_known c.turn-held.result) _ _ now.knows now.grown held.history back.pass.1;
    }
