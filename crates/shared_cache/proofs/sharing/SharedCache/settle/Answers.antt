-- The verdict is of the history that the turn finds, and of the one that the pass has seen behind it.
use Rattle.turnstile.specs.Handles.{known}
use Rattle.shared_cache.proofs.Turned.{verdict_met, verdict_seen}
use Rattle.shared_cache.proofs.sharing.SharedCache.settle.Goals as goal

pub settle-settled-requires : goal.settle-settled-requires
settle-settled-requires g c =
    let turn = c.turn-held.ensures in record { found = verdict_met (known c.args.pass.now) _ _ c.args.verdict c.requires.found turn.history turn.setting }

pub returns-clause-found : goal.returns-clause-found
returns-clause-found g c =
    let turn = c.turn-held.ensures in
    verdict_seen (known c.args.pass.now) _ _ _ _ c.args.verdict turn.held.1 c.pass_by.ensures.pass.1 turn.setting
    (verdict_met (known c.args.pass.now) _ _ c.args.verdict c.requires.found turn.history turn.setting)
