-- Nothing is entered in the turns of an errand.
use Rattle.turnstile.specs.Handles.{known}
use Rattle.shared_cache.proofs.Turned.{numbers_turned, turned_twice}
use Rattle.shared_cache.proofs.sharing.SharedCache.errand.Goals as goal

pub returns-in_err-chore-clause-same : goal.returns-in_err-chore-clause-same
returns-in_err-chore-clause-same g c = numbers_turned (known c.args.pass.now) _ c.take_chore.ensures.turned

pub returns-in_default-clause-same : goal.returns-in_default-clause-same
returns-in_default-clause-same g c = numbers_turned (known c.args.pass.now) _ c.take_chore.ensures.turned

pub returns-in_err-verdict-clause-same : goal.returns-in_err-verdict-clause-same
returns-in_err-verdict-clause-same g c = numbers_turned (known c.args.pass.now) _ c.take_chore.ensures.turned

pub returns-then-settle-clause-grown : goal.returns-then-settle-clause-grown
returns-then-settle-clause-grown g c =
    (turned_twice (known c.args.pass.now) _ _ c.take_chore.ensures.turned c.settle.ensures.turned).meets.grown

pub returns-then-settle-clause-same : goal.returns-then-settle-clause-same
returns-then-settle-clause-same g c =
    numbers_turned (known c.args.pass.now) _ (turned_twice (known c.args.pass.now) _ _ c.take_chore.ensures.turned c.settle.ensures.turned)

pub returns-else-settle-clause-grown : goal.returns-else-settle-clause-grown
returns-else-settle-clause-grown g c =
    (turned_twice (known c.args.pass.now) _ _ c.take_chore.ensures.turned c.settle.ensures.turned).meets.grown

pub returns-else-settle-clause-same : goal.returns-else-settle-clause-same
returns-else-settle-clause-same g c =
    numbers_turned (known c.args.pass.now) _ (turned_twice (known c.args.pass.now) _ _ c.take_chore.ensures.turned c.settle.ensures.turned)
