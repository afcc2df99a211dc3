-- What the call did to what its pass knows.
use Rattle.turnstile.specs.Handles.{known}
use Rattle.shared_cache.proofs.Calling.{answered_so}
use Rattle.shared_cache.proofs.sharing.SharedCache.call.Goals as goal

pub returns-clause-answer : goal.returns-clause-answer
returns-clause-answer g c =
    let turn = c.ready-held.ensures in
    let made = c.step-answer.ensures in (
      c.now-reading.result,
      c.now-reading.ensures.reading,
      answered_so (known c.args.pass.now) _ (known c.give_back.new.pass) _ _ _ c.now-reading.result c.args.call c.step-answer.result turn.held.1 c.give_back.ensures.pass.1 turn.history c.give_back.ensures.mine
          turn.setting turn.shared.whole.unsegmented (rw (c.number.ensures, turn.number, ← c.requires.pass.number) at made.told) (rw (c.number.ensures, turn.number, ← c.requires.pass.number) at made.segment)
          (rw (c.number.ensures, turn.number, ← c.requires.pass.number) at made.full) (rw (c.number.ensures, turn.number, ← c.requires.pass.number) at made.kept) made.err,
    )
