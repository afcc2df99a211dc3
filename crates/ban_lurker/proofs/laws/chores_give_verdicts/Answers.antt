use Rattle.ban_lurker.proofs.laws.chores_give_verdicts.Goals as goal

pub returns : goal.returns
returns c = λ beginning entries chore is.
    record { issued = is.issued; some = is.some; object = chore.view.object; looks = is.looks; dead = is.bans }
