use Rattle.std.proofs.Common.{refl}
use Rattle.round_task.specs.Rounds.{Opening}
use Rattle.round_task.proofs.round.Round.start.Goals as goal

pub returns : goal.returns
returns g c = record {
  stands = λ program. (Opening c.args.request c.args.peer, refl, (refl, refl));
  goes_on = λ program. tt;
}
