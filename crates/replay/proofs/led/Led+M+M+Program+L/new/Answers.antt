use Rattle.std.proofs.Common.{List, ℕ, [], refl, subst}
use Rattle.round_task.specs.Standing.{StandsAt as RoundStands}
use Rattle.vcl_runs.specs.Languages.{language_of}
use Rattle.replay.proofs.led.Led+M+M+Program+L.new.Goals as goal

pub returns : goal.returns
returns g c =
    let runner = g.M.Runner in
    let language = language_of g.L.Programs.of_text runner.turns runner.targets runner.default_of g.L.Programs.backends in
    record {
      stood = record {
        stands_at = (refl, λ p. subst (λ (peer : List ℕ). RoundStands (language.evaluator p) (λ run ran. runner.stands run p ran) runner.fits (record { head = c.args.head; body = c.args.body }) peer [] c.start.result.place) c.address_of.ensures (c.start.ensures.stands p));
        begun_is = refl;
      };
      again_is = refl;
    }
