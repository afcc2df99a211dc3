use Rattle.std.proofs.Common.{refl}
use Rattle.vcl_runs.specs.Runs.{answered}
use Rattle.client_task.specs.Rounds.{evaluator}
use Rattle.client_task.specs.Standing.{weight}
use Rattle.client_task.proofs.Going.{ending, fits-skip, found-none, found-some, less-skip, lowers-stop, skipping, went-asked}
use Rattle.client_task.proofs.Lowering.{lowers-from}
use Rattle.client_task.proofs.settling.go.Goals as goal

pub runs-init : goal.runs-init
runs-init g c = record { stands = c.requires.stands; fits = c.requires.fits; same = refl; goes = λ first s. (first, s, λ node want x. x) }

pub resume-requires-clause-stands : goal.resume-requires-clause-stands
resume-requires-clause-stands g c = c.runs.invariant.stands

pub resume-requires-clause-fits : goal.resume-requires-clause-fits
resume-requires-clause-fits g c = c.runs.invariant.fits

pub runs-preserved : goal.runs-preserved
runs-preserved g c =
    let runner = g.M.Runner in
    let e = evaluator runner.turns runner.targets c.args.program.now in
    let now = c.runs.invariant in
    let mute = found-none _ _ c.in-Ok-take_command.found c.in-None.is c.in-Ok-take_command.ensures in
    record {
      stands = (answered c.runs.answer now.stands.0, c.in-Ok.ensures.stands now.stands.0 now.stands.1);
      fits = fits-skip (runner.fits c.resume.new.self) c.in-Ok.turn c.in-Need.command c.in-Need.is c.in-Ok.ensures.fits mute;
      same = now.same;
      goes = λ first s.
          let old = now.goes first s in (
            answered c.runs.answer old.0,
            c.in-Ok.ensures.stands old.0 old.1,
            λ node want x. old.2 node want
                (skipping e _ (answered c.runs.answer old.0) c.args.round c.in-Ok.turn c.in-Need.command c.in-Need.is (c.in-Ok.ensures.turns old.0 old.1) mute node want x),
          );
    }

pub runs-smaller : goal.runs-smaller
runs-smaller g c =
    less-skip _ _ c.in-Ok.turn c.in-Need.command c.in-Need.is (found-none _ _ c.in-Ok-take_command.found c.in-None.is c.in-Ok-take_command.ensures) c.in-Ok.ensures.less

pub returns-in-Some : goal.returns-in-Some
returns-in-Some g c =
    let runner = g.M.Runner in
    let e = evaluator runner.turns runner.targets c.args.program.now in
    let asks = found-some _ _ c.in-Ok-take_command.found c.in-Some.asking c.in-Some.is c.in-Ok-take_command.ensures in
    record {
      went = λ first s.
          let old = c.runs.invariant.goes first s in
          went-asked e (λ run ran. runner.stands run c.args.program.now ran) runner.fits _ _ c.resume.new.self (answered c.runs.answer old.0) c.args.round
          c.in-Ok.turn c.in-Need.command c.in-Some.asking.asked c.in-Some.asking.call c.stop.result c.stop.ensures old.2 c.in-Need.is
          (c.in-Ok.ensures.stands old.0 old.1) c.in-Ok.ensures.fits (c.in-Ok.ensures.turns old.0 old.1) asks;
      lowers = lowers-stop (weight c.args.state c.args.round) c.stop.result _ c.stop.ensures;
    }

pub returns-in-End : goal.returns-in-End
returns-in-End g c =
    let runner = g.M.Runner in
    let e = evaluator runner.turns runner.targets c.args.program.now in
    record {
      went = λ first s.
          let old = c.runs.invariant.goes first s in
          λ node want x. old.2 node want
          (ending e _ (answered c.runs.answer old.0) c.args.round c.in-Ok.turn c.in-End.word c.in-End.context c.in_ok-next-in-End.next c.in-End.is (c.in-Ok.ensures.turns old.0 old.1) c.in_ok-next-in-End.ensures node want x);
      lowers = lowers-from _ c.args.state c.in_ok-next-in-End.next c.in-End.word c.in-End.context c.args.round c.in_ok-next-in-End.ensures c.runs.invariant.same;
    }
