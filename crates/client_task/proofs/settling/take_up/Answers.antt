use Rattle.client_task.specs.Rounds.{evaluator}
use Rattle.client_task.proofs.Going.{if_ok}
use Rattle.client_task.proofs.Places.{not-broken-before, not-broken-between, not-broken-inside, ready-inside, settles-before, settles-between, settles-inside}
use Rattle.client_task.proofs.settling.take_up.Goals as goal

pub returns-in-Before : goal.returns-in-Before
returns-in-Before g c =
    let runner = g.M.Runner in
    let e = evaluator runner.turns runner.targets c.args.program.now in
    record {
      broken = λ b. absurd (not-broken-before c.args.place c.in-Before.next c.in-Before.is b);
      settles = if_ok _ _ c.settle.result
          (λ settled h. settles-before e _ runner.fits c.args.place c.in-Before.next c.args.given settled c.in-Before.is h) c.settle.ensures;
    }

pub answer_run-requires : goal.answer_run-requires
answer_run-requires g c =
    let runner = g.M.Runner in
    let now = ready-inside (λ run ran. runner.stands run c.args.program.now ran) runner.fits c.args.place c.in-Inside.asked c.in-Inside.state c.in-Inside.run' c.in-Inside.round c.in-Inside.is c.requires in
    record { stands = now.0; ready = now.1 }

pub returns-in-Inside : goal.returns-in-Inside
returns-in-Inside g c =
    let runner = g.M.Runner in
    let e = evaluator runner.turns runner.targets c.args.program.now in
    record {
      broken = λ b. absurd (not-broken-inside c.args.place c.in-Inside.asked c.in-Inside.state c.in-Inside.run' c.in-Inside.round c.in-Inside.is b);
      settles = if_ok _ _ c.answer_run.result
          (λ settled h. settles-inside e _ runner.fits c.args.place c.in-Inside.asked c.in-Inside.state c.in-Inside.run' c.in-Inside.round c.args.given settled c.in-Inside.is h) c.answer_run.ensures;
    }

pub returns-in_ok-next-in-Between : goal.returns-in_ok-next-in-Between
returns-in_ok-next-in-Between g c =
    let runner = g.M.Runner in
    let e = evaluator runner.turns runner.targets c.args.program.now in
    record {
      broken = λ b. absurd (not-broken-between c.args.place c.in-Between.point c.in-Between.round c.in-Between.is b);
      settles = if_ok _ _ c.settle-in-Between.result
          (λ settled h. settles-between e _ runner.fits c.args.place c.in-Between.point c.in-Between.round c.in_ok-next-in-Between.next c.args.given settled c.in-Between.is c.in_ok-next-in-Between.ensures h) c.settle-in-Between.ensures;
    }
