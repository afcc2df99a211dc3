use Rattle.std.proofs.Common.{◌∷◌, sym, ◌∙◌}
use Rattle.fetch_graph.specs.Opening.{opening}
use Rattle.vcl_runs.specs.Evaluators.{evaluator}
use Rattle.round_task.proofs.Settling.{asked-on, behind, if_ok, returned}
use Rattle.round_task.proofs.leading.to_fetch.Goals as goal

pub returns-in-Wanted : goal.returns-in-Wanted
returns-in-Wanted g c =
    let runner = g.M.Runner in
    let e = evaluator runner.turns runner.targets runner.default_of c.args.program.now in
    record {
      settles = λ start givens order told s same f.
          asked-on e (λ run ran. runner.stands run c.args.program.now ran) runner.fits c.args.drawn start givens order (c.args.given ∷ told)
          c.args.client c.args.number c.word_of-word.result (record c.args.fetch { value = c.resume.new.self }) c.in-Ok.want c.in-Wanted.want s same (c.in-Ok.ensures.stands (opening order) told (behind e order told _ _ c.deref_mut.ensures.value f))
          c.word_of-word.ensures (c.in-Ok.ensures.wants (opening order) told (behind e order told _ _ c.deref_mut.ensures.value f)) (sym c.make-made.ensures ∙ c.in-Wanted.is);
      goes_on = c.requires.may;
    }

pub back_to_client-requires : goal.back_to_client-requires
back_to_client-requires g c = record { may = c.requires.may }

pub returns-in-Over : goal.returns-in-Over
returns-in-Over g c =
    let runner = g.M.Runner in
    let e = evaluator runner.turns runner.targets runner.default_of c.args.program.now in
    record {
      settles = if_ok _ _ c.back_to_client.result
          (λ settled h start givens order told s same f.
          returned e (λ run ran. runner.stands run c.args.program.now ran) runner.fits c.args.drawn start givens order (c.args.given ∷ told)
          c.args.number c.word_of-word.result c.in-Ok.want c.in-Over.outcome settled same c.word_of-word.ensures (c.in-Ok.ensures.wants (opening order) told (behind e order told _ _ c.deref_mut.ensures.value f)) (sym c.make-made.ensures ∙ c.in-Over.is)
          (h c.args.drawn start givens s)) c.back_to_client.ensures.settles;
      goes_on = c.back_to_client.ensures.goes_on;
    }
