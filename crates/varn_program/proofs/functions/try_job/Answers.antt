use Rattle.std.proofs.Common.{◌≡◌, List, subst}
use Rattle.vmod_host.specs.declared.signature.Stored.{Stored}
use Rattle.wire.specs.Causes.{Rose}
use Rattle.vcl_library.specs.Functions.{std_functions}
use Rattle.varn_program.specs.Jobs.{IsWhole, Plays}
use Rattle.varn_program.proofs.functions.try_job.Goals as goal

pub returns-clause-plays : goal.returns-clause-plays
returns-clause-plays g c =
    let same : c.in_ok-vmods.vmods.stored ≡ std_functions = rw c.in_ok-vmods.ensures c.in_ok-std_vmods.ensures in
    subst (λ (stored : List Stored). Plays stored c.args.job.now (g.S.Source.left c.args.source.now) (g.S.Source.left c.do_job.new.source) (g.K.Sink.held c.args.sink.now) (g.K.Sink.held c.do_job.new.sink) (c.do_job.new.source ≡ c.args.source.now) c.do_job.result) same c.do_job.ensures.plays

pub returns-clause-complete : goal.returns-clause-complete
returns-clause-complete g c =
    let same : c.in_ok-vmods.vmods.stored ≡ std_functions = rw c.in_ok-vmods.ensures c.in_ok-std_vmods.ensures in
    subst (λ (stored : List Stored). IsWhole stored c.args.job.now (g.S.Source.left c.args.source.now) (g.K.Sink.held c.args.sink.now) (g.K.Sink.held c.do_job.new.sink)
    (Rose (g.S.Source.faults c.args.source.now) (g.S.Source.faults c.do_job.new.source)) (Rose (g.K.Sink.faults c.args.sink.now) (g.K.Sink.faults c.do_job.new.sink)) c.do_job.result) same c.do_job.ensures.complete
