use Rattle.std.proofs.Common.{◌⊎◌, sym, subst}
use Rattle.wire.specs.Causes.{Rose}
use Rattle.cache_law.specs.declared.setting.Params.{Params}
use Rattle.vcl_library.specs.Functions.{std_functions}
use Rattle.varn_program.specs.Run.{IsComplete}
use Rattle.varn_program.proofs.Asking.{one_replay, unsegmented_of}
use Rattle.varn_program.proofs.command.run.Goals as goal

pub do_with_std-requires : goal.do_with_std-requires
do_with_std-requires g c = unsegmented_of c.args.words.now c.in-Ok-Some.params (rw c.in-Ok-Some.field-0-is at c.in-Ok-Some.ensures.asked)

pub returns-in-Ok-Some-clause-complete : goal.returns-in-Ok-Some-clause-complete
returns-in-Ok-Some-clause-complete g c = λ params asks.
    subst (λ (limits : Params). IsComplete std_functions limits (g.S.Source.left c.args.source.now) (g.K.Sink.held c.args.sink.now) (g.K.Sink.held c.do_with_std.new.sink)
    (Rose (g.S.Source.faults c.args.source.now) (g.S.Source.faults c.do_with_std.new.source) ⊎ Rose (g.K.Sink.faults c.args.sink.now) (g.K.Sink.faults c.do_with_std.new.sink)) c.do_with_std.result)
    (sym (one_replay c.args.words.now c.in-Ok-Some.params params (rw c.in-Ok-Some.field-0-is at c.in-Ok-Some.ensures.asked) asks)) c.do_with_std.ensures.complete
