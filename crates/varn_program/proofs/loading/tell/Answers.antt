use Rattle.wire.specs.Causes.{Rose}
use Rattle.varn_program.proofs.Loadings.{tells_done, tells_other}
use Rattle.varn_program.proofs.loading.tell.Goals as goal

pub returns-in-Done : goal.returns-in-Done
returns-in-Done g c =
    tells_done c.args.steps (g.K.Sink.held c.args.sink.now) (g.K.Sink.held c.report.new.sink) (Rose (g.K.Sink.faults c.args.sink.now) (g.K.Sink.faults c.report.new.sink)) c.args.transcript.now c.args.played.now c.as_slice-history.result.now c.as_slice.result.now c.summarize-summary.result c.args.played.now.status c.report.result
    c.in-Done.is c.as_slice-history.ensures c.as_slice.ensures c.summarize-summary.ensures c.report.ensures

pub returns-in_default : goal.returns-in_default
returns-in_default g c =
    tells_other c.args.steps (g.K.Sink.held c.args.sink.now) (Rose (g.K.Sink.faults c.args.sink.now) (g.K.Sink.faults c.args.sink.now)) c.args.transcript.now c.args.played.now c.args.played.now.status
    c.in_default.not-Done c.in_default.not-WriteFault
