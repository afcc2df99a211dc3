use Rattle.std.proofs.Common.{◌≡◌, ◌∙◌, [], List, ℕ, ap, refl, subst, sym}
use Rattle.wire.specs.Causes.{Rose}
use Rattle.wire.specs.Memory.{SinkState}
use Rattle.session_text.specs.Generated.{generated}
use Rattle.session_text.specs.Sessions.{IsSession}
use Rattle.varn_program.proofs.Clients.{has_clients}
use Rattle.varn_program.proofs.Loadings.{failing, in_memory, is_loaded, loads}
use Rattle.varn_program.proofs.loading.load.Goals as goal

pub play-played-requires-clause-clients : goal.play-played-requires-clause-clients
play-played-requires-clause-clients g c = has_clients c.bytes.result.now c.in-Ok-read_session.session c.in-Ok-read_session.ensures.session

pub returns-clause-loads : goal.returns-clause-loads
returns-clause-loads g c =
    let made : c.bytes.result.now ≡ generated c.args.seed c.args.steps = c.bytes.ensures ∙ c.in-Ok.ensures in
    loads c.args.vmods.now.stored c.args.seed c.args.steps (g.K.Sink.held c.args.sink.now) (g.K.Sink.held c.tell-played.new.sink) (Rose (g.K.Sink.faults c.args.sink.now) (g.K.Sink.faults c.tell-played.new.sink)) c.bytes-2.result.now c.in-Ok-read_session.session
    (subst (λ (text : List ℕ). IsSession text c.in-Ok-read_session.session) made c.in-Ok-read_session.ensures.session) c.play-played.result (record c.play-played.result { status = c.tell-played.result })
    (in_memory c.args.vmods.now.stored c.usual_limits.result c.in-Ok-read_session.session c.new-kept.result.held c.play-played.new.sink.held c.bytes-2.result.now c.play-played.result
    c.usual_limits.ensures (ap (λ (s : SinkState). s.held) c.new-kept.ensures) c.bytes-2.ensures c.play-played.ensures.ended)
    (record { tells = c.tell-played.ensures; rest = refl })

pub returns-clause-complete : goal.returns-clause-complete
returns-clause-complete g c =
    let made : c.bytes.result.now ≡ generated c.args.seed c.args.steps = c.bytes.ensures ∙ c.in-Ok.ensures in
    is_loaded c.args.vmods.now.stored c.args.seed c.args.steps (g.K.Sink.held c.args.sink.now) (g.K.Sink.held c.tell-played.new.sink) (Rose (g.K.Sink.faults c.args.sink.now) (g.K.Sink.faults c.tell-played.new.sink)) c.bytes-2.result.now c.in-Ok-read_session.session
    (subst (λ (text : List ℕ). IsSession text c.in-Ok-read_session.session) made c.in-Ok-read_session.ensures.session) c.play-played.result (record c.play-played.result { status = c.tell-played.result })
    (in_memory c.args.vmods.now.stored c.usual_limits.result c.in-Ok-read_session.session c.new-kept.result.held c.play-played.new.sink.held c.bytes-2.result.now c.play-played.result
    c.usual_limits.ensures (ap (λ (s : SinkState). s.held) c.new-kept.ensures) c.bytes-2.ensures c.play-played.ensures.ended)
    (record { tells = c.tell-played.ensures; rest = refl })
    (λ other is. c.in-Ok-read_session.ensures.only other (subst (λ (text : List ℕ). IsSession text other) (sym made) is))

pub returns-clause-write_fault : goal.returns-clause-write_fault
returns-clause-write_fault g c =
    let made : c.bytes.result.now ≡ generated c.args.seed c.args.steps = c.bytes.ensures ∙ c.in-Ok.ensures in
    failing c.args.vmods.now.stored c.args.seed c.args.steps (g.K.Sink.held c.args.sink.now) (g.K.Sink.held c.tell-played.new.sink) (Rose (g.K.Sink.faults c.args.sink.now) (g.K.Sink.faults c.tell-played.new.sink)) c.bytes-2.result.now c.in-Ok-read_session.session
    (subst (λ (text : List ℕ). IsSession text c.in-Ok-read_session.session) made c.in-Ok-read_session.ensures.session) c.play-played.result (record c.play-played.result { status = c.tell-played.result })
    (in_memory c.args.vmods.now.stored c.usual_limits.result c.in-Ok-read_session.session c.new-kept.result.held c.play-played.new.sink.held c.bytes-2.result.now c.play-played.result
    c.usual_limits.ensures (ap (λ (s : SinkState). s.held) c.new-kept.ensures) c.bytes-2.ensures c.play-played.ensures.ended)
    (record { tells = c.tell-played.ensures; rest = refl })
