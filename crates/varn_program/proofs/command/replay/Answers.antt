use Rattle.std.proofs.Common.{ℕ, List, subst, sym, inr}
use Rattle.session_text.specs.declared.session.Session.{Session}
use Rattle.session_text.specs.Sessions.{IsSession}
use Rattle.varn_program.proofs.Clients.{has_clients}
use Rattle.varn_program.proofs.Outcomes.{replay_ends, complete_at}
use Rattle.varn_program.proofs.command.replay.Goals as goal

pub play-requires-clause-clients : goal.play-requires-clause-clients
play-requires-clause-clients g c = has_clients c.in-Ok.text.items c.in-Ok-read_session.session (subst (λ (bytes : List ℕ). IsSession bytes c.in-Ok-read_session.session) c.as_slice.ensures.value c.in-Ok-read_session.ensures.session)

pub returns-clause-ends : goal.returns-clause-ends
returns-clause-ends g c =
    replay_ends c.args.vmods.now.stored c.args.params.now _ _ _ _ c.in-Ok.text.items c.in-Ok-read_session.session c.play.result c.in-Ok.ensures.bytes
    (subst (λ (bytes : List ℕ). IsSession bytes c.in-Ok-read_session.session) c.as_slice.ensures.value c.in-Ok-read_session.ensures.session) c.play.ensures.ended

pub returns-clause-complete : goal.returns-clause-complete
returns-clause-complete g c =
    complete_at c.args.vmods.now.stored c.args.params.now (g.S.Source.left c.args.source.now) _ (g.K.Sink.held c.args.sink.now) _ c.in-Ok.text.items c.in-Ok-read_session.session c.play.result _ c.in-Ok.ensures.bytes
    (λ session is. c.in-Ok-read_session.ensures.only session (subst (λ (bytes : List ℕ). IsSession bytes session) (sym c.as_slice.ensures.value) is)) c.play.ensures.ended (λ faulty. inr (c.play.ensures.cause faulty))
