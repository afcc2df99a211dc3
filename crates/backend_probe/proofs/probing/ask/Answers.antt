-- What was asked and what came.
use Rattle.std.proofs.Common.{ℕ, subst}
use Rattle.http_heads.specs.declared.exchange.Backend.{Backend}
use Rattle.wire.specs.Causes.{Rose}
use Rattle.wire.specs.Telling.{DialerTold, told_by, dialer_told_by}
use Rattle.backend_link.specs.Exchanges.{Exchanged}
use Rattle.backend_probe.proofs.Dialers.{told_alike}
use Rattle.backend_probe.proofs.probing.ask.Goals as goal

pub returns-in_default : goal.returns-in_default
returns-in_default g c =
    let heard = told_by g.D.Link.Link.flow g.D.Link.Link.read_faults g.D.Link.Link.write_faults g.D.Link.Link.peer g.D.Link.Link.is_open in
    let before = dialer_told_by g.D.Dialer.talks g.D.Dialer.dial_faults c.args.dialer.now in
    let behind = dialer_told_by g.D.Dialer.talks g.D.Dialer.dial_faults c.exchange-exchange.new.dialer in
    let alike = told_alike g.D.Dialer.talks g.D.Dialer.dial_faults c.args.dialer.now c.within-2.new.self c.within-2.ensures.talks c.within-2.ensures.dials in
    record {
      probed = record {
        request = c.args.request.now;
        is_get = c.requires.request;
        exchanged = subst (λ (backend : Backend). Exchanged heard backend c.args.request.now before behind c.exchange-exchange.result) c.requires.backend
            (subst (λ (from : DialerTold g.row.D-Link.Denot). Exchanged heard c.args.backend.now c.args.request.now from behind c.exchange-exchange.result) alike c.exchange-exchange.ensures.told);
        there = c.in_default.not-NoMemory;
        read = c.now-moment.ensures.reading;
        good = c.is_good-good.ensures;
      };
      dials = λ is. subst (λ (n : ℕ). Rose n (g.D.Dialer.dial_faults c.exchange-exchange.new.dialer)) c.within-2.ensures.dials (c.exchange-exchange.ensures.dials is);
      writes = λ is. subst (λ (n : ℕ). Rose n (g.D.Dialer.write_faults c.exchange-exchange.new.dialer)) c.within-2.ensures.writes (c.exchange-exchange.ensures.writes is);
      reads = λ is. subst (λ (n : ℕ). Rose n (g.D.Dialer.read_faults c.exchange-exchange.new.dialer)) c.within-2.ensures.reads (c.exchange-exchange.ensures.reads is);
      words = c.now-moment.ensures.words;
    }
