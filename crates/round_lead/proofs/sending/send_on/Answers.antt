-- What the link took of the response is kept.
use Rattle.std.proofs.Common.{rules, refl, sym, ap, ◌∙◌, length}
use Rattle.round_lead.proofs.Sent.{sends_none, sends_part}
use Rattle.round_lead.proofs.sending.send_on.Goals as goal

pub returns-in-Err-clause-cut : goal.returns-in-Err-clause-cut
returns-in-Err-clause-cut g c = sends_none _ _ _ _ refl refl (record { numbers = refl; exchanges = refl; opened = refl })

pub returns-then-taken-len-clause-cut : goal.returns-then-taken-len-clause-cut
returns-then-taken-len-clause-cut g c =
    sends_part _ _ c.args.progress.now (record c.args.progress.now { sent = c.truncate.new.self }) _ c.bytes-2.result.now c.extend_from_slice.new.self.items c.write_most-taken.result c.len-all.result
    (length c.bytes-len.result.now) (c.bytes-2.ensures ∙ c.in-Ok.ensures.text) (ap length (c.bytes-len.ensures ∙ sym c.bytes-2.ensures)) c.if-taken-len.true c.write_most-taken.ensures.moves
    (search rules) (search rules) (search rules) refl (record { numbers = refl; exchanges = refl; opened = refl })
