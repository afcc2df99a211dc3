use Rattle.std.proofs.Common.{rules, refl}
use Rattle.history_audit.proofs.Judged.{refusal_entered, refusal_wrong}
use Rattle.history_audit.proofs.answering.refuse.Goals as goal

pub returns-then-not-is_dropped : goal.returns-then-not-is_dropped
returns-then-not-is_dropped c =
    refusal_wrong c.args.following c.args.said c.args.token c.otherwise.result c.stepped.new.core c.in_ok-reply.reply c.requires.order c.requires.refused c.in_ok-reply.ensures c.if-not-is_dropped.ensures c.otherwise.ensures

pub returns : goal.returns
returns c =
    refusal_entered c.args.following c.args.said c.args.token _ c.stepped.new.core c.in_ok-reply.reply c.requires.refused c.in_ok-reply.ensures c.if-not-is_dropped.ensures refl refl c.bytes_behind-used.ensures
