use Rattle.std.proofs.Common.{◌≡◌, drop}
use Rattle.vcl_check.proofs.MentionLemmas.{with_all}
use Rattle.vcl_check.proofs.mentions.+mentions.Given as goal

abbrev pub invariant-in_block-statements : goal.invariant-in_block-statements
invariant-in_block-statements l = with_all l.owner l.out.items (drop l.statement-index l.statement-items) ≡ with_all l.owner l.initial.out.items l.statement-items

abbrev pub invariant-in_statement-branches : goal.invariant-in_statement-branches
invariant-in_statement-branches l = with_all l.owner l.out.items (drop l.other-index l.other-items) ≡ with_all l.owner l.initial.out.items l.other-items
