use Rattle.std.proofs.Common.{arith, rules}
use Rattle.std.proofs.lemmas.List.Sorted.{IsPartitionPoint-from_clause}
use Rattle.ban_list.specs.Bans.{is_newer}
use Rattle.ban_list.proofs.LineLemmas.{newer_first, newer_point}
use Rattle.ban_list.proofs.list.newer_in.Goals as goal

pub returns : goal.returns
returns c =
    newer_point c.args.number c.args.lines.now.items c.partition_point.result (omega (arith, c.partition_point.ensures.bound, c.args.lines.now.ok))
    (IsPartitionPoint-from_clause (is_newer c.args.number) c.args.lines.now.items c.partition_point.result c.partition_point.ensures.partitioned
    (newer_first c.requires.0 c.args.number c.args.lines.now.items c.requires.1) (λ a r f k. search rules))
