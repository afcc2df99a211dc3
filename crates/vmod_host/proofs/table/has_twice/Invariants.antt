use Rattle.std.proofs.Common.{map}
use Rattle.vmod_host.proofs.TagLemmas.{Met}
use Rattle.vmod_host.proofs.table.has_twice.Given as goal

abbrev pub invariant-loop-entry : goal.invariant-loop-entry
invariant-loop-entry l = Met (map (λ entry. entry.tag) l.entries) l.entry-index l.tags
