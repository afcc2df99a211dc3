use Rattle.flat_core.proofs.Scans.{SeenSo}
use Rattle.flat_core.proofs.scan.scan.Given as goal

abbrev pub invariant-loop-place : goal.invariant-loop-place
invariant-loop-place l = SeenSo l.moment l.query l.issued l.bans.items l.objects.items l.place l.seen
