use Rattle.std.proofs.Common.{◌-◌, length}
use Rattle.journal_reader.proofs.Agreeing.{AgreeSoFar}
use Rattle.journal_reader.proofs.reading.agreed.Given as goal

abbrev pub decreases-bytes : goal.decreases-bytes
decreases-bytes l = length l.text - l.count

abbrev pub invariant-bytes : goal.invariant-bytes
invariant-bytes l = AgreeSoFar l.text l.other l.count
