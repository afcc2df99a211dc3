use Rattle.std.proofs.Common.{length}
use Rattle.session_text.proofs.Meanings.{AsFar}
use Rattle.session_text.proofs.reader.made_lines.Given as goal

abbrev pub invariant-lines : goal.invariant-lines
invariant-lines l = AsFar l.bytes l.rest l.place l.lines

abbrev pub decreases-lines : goal.decreases-lines
decreases-lines l = length l.rest
