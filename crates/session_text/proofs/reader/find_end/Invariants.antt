use Rattle.std.proofs.Common.{List, length}
use Rattle.session_text.specs.declared.session.NumberedLine.{NumberedLine}
use Rattle.session_text.proofs.Meanings.{AsFar}
use Rattle.session_text.proofs.reader.find_end.Given as goal

abbrev pub invariant-lines : goal.invariant-lines
invariant-lines l = (lines : List NumberedLine) × AsFar l.bytes l.rest l.place lines

abbrev pub decreases-lines : goal.decreases-lines
decreases-lines l = length l.rest
