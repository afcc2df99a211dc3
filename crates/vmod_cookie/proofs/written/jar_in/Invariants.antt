use Rattle.std.proofs.Common.{◌-◌, length}
use Rattle.vmod_cookie.proofs.Reading.{Reads}
use Rattle.vmod_cookie.proofs.written.jar_in.Given as goal

abbrev pub invariant-loop-jar : goal.invariant-loop-jar
invariant-loop-jar l = Reads l.text l.from l.jar

abbrev pub decreases-loop-jar : goal.decreases-loop-jar
decreases-loop-jar l = length l.text - l.from
