use Rattle.std.proofs.Common.{sym, subst}
use Rattle.vmod_cookie.proofs.Reading.{Reads, reads_first, reads_more, reads_end, reads_half}
use Rattle.vmod_cookie.proofs.written.jar_in.Goals as goal
use Rattle.vmod_cookie.proofs.written.jar_in.Goals.{in-Some+in_ok-value+in_default-2, in_default}

pub loop-jar-init : goal.loop-jar-init
loop-jar-init c = reads_first c.args.text.now _ c.new-jar.ensures

pub loop-jar-preserved : goal.loop-jar-preserved
loop-jar-preserved c =
    let first = rw c.in-Some.is at c.in_ok-name.ensures in
    let second = rw c.in-Some-2.is at c.in_ok-value.ensures in
    subst (Reads c.args.text.now c.in-Some-2.behind) (sym c.in_ok-put.ensures.ok)
    (reads_more c.args.text.now c.loop-jar.from c.in-Some.middle c.in-Some-2.behind c.loop-jar.jar c.in-Some.name c.in-Some-2.value c.loop-jar.invariant first second)

pub returns : goal.returns
returns c = elim c.match-branch-2.branch [
  | in-Some+in_ok-value+in_default-2 w ↦
      reads_half c.args.text.now c.loop-jar.from w.in-Some.middle c.loop-jar.jar w.in-Some.name c.loop-jar.invariant (rw w.in-Some.is at c.in_ok-name.ensures).0 (rw w.in_default-2.is at w.in_ok-value.ensures)
  | in_default w ↦ reads_end c.args.text.now c.loop-jar.from c.loop-jar.jar c.loop-jar.invariant (rw w.in_default.is at c.in_ok-name.ensures)
]
