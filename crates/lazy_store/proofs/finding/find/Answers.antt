use Rattle.std.proofs.Common.{ap, sym}
use Rattle.std.specs.Prelude.{option_map}
use Rattle.lazy_store.specs.Found.{found_in}
use Rattle.lazy_store.proofs.Findings.{find_lost, find_none, find_some}
use Rattle.lazy_store.proofs.finding.find.Goals as goal

pub returns-in-Some-get : goal.returns-in-Some-get
returns-in-Some-get c =
    sym (ap (option_map found_in) (find_some c.args.number c.in-Some.handle c.in-Some-get.item.now c.args.heads.now c.requires c.in-Some.ensures c.in-Some-get.ensures))

pub returns-in-None-get : goal.returns-in-None-get
returns-in-None-get c = sym (ap (option_map found_in) (find_lost c.args.number c.in-Some.handle c.args.heads.now c.requires c.in-Some.ensures c.in-None-get.ensures))

pub returns-in-None : goal.returns-in-None
returns-in-None c = sym (ap (option_map found_in) (find_none c.args.number c.args.heads.now c.requires c.in-None.ensures))
