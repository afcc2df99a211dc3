use Rattle.vcl_store.proofs.Refusals.{joined-refused}
use Rattle.vcl_store.proofs.program.checked.Goals as goal

pub returns-clause-refused : goal.returns-clause-refused
returns-clause-refused g c =
    joined-refused c.check.result c.args.text.now c.args.vmods.now.stored c.in_ok-joined.joined c.in_ok-joined.ensures.joined c.check.ensures.refused
