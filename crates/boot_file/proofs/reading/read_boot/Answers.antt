use Rattle.std.proofs.lemmas.Result.{IfOk-weaker, IfErr-weaker}
use Rattle.wire.specs.Causes.{Rose}
use Rattle.boot_file.proofs.Whys.{why_file}
use Rattle.boot_file.proofs.reading.read_boot.Goals as goal

pub returns-in-Ok-Some-clause-boot : goal.returns-in-Ok-Some-clause-boot
returns-in-Ok-Some-clause-boot g c =
    IfOk-weaker c.boot_of.result _ _ (λ boot declares. record { text = c.in-Ok-Some.text; shelved = rw c.in-Ok-Some.field-0-is at c.in-Ok-Some.ensures.text; declares = declares })
    c.boot_of.ensures.boot

pub returns-in-Ok-Some-clause-why : goal.returns-in-Ok-Some-clause-why
returns-in-Ok-Some-clause-why g c =
    IfErr-weaker c.boot_of.result _ _
    (why_file (g.W.World.files c.args.world.now) c.args.name.now c.in-Ok-Some.text c.args.vmods.now.stored (Rose (g.W.World.shelf_faults c.args.world.now) (g.W.World.shelf_faults c.read_file.new.world))
    (rw c.in-Ok-Some.field-0-is at c.in-Ok-Some.ensures.text))
    c.boot_of.ensures.refused
