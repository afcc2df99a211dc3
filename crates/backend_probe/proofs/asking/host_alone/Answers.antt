-- The host may be a field's value, or not.
use Rattle.std.proofs.Common.{Err, ap}
use Rattle.backend_probe.proofs.Hosts.{isnt_bad, was_not_put, was_put}
use Rattle.backend_probe.proofs.asking.host_alone.Goals as goal

pub returns-in-Ok : goal.returns-in-Ok
returns-in-Ok c =
    was_put c.in_ok-name.name c.args.host.now c.new-fields.result c.set.new.self c.in_ok-name.ensures c.new-fields.ensures c.in-Ok.ensures.ok
    (λ bad. isnt_bad c.in-Ok.field-0 (c.in-Ok.ensures.bad.1 bad))

pub returns-in-Err-Bad : goal.returns-in-Err-Bad
returns-in-Err-Bad c =
    was_not_put c.in_ok-name.name c.args.host.now c.new-fields.result c.set.new.self c.in_ok-name.ensures c.new-fields.ensures c.in-Err-Bad.ensures.err
    (c.in-Err-Bad.ensures.bad.0 (ap Err c.in-Err-Bad.field-0-is))
