use Rattle.std.proofs.Common.{refl, sym, ◌∙◌}
use Rattle.varn_command.proofs.Asking.{refuses_load, refuses_serve, unasked_load, unasked_serve}
use Rattle.varn_command.proofs.running.run.Goals as goal

pub returns-in-Err : goal.returns-in-Err
returns-in-Err g c =
    refuses_serve _ _ c.in-Some-Serve-default.options.now _ (sym c.asks_audit.ensures ∙ c.if-asks_audit.false) c.in-Err.error
    (sym (rw c.in-Some-Serve-default.field-0-0-is at c.in-Some-Serve-default.ensures))
    (unasked_serve _ c.in-Err.error c.in-Err.ensures.fault c.in-Err.ensures.outside) (refl, refl, refl, refl) c.of_unasked.ensures

pub returns-in-Err-read_load : goal.returns-in-Err-read_load
returns-in-Err-read_load g c =
    refuses_load _ _ c.in-Some-Load-default.options.now _ (sym c.asks_audit.ensures ∙ c.if-asks_audit.false) c.in-Err-read_load.error
    (sym (rw c.in-Some-Load-default.field-0-0-is at c.in-Some-Load-default.ensures))
    (unasked_load _ c.in-Err-read_load.error c.in-Err-read_load.ensures.fault c.in-Err-read_load.ensures.outside) (refl, refl, refl, refl) c.of_unasked-in-Err-read_load.ensures
