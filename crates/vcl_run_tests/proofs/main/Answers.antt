use Rattle.vcl_soundness.specs.Laws.{AreMeant}
use Rattle.vcl_run_tests.proofs.Tables.{four-meant, length-meant}
use Rattle.vcl_run_tests.proofs.main.Goals as goal

pub with_tables-requires-clause-usual : goal.with_tables-requires-clause-usual
with_tables-requires-clause-usual c =
    let lower = c.in_ok-lower.ensures in
    let upper = c.in_ok-upper.ensures in
    let number = c.in_ok-number.ensures in
    let long = c.in_ok-length.ensures in
    rw (c.in_ok-usual.ensures.items)
    (four-meant c.standard_are_meant.ensures _ _ _ _ (record { takes = lower.takes; gives = lower.gives; jar = lower.jar }) (record { takes = upper.takes; gives = upper.gives; jar = upper.jar })
    (record { takes = number.takes; gives = number.gives; jar = number.jar }) (record { takes = long.takes; gives = long.gives; jar = long.jar }))

pub with_tables-requires-clause-copying : goal.with_tables-requires-clause-copying
with_tables-requires-clause-copying c =
    let copied = c.in_ok-copied.ensures in
    rw (c.in_ok-copying.ensures.items) (length-meant c.standard_are_meant.ensures _ (record { takes = copied.takes; gives = copied.gives; jar = copied.jar }))
