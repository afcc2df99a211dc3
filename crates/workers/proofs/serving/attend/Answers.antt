-- A connection is served, or none is.
use Rattle.std.proofs.Common.{refl}
use Rattle.workers.proofs.Served.{works_none, works_one}
use Rattle.workers.proofs.serving.attend.Goals as goal

pub returns-in-Some-clause-works : goal.returns-in-Some-clause-works
returns-in-Some-clause-works g c =
    works_one _ _ c.args.post c.serve.result c.make_room.new.keeper _ _ _ _ c.serve.ensures.serves.0 c.make_room.ensures.told c.in-Some.ensures.new c.serve.ensures.serves.1 c.serve.ensures.serves.2
    c.in-Some.ensures.came.0

pub returns-then-is_err-clause-works : goal.returns-then-is_err-clause-works
returns-then-is_err-clause-works g c = works_none _ _ _ _ _ _ _ _ refl c.make_room.ensures.told refl

pub returns-in-None-clause-works : goal.returns-in-None-clause-works
returns-in-None-clause-works g c = works_none _ _ _ _ _ _ _ _ refl c.make_room.ensures.told c.in-None.ensures.shut.0
