use Rattle.replay.proofs.Wholes.{headless_request, whole_request, bodiless_request, rest_behind}
use Rattle.replay.proofs.whole.read_whole_request.Goals as goal

pub returns-in-None : goal.returns-in-None
returns-in-None c = headless_request c.args.text.now (rw c.in-None.is at c.in_ok-found.ensures)

pub returns-in-Some-2 : goal.returns-in-Some-2
returns-in-Some-2 c =
    whole_request c.args.text.now _ c.in-Some-2.body c.in-Some.found.0 c.in-Some.found.1 (rw c.in-Some.is at c.in_ok-found.ensures) (rest_behind c.args.text.now c.in-Some.found.1) (rw c.in-Some-2.is at c.in_ok-body.ensures)

pub returns-in-None-2 : goal.returns-in-None-2
returns-in-None-2 c =
    bodiless_request c.args.text.now _ c.in-Some.found.0 c.in-Some.found.1 (rw c.in-Some.is at c.in_ok-found.ensures) (rest_behind c.args.text.now c.in-Some.found.1) (rw c.in-None-2.is at c.in_ok-body.ensures)
