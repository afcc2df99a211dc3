use Rattle.std.proofs.Common.{rules}
use Rattle.audit_laws.specs.Steps.{params_of}
use Rattle.history_audit.proofs.Reopening.{begins}
use Rattle.history_audit.proofs.following.FollowingFollower.start.Goals as goal

pub returns : goal.returns
returns c =
    rw c.new.ensures.items (begins c.in_ok-make.field-0 (params_of c.args.first) c.args.first.boot (search rules) c.in_ok-make.ensures.begins c.in_ok-make.ensures.history)
