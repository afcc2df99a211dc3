use Rattle.std.proofs.Common.{◌≤◌, arith}
use Rattle.cache_law.specs.History.{reached}
use Rattle.history_audit.proofs.Fitting.{fits_here, told_so, too_long, waits_here}
use Rattle.history_audit.proofs.following.FollowingFollower.enter.Goals as goal

pub returns-in-Some : goal.returns-in-Some
returns-in-Some c = λ params state used along.
    let order : (reached c.args.self.core.beginning c.args.self.core.entries).moment ≤ c.args.said.moment = omega (arith, c.moment-moment.ensures) in
    waits_here c.args.self.core c.args.self.used params state used c.args.said along.limits along.alike along.spent_is c.in-Some.token order c.in-Some.ensures

pub returns-then-not-fits : goal.returns-then-not-fits
returns-then-not-fits c = λ params state used along.
    let order : (reached c.args.self.core.beginning c.args.self.core.entries).moment ≤ c.args.said.moment = omega (arith, c.moment-moment.ensures) in
    too_long c.args.self.core c.args.self.used params state used c.args.said along.limits along.alike along.spent_is c.in_ok-fits.fits c.if-not-fits.true (rw c.answering_of-answering.ensures at c.in_ok-fits.ensures.told) order
    c.in_default.ensures

pub returns : goal.returns
returns c = λ params state used along.
    let order : (reached c.args.self.core.beginning c.args.self.core.entries).moment ≤ c.args.said.moment = omega (arith, c.moment-moment.ensures) in
    told_so c.args.self c.args.said c.answer.result c.answer.ensures params state used along
    (fits_here c.args.self.core c.args.self.used params state used c.args.said along.limits along.alike along.spent_is c.in_ok-fits.fits c.if-not-fits.false (rw c.answering_of-answering.ensures at c.in_ok-fits.ensures.told) order)
