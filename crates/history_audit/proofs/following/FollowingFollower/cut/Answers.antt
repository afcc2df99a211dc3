use Rattle.std.proofs.Common.{refl}
use Rattle.std.proofs.lemmas.Bool.{false≢true}
use Rattle.history_audit.proofs.Reopening.{closed_back, closed_on, reopened}
use Rattle.cache_law.specs.History.{reached}
use Rattle.history_audit.proofs.following.FollowingFollower.cut.Goals as goal

pub returns-then-not-is_idle : goal.returns-then-not-is_idle
returns-then-not-is_idle c = λ params state used along.
    ((λ closed. false≢true (c.if-not-is_idle.ensures.1 (closed_back (reached c.args.self.core.beginning c.args.self.core.entries) state along.alike closed))), refl)

pub returns-in-Ok : goal.returns-in-Ok
returns-in-Ok c = λ params state used along. (
  closed_on (reached c.args.self.core.beginning c.args.self.core.entries) state along.alike (c.if-not-is_idle.ensures.0 refl),
  reopened c.args.self.core c.in-Ok.core c.args.self.used c.args.self.bans.items params state used along c.in-Ok.ensures.empty c.in-Ok.ensures.params c.in-Ok.ensures.alike,
)
