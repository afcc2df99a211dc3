-- What workers leave may be joined, and what comes of it is a run.
use Rattle.std.proofs.Common.{◌≡◌, ℕ, length, sum_by, sym, ap, ◌∙◌, arith}
use Rattle.wire.specs.Calls.{joined_count}
use Rattle.turnstile.specs.Handles.{known}
use Rattle.shared_cache.specs.Passes.{IsPassOf}
use Rattle.shared_cache.specs.Sharing.{CallerKnows}
use Rattle.crew.specs.Hiring.{IsUnused}
use Rattle.crew.proofs.Hired.{have_left}
use Rattle.crew.proofs.Left.{all_have, parts_joined, all_passes, all_idle, ran}
use Rattle.crew.proofs.Ends.{stopped_by, behind_none, all_behind_none}
use Rattle.crew.proofs.running.take_down.Goals as goal

pub disband-requires-clause-have : goal.disband-requires-clause-have
disband-requires-clause-have g c =
    let left =
    have_left (IsPassOf c.args.cache.now) (IsUnused g.W.Dialer.Dialer.talks g.W.Dialer.Dialer.dial_faults g.W.Dialer.Dialer.read_faults g.W.Dialer.Dialer.write_faults g.W.Clock.Clock.readings g.W.Clock.Clock.words)
    g.H.Host.pass_of g.H.Host.kit_of g.H.Service.Told (g.H.Service.Ready c.args.host.now c.args.cache.now) g.H.Host.places (g.H.Host.Tells c.args.host.now)
    (g.H.Service.Serves c.args.host.now c.args.cache.now) (g.met.H.Host.pass c.args.host.now c.args.cache.now) (g.met.H.Host.calls c.args.host.now c.args.cache.now)
    (g.met.H.Host.tells c.args.host.now c.args.cache.now) (g.met.H.Host.longer c.args.host.now) (known c.args.root.now) c.args.workers.items c.requires.have_worked in
    let given =
    all_have (IsPassOf c.args.cache.now) (IsUnused g.W.Dialer.Dialer.talks g.W.Dialer.Dialer.dial_faults g.W.Dialer.Dialer.read_faults g.W.Dialer.Dialer.write_faults g.W.Clock.Clock.readings g.W.Clock.Clock.words)
    g.H.Host.pass_of g.H.Host.kit_of g.H.Service.Told g.H.Host.places (g.H.Host.Tells c.args.host.now) (known c.args.root.now) c.args.workers.items left in
    search given

pub rejoin-requires-clause-passes : goal.rejoin-requires-clause-passes
rejoin-requires-clause-passes g c =
    let left =
    have_left (IsPassOf c.args.cache.now) (IsUnused g.W.Dialer.Dialer.talks g.W.Dialer.Dialer.dial_faults g.W.Dialer.Dialer.read_faults g.W.Dialer.Dialer.write_faults g.W.Clock.Clock.readings g.W.Clock.Clock.words)
    g.H.Host.pass_of g.H.Host.kit_of g.H.Service.Told (g.H.Service.Ready c.args.host.now c.args.cache.now) g.H.Host.places (g.H.Host.Tells c.args.host.now)
    (g.H.Service.Serves c.args.host.now c.args.cache.now) (g.met.H.Host.pass c.args.host.now c.args.cache.now) (g.met.H.Host.calls c.args.host.now c.args.cache.now)
    (g.met.H.Host.tells c.args.host.now c.args.cache.now) (g.met.H.Host.longer c.args.host.now) (known c.args.root.now) c.args.workers.items c.requires.have_worked in
    let given =
    all_passes (IsPassOf c.args.cache.now) (IsUnused g.W.Dialer.Dialer.talks g.W.Dialer.Dialer.dial_faults g.W.Dialer.Dialer.read_faults g.W.Dialer.Dialer.write_faults g.W.Clock.Clock.readings g.W.Clock.Clock.words)
    g.H.Host.pass_of g.H.Host.kit_of g.H.Service.Told g.H.Host.places (g.H.Host.Tells c.args.host.now)
    (known c.args.root.now) c.args.workers.items c.disband.new.joined.posts.items left (behind_none _ _ _ _ c.requires.none.0 c.disband.ensures.posts) in
    search given

pub rejoin-requires-clause-leaves : goal.rejoin-requires-clause-leaves
rejoin-requires-clause-leaves g c =
    let left =
    have_left (IsPassOf c.args.cache.now) (IsUnused g.W.Dialer.Dialer.talks g.W.Dialer.Dialer.dial_faults g.W.Dialer.Dialer.read_faults g.W.Dialer.Dialer.write_faults g.W.Clock.Clock.readings g.W.Clock.Clock.words)
    g.H.Host.pass_of g.H.Host.kit_of g.H.Service.Told (g.H.Service.Ready c.args.host.now c.args.cache.now) g.H.Host.places (g.H.Host.Tells c.args.host.now)
    (g.H.Service.Serves c.args.host.now c.args.cache.now) (g.met.H.Host.pass c.args.host.now c.args.cache.now) (g.met.H.Host.calls c.args.host.now c.args.cache.now)
    (g.met.H.Host.tells c.args.host.now c.args.cache.now) (g.met.H.Host.longer c.args.host.now) (known c.args.root.now) c.args.workers.items c.requires.have_worked in
    let given =
    all_idle (IsPassOf c.args.cache.now) (IsUnused g.W.Dialer.Dialer.talks g.W.Dialer.Dialer.dial_faults g.W.Dialer.Dialer.read_faults g.W.Dialer.Dialer.write_faults g.W.Clock.Clock.readings g.W.Clock.Clock.words)
    g.H.Host.pass_of g.H.Host.kit_of g.H.Service.Told g.H.Host.places (g.H.Host.Tells c.args.host.now)
    (known c.args.root.now) c.args.workers.items c.disband.new.joined.posts.items left (behind_none _ _ _ _ c.requires.none.0 c.disband.ensures.posts) in
    search given

pub returns-clause-setting : goal.returns-clause-setting
returns-clause-setting g c = ap (λ (k : CallerKnows). k.setting) c.rejoin.ensures.known

pub returns-clause-ran : goal.returns-clause-ran
returns-clause-ran g c =
    let left =
    have_left (IsPassOf c.args.cache.now) (IsUnused g.W.Dialer.Dialer.talks g.W.Dialer.Dialer.dial_faults g.W.Dialer.Dialer.read_faults g.W.Dialer.Dialer.write_faults g.W.Clock.Clock.readings g.W.Clock.Clock.words)
    g.H.Host.pass_of g.H.Host.kit_of g.H.Service.Told (g.H.Service.Ready c.args.host.now c.args.cache.now) g.H.Host.places (g.H.Host.Tells c.args.host.now)
    (g.H.Service.Serves c.args.host.now c.args.cache.now) (g.met.H.Host.pass c.args.host.now c.args.cache.now) (g.met.H.Host.calls c.args.host.now c.args.cache.now)
    (g.met.H.Host.tells c.args.host.now c.args.cache.now) (g.met.H.Host.longer c.args.host.now) (known c.args.root.now) c.args.workers.items c.requires.have_worked in
    let sum : sum_by (λ worker. worker.accepted.parts) c.args.workers.items ≡ length c.args.workers.items =
    parts_joined (IsPassOf c.args.cache.now) (IsUnused g.W.Dialer.Dialer.talks g.W.Dialer.Dialer.dial_faults g.W.Dialer.Dialer.read_faults g.W.Dialer.Dialer.write_faults g.W.Clock.Clock.readings g.W.Clock.Clock.words)
    g.H.Host.pass_of g.H.Host.kit_of g.H.Service.Told g.H.Host.places (g.H.Host.Tells c.args.host.now) (known c.args.root.now) c.args.workers.items left in
    let parts = c.disband.ensures.accepted_parts in
    let whole = c.audit.ensures.whole in
    let all : c.disband.new.joined.accepted.parts ≡ c.close-listener.result.accepted.parts = let closed = c.close-listener.ensures.parts.0 in let some = c.requires.parts in let count = c.requires.count in omega arith in
    let amount = whole all in
    let said = c.close-listener.ensures.count in
    let sums = c.disband.ensures.accepted in
    let none = c.requires.empty.2 in
    let counted : c.close-listener.result.count ≡ sum_by (λ worker. worker.accepted.amount) c.args.workers.items = omega arith in
    λ beginning history set meets legal.
    ran (IsPassOf c.args.cache.now) (IsUnused g.W.Dialer.Dialer.talks g.W.Dialer.Dialer.dial_faults g.W.Dialer.Dialer.read_faults g.W.Dialer.Dialer.write_faults g.W.Clock.Clock.readings g.W.Clock.Clock.words)
    g.H.Host.pass_of g.H.Host.kit_of g.H.Service.Told g.H.Host.places (g.H.Host.Tells c.args.host.now)
    (g.met.H.Host.longer c.args.host.now) (known c.args.root.now) (known c.rejoin.new.root) c.args.workers.items c.disband.new.joined.posts.items left
    (behind_none _ _ _ _ c.requires.none.0 c.disband.ensures.posts) c.rejoin.ensures.fronts c.rejoin.ensures.known c.rejoin.ensures.mine beginning history set meets legal
    (g.W.World.kits c.args.world.now) (g.W.World.kits c.retire.new.self) c.rejoin.new.keepers.items c.close-listener.result.count
    (rw c.retire.ensures.kits c.rejoin.ensures.kits) (all_behind_none _ _ _ c.requires.none.1 c.rejoin.ensures.keepers) counted

pub returns-clause-stopped : goal.returns-clause-stopped
returns-clause-stopped g c =
    rw c.unwrap_or.ensures
    (stopped_by c.close-listener.result.reason g.A.Quota.most c.close-listener.result.accepted.amount c.close-listener.result.count c.close-listener.result.left.amount
    (g.W.Listener.Listener.faults c.close-listener.result.listener) (g.W.World.listen_faults c.args.world.now) (g.W.World.listen_faults c.retire.new.self)
    (g.W.Listener.Listener.ended c.close-listener.result.listener) (g.W.World.ended c.rejoin.new.world) (g.W.World.ended c.retire.new.self) c.close-listener.ensures.why c.close-listener.ensures.count c.retire.ensures.ended
    (c.retire.ensures.listens ∙ ap (λ (n : ℕ). joined_count n (g.W.Listener.Listener.faults c.close-listener.result.listener)) c.rejoin.ensures.listens))

pub returns-clause-given : goal.returns-clause-given
returns-clause-given g c =
    c.retire.ensures.given
    ∙ (ap (λ (n : ℕ). joined_count (g.W.World.given c.rejoin.new.world) n) (c.close-listener.ensures.given ∙ sym c.close-listener.ensures.count)
    ∙ ap (λ (n : ℕ). joined_count n c.close-listener.result.count) c.rejoin.ensures.given)
