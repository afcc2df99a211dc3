use Rattle.std.proofs.Common.{◌≡◌, ◌<◌, true, length, inr, refl, sym, subst, arith}
use Rattle.std.proofs.lemmas.List.Quantifiers.{position-Some}
use Rattle.cache_law.specs.History.{reached}
use Rattle.cache_law.specs.State.{is_closed}
use Rattle.replay.specs.declared.rounds.Kept.{Kept}
use Rattle.replay.specs.declared.policy.Want.TheVariants as wants
use Rattle.replay.specs.Pieces.{pieces}
use Rattle.replay.specs.Went.{NobodyRuns, Stage, stage_of}
use Rattle.replay.proofs.Playing.{changed}
use Rattle.replay.proofs.Alike.{position_within}
use Rattle.replay.proofs.Asking.{can_on, due}
use Rattle.replay.proofs.Hearing.{found_by_history, round_wakes, woken, woken_stage, woken_turn, asked_and_led, led_at}
use Rattle.replay.proofs.Resting.{woken_alone, woken_waits_not}
use Rattle.replay.proofs.Runs.{went-still}
use Rattle.replay.proofs.Taking.{Takes-nil}
use Rattle.replay.proofs.waking.wake.Goals as goal

pub remove-client-requires : goal.remove-client-requires
remove-client-requires g c =
    let short : c.args.place < length c.args.play.now.parked.items = position_within _ c.args.play.now.parked.items c.args.place c.requires.free in
    omega arith

pub resume-requires : goal.resume-requires
resume-requires g c =
    let set = c.requires.set in
    let it = found_by_history g.P.Policy.wants g.P.Policy.stands _ (stage_of g.C.CacheCore.history c.args.play.now) set.scene c.args.place c.remove-client.result set.is_stage c.requires.free c.remove-client.ensures.value in
    due g.P.Policy.wants g.P.Policy.stands _ _ _ _ (record { round = it.one.round; leads = it.is_same.leads }) refl

pub ask-asked-requires-clause-can : goal.ask-asked-requires-clause-can
ask-asked-requires-clause-can g c =
    let set = c.requires.set in
    let it = found_by_history g.P.Policy.wants g.P.Policy.stands _ (stage_of g.C.CacheCore.history c.args.play.now) set.scene c.args.place c.remove-client.result set.is_stage c.requires.free c.remove-client.ensures.value in
    can_on g.P.Policy.wants g.P.Policy.stands c.remove-client.result.policy c.resume.new.self c.remove-client.result.client _ (wants.Ask c.in-Ok-Ask.call) _ (record { round = it.one.round; leads = it.is_same.leads })
    c.in-Ok-Ask.ensures.stands (rw c.in-Ok-Ask.field-0-is at c.in-Ok-Ask.ensures.wanted)

pub returns-in-Err-clause-went : goal.returns-in-Err-clause-went
returns-in-Err-clause-went g c = λ scene stage rests. went-still _ scene _ _ _ refl (Takes-nil _)

pub returns-in-Ok-asked-clause-went : goal.returns-in-Ok-asked-clause-went
returns-in-Ok-asked-clause-went g c = λ scene stage rests.
    let cache = g.C.CacheCore in
    let before = stage_of cache.history c.args.play.now in
    let it = found_by_history g.P.Policy.wants g.P.Policy.stands _ before scene c.args.place c.remove-client.result stage c.requires.free c.remove-client.ensures.value in
    let set = woken_stage g.P.Policy.wants g.P.Policy.stands _ before scene c.args.place c.remove-client.result it _ c.remove-client.ensures.items stage in
    let turn = woken_turn g.P.Policy.wants g.P.Policy.stands scene c.args.play.now.parked.items c.args.place c.remove-client.result it c.resume.new.self (wants.Ask c.in-Ok-Ask.call) c.in-Ok-Ask.ensures.stands (rw c.in-Ok-Ask.field-0-is at c.in-Ok-Ask.ensures.wanted) in
    let kept = pieces (g.K.Sink.held c.args.sink.now) c.args.play.now.unwritten.items in
    let middle : Stage g.row.P.Denot = record { moment = c.args.play.now.moment; waiting = c.args.play.now.waiting.items; parked = c.remove-client.new.self.items; history = cache.history c.ask-asked.new.core } in
    let after = stage_of cache.history c.run_round.new.play in
    let written = pieces (g.K.Sink.held c.run_round.new.sink) c.run_round.new.play.unwritten.items in
    round_wakes _ scene it.one _ _ _ rests it.is_first
    (asked_and_led _ g.P.Policy.stands (woken scene it.one) (cache.history c.args.play.now.core) (cache.history c.ask-asked.new.core) after.history c.args.play.now.moment c.ask-asked.new.policy c.remove-client.result.client c.in-Ok-asked.want middle.waiting middle.parked before after kept written c.run_round.result
    set.waiting_are set.parked_are (c.in-Ok-asked.ensures.asked kept (woken scene it.one) set.at turn)
    (led_at g.P.Policy.wants g.P.Policy.stands NobodyRuns (cache.beginning c.args.play.now.core) (cache.beginning c.ask-asked.new.core) middle (changed middle after kept written) middle.history after.history c.ask-asked.new.policy c.remove-client.result.client c.in-Ok-asked.want c.run_round.result c.in-Ok-asked.ensures.kept.same c.run_round.ensures.went))

pub returns-in-Err-asked-clause-went : goal.returns-in-Err-asked-clause-went
returns-in-Err-asked-clause-went g c = λ scene stage rests.
    let it = found_by_history g.P.Policy.wants g.P.Policy.stands _ (stage_of g.C.CacheCore.history c.args.play.now) scene c.args.place c.remove-client.result stage c.requires.free c.remove-client.ensures.value in
    let set = woken_stage g.P.Policy.wants g.P.Policy.stands _ (stage_of g.C.CacheCore.history c.args.play.now) scene c.args.place c.remove-client.result it _ c.remove-client.ensures.items stage in
    let turn = woken_turn g.P.Policy.wants g.P.Policy.stands scene c.args.play.now.parked.items c.args.place c.remove-client.result it c.resume.new.self (wants.Ask c.in-Ok-Ask.call) c.in-Ok-Ask.ensures.stands (rw c.in-Ok-Ask.field-0-is at c.in-Ok-Ask.ensures.wanted) in
    round_wakes _ scene it.one _ _ _ rests it.is_first
    (c.in-Err-asked.ensures.asked (pieces (g.K.Sink.held c.args.sink.now) c.args.play.now.unwritten.items) (woken scene it.one) set.at turn)

pub ask-asked-requires-clause-waited : goal.ask-asked-requires-clause-waited
ask-asked-requires-clause-waited g c =
    let cache = g.C.CacheCore in
    let now = cache.beginning c.args.play.now.core in
    let stage = stage_of cache.history c.args.play.now in
    let found = position-Some _ stage.parked c.args.place c.remove-client.result c.requires.free in
    woken_waits_not now stage c.requires.settled c.args.place c.remove-client.result _ found.0 c.remove-client.ensures.value c.remove-client.ensures.items c.in-Ok-Ask.call
    (subst (λ (kept : Kept g.row.P.Denot). is_closed (reached now stage.history).fetches kept.token ≡ true) (sym c.remove-client.ensures.value) found.1)

pub run_round-requires-clause-alone : goal.run_round-requires-clause-alone
run_round-requires-clause-alone g c =
    let cache = g.C.CacheCore in
    let now = cache.beginning c.args.play.now.core in
    let stage = stage_of cache.history c.args.play.now in
    let found = position-Some _ stage.parked c.args.place c.remove-client.result c.requires.free in
    woken_alone now stage c.requires.settled c.args.place c.remove-client.result _ found.0 c.remove-client.ensures.value c.remove-client.ensures.items _ _ c.in-Ok-asked.want c.in-Ok-asked.ensures.others
    (c.in-Ok-asked.ensures.own (inr (rw c.in-Ok-Ask.field-0-is at c.in-Ok-Ask.ensures.calls refl)))
