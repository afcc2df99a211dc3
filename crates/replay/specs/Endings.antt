-- What ends a session before its last line.
use Rattle.std.specs.Prelude.{◌≡◌, true, None, List, find}
use Rattle.cache_law.specs.declared.call.Call.{Call}
use Rattle.cache_law.specs.declared.call.Entry.{Entry}
use Rattle.cache_law.specs.Core.{FitsBehind}
use Rattle.replay.specs.declared.policy.Request.{Request}
use Rattle.replay.specs.declared.policy.Want.TheVariants.{Ask}
use Rattle.replay.specs.declared.event.Event.{Event}
use Rattle.replay.specs.declared.event.Event.TheVariants as events
use Rattle.replay.specs.declared.event.Aside.TheVariants as asides
use Rattle.replay.specs.Plan.{Plan}
use Rattle.replay.specs.Scene.{Round, Scene, Runs, is_under_way, waits_for}

-- the event can't be played here: a request of a client that is under way, a reply that no round waits for, or a probe, as no
-- backend is probed
abbrev pub IsIdle : Scene → Event → Type 0
IsIdle scene (events.Moment moment) = ⊥
IsIdle scene (events.Request request) = is_under_way request.client scene ≡ true
IsIdle scene (events.Reply number heard) = find (waits_for number) scene.waiting ≡ None
IsIdle scene (events.Aside (asides.Lurk count)) = ⊥
IsIdle scene (events.Aside (asides.Probe backend good)) = Unit {0}

-- the round that runs wants a call that doesn't fit the history
pub record WantsTooMuch (plan : Plan) (entries : List Entry) (scene : Scene) : Type 0 where
  pub round : Round
  pub call : Call
  pub runs : Runs plan.wants scene round (Ask call)
  pub full : ¬ FitsBehind plan.beginning entries round.request.client scene.moment call
