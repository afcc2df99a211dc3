-- What a line that is taken does to a scene.
use Rattle.std.proofs.Common.{ℕ, List, [], ◌∷◌, ◌++◌, None, refl, sym}
use Rattle.std.proofs.lemmas.List.{append-nil}
use Rattle.http_heads.specs.declared.exchange.BackendRequest.{BackendRequest}
use Rattle.backend_link.specs.Exchanges.{asks_head, sent_text}
use Rattle.cache_law.specs.declared.call.Entry.{Entry}
use Rattle.replay.specs.declared.policy.Request.{Request}
use Rattle.replay.specs.declared.policy.Given.{Given}
use Rattle.replay.specs.declared.policy.Given.TheVariants.{Sent}
use Rattle.replay.specs.declared.policy.Want.TheVariants.{Respond, Exchange, Await, Done}
use Rattle.replay.specs.Plan.{Plan}
use Rattle.replay.specs.Scene.{Scene, sends, fetches, parks, ends, gave, with_running, fetch_line, response_line}
use Rattle.replay.specs.Went.{Went, HasTurn}
use Rattle.replay.proofs.Runs.{went-one}

module _ {P : Type 0} (plan : Plan) (stands : P → Request → List Given → Type 0) (policy : P) (client : ℕ) (scene : Scene) (history : List Entry) where
  -- the response that was wanted was sent
  pub responded : (response : List ℕ) (turn : HasTurn plan.wants stands policy client (Respond response) scene) (H : Scene → List ℕ → Type 0) → H (with_running scene (gave turn.round Sent)) (response_line client response) → Went plan scene [] history history H
  responded response turn H h =
      went-one plan scene (with_running scene (gave turn.round Sent)) (sends client response) history history H
      (turn.round, record { turn = turn.turn; wanted = turn.leads.wanted }, sym turn.leads.client_is, refl) (sym (append-nil history)) h

  -- the exchange that was wanted began
  pub exchanged : (number : ℕ) (backend : List ℕ) (request : BackendRequest) (turn : HasTurn plan.wants stands policy client (Exchange number backend request) scene) (H : Scene → List ℕ → Type 0) → H (record scene { running = None; waiting = scene.waiting ++ record { number = number; to_head = asks_head request; round = turn.round } ∷ [] }) (fetch_line number backend (sent_text request)) → Went plan scene [] history history H
  exchanged number backend request turn H h =
      went-one plan scene (record scene { running = None; waiting = scene.waiting ++ record { number = number; to_head = asks_head request; round = turn.round } ∷ [] }) (fetches number backend request) history history H
      (turn.round, record { turn = turn.turn; wanted = turn.leads.wanted }, refl) (sym (append-nil history)) h

  -- the round that wanted a token closed is parked
  pub kept : (token : ℕ) (turn : HasTurn plan.wants stands policy client (Await token) scene) (H : Scene → List ℕ → Type 0) → H (record scene { running = None; parked = scene.parked ++ record { token = token; round = turn.round } ∷ [] }) [] → Went plan scene [] history history H
  kept token turn H h =
      went-one plan scene (record scene { running = None; parked = scene.parked ++ record { token = token; round = turn.round } ∷ [] }) (parks token) history history H
      (turn.round, record { turn = turn.turn; wanted = turn.leads.wanted }, refl) (sym (append-nil history)) h

  -- the round that wanted nothing more ended
  pub ended : (turn : HasTurn plan.wants stands policy client Done scene) (H : Scene → List ℕ → Type 0) → H (record scene { running = None }) [] → Went plan scene [] history history H
  ended turn H h =
      went-one plan scene (record scene { running = None }) ends history history H
      (turn.round, record { turn = turn.turn; wanted = turn.leads.wanted }, refl) (sym (append-nil history)) h
