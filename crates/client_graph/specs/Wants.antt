-- What is wanted where a round rests.
use Rattle.std.specs.Prelude.{ℕ, Bool, true, false, List, [], Option, Some, None, option_and_then}
use Rattle.std.specs.Option.{option_map_or}
use Rattle.vcl_values.specs.declared.value.Backend.{Backend}
use Rattle.cache_law.specs.declared.call.Call.TheVariants as call
use Rattle.directors.specs.declared.target.Target.{Target}
use Rattle.cache_law.specs.declared.rounds.Order.{Order}
use Rattle.vcl_context.specs.declared.context.Context.{Context}
use Rattle.delivery.specs.Finished.{finished}
use Rattle.delivery.specs.Pages.{failed}
use Rattle.client_graph.specs.declared.round.Round.{Round}
use Rattle.client_graph.specs.declared.round.HeldFetch.{HeldFetch}
use Rattle.client_graph.specs.declared.round.FetchKind.{FetchKind}
use Rattle.client_graph.specs.declared.round.FetchKind.TheVariants.{Store, Pass}
use Rattle.client_graph.specs.declared.round.WaitPoint.{WaitPoint}
use Rattle.client_graph.specs.declared.round.WaitPoint.TheVariants as point
use Rattle.client_graph.specs.declared.round.ClientWant.{ClientWant}
use Rattle.client_graph.specs.declared.round.ClientWant.TheVariants.{Cache, Fetch, Send, Background, Done}

-- the backend or director that VCL chose for a fetch that is asked for here
abbrev pub hint_at : WaitPoint → Option Backend
hint_at (point.Fetch kind context) = context.request.backend_hint
hint_at (point.Background held context) = context.request.backend_hint
hint_at point = None

-- the text that a hash director was asked with
abbrev pub hint_text : Option Backend → List ℕ
hint_text hint = option_map_or (λ backend. option_map_or (λ key. key) backend.key []) hint []

-- A fetch of what may be stored, from the request as VCL left it. Its body isn't sent on.
abbrev pub store_order : Option Target → Bool → Round → HeldFetch → Context → Order
store_order hint background round held context = record {
  number = held.token;
  vcl = round.vcl;
  peer = round.peer;
  request = record { head = context.request.head; body = [] };
  hint = hint;
  hint_text = hint_text context.request.backend_hint;
  looked = Some held.query;
  stale = held.stale;
  background = background;
  moment = held.moment;
}

-- a fetch of the response to a request that is passed, with its body
abbrev pub pass_order : Option Target → Round → ℕ → ℕ → Context → Order
pass_order hint round number moment context = record {
  number = number;
  vcl = round.vcl;
  peer = round.peer;
  request = record { head = context.request.head; body = round.asked.body };
  hint = hint;
  hint_text = hint_text context.request.backend_hint;
  looked = None;
  stale = None;
  background = false;
  moment = moment;
}

abbrev pub order_of : Option Target → Round → FetchKind → Context → Order
order_of hint round (Store held) context = store_order hint false round held context
order_of hint round (Pass number moment) context = pass_order hint round number moment context

-- what is wanted, the hint of a fetch being this target
abbrev pub asks_with : Option Target → Round → WaitPoint → ClientWant
asks_with hint round (point.Look query context) = Cache (call.Lookup query)
asks_with hint round (point.Purge context) = Cache (call.Purge context.key)
asks_with hint round (point.Drop token state context) = Cache (call.Drop token)
asks_with hint round (point.Draw context) = Cache call.Draw
asks_with hint round (point.Fetch kind context) = Fetch (order_of hint round kind context)
asks_with hint round (point.Send context body) = Send (finished round.asked.head context.request.head.fields context.response body)
asks_with hint round (point.Fail context) = Send failed
asks_with hint round (point.Background held context) = Background (store_order hint true round held context)
asks_with hint round point.End = Cache call.End
asks_with hint round point.Over = Done

-- what is wanted, the program saying what a backend or a director stands for
abbrev pub asks : (Backend → Option Target) → Round → WaitPoint → ClientWant
asks target_of round point = asks_with (option_and_then target_of (hint_at point)) round point
