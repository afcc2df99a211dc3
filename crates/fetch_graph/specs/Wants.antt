-- What is wanted where a fetch rests.
use Rattle.std.specs.Prelude.{ℕ, List, [], Option}
use Rattle.std.specs.Option.{option_map_or}
use Rattle.directors.specs.declared.director.DirectorKind.{DirectorKind}
use Rattle.directors.specs.declared.director.DirectorKind.TheVariants as director
use Rattle.directors.specs.KeyWord.{key_word_of}
use Rattle.vcl_values.specs.declared.value.Backend.{Backend}
use Rattle.cache_law.specs.declared.call.Call.TheVariants as call
use Rattle.directors.specs.declared.target.Target.{Target}
use Rattle.backend_request.specs.Asked.{finished_request}
use Rattle.fetch_graph.specs.declared.fetch.Fetch.{Fetch}
use Rattle.fetch_graph.specs.declared.fetch.WaitPoint.{WaitPoint}
use Rattle.fetch_graph.specs.declared.fetch.WaitPoint.TheVariants as point
use Rattle.fetch_graph.specs.declared.fetch.FetchWant.{FetchWant}
use Rattle.fetch_graph.specs.declared.fetch.FetchWant.TheVariants.{Cache, Ask, Done}
use Rattle.vcl_context.specs.Initial.{body_or_empty}
use Rattle.fetch_graph.specs.Opening.{purpose_of}

-- the text that a hash director is asked with
abbrev pub key_text : Option Backend → List ℕ
key_text backend = option_map_or (λ b. option_map_or (λ key. key) b.key []) backend []

-- the word by which a director of the kind chooses: one that is drawn, or that of a text
abbrev pub word_for : DirectorKind → List ℕ → ℕ → ℕ
word_for director.Random text drawn = drawn
word_for director.Hash text drawn = key_word_of text
word_for other text drawn = 0

-- what is wanted, `target` being what the request is to be sent to, and `drawn` a word that is free
abbrev pub asks : Target → ℕ → Fetch → WaitPoint → FetchWant
asks target drawn fetch (point.Pick context) =
    Cache (call.Pick fetch.order.vcl target (word_for target.kind (key_text context.fetch_request.backend) drawn))
asks target drawn fetch (point.Ask context) =
    Ask (body_or_empty fetch.picked) (finished_request (purpose_of fetch.order.looked) fetch.order.request.body context.fetch_request.head)
asks target drawn fetch (point.Insert insertion context) = Cache (call.Insert fetch.order.number insertion.object insertion.stale)
asks target drawn fetch point.Drop = Cache (call.Drop fetch.order.number)
asks target drawn fetch (point.Over outcome) = Done outcome
