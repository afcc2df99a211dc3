-- Where a fetch begins (Varnish Reference Manual, VCL-Steps, "vcl_backend_fetch").
use Rattle.std.specs.Prelude.{pos, List, Option, Some, None, option_map, not}
use Rattle.http_heads.specs.declared.fields.Field.{Field}
use Rattle.cache_law.specs.declared.call.Query.{Query}
use Rattle.cache_law.specs.declared.object.Object.{Object}
use Rattle.cache_law.specs.declared.object.Object.TheVariants.{Ordinary, HitForMiss, HitForPass}
use Rattle.cache_law.specs.declared.object.Content.{Content}
use Rattle.cache_law.specs.declared.object.ObjectView.{ObjectView}
use Rattle.cache_law.specs.declared.rounds.Order.{Order}
use Rattle.backend_request.specs.declared.purpose.Purpose.{Purpose}
use Rattle.backend_request.specs.declared.purpose.Purpose.TheVariants.{Store, Pass}
use Rattle.backend_request.specs.Passed.{is_store}
use Rattle.backend_request.specs.Asked.{opened_request}
use Rattle.fetch_graph.specs.declared.fetch.State.TheVariants as state
use Rattle.fetch_graph.specs.declared.fetch.Next.{Next}
use Rattle.fetch_graph.specs.declared.fetch.Next.TheVariants.{Enter}
use Rattle.fetch_graph.specs.Contexts.{first_context, backend_of}

-- what was looked up may be stored
abbrev pub purpose_of : Option Query → Purpose
purpose_of None = Pass
purpose_of (Some query) = Store

-- what a response holds; a marker holds nothing that could be confirmed
abbrev pub content_in : Object → Option Content
content_in (Ordinary response) = Some response.content
content_in (HitForMiss marker) = None
content_in (HitForPass marker) = None

abbrev pub content_of : Option ObjectView → Option Content
content_of None = None
content_of (Some view) = content_in view.object

abbrev pub stale_fields : Option Content → Option (List Field)
stale_fields None = None
stale_fields (Some content) = Some content.fields

-- the fetch of an order
abbrev pub opening : Order → Next
opening order =
    let purpose = purpose_of order.looked in
    Enter state.Request
    (first_context order.peer (record {
      head = opened_request purpose order.number (stale_fields (content_of order.stale)) order.request.head;
      backend = option_map (backend_of order.hint_text) order.hint;
      retries = pos 0;
      uncacheable = not (is_store purpose);
      is_bgfetch = order.background;
    }))
    (record { order = order; moment = order.moment; retries = 0; picked = None })
