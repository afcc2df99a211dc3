-- What the subroutines of a request begin with (Varnish Reference Manual, VCL-Variables and VCL-Steps).
use Rattle.std.specs.Prelude.{ℕ, pos, Bool, false, List, [], None}
use Rattle.http_heads.specs.declared.message.RequestHead.{RequestHead}
use Rattle.http_heads.specs.declared.message.ResponseHead.{ResponseHead}
use Rattle.vcl_context.specs.declared.context.Context.{Context}
use Rattle.vcl_context.specs.declared.context.ClientRequest.{ClientRequest}
use Rattle.vcl_context.specs.declared.context.CachedObject.{CachedObject}
use Rattle.vcl_context.specs.Initial.{no_client_request, peer_at, empty_context}

-- a request without an option that VCL sets, and nothing else so far
abbrev pub first_context : List ℕ → RequestHead → Context
first_context address head = record (empty_context address) { request = record no_client_request { head = head } }

-- a restarted request, so often: its options and the client's identity are as at first
abbrev pub request_again : ℕ → ClientRequest → ClientRequest
request_again restarts request = record request {
  restarts = pos restarts;
  ttl = None;
  grace = None;
  hash_always_miss = false;
  hash_ignore_busy = false;
  hash_ignore_vary = false;
}

abbrev pub context_again : ℕ → List ℕ → Context → Context
context_again restarts address context =
    record context { peer = peer_at address; request = request_again restarts context.request }

-- the key is made anew
abbrev pub without_key : Context → Context
without_key context = record context { key = [] }

-- what the newest lookup said of markers
abbrev pub with_markers : Bool → Bool → Context → Context
with_markers is_hitmiss is_hitpass context =
    record context { request = record context.request { is_hitmiss = is_hitmiss; is_hitpass = is_hitpass } }

-- the object that a subroutine reads, and the response that it makes
abbrev pub with_object : CachedObject → Context → Context
with_object object context = record context { object = object }

abbrev pub with_response : ResponseHead → Context → Context
with_response response context = record context { response = response }

-- a response without a body so far
abbrev pub with_bare_response : ResponseHead → Context → Context
with_bare_response response context = record context { response = response; body = None }
