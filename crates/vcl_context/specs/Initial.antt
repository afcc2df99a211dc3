-- What a subroutine finds where nothing was filled yet, and what it leaves (Varnish Reference Manual, VCL-Variables).
use Rattle.std.specs.Prelude.{ℕ, ℤ, pos, false, List, [], Option, Some, None, unsigned_abs, if◌then◌else◌}
use Rattle.vcl_values.specs.Values.{address_text}
use Rattle.http_heads.specs.declared.message.RequestHead.{RequestHead}
use Rattle.http_heads.specs.declared.message.ResponseHead.{ResponseHead}
use Rattle.vcl_context.specs.declared.context.Context.{Context}
use Rattle.vcl_context.specs.declared.context.Peer.{Peer}
use Rattle.vcl_context.specs.declared.context.ClientRequest.{ClientRequest}
use Rattle.vcl_context.specs.declared.context.CachedObject.{CachedObject}
use Rattle.vcl_context.specs.declared.context.FetchRequest.{FetchRequest}
use Rattle.vcl_context.specs.declared.context.FetchResponse.{FetchResponse}
use Rattle.vcl_context.specs.Carried.{is_status}

abbrev pub no_request : RequestHead
no_request = record { method = []; url = []; version = 11; fields = [] }

abbrev pub no_response : ResponseHead
no_response = record { version = 11; status = 200; reason = []; fields = [] }

-- a request without an option that VCL sets
abbrev pub no_client_request : ClientRequest
no_client_request = record {
  head = no_request;
  restarts = pos 0;
  ttl = None;
  grace = None;
  backend_hint = None;
  hash_always_miss = false;
  hash_ignore_busy = false;
  hash_ignore_vary = false;
  is_hitmiss = false;
  is_hitpass = false;
}

abbrev pub no_object : CachedObject
no_object = record { head = no_response; hits = pos 0; uncacheable = false; ttl = pos 0; age = pos 0; grace = pos 0; keep = pos 0 }

abbrev pub no_fetch_request : FetchRequest
no_fetch_request = record { head = no_request; backend = None; retries = pos 0; uncacheable = false; is_bgfetch = false }

abbrev pub no_fetch_response : FetchResponse
no_fetch_response = record {
  head = no_response;
  ttl = pos 0;
  grace = pos 0;
  keep = pos 0;
  uncacheable = false;
  age = pos 0;
  was_304 = false;
  backend = None;
}

-- a client is known by its address, unless VCL says otherwise
abbrev pub peer_at : List ℕ → Peer
peer_at address = record { address = address; identity = address_text address }

-- a context of a client at this address, in which nothing else was filled
abbrev pub empty_context : List ℕ → Context
empty_context address = record {
  peer = peer_at address;
  request = no_client_request;
  object = no_object;
  fetch_request = no_fetch_request;
  fetch_response = no_fetch_response;
  response = no_response;
  key = [];
  body = None;
  jar = [];
  statements = 0;
}

-- no statement was run yet
abbrev pub uncounted : Context → Context
uncounted context = record context { statements = 0 }

-- the text that VCL made, as a body: empty where it made none
abbrev pub body_or_empty : Option (List ℕ) → List ℕ
body_or_empty None = []
body_or_empty (Some body) = body

-- the status that VCL gave to `synth` or `error`, which is 503 where it isn't one that may be given
abbrev pub status_or_503 : ℤ → ℕ
status_or_503 number = if is_status number then unsigned_abs number else 503
