-- What is asked of a probed backend, and what its answer says of it (Varnish Reference Manual, VCL-Probe).
use Rattle.std.specs.Prelude.{◌≡◌, ◌≢◌, ℕ, ℤ, pos, Bool, false, List, [], Option, Some, None, codes, unsigned_abs}
use Rattle.std.specs.Ordering.{int_eq}
use Rattle.http_heads.specs.declared.exchange.Backend.{Backend}
use Rattle.http_heads.specs.declared.exchange.BackendRequest.{BackendRequest}
use Rattle.http_heads.specs.declared.exchange.Exchange.{Exchange}
use Rattle.http_heads.specs.declared.exchange.Exchange.TheVariants.{Reply, Fault, NoMemory}
use Rattle.http_heads.specs.declared.fields.Field.{Field}
use Rattle.http_heads.specs.Fields.{MayStand, replaced}
use Rattle.vcl_attributes.specs.declared.probe_attributes.Probe.{Probe}
use Rattle.wire.specs.Tapes.{Tape, Tells}
use Rattle.wire.specs.Telling.{LinkTold, DialerTold}
use Rattle.wire.specs.declared.dial_limits.DialLimits.{DialLimits}
use Rattle.backend_link.specs.Exchanges.{Exchanged}
use Rattle.backend_probe.specs.declared.probing.Probed.{Probed}

abbrev pub server_of : Probe → Backend
server_of probe = record { name = probe.backend; host = probe.host; port = probe.port }

-- the one field Host with this host, where a field may have that as its value, and else none
pub record IsHostAlone (host : List ℕ) (fields : List Field) : Type 0 where
  pub one : MayStand (codes "Host") host → fields ≡ replaced (codes "Host") host []
  pub none : ¬ MayStand (codes "Host") host → fields ≡ []

-- the request is GET of the probe's URL in HTTP/1.1, for the probe's host, without a body
pub record IsGetOf (probe : Probe) (request : BackendRequest) : Type 0 where
  pub method : request.head.method ≡ codes "GET"
  pub url : request.head.url ≡ probe.url
  pub version : request.head.version ≡ 11
  pub fields : IsHostAlone probe.host request.head.fields
  pub body : request.body ≡ []

-- each part of the exchange, and the whole of it, has the probe's time
abbrev pub within : Probe → DialLimits
within probe = record {
  connecting = unsigned_abs probe.timeout;
  first_byte = unsigned_abs probe.timeout;
  between_bytes = unsigned_abs probe.timeout;
  whole = Some (unsigned_abs probe.timeout);
  most_open = None;
}

-- a reply came with this status
abbrev pub is_good : ℤ → Exchange → Bool
is_good expected (Reply head body) = int_eq (pos head.status) expected
is_good expected (Fault number) = false
is_good expected NoMemory = false

-- One exchange of the probe's request was made with its backend, and its moment was read when it was over. It is good by the reply.
pub record IsProbed {L : Type 0} (heard : L → LinkTold) (probe : Probe) (reads reads' : Option Tape) (dialer dialer' : DialerTold L) (one : Probed) : Type 0 where
  pub request : BackendRequest
  pub is_get : IsGetOf probe request
  pub exchanged : Exchanged heard (server_of probe) request dialer dialer' one.got.exchange
  pub there : one.got.exchange ≢ NoMemory
  pub read : Tells reads reads' one.got.moment
  pub good : one.good ≡ is_good probe.expected one.got.exchange
