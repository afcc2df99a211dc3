-- The tables of the language, row by row as docs/VCL.md has them (the Varnish Reference Manual, "VCL" and "VCL-Variables"), apart
-- from those that the code looks names up in. A row is a name and what stands behind it.
use Rattle.std.specs.Prelude.{ℕ, Bool, true, false, List, [], ◌∷◌, map, Option, Some, None, codes}
use Rattle.directors.specs.declared.director.DirectorKind.{DirectorKind}
use Rattle.directors.specs.declared.director.DirectorKind.TheVariants as director
use Rattle.vcl_values.specs.declared.value.Kind.{Kind}
use Rattle.vcl_values.specs.declared.value.Kind.TheVariants as kind
use Rattle.vcl_language.specs.declared.attributes.AttributeKind.{AttributeKind}
use Rattle.vcl_language.specs.declared.attributes.AttributeKind.TheVariants as attribute
use Rattle.vcl_language.specs.declared.functions.Function.{Function}
use Rattle.vcl_language.specs.declared.functions.Parameter.{Parameter}
use Rattle.vcl_language.specs.declared.functions.Parameter.TheVariants.{Value, Pattern}
use Rattle.vcl_language.specs.declared.functions.Slot.{Slot}
use Rattle.vcl_language.specs.declared.functions.Slot.TheVariants.{Closed, Needed, Optional}
use Rattle.vcl_language.specs.Functions.{nothing, one}
use Rattle.vcl_language.specs.declared.modules.Module.{Module}
use Rattle.vcl_language.specs.declared.modules.Module.TheVariants.{Language, Xkey}
use Rattle.vcl_language.specs.declared.scope.Scope.{Scope}
use Rattle.vcl_language.specs.declared.scope.Scope.TheVariants.{Nowhere, Client, Backend, Traffic, Recv, RecvHitMiss, Hash, Hit, HitDeliver, MissPassFetch, Delivering, DeliverSynth, Synthesizing, Restarting, Synth, SynthBackendError, FetchResponse, Response, BackendResponse, BackendError, InitFini, AllButFini}
use Rattle.vcl_language.specs.declared.scope.Subroutine.{Subroutine}
use Rattle.vcl_language.specs.declared.scope.Subroutine.TheVariants as subroutine
use Rattle.vcl_language.specs.declared.variables.Variable.{Variable}
use Rattle.vcl_language.specs.declared.words.Word.{Word}

abbrev pub names : {A : Type 0} → List (List ℕ × A) → List (List ℕ)
names rows = map (λ row. row.0) rows

abbrev pub entries : {A : Type 0} → List (List ℕ × A) → List A
entries rows = map (λ row. row.1) rows

-- a variable: its type, and where it is read, set, added to and unset
abbrev pub variable : List ℕ → Kind → Scope → Scope → Scope → Scope → List ℕ × Variable
variable name k read set append unset = (name, record { kind = k; read = read; set = set; append = append; unset = unset })

abbrev pub variables : List (List ℕ × Variable)
variables =
    variable (codes "client.ip") kind.Ip Traffic Nowhere Nowhere Nowhere ∷
    variable (codes "server.ip") kind.Ip Traffic Nowhere Nowhere Nowhere ∷
    variable (codes "client.identity") kind.String Client Client Client Nowhere ∷
    variable (codes "req.method") kind.String Client Client Client Nowhere ∷
    variable (codes "req.url") kind.String Client Client Client Nowhere ∷
    variable (codes "req.proto") kind.String Client Nowhere Nowhere Nowhere ∷
    variable (codes "req.restarts") kind.Int Client Nowhere Nowhere Nowhere ∷
    variable (codes "req.ttl") kind.Duration Client Client Client Nowhere ∷
    variable (codes "req.grace") kind.Duration Client Client Client Nowhere ∷
    variable (codes "req.backend_hint") kind.Backend Client Client Client Nowhere ∷
    variable (codes "req.hash_always_miss") kind.Bool Client Client Client Nowhere ∷
    variable (codes "req.hash_ignore_busy") kind.Bool Client Client Client Nowhere ∷
    variable (codes "req.hash_ignore_vary") kind.Bool Client Client Client Nowhere ∷
    variable (codes "req.is_hitmiss") kind.Bool Client Nowhere Nowhere Nowhere ∷
    variable (codes "req.is_hitpass") kind.Bool Client Nowhere Nowhere Nowhere ∷
    variable (codes "obj.status") kind.Int Hit Nowhere Nowhere Nowhere ∷
    variable (codes "obj.reason") kind.String Hit Nowhere Nowhere Nowhere ∷
    variable (codes "obj.hits") kind.Int HitDeliver Nowhere Nowhere Nowhere ∷
    variable (codes "obj.uncacheable") kind.Bool HitDeliver Nowhere Nowhere Nowhere ∷
    variable (codes "obj.ttl") kind.Duration HitDeliver Nowhere Nowhere Nowhere ∷
    variable (codes "obj.age") kind.Duration HitDeliver Nowhere Nowhere Nowhere ∷
    variable (codes "obj.grace") kind.Duration HitDeliver Nowhere Nowhere Nowhere ∷
    variable (codes "obj.keep") kind.Duration HitDeliver Nowhere Nowhere Nowhere ∷
    variable (codes "bereq.method") kind.String Backend Backend Backend Nowhere ∷
    variable (codes "bereq.url") kind.String Backend Backend Backend Nowhere ∷
    variable (codes "bereq.proto") kind.String Backend Nowhere Nowhere Nowhere ∷
    variable (codes "bereq.backend") kind.Backend Backend Backend Backend Nowhere ∷
    variable (codes "bereq.retries") kind.Int Backend Nowhere Nowhere Nowhere ∷
    variable (codes "bereq.uncacheable") kind.Bool Backend Nowhere Nowhere Nowhere ∷
    variable (codes "bereq.is_bgfetch") kind.Bool Backend Nowhere Nowhere Nowhere ∷
    variable (codes "beresp.status") kind.Int Response Response Response Nowhere ∷
    variable (codes "beresp.reason") kind.String Response Response Response Nowhere ∷
    variable (codes "beresp.proto") kind.String Response Nowhere Nowhere Nowhere ∷
    variable (codes "beresp.ttl") kind.Duration Response Response Response Nowhere ∷
    variable (codes "beresp.grace") kind.Duration Response Response Response Nowhere ∷
    variable (codes "beresp.keep") kind.Duration Response Response Response Nowhere ∷
    variable (codes "beresp.uncacheable") kind.Bool Response Response Response Nowhere ∷
    variable (codes "beresp.age") kind.Duration Response Nowhere Nowhere Nowhere ∷
    variable (codes "beresp.was_304") kind.Bool Response Nowhere Nowhere Nowhere ∷
    variable (codes "beresp.backend") kind.Backend Response Nowhere Nowhere Nowhere ∷
    variable (codes "beresp.body") kind.String Nowhere BackendError Nowhere Nowhere ∷
    variable (codes "resp.status") kind.Int DeliverSynth DeliverSynth DeliverSynth Nowhere ∷
    variable (codes "resp.reason") kind.String DeliverSynth DeliverSynth DeliverSynth Nowhere ∷
    variable (codes "resp.proto") kind.String DeliverSynth Nowhere Nowhere Nowhere ∷
    variable (codes "resp.body") kind.String Nowhere Synth Nowhere Nowhere ∷
    []

-- fields, by what stands before their own names
abbrev pub fields : List (List ℕ × Variable)
fields =
    variable (codes "req.http.") kind.String Client Client Client Client ∷
    variable (codes "obj.http.") kind.String Hit Nowhere Nowhere Nowhere ∷
    variable (codes "bereq.http.") kind.String Backend Backend Backend Backend ∷
    variable (codes "beresp.http.") kind.String Response Response Response Response ∷
    variable (codes "resp.http.") kind.String DeliverSynth DeliverSynth DeliverSynth DeliverSynth ∷
    []

-- a function: what it takes and gives, where it stands, and the module that it needs
abbrev pub function : List ℕ → List Slot → Option Kind → Scope → Module → List ℕ × Function
function name takes gives scope needs = (name, record { takes = takes; gives = gives; scope = scope; «module» = needs })

abbrev pub text : Parameter
text = Value kind.String

abbrev pub number : Parameter
number = Value kind.Int

abbrev pub functions : List (List ℕ × Function)
functions =
    function (codes "hash_data") (one text) None Hash Language ∷
    function (codes "synthetic") (one text) None SynthBackendError Language ∷
    function (codes "ban") (one text) None Client Language ∷
    function (codes "regsub") (Needed text ∷ Needed Pattern ∷ Needed text ∷ []) (Some kind.String) Traffic Language ∷
    function (codes "regsuball") (Needed text ∷ Needed Pattern ∷ Needed text ∷ []) (Some kind.String) Traffic Language ∷
    function (codes "xkey.purge") (one text) (Some kind.Int) Client Xkey ∷
    function (codes "xkey.softpurge") (one text) (Some kind.Int) Client Xkey ∷
    []

-- a word of return: what it takes, where it stands, and where it takes a DURATION; `fail` alone fails
abbrev pub word : List ℕ → List Slot → Scope → Scope → Bool → List ℕ × Word
word name takes scope timed fails = (name, record { takes = takes; scope = scope; timed = timed; fails = fails })

abbrev pub words : List (List ℕ × Word)
words =
    word (codes "hash") nothing Recv Nowhere false ∷
    word (codes "pass") nothing RecvHitMiss BackendResponse false ∷
    word (codes "purge") nothing Recv Nowhere false ∷
    word (codes "synth") (Needed number ∷ Optional text ∷ Closed ∷ []) Synthesizing Nowhere false ∷
    word (codes "restart") nothing Restarting Nowhere false ∷
    word (codes "fail") nothing AllButFini Nowhere true ∷
    word (codes "lookup") nothing Hash Nowhere false ∷
    word (codes "deliver") nothing Delivering Nowhere false ∷
    word (codes "fetch") nothing MissPassFetch Nowhere false ∷
    word (codes "error") (Optional number ∷ Optional text ∷ Closed ∷ []) FetchResponse Nowhere false ∷
    word (codes "abandon") nothing Backend Nowhere false ∷
    word (codes "retry") nothing Response Nowhere false ∷
    word (codes "ok") nothing InitFini Nowhere false ∷
    []

abbrev pub backend_attributes : List (List ℕ × AttributeKind)
backend_attributes =
    (codes "host", attribute.String) ∷
    (codes "port", attribute.String) ∷
    (codes "host_header", attribute.String) ∷
    (codes "connect_timeout", attribute.Duration) ∷
    (codes "first_byte_timeout", attribute.Duration) ∷
    (codes "between_bytes_timeout", attribute.Duration) ∷
    (codes "max_connections", attribute.Integer) ∷
    (codes "probe", attribute.Probe) ∷
    []

abbrev pub probe_attributes : List (List ℕ × AttributeKind)
probe_attributes =
    (codes "url", attribute.String) ∷
    (codes "interval", attribute.Duration) ∷
    (codes "timeout", attribute.Duration) ∷
    (codes "window", attribute.Integer) ∷
    (codes "threshold", attribute.Integer) ∷
    (codes "initial", attribute.Integer) ∷
    (codes "expected_response", attribute.Integer) ∷
    []

-- the modules of the language's own, and what makes a director
abbrev pub modules : List (List ℕ)
modules = codes "xkey" ∷ codes "directors" ∷ []

abbrev pub makers : List (List ℕ × DirectorKind)
makers =
    (codes "directors.round_robin", director.RoundRobin) ∷
    (codes "directors.fallback", director.Fallback) ∷
    (codes "directors.random", director.Random) ∷
    (codes "directors.hash", director.Hash) ∷
    []

abbrev pub subroutines : List (List ℕ × Subroutine)
subroutines =
    (codes "vcl_recv", subroutine.Recv) ∷
    (codes "vcl_hash", subroutine.Hash) ∷
    (codes "vcl_purge", subroutine.Purge) ∷
    (codes "vcl_hit", subroutine.Hit) ∷
    (codes "vcl_miss", subroutine.Miss) ∷
    (codes "vcl_pass", subroutine.Pass) ∷
    (codes "vcl_deliver", subroutine.Deliver) ∷
    (codes "vcl_synth", subroutine.Synth) ∷
    (codes "vcl_backend_fetch", subroutine.BackendFetch) ∷
    (codes "vcl_backend_response", subroutine.BackendResponse) ∷
    (codes "vcl_backend_error", subroutine.BackendError) ∷
    (codes "vcl_init", subroutine.Init) ∷
    (codes "vcl_fini", subroutine.Fini) ∷
    []
