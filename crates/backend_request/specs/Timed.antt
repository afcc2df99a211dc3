-- How long what was fetched serves (Varnish Reference Manual, VCL-Variables, "beresp.ttl" and its kin; parameters
-- default_ttl, default_grace and default_keep).
use Rattle.std.specs.Prelude.{ℕ, pos, List, []}
use Rattle.http_heads.specs.declared.fields.Field.{Field}
use Rattle.http_heads.specs.declared.message.ResponseHead.{ResponseHead}
use Rattle.freshness.specs.declared.times.Timing.{Timing}
use Rattle.freshness.specs.declared.times.Defaults.{Defaults}
use Rattle.freshness.specs.Timing.{timing_of}
use Rattle.backend_request.specs.declared.purpose.Purpose.{Purpose}
use Rattle.backend_request.specs.declared.purpose.Purpose.TheVariants.{Store, Pass}

-- 120 seconds, then 10 seconds of grace
abbrev pub defaults : Defaults
defaults = record { ttl = pos 120000; grace = pos 10000; keep = pos 0 }

-- what is passed serves once
abbrev pub timed : Purpose → ℕ → List Field → ℕ → Timing
timed Store status fields moment = timing_of status fields moment defaults
timed Pass status fields moment = record (timing_of status fields moment defaults) { ttl = pos 0; grace = pos 0; keep = pos 0 }

-- what the error state begins with
abbrev pub error_head : ℕ → List ℕ → ResponseHead
error_head status reason = record { version = 11; status = status; reason = reason; fields = [] }
