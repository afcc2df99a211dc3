-- How long a text's backends are waited for, and how many connections they are given (Varnish Reference Manual, VCL-Backend).
use Rattle.std.specs.Prelude.{ℕ, List, [], ◌∷◌, None, unsigned_abs, if◌then◌else◌}
use Rattle.std.specs.Str.{bytes_eq}
use Rattle.vcl_attributes.specs.BackendLimits.{limits_of, usual_connect_timeout, usual_read_timeout}
use Rattle.vcl_attributes.specs.declared.backend_limits.Limits.{Limits}
use Rattle.vcl_tree.specs.declared.item.Item.{Item}
use Rattle.wire.specs.declared.dial_limits.DialLimits.{DialLimits}

-- for a name that no backend has
abbrev pub usual_waiting : DialLimits
usual_waiting = record {
  connecting = unsigned_abs usual_connect_timeout;
  first_byte = unsigned_abs usual_read_timeout;
  between_bytes = unsigned_abs usual_read_timeout;
  whole = None;
  most_open = None;
}

-- as a backend's limits say it; a reply as a whole has no limit
abbrev pub waiting_with : Limits → DialLimits
waiting_with limits = record {
  connecting = unsigned_abs limits.connect_timeout;
  first_byte = unsigned_abs limits.first_byte_timeout;
  between_bytes = unsigned_abs limits.between_bytes_timeout;
  whole = None;
  most_open = limits.max_connections;
}

-- as the first limits of this name say it
abbrev pub waiting_in : List ℕ → List Limits → DialLimits
waiting_in wanted [] = usual_waiting
waiting_in wanted (one ∷ more) = if bytes_eq one.backend wanted then waiting_with one else waiting_in wanted more

abbrev pub waiting_at : List Item → List ℕ → DialLimits
waiting_at items name = waiting_in name (limits_of items)
