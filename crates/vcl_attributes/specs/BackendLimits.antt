-- How long a backend is waited for, and how many connections it is given (Varnish Reference Manual, VCL-Backend).
use Rattle.std.specs.Prelude.{ℕ, ℤ, pos, List, filter_map, Option, Some, None, unwrap_or, codes}
use Rattle.vcl_tree.specs.Phrase.{Phrase}
use Rattle.vcl_tree.specs.declared.item.Item.{Item}
use Rattle.vcl_tree.specs.declared.item.Item.TheVariants as item
use Rattle.vcl_attributes.specs.Readers.{first_integer, first_duration}
use Rattle.vcl_attributes.specs.declared.backend_limits.Limits.{Limits}

-- what stands for a time that is left out, in milliseconds
abbrev pub usual_connect_timeout : ℤ
usual_connect_timeout = pos 3500

abbrev pub usual_read_timeout : ℤ
usual_read_timeout = pos 60000

abbrev pub limits_with : List ℕ → List Phrase → Limits
limits_with name attributes = record {
  backend = name;
  connect_timeout = unwrap_or (first_duration (codes "connect_timeout") attributes) usual_connect_timeout;
  first_byte_timeout = unwrap_or (first_duration (codes "first_byte_timeout") attributes) usual_read_timeout;
  between_bytes_timeout = unwrap_or (first_duration (codes "between_bytes_timeout") attributes) usual_read_timeout;
  max_connections = first_integer (codes "max_connections") attributes;
}

abbrev pub limits_in : Item → Option Limits
limits_in (item.Backend place name attributes) = Some (limits_with name.text attributes)
limits_in _ = None

-- the limits of a text's backends, in their order
abbrev pub limits_of : List Item → List Limits
limits_of items = filter_map limits_in items
