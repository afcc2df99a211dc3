-- Where a backend is (Varnish Reference Manual, VCL-Backend, "host" and "port").
use Rattle.std.specs.Prelude.{ℕ, ◌+◌, Bool, ◌==◌, List, [], take, drop, count_by, Option, Some, None, codes, unwrap_or, if◌then◌else◌}
use Rattle.std.specs.List.{position_or_len}
use Rattle.vcl_tree.specs.Phrase.{Phrase}
use Rattle.vcl_attributes.specs.Readers.{first_string}

-- 58 is a colon
abbrev pub is_colon : ℕ → Bool
is_colon byte = byte == 58

abbrev pub colon_place : List ℕ → ℕ
colon_place text = position_or_len is_colon text

-- `.host` says the port too: one colon stands between them
abbrev pub says_port : List ℕ → Bool
says_port host = count_by is_colon host == 1

-- the host where `.port` and `.host` are these; a `.host` that says a port is read as both where there is no `.port`
abbrev pub host_in : Option (List ℕ) → List ℕ → List ℕ
host_in (Some port) host = host
host_in None host = if says_port host then take (colon_place host) host else host

-- and the port, which is 80 where none is said
abbrev pub port_in : Option (List ℕ) → List ℕ → List ℕ
port_in (Some port) host = port
port_in None host = if says_port host then drop (colon_place host + 1) host else codes "80"

abbrev pub said_host : List Phrase → List ℕ
said_host attributes = unwrap_or (first_string (codes "host") attributes) []

abbrev pub said_port : List Phrase → Option (List ℕ)
said_port attributes = first_string (codes "port") attributes

-- the host and the port of a backend with these attributes
abbrev pub host_of : List Phrase → List ℕ
host_of attributes = host_in (said_port attributes) (said_host attributes)

abbrev pub port_of : List Phrase → List ℕ
port_of attributes = port_in (said_port attributes) (said_host attributes)
