-- The probe of a backend (Varnish Reference Manual, VCL-Probe).
use Rattle.std.specs.Prelude.{ℕ, ℤ, pos, ◌≤◌, List, unwrap_or, codes}
use Rattle.vcl_tree.specs.Phrase.{Phrase}
use Rattle.vcl_attributes.specs.Readers.{first_string, first_integer, first_duration}
use Rattle.vcl_attributes.specs.Address.{host_of, port_of}
use Rattle.vcl_attributes.specs.WindowNumbers.{longest_window, numbers_of}
use Rattle.vcl_attributes.specs.declared.probe_attributes.Probe.{Probe}

-- what stands for an attribute that is left out; times are in milliseconds
abbrev pub usual_interval : ℤ
usual_interval = pos 5000

abbrev pub usual_probe_timeout : ℤ
usual_probe_timeout = pos 2000

abbrev pub usual_status : ℤ
usual_status = pos 200

-- the probe of a backend of this name and these attributes, by the probe's own
abbrev pub probe_with : List ℕ → List Phrase → List Phrase → Probe
probe_with name attributes probe = record {
  backend = name;
  host = host_of attributes;
  port = port_of attributes;
  url = unwrap_or (first_string (codes "url") probe) (codes "/");
  window = (numbers_of probe).window;
  threshold = (numbers_of probe).threshold;
  initial = (numbers_of probe).initial;
  interval = unwrap_or (first_duration (codes "interval") probe) usual_interval;
  timeout = unwrap_or (first_duration (codes "timeout") probe) usual_probe_timeout;
  expected = unwrap_or (first_integer (codes "expected_response") probe) usual_status;
}

-- the numbers of a probe's window are in range
pub record InRange (probe : Probe) : Type 0 where
  pub some : 1 ≤ probe.window
  pub short : probe.window ≤ longest_window
  pub threshold : probe.threshold ≤ probe.window
  pub initial : probe.initial ≤ probe.window

-- those of each probe are
abbrev pub EachInRange : Type 0
EachInRange = (name : List ℕ) (attributes probe : List Phrase) → InRange (probe_with name attributes probe)
