-- The probes of a text's backends (Varnish Reference Manual, VCL-Probe).
use Rattle.std.specs.Prelude.{ℕ, List, [], map, filter_map, position, slice_get, All, Option, Some, None, option_map, codes}
use Rattle.std.specs.Option.{option_and_then}
use Rattle.std.specs.Str.{bytes_eq}
use Rattle.vcl_tree.specs.Phrase as phrase
use Rattle.vcl_tree.specs.Phrase.{Phrase}
use Rattle.vcl_tree.specs.declared.item.Item.{Item}
use Rattle.vcl_tree.specs.declared.item.Item.TheVariants as item
use Rattle.vcl_attributes.specs.Readers.{first_read}
use Rattle.vcl_attributes.specs.Probes.{probe_with, InRange}
use Rattle.vcl_attributes.specs.declared.probe_attributes.Probe.{Probe}
use Rattle.vcl_probes.specs.Parts.{parts}

-- the name of a probe; other items have none here
abbrev pub probe_name : Item → List ℕ
probe_name (item.Probe place name attributes) = name.text
probe_name _ = []

abbrev pub declared_body : Item → Option (List Phrase)
declared_body (item.Probe place name attributes) = Some attributes
declared_body _ = None

-- the attributes of the first probe of a name, where these are the names of the items
abbrev pub named_body : List (List ℕ) → List Item → List ℕ → Option (List Phrase)
named_body names items name =
    option_and_then (λ k. option_and_then declared_body (slice_get items k)) (position (λ other. bytes_eq name other) names)

-- the attributes of the probe that a `.probe` names, or those in its braces
abbrev pub body_of : List (List ℕ) → List Item → Phrase → Option (List Phrase)
body_of names items (phrase.Named place name) = named_body names items name
body_of names items (phrase.Node phrase.Nested a list) = Some (parts list)
body_of names items _ = None

-- the probe of a backend, if it has one
abbrev pub probe_in : List (List ℕ) → List Item → Item → Option Probe
probe_in names items (item.Backend place name attributes) =
    option_map (probe_with name.text attributes) (first_read (body_of names items) (codes "probe") attributes)
probe_in names items _ = None

-- the probes of a text's backends, in their order
abbrev pub probes_of : List Item → List Probe
probes_of items = filter_map (probe_in (map probe_name items) items) items

-- the probes of any text have numbers in range
abbrev pub ProbesInRange : Type 0
ProbesInRange = (items : List Item) → All InRange (probes_of items)
