-- What is wrong with the attributes of backends and probes.
use Rattle.std.specs.Prelude.{ℕ, Bool, true, false, List, [], map, Option, Some, None, is_some, position, codes}
use Rattle.std.specs.Str.{bytes_eq}
use Rattle.vcl_tree.specs.Phrase as phrase
use Rattle.vcl_tree.specs.Phrase.{Phrase}
use Rattle.vcl_tree.specs.declared.error.Fault.{Fault}
use Rattle.vcl_tree.specs.declared.error.Refusal.TheVariants as refusal
use Rattle.vcl_tree.specs.declared.name.Name.{Name}
use Rattle.vcl_language.specs.Attributes.{attribute_named}
use Rattle.vcl_language.specs.declared.attributes.AttributeKind.{AttributeKind}
use Rattle.vcl_language.specs.declared.attributes.AttributeKind.TheVariants as kind
use Rattle.vcl_language.specs.declared.attributes.Owner.TheVariants as owner
use Rattle.vcl_symbols.specs.declared.symbol_table.Symbol.{Symbol}
use Rattle.vcl_symbols.specs.declared.symbol_table.Symbol.TheVariants as symbol
use Rattle.vcl_check.specs.declared.form.Use.TheVariants as use'
use Rattle.vcl_check.specs.declared.seen.Meaning.{Meaning}
use Rattle.vcl_check.specs.declared.seen.Meaning.TheVariants as meaning
use Rattle.vcl_check.specs.Calls.{unless}
use Rattle.vcl_check.specs.Declarations.{is_number}
use Rattle.vcl_check.specs.Folded.{numbered}
use Rattle.vcl_symbols.specs.Known.{Known, symbol_named}
use Rattle.vcl_attributes.specs.WindowNumbers.{misfit_place}
use Rattle.vcl_check.specs.Known.{meaning_of}
use Rattle.vcl_check.specs.Least.{fault_at, lesser}
use Rattle.vcl_check.specs.Mentions.{parts}

-- the place of a value's first token
abbrev pub value_place : Phrase → ℕ
value_place phrase.Nothing = 0
value_place (phrase.At place) = place
value_place (phrase.Named place name) = place
value_place (phrase.String place text) = place
value_place (phrase.Weight place digits) = place
value_place (phrase.Integer place n) = place
value_place (phrase.Duration place n) = place
value_place (phrase.Node label a b) = value_place a

-- a value of the attribute's type
abbrev pub is_of : AttributeKind → Phrase → Bool
is_of kind.String (phrase.String place text) = true
is_of kind.Integer (phrase.Integer place n) = true
is_of kind.Duration (phrase.Duration place n) = true
is_of _ _ = false

-- a name is no value of an attribute, and unknown where nothing declares it
abbrev pub of_named : Meaning → ℕ → Option Fault
of_named meaning.Unknown place = fault_at refusal.Unknown (Some place)
of_named _ place = fault_at refusal.Kind (Some place)

abbrev pub of_plain : Known → AttributeKind → Phrase → Option Fault
of_plain known k (phrase.Named place name) = of_named (meaning_of known use'.Read name) place
of_plain known k v = fault_at refusal.Kind (unless (is_of k v) (value_place v))

abbrev pub is_probe : Option Symbol → Bool
is_probe (Some symbol.Probe) = true
is_probe _ = false

-- an attribute of a probe
abbrev pub of_probe_kind : Known → Option AttributeKind → ℕ → Phrase → Option Fault
of_probe_kind known None place v = fault_at refusal.Unknown (Some place)
of_probe_kind known (Some k) place v = of_plain known k v

abbrev pub probe_attribute : Known → Phrase → Option Fault
probe_attribute known (phrase.Node phrase.Attribute a (phrase.Node phrase.Bound (phrase.Named place name) v)) =
    of_probe_kind known (attribute_named owner.Probe name) place v
probe_attribute known _ = None

abbrev pub attribute_name : Phrase → List ℕ
attribute_name (phrase.Node phrase.Attribute a (phrase.Node phrase.Bound (phrase.Named place name) v)) = name
attribute_name _ = []

-- the first attribute of its name is another one
abbrev pub twice_attribute : List (List ℕ) → ℕ → Phrase → Option Fault
twice_attribute names k (phrase.Node phrase.Attribute a (phrase.Node phrase.Bound (phrase.Named place name) v)) =
    fault_at refusal.Twice (unless (is_number k (position (λ other. bytes_eq name other) names)) place)
twice_attribute names k _ = None

abbrev pub probe_member : Known → List (List ℕ) → ℕ → Phrase → Option Fault
probe_member known names k a = lesser (probe_attribute known a) (twice_attribute names k a)

-- the first fault among the attributes of a probe; that the numbers of its window don't fit is one, too
abbrev pub probe_fault : Known → List Phrase → Option Fault
probe_fault known attributes =
    numbered (probe_member known (map attribute_name attributes)) 0 (fault_at refusal.Kind (misfit_place attributes)) attributes

-- an attribute of a backend: a probe is a name or attributes
abbrev pub of_probe_named : Known → Bool → ℕ → List ℕ → Option Fault
of_probe_named known true place name = None
of_probe_named known false place name = of_named (meaning_of known use'.Read name) place

abbrev pub of_probe : Known → Phrase → Option Fault
of_probe known (phrase.Named place name) = of_probe_named known (is_probe (symbol_named known name)) place name
of_probe known (phrase.Node phrase.Nested a list) = probe_fault known (parts list)
of_probe known v = fault_at refusal.Kind (Some (value_place v))

abbrev pub of_backend_kind : Known → Option AttributeKind → ℕ → Phrase → Option Fault
of_backend_kind known None place v = fault_at refusal.Unknown (Some place)
of_backend_kind known (Some kind.Probe) place v = of_probe known v
of_backend_kind known (Some k) place v = of_plain known k v

abbrev pub backend_attribute : Known → Phrase → Option Fault
backend_attribute known (phrase.Node phrase.Attribute a (phrase.Node phrase.Bound (phrase.Named place name) v)) =
    of_backend_kind known (attribute_named owner.Backend name) place v
backend_attribute known _ = None

abbrev pub backend_member : Known → List (List ℕ) → ℕ → Phrase → Option Fault
backend_member known names k a = lesser (backend_attribute known a) (twice_attribute names k a)

-- a backend names its host
abbrev pub hostless : List (List ℕ) → Name → Option Fault
hostless names name = fault_at refusal.Kind (unless (is_some (position (λ other. bytes_eq (codes "host") other) names)) name.place)

abbrev pub backend_fault : Known → Name → List Phrase → Option Fault
backend_fault known name attributes =
    numbered (backend_member known (map attribute_name attributes)) 0 (hostless (map attribute_name attributes) name) attributes
