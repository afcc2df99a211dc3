-- The probes of a text have numbers in range.
use Rattle.std.proofs.Common.{ℕ, List, [], ◌∷◌}
use Rattle.std.specs.Prelude.{Option, Some, None, option_map, codes, IfSome, filter_map, map}
use Rattle.std.specs.List.{AllByRecursion, cons_option}
use Rattle.std.proofs.lemmas.List.Elements.{All-from_recursion}
use Rattle.vcl_tree.specs.Phrase.{Phrase}
use Rattle.vcl_tree.specs.declared.item.Item.{Item}
use Rattle.vcl_tree.specs.declared.item.Item.TheVariants as item
use Rattle.vcl_attributes.specs.Readers.{first_read}
use Rattle.vcl_attributes.specs.Probes.{probe_with, InRange}
use Rattle.vcl_attributes.specs.declared.probe_attributes.Probe.{Probe}
use Rattle.vcl_attributes.proofs.InRange.{each-in-range}
use Rattle.vcl_probes.specs.TextProbes.{body_of, probe_name, probe_in, ProbesInRange}

mapped_in_range : (name : List ℕ) (attributes : List Phrase) (body : Option (List Phrase)) → IfSome (option_map (probe_with name attributes) body) InRange
mapped_in_range name attributes None = tt
mapped_in_range name attributes (Some body) = each-in-range name attributes body

found_in_range : (names : List (List ℕ)) (all : List Item) (x : Item) → IfSome (probe_in names all x) InRange
found_in_range names all (item.Backend place name attributes) = mapped_in_range name.text attributes (first_read (body_of names all) (codes "probe") attributes)
found_in_range names all (item.Import place name) = tt
found_in_range names all (item.NoBackend place name) = tt
found_in_range names all (item.Probe place name attributes) = tt
found_in_range names all (item.Acl place name entries) = tt
found_in_range names all (item.Sub place name block) = tt

one_more : (o : Option Probe) (ps : List Probe) → IfSome o InRange → AllByRecursion InRange ps → AllByRecursion InRange (cons_option o ps)
one_more None ps h k = k
one_more (Some p) ps h k = (h, k)

all_in_range : (names : List (List ℕ)) (all items : List Item) → AllByRecursion InRange (filter_map (probe_in names all) items)
all_in_range names all [] = tt
all_in_range names all (x ∷ items) = one_more (probe_in names all x) _ (found_in_range names all x) (all_in_range names all items)

pub all-in-range : ProbesInRange
all-in-range items = All-from_recursion _ _ (all_in_range (map probe_name items) items items)
