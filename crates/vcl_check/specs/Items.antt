-- The first fault of an item, as a plain function.
use Rattle.std.specs.Prelude.{ℕ, Bool, List, Option, None}
use Rattle.vcl_tree.specs.Phrase.{Phrase}
use Rattle.vcl_tree.specs.declared.error.Fault.{Fault}
use Rattle.vcl_tree.specs.declared.item.Item.{Item}
use Rattle.vcl_tree.specs.declared.item.Item.TheVariants as item
use Rattle.vcl_check.specs.Acls.{acl_fault}
use Rattle.vcl_check.specs.Attributes.{backend_fault, probe_fault}
use Rattle.vcl_symbols.specs.Known.{Known}
use Rattle.vcl_check.specs.Least.{told_of}
use Rattle.vcl_check.specs.Reaching.{roots_of}
use Rattle.vcl_check.specs.Roles.{Block}

unfoldable pub block_told : Known → List (List ℕ) → List (List Bool) → List ℕ → Phrase → Option Fault
block_told known numbers rows name block = (told_of known (roots_of numbers rows name) Block block).least

abbrev pub of_item : Known → List (List ℕ) → List (List Bool) → Item → Option Fault
of_item known numbers rows (item.Import place name) = None
of_item known numbers rows (item.NoBackend place name) = None
of_item known numbers rows (item.Backend place name attributes) = backend_fault known name attributes
of_item known numbers rows (item.Probe place name attributes) = probe_fault known attributes
of_item known numbers rows (item.Acl place name entries) = acl_fault entries
of_item known numbers rows (item.Sub place name block) = block_told known numbers rows name.text block

-- an item whatever its number is
abbrev pub item_told : Known → List (List ℕ) → List (List Bool) → ℕ → Item → Option Fault
item_told known numbers rows k i = of_item known numbers rows i
