-- VCLs as they are loaded.
use Rattle.std.specs.Prelude.{ℕ, ◌≡◌, List, filter_map, Option, Some, None}
use Rattle.cache_law.specs.declared.vcl.VclSource.{VclSource}
use Rattle.vcl_tree.specs.declared.error.Refusal.{Refusal}
use Rattle.vcl_tree.specs.declared.error.VclError.TheVariants as error
use Rattle.vcl_tree.specs.declared.item.Item.{Item}
use Rattle.vcl_tree.specs.declared.item.Item.TheVariants as item
use Rattle.vcl_tree.specs.declared.item.Tree.{Tree}
use Rattle.vcl_check.specs.Texts.{IsSound}
use Rattle.vcl_store.specs.Joined.{IsJoined}
use Rattle.vcl_store.specs.Refusals.{IsRefusalOf}
use Rattle.vmod_host.specs.declared.signature.Stored.{Stored}
use Rattle.cli_console.specs.declared.message.Message.{Message}
use Rattle.cli_console.specs.declared.message.Message.TheVariants as message

-- the name of the backend that an item declares
abbrev pub backend_of : Item → Option (List ℕ)
backend_of (item.Backend place name attributes) = Some name.text
backend_of (item.NoBackend place name) = Some name.text
backend_of _ = None

abbrev pub backends_of : List Item → List (List ℕ)
backends_of items = filter_map backend_of items

-- The VCL of a text under a name: the text joined with the built-in text, which declares no backend, is sound with these
-- stored functions, and the backends are those that it declares.
pub record IsSource (stored : List Stored) (name text : List ℕ) (source : VclSource) : Type 0 where
  pub tree : Tree
  pub joined : IsJoined text tree
  pub sound : ∥ IsSound tree.items stored ∥₁
  pub named : source.name ≡ name
  pub same_text : source.text ≡ text
  pub backends : source.backends ≡ backends_of tree.items

-- the text is refused with these stored functions, and that is said with the cause and the place
abbrev pub IsTextRefused : List Stored → List ℕ → Message → Type 0
IsTextRefused stored text m =
    (kind : Refusal) × (place : ℕ) × IsRefusalOf text stored (error.Refused kind place) × (m ≡ message.VclRefused kind place)
