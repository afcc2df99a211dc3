-- The VCL that a server begins under.
use Rattle.std.specs.Prelude.{◌≡◌, ℕ, List, filter_map, Option, Some, None, ⊤}
use Rattle.cache_law.specs.declared.setting.Boot.{Boot}
use Rattle.vcl_tree.specs.declared.error.VclError.TheVariants as vcl
use Rattle.vcl_tree.specs.declared.item.Item.{Item}
use Rattle.vcl_tree.specs.declared.item.Item.TheVariants as item
use Rattle.vcl_tree.specs.declared.item.Tree.{Tree}
use Rattle.vcl_check.specs.Texts.{IsSound}
use Rattle.vcl_store.specs.Joined.{IsJoined}
use Rattle.vcl_store.specs.Refusals.{IsRefusalOf}
use Rattle.vmod_host.specs.declared.signature.Stored.{Stored}
use Rattle.world.specs.declared.file.File.{File}
use Rattle.world.specs.Files.{IsShelved}
use Rattle.boot_file.specs.declared.error.BootError.{BootError}
use Rattle.boot_file.specs.declared.error.BootError.TheVariants.{Missing, Unreadable, Refused, NoMemory}

-- the name of the backend that an item declares
abbrev pub backend_of : Item → Option (List ℕ)
backend_of (item.Backend place name attributes) = Some name.text
backend_of (item.NoBackend place name) = Some name.text
backend_of _ = None

abbrev pub backends_of : List Item → List (List ℕ)
backends_of items = filter_map backend_of items

-- The opening VCL of a text: joined with the built-in text, which declares no backend, it is sound with these stored functions, and
-- the backends are those that it declares.
pub record Declares (stored : List Stored) (text : List ℕ) (boot : Boot) : Type 0 where
  pub same_text : boot.text ≡ text
  pub tree : Tree
  pub joined : IsJoined text tree
  pub sound : ∥ IsSound tree.items stored ∥₁
  pub backends : boot.backends ≡ backends_of tree.items

-- the opening VCL of the file of this name, where files are told
pub record Boots (files : Option (List File)) (name : List ℕ) (stored : List Stored) (boot : Boot) : Type 0 where
  pub text : List ℕ
  pub shelved : IsShelved files name (Some text)
  pub declares : Declares stored text boot

-- why a text is no VCL to begin under
abbrev pub WhyText : List Stored → List ℕ → BootError → Type 0
WhyText stored text Missing = ⊥
WhyText stored text Unreadable = ⊥
WhyText stored text (Refused kind place) = IsRefusalOf text stored (vcl.Refused kind place)
WhyText stored text NoMemory = ⊤

-- why the file of this name is none; a fault of reading may have risen
abbrev pub Why : Option (List File) → List ℕ → List Stored → Type 0 → BootError → Type 0
Why files name stored failed Missing = IsShelved files name None
Why files name stored failed Unreadable = failed
Why files name stored failed (Refused kind place) = (text : List ℕ) × IsShelved files name (Some text) × IsRefusalOf text stored (vcl.Refused kind place)
Why files name stored failed NoMemory = ⊤
