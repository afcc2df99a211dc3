-- The numbered form of a whole text.
use Rattle.std.specs.Prelude.{ℕ, Bool, List, [], codes, position}
use Rattle.std.specs.Option.{unwrap_or}
use Rattle.std.specs.Str.{bytes_eq}
use Rattle.vcl_values.specs.declared.value.Backend.{Backend}
use Rattle.vcl_tree.specs.declared.item.Item.{Item}
use Rattle.vmod_host.specs.declared.signature.Stored.{Stored}
use Rattle.vcl_check.specs.Mentions.{Said}
use Rattle.vcl_check.specs.Sentences.{known_in}
use Rattle.vcl_check.specs.Texts.{says}
use Rattle.vcl_code.specs.Arenas.{empty}
use Rattle.vcl_symbols.specs.Known.{Known}
use Rattle.vcl_program.specs.declared.code.Code.{Code}
use Rattle.vcl_program.specs.Declarations.{backends_of, acls_of, directors_of}
use Rattle.vcl_program.specs.Members as members
use Rattle.vcl_program.specs.Blocks.{Heads, heads, all_own, all_bodies, no_bodies}

-- the backend that is used where none is set: the one of this name, or else the first
abbrev pub is_default : Backend → Bool
is_default backend = bytes_eq backend.name (codes "default")

abbrev pub default_of : List Backend → ℕ
default_of backends = unwrap_or (position is_default backends) 0

-- the text's own subroutines, and then the built-in ones
abbrev pub own_of : Known → List Item → Heads
own_of known items = all_own known (heads [] empty) items

abbrev pub built_in_of : Known → List Item → Heads
built_in_of known items = all_bodies known items (heads no_bodies (own_of known items).arena)

abbrev pub code_in : Known → List Said → List Item → Code
code_in known said items = record {
  arena = (built_in_of known items).arena;
  backends = backends_of items;
  default_backend = default_of (backends_of items);
  acls = acls_of items;
  directors = directors_of said;
  members = members.with_items known [] items;
  customs = (own_of known items).numbers;
  built_in = (built_in_of known items).numbers;
}

abbrev pub code_of : List Item → List Stored → Code
code_of items stored = code_in (known_in items stored) (says items) items
