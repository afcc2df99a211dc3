-- Where the backends of a text are.
use Rattle.std.specs.Prelude.{ℕ, List, [], ◌∷◌, Option, Some, None, unwrap_or, if◌then◌else◌}
use Rattle.std.specs.Str.{bytes_eq}
use Rattle.http_heads.specs.declared.exchange.Backend.{Backend}
use Rattle.vcl_attributes.specs.Address.{host_of, port_of}
use Rattle.vcl_tree.specs.Phrase.{Phrase}
use Rattle.vcl_tree.specs.declared.item.Item.{Item}
use Rattle.vcl_tree.specs.declared.item.Item.TheVariants as item

-- the attributes of the backend of this name that an item declares
abbrev pub attributes_named : List ℕ → Item → Option (List Phrase)
attributes_named wanted (item.Backend place name attributes) = if bytes_eq name.text wanted then Some attributes else None
attributes_named wanted _ = None

abbrev pub attributes_in : List ℕ → List Item → List Phrase
attributes_in wanted [] = []
attributes_in wanted (one ∷ more) = unwrap_or (attributes_named wanted one) (attributes_in wanted more)

-- the backend of this name, with its host and its port
abbrev pub server_at : List Item → List ℕ → Backend
server_at items name =
    record { name = name; host = host_of (attributes_in name items); port = port_of (attributes_in name items) }
