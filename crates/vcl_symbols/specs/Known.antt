-- What the names of a text stand for, with their numbers.
use Rattle.std.specs.Prelude.{ℕ, ◌-◌, ◌+◌, ◌==◌, Bool, not, ◌&&◌, List, length, take, drop, Option, None, is_some, option_and_then, position, slice_get, if◌then◌else◌}
use Rattle.std.specs.Str.{bytes_eq}
use Rattle.vcl_tree.specs.Endings.{ends_in}
use Rattle.vcl_language.specs.Modules.{is_module}
use Rattle.vmod_host.specs.declared.signature.Stored.{Stored}
use Rattle.vmod_host.specs.Stored.{is_named}
use Rattle.vcl_symbols.specs.declared.symbol_table.Symbol.{Symbol}

-- the modules that a text imports, the names that it declares, in its order, each with what it stands for, and the stored functions
pub record Known : Type 0 where
  pub imports : List (List ℕ)
  pub names : List (List ℕ)
  pub symbols : List Symbol
  pub stored : List Stored

-- a declared name stands for what is first declared under it
abbrev pub symbol_named : Known → List ℕ → Option Symbol
symbol_named known name = option_and_then (λ k. slice_get known.symbols k) (position (λ other. bytes_eq name other) known.names)

abbrev pub is_imported : Known → List ℕ → Bool
is_imported known name = is_some (position (λ other. bytes_eq name other) known.imports)

-- a name without its ending
abbrev pub without : List ℕ → List ℕ → List ℕ
without ending name = take (length name - length ending) name

-- the object of a method: the object's name, and an ending with a dot and the method's name
abbrev pub object_named : Known → List ℕ → List ℕ → Option Symbol
object_named known ending name = if ends_in ending name then symbol_named known (without ending name) else None

-- the place of a stored function: its module, which is imported and none of the language's own, a dot, and its name
abbrev pub stored_in : Known → List ℕ → List ℕ → Option ℕ
stored_in known origin own =
    if is_imported known origin && not (is_module origin) then position (λ entry. is_named origin own entry.signature) known.stored else None

abbrev pub stored_of : Known → List ℕ → Option ℕ
stored_of known name = option_and_then (λ dot. stored_in known (take dot name) (drop (dot + 1) name)) (position (λ byte. byte == 46) name)
