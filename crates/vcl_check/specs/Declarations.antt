-- What a text declares, from what it says of names.
use Rattle.std.specs.Prelude.{ℕ, ◌==◌, Bool, true, false, not, ◌||◌, List, map, filter, filter_map, Option, Some, None, is_some, position, if◌then◌else◌}
use Rattle.std.specs.List.{list_any}
use Rattle.std.specs.Option.{unwrap_or}
use Rattle.std.specs.Str.{bytes_eq}
use Rattle.directors.specs.declared.director.DirectorKind.{DirectorKind}
use Rattle.vcl_tree.specs.declared.error.Fault.{Fault}
use Rattle.vcl_tree.specs.declared.error.Refusal.TheVariants as refusal
use Rattle.vcl_language.specs.Names.{is_reserved, subroutine_named}
use Rattle.vcl_language.specs.Modules.{is_module, maker_named}
use Rattle.vmod_host.specs.declared.signature.Stored.{Stored}
use Rattle.vcl_symbols.specs.declared.symbol_table.Symbol.{Symbol}
use Rattle.vcl_symbols.specs.declared.symbol_table.Symbol.TheVariants as symbol
use Rattle.vcl_check.specs.declared.declarations.NameSort.{NameSort}
use Rattle.vcl_check.specs.declared.declarations.NameSort.TheVariants as sort
use Rattle.vcl_check.specs.declared.mentions.MentionKind.{MentionKind}
use Rattle.vcl_check.specs.declared.mentions.MentionKind.TheVariants as kind
use Rattle.vcl_check.specs.Calls.{unless}
use Rattle.vcl_symbols.specs.Known.{Known}
use Rattle.vcl_check.specs.Least.{fault_at}
use Rattle.vcl_check.specs.Mentions.{Said}

-- what a mention declares has a name; a subroutine that is built in is none of the text's own
abbrev pub declares_name : MentionKind → List ℕ → Bool
declares_name kind.Backend name = true
declares_name kind.Probe name = true
declares_name kind.Acl name = true
declares_name kind.Object name = true
declares_name kind.NoObject name = true
declares_name kind.Subroutine name = not (is_reserved name)
declares_name _ name = false

abbrev pub is_declared : Said → Bool
is_declared s = declares_name s.kind s.name

-- the declarations of a text, in its order
abbrev pub declarations : List Said → List Said
declarations says = filter is_declared says

abbrev pub names_of : List Said → List (List ℕ)
names_of says = map (λ s. s.name) says

-- the names of a sort, in the text's order; an object of a known maker is a director
abbrev pub is_sorted : NameSort → MentionKind → List ℕ → List ℕ → Bool
is_sorted sort.Import kind.Import name other = true
is_sorted sort.Backend kind.Backend name other = true
is_sorted sort.Acl kind.Acl name other = true
is_sorted sort.Director kind.Object name maker = is_some (maker_named maker)
is_sorted sort.Subroutine kind.Subroutine name other = not (is_reserved name)
is_sorted _ _ name other = false

abbrev pub is_of_sort : NameSort → Said → Bool
is_of_sort wanted s = is_sorted wanted s.kind s.name s.other

abbrev pub names_as : NameSort → List Said → List (List ℕ)
names_as wanted says = names_of (filter (is_of_sort wanted) says)

-- the names of each sort that has numbers
pub record Sorts : Type 0 where
  pub backends : List (List ℕ)
  pub acls : List (List ℕ)
  pub directors : List (List ℕ)
  pub subroutines : List (List ℕ)

abbrev pub sorts_of : List Said → Sorts
sorts_of says = record {
  backends = names_as sort.Backend says;
  acls = names_as sort.Acl says;
  directors = names_as sort.Director says;
  subroutines = names_as sort.Subroutine says;
}

-- a number is the place of the name among those of its sort
abbrev pub place_among : List (List ℕ) → List ℕ → ℕ
place_among names name = unwrap_or (position (λ other. bytes_eq name other) names) 0

abbrev pub made_by : Sorts → List ℕ → Option DirectorKind → Symbol
made_by sorts name None = symbol.UnknownObject
made_by sorts name (Some k) = symbol.Director k (place_among sorts.directors name)

-- what a declared name stands for
abbrev pub declares : Sorts → MentionKind → List ℕ → List ℕ → Option Symbol
declares sorts kind.Backend name other = Some (symbol.Backend (place_among sorts.backends name))
declares sorts kind.Probe name other = Some symbol.Probe
declares sorts kind.Acl name other = Some (symbol.Acl (place_among sorts.acls name))
declares sorts kind.Object name maker = Some (made_by sorts name (maker_named maker))
declares sorts kind.NoObject name other = Some symbol.NoObject
declares sorts kind.Subroutine name other = if is_reserved name then None else Some (symbol.Subroutine (place_among sorts.subroutines name))
declares sorts _ name other = None

abbrev pub symbol_of : Sorts → Said → Option Symbol
symbol_of sorts s = declares sorts s.kind s.name s.other

-- the names of a text and what they stand for
abbrev pub known_of : List Said → List Stored → Known
known_of says stored = record {
  imports = names_as sort.Import says;
  names = names_of (declarations says);
  symbols = filter_map (symbol_of (sorts_of says)) says;
  stored = stored;
}

-- a module that may be imported
abbrev pub is_origin : List Stored → List ℕ → Bool
is_origin stored name = is_module name || list_any (λ entry. bytes_eq entry.signature.module name) stored

-- a module that isn't there, or a subroutine whose name begins as the built-in ones' do and is none of theirs
abbrev pub unknown_mention : List Stored → MentionKind → List ℕ → ℕ → Option ℕ
unknown_mention stored kind.Import name place = unless (is_origin stored name) place
unknown_mention stored kind.Subroutine name place = unless (not (is_reserved name) || is_some (subroutine_named name)) place
unknown_mention stored _ name place = None

abbrev pub unknown_said : List Stored → ℕ → Said → Option Fault
unknown_said stored k s = fault_at refusal.Unknown (unknown_mention stored s.kind s.name s.place)

-- the first declaration of its name is another one
abbrev pub is_number : ℕ → Option ℕ → Bool
is_number k None = false
is_number k (Some n) = n == k

abbrev pub twice_said : List (List ℕ) → ℕ → Said → Option Fault
twice_said names k s = fault_at refusal.Twice (unless (is_number k (position (λ other. bytes_eq s.name other) names)) s.place)
