-- The members of directors, each where a text adds it.
use Rattle.std.specs.Prelude.{ℕ, List, [], ◌∷◌, Option, Some, None, codes, if◌then◌else◌}
use Rattle.std.specs.Option.{unwrap_or}
use Rattle.vcl_tree.specs.Phrase.{Phrase, Node, Named, Integer, Weight, More, Called, Group}
use Rattle.vcl_tree.specs.declared.item.Item.{Item}
use Rattle.vcl_tree.specs.declared.item.Item.TheVariants as item
use Rattle.vcl_symbols.specs.Known.{Known, object_named}
use Rattle.vcl_symbols.specs.declared.symbol_table.Symbol.{Symbol}
use Rattle.vcl_symbols.specs.declared.symbol_table.Symbol.TheVariants as symbol
use Rattle.vcl_check.specs.Mentions.{parts, is_init}
use Rattle.vcl_check.specs.Views.{weight_of_integer, weight_of_decimal}
use Rattle.vcl_code.specs.Names.{Read, Backend, read_of}
use Rattle.vcl_program.specs.Declarations.{one_more}
use Rattle.vcl_program.specs.declared.code.Member.{Member}

-- the director to which a function of this name adds a backend
abbrev pub director_in : Option Symbol → Option ℕ
director_in (Some (symbol.Director kind k)) = Some k
director_in _ = None

abbrev pub added_to : Known → List ℕ → Option ℕ
added_to known name = director_in (object_named known (codes ".add_backend") name)

-- a backend by its name, which may stand in parentheses
abbrev pub backend_read : Read → Option ℕ
backend_read (Backend k) = Some k
backend_read _ = None

abbrev pub backend_in : Known → Phrase → Option ℕ
backend_in known (Named place name) = backend_read (read_of known name)
backend_in known (Node Group sign e) = backend_in known e
backend_in known _ = None

-- a weight, and 1 where none is given
abbrev pub weight_in : Phrase → ℕ
weight_in (Integer place n) = unwrap_or (weight_of_integer n) 1
weight_in (Weight place digits) = unwrap_or (weight_of_decimal digits) 1
weight_in _ = 1

abbrev pub member : Option ℕ → Option ℕ → ℕ → Option Member
member (Some director) (Some backend) w = Some (record { director = director; backend = backend; weight = w })
member _ _ w = None

-- what is added with these arguments
abbrev pub added_with : Known → Option ℕ → List Phrase → Option Member
added_with known director (e ∷ []) = member director (backend_in known e) 1
added_with known director (e ∷ w ∷ []) = member director (backend_in known e) (weight_in w)
added_with known director _ = None

abbrev pub member_of : Known → Phrase → Option Member
member_of known (Node Called (Named place name) arguments) = added_with known (added_to known name) (parts arguments)
member_of known _ = None

-- the members that a block adds, in its order
unfoldable pub with_block : Known → List Member → Phrase → List Member
with_block known before (Node More front statement) = one_more (with_block known before front) (member_of known statement)
with_block known before _ = before

-- they are added in vcl_init
abbrev pub with_subroutine : Known → List ℕ → Phrase → List Member → List Member
with_subroutine known name block before = if is_init name then with_block known before block else before

abbrev pub with_item : Known → List Member → Item → List Member
with_item known before (item.Sub place name block) = with_subroutine known name.text block before
with_item known before _ = before

abbrev pub with_items : Known → List Member → List Item → List Member
with_items known before [] = before
with_items known before (i ∷ is) = with_items known (with_item known before i) is
