-- Calls of subroutines, and from which built-in ones each is reached.
use Rattle.std.specs.Prelude.{ℕ, suc, ◌↔◌, Bool, true, false, List, [], ◌∷◌, ◌++◌, map, filter_map, Option, Some, None, position, slice_index_or, if◌then◌else◌}
use Rattle.std.specs.Str.{bytes_eq}
use Rattle.vcl_symbols.specs.declared.call_graph.Call.{Call}
use Rattle.vcl_symbols.specs.Calls.{Reaches, Marked}
use Rattle.vcl_language.specs.Names.{is_reserved, subroutine_named}
use Rattle.vcl_language.specs.declared.scope.Subroutine.{Subroutine}
use Rattle.vcl_language.specs.declared.subroutines.TheConstants.{SUBROUTINES, SUBROUTINE_NAMES}
use Rattle.vcl_symbols.specs.declared.symbol_table.Symbol.{Symbol}
use Rattle.vcl_symbols.specs.declared.symbol_table.Symbol.TheVariants as symbol
use Rattle.vcl_check.specs.declared.mentions.MentionKind.{MentionKind}
use Rattle.vcl_check.specs.declared.mentions.MentionKind.TheVariants as kind
use Rattle.vcl_symbols.specs.Known.{Known, symbol_named}
use Rattle.vcl_check.specs.Mentions.{Said}

-- subroutines are numbered: the built-in ones, and then what the text declares
unfoldable pub numbered_names : List (List ℕ) → List (List ℕ)
numbered_names names = map (λ name. name.now) SUBROUTINE_NAMES ++ names

abbrev pub number_in : List (List ℕ) → List ℕ → Option ℕ
number_in numbers name = position (λ other. bytes_eq name other) numbers

abbrev pub is_subroutine : Option Symbol → Bool
is_subroutine (Some (symbol.Subroutine k)) = true
is_subroutine _ = false

-- a call from a subroutine to one that the text declares
abbrev pub call_between : Option ℕ → Option ℕ → ℕ → Option Call
call_between (Some a) (Some b) p = Some (record { from = a; to = b; place = p })
call_between _ _ p = None

abbrev pub callee : Known → List (List ℕ) → List ℕ → Option ℕ
callee known numbers name = if is_subroutine (symbol_named known name) then number_in numbers name else None

abbrev pub call_by : Known → List (List ℕ) → MentionKind → Said → Option Call
call_by known numbers kind.Call s = call_between (number_in numbers s.other) (callee known numbers s.name) s.place
call_by known numbers _ s = None

abbrev pub call_of : Known → List (List ℕ) → Said → Option Call
call_of known numbers s = call_by known numbers s.kind s

-- the calls of a text, in its order
abbrev pub calls_of : Known → List (List ℕ) → List Said → List Call
calls_of known numbers says = filter_map (call_of known numbers) says

-- each row marks what calls lead to from the subroutine of its number
abbrev pub AreReached : List Call → ℕ → List (List Bool) → Type 0
AreReached calls k [] = Unit {0}
AreReached calls k (row ∷ rows) = ((v : ℕ) → Marked row v ↔ Reaches calls k v) × AreReached calls (suc k) rows

-- the subroutines whose rows mark a number
abbrev pub marking : List (List Bool) → List Subroutine → ℕ → List Subroutine
marking (row ∷ rows) (s ∷ ss) v = if slice_index_or row v false then s ∷ marking rows ss v else marking rows ss v
marking _ _ v = []

abbrev pub reaching : List (List Bool) → Option ℕ → List Subroutine
reaching rows None = []
reaching rows (Some v) = marking rows SUBROUTINES v

-- the built-in subroutines from which a subroutine is reached: a built-in one from itself alone
abbrev pub roots_by : Option Subroutine → Bool → List Subroutine → List Subroutine
roots_by (Some s) reserved others = s ∷ []
roots_by None reserved others = if reserved then [] else others

abbrev pub roots_of : List (List ℕ) → List (List Bool) → List ℕ → List Subroutine
roots_of numbers rows name = roots_by (subroutine_named name) (is_reserved name) (reaching rows (number_in numbers name))
