-- What names stand for in the numbered form.
use Rattle.std.specs.Prelude.{ℕ, Bool, true, false, List, Option, Some, None, option_and_then, position, slice_get, codes, if◌then◌else◌}
use Rattle.std.specs.Str.{bytes_eq}
use Rattle.vmod_host.specs.declared.signature.JarUse.{JarUse}
use Rattle.vmod_host.specs.declared.signature.JarUse.TheVariants as jar
use Rattle.vmod_host.specs.declared.signature.Stored.{Stored}
use Rattle.vcl_symbols.specs.Known.{Known, symbol_named, object_named, stored_of}
use Rattle.vcl_symbols.specs.declared.symbol_table.Symbol.{Symbol}
use Rattle.vcl_symbols.specs.declared.symbol_table.Symbol.TheVariants as symbol
use Rattle.vcl_context.specs.Names.{variable_of, field_of}
use Rattle.vcl_context.specs.declared.variable.Variable.{Variable}
use Rattle.vcl_context.specs.declared.variable.Message.{Message}
use Rattle.vcl_code.specs.declared.callees.Builtin.{Builtin}
use Rattle.vcl_code.specs.declared.callees.TheConstants.{BUILTINS, BUILTIN_NAMES, WORDS, WORD_NAMES}
use Rattle.vcl_code.specs.declared.node.ReturnWord.{ReturnWord}
use Rattle.vcl_code.specs.declared.names.Callee.{Callee}
use Rattle.vcl_code.specs.declared.names.Callee.TheVariants as callee

-- what may be set or unset by its name
pub data Target : Type 0 where
  Plain : Variable → Target
  Field : Message → List ℕ → Target
  NoTarget : Target

-- what a name that is read stands for
pub data Read : Type 0 where
  OfTarget : Target → Read
  Truth : Bool → Read
  Backend : ℕ → Read
  NoRead : Read

-- a variable or a field
abbrev pub plain_or_field : Option Variable → Option (Message × List ℕ) → Target
plain_or_field (Some variable) field = Plain variable
plain_or_field None (Some field) = Field field.0 field.1
plain_or_field None None = NoTarget

unfoldable pub target_of : List ℕ → Target
target_of name = plain_or_field (variable_of name) (field_of name)

abbrev pub of_symbol : Option Symbol → Read
of_symbol (Some (symbol.Backend k)) = Backend k
of_symbol _ = NoRead

-- a name that is read: a variable or a field, a truth, a backend
abbrev pub of_target : Known → List ℕ → Target → Read
of_target known name NoTarget =
    if bytes_eq name (codes "true") then Truth true else (if bytes_eq name (codes "false") then Truth false else of_symbol (symbol_named known name))
of_target known name found = OfTarget found

unfoldable pub read_of : Known → List ℕ → Read
read_of known name = of_target known name (target_of name)

abbrev pub acl_in : Option Symbol → Option ℕ
acl_in (Some (symbol.Acl k)) = Some k
acl_in _ = None

unfoldable pub acl_of : Known → List ℕ → Option ℕ
acl_of known name = acl_in (symbol_named known name)

abbrev pub subroutine_in : Option Symbol → Option ℕ
subroutine_in (Some (symbol.Subroutine k)) = Some k
subroutine_in _ = None

unfoldable pub subroutine_of : Known → List ℕ → Option ℕ
subroutine_of known name = subroutine_in (symbol_named known name)

-- a function of the language or of xkey
unfoldable pub builtin_of : List ℕ → Option Builtin
builtin_of name = option_and_then (λ k. slice_get BUILTINS k) (position (λ known. bytes_eq known.now name) BUILTIN_NAMES)

unfoldable pub word_of : List ℕ → Option ReturnWord
word_of name = option_and_then (λ k. slice_get WORDS k) (position (λ known. bytes_eq known.now name) WORD_NAMES)

-- `backend` of a director
abbrev pub director_in : Option Symbol → Callee
director_in (Some (symbol.Director kind k)) = callee.Director k
director_in _ = callee.Absent

abbrev pub director_of : Known → List ℕ → Callee
director_of known name = director_in (object_named known (codes ".backend") name)

-- what a stored function has to do with the jar, by its place
abbrev pub jar_in : Option Stored → JarUse
jar_in (Some entry) = entry.signature.jar
jar_in None = jar.None

abbrev pub jar_at : List Stored → ℕ → JarUse
jar_at stored k = jar_in (slice_get stored k)

abbrev pub stored_or_director : Known → List ℕ → Option ℕ → Callee
stored_or_director known name (Some k) = callee.Stored k (jar_at known.stored k)
stored_or_director known name None = director_of known name

abbrev pub builtin_or_other : Known → List ℕ → Option Builtin → Callee
builtin_or_other known name (Some builtin) = callee.Builtin builtin
builtin_or_other known name None = stored_or_director known name (stored_of known name)

-- what is called
unfoldable pub callee_of : Known → List ℕ → Callee
callee_of known name = builtin_or_other known name (builtin_of name)
