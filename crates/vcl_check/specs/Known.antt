-- What the names of a text stand for by what they are used for.
use Rattle.std.specs.Prelude.{ℕ, zero, suc, Bool, true, false, List, [], ◌∷◌, Option, Some, None, is_some, option_and_then, slice_get, codes, if◌then◌else◌}
use Rattle.std.specs.Str.{bytes_eq}
use Rattle.directors.specs.declared.director.DirectorKind.{DirectorKind}
use Rattle.vcl_tree.specs.Endings.{ends_in}
use Rattle.vcl_language.specs.Variables.{variable_named}
use Rattle.vcl_language.specs.Functions.{function_named, method_of}
use Rattle.vcl_language.specs.Modules.{maker_named}
use Rattle.vcl_language.specs.Names.{subroutine_named}
use Rattle.vcl_language.specs.Words.{word_named}
use Rattle.vcl_language.specs.declared.variables.Variable.{Variable}
use Rattle.vcl_language.specs.declared.words.Word.{Word}
use Rattle.vcl_language.specs.declared.functions.Function.{Function}
use Rattle.vcl_language.specs.declared.functions.Method.{Method}
use Rattle.vcl_language.specs.declared.functions.Method.TheVariants as method
use Rattle.vcl_language.specs.declared.modules.Module.{Module}
use Rattle.vcl_language.specs.declared.modules.Module.TheVariants.{Language, Xkey}
use Rattle.vcl_language.specs.declared.functions.Slot.{Slot}
use Rattle.vcl_language.specs.declared.functions.Slot.TheVariants.{Closed, Needed}
use Rattle.vcl_language.specs.declared.functions.Parameter.TheVariants.{Value}
use Rattle.vcl_language.specs.declared.scope.Scope.TheVariants.{Traffic}
use Rattle.vcl_values.specs.declared.value.Kind.{Kind}
use Rattle.vcl_values.specs.declared.value.Kind.TheVariants.{String}
use Rattle.vmod_host.specs.declared.signature.JarUse.{JarUse}
use Rattle.vmod_host.specs.declared.signature.JarUse.TheVariants as jar
use Rattle.vmod_host.specs.declared.signature.Signature.{Signature}
use Rattle.vmod_host.specs.declared.signature.Stored.{Stored}
use Rattle.vcl_symbols.specs.declared.symbol_table.Symbol.{Symbol}
use Rattle.vcl_symbols.specs.declared.symbol_table.Symbol.TheVariants as symbol
use Rattle.vcl_symbols.specs.Known.{Known, symbol_named, is_imported, object_named, stored_of}
use Rattle.vcl_check.specs.declared.form.Use.{Use}
use Rattle.vcl_check.specs.declared.form.Use.TheVariants as use'
use Rattle.vcl_check.specs.declared.seen.Meaning.{Meaning}
use Rattle.vcl_check.specs.declared.seen.Meaning.TheVariants as meaning

-- what a variable's name stands for
abbrev pub of_variable : Option Variable → Meaning
of_variable None = meaning.Unknown
of_variable (Some v) = meaning.Variable v

-- what a name that is read stands for: a variable, a truth, a backend, an ACL; or what is no value
abbrev pub of_read_symbol : Option Symbol → Bool → Meaning
of_read_symbol (Some (symbol.Backend k)) built_in = meaning.Backend
of_read_symbol (Some (symbol.Acl k)) built_in = meaning.Acl
of_read_symbol (Some _) built_in = meaning.NoValue
of_read_symbol None true = meaning.NoValue
of_read_symbol None false = meaning.Unknown

-- a name that is declared, or a built-in subroutine's
abbrev pub of_declared : Known → List ℕ → Meaning
of_declared known name = of_read_symbol (symbol_named known name) (is_some (subroutine_named name))

abbrev pub is_truth : List ℕ → Bool
is_truth name = if bytes_eq name (codes "true") then true else bytes_eq name (codes "false")

abbrev pub of_read : Known → List ℕ → Option Variable → Meaning
of_read known name (Some v) = meaning.Variable v
of_read known name None = if is_truth name then meaning.Truth else of_declared known name

-- a method of a director: the object's name, a dot, and the method's
abbrev pub of_object : Method → Option Symbol → Meaning
of_object m (Some (symbol.Director kind k)) = meaning.Function (method_of kind m)
of_object m (Some symbol.UnknownObject) = meaning.Method
of_object m _ = meaning.Unknown

abbrev pub of_method : Known → List ℕ → Meaning
of_method known name =
    if ends_in (codes ".add_backend") name then of_object method.AddBackend (object_named known (codes ".add_backend") name) else
    of_object method.Backend (object_named known (codes ".backend") name)

-- a stored function takes up to three values
abbrev pub value : Kind → Slot
value kind = Needed (Value kind)

abbrev pub values : ℕ → List Kind → List Slot
values zero kinds = []
values (suc n) [] = Closed ∷ values n []
values (suc n) (kind ∷ kinds) = value kind ∷ values n kinds

abbrev pub takes_values : List Kind → Option (List Slot)
takes_values (a ∷ b ∷ c ∷ d ∷ more) = None
takes_values kinds = Some (values 3 kinds)

-- the same behind the jar's text, which no call writes: up to two values
abbrev pub takes_behind_jar : List Kind → Option (List Slot)
takes_behind_jar (String ∷ a ∷ b ∷ c ∷ more) = None
takes_behind_jar (String ∷ kinds) = Some (values 3 kinds)
takes_behind_jar _ = None

abbrev pub written_of : JarUse → List Kind → Option (List Slot)
written_of jar.None kinds = takes_values kinds
written_of jar.Asks kinds = takes_behind_jar kinds
written_of jar.Changes kinds = takes_behind_jar kinds

-- a function that changes the jar gives no value
abbrev pub value_given : JarUse → Kind → Option Kind
value_given jar.None kind = Some kind
value_given jar.Asks kind = Some kind
value_given jar.Changes kind = None

abbrev pub giving : Option Kind → Option (List Slot) → Option Function
giving given None = None
giving given (Some t) = Some (record { takes = t; gives = given; scope = Traffic; «module» = Language })

abbrev pub function_of : Signature → Option Function
function_of signature = giving (value_given signature.jar signature.gives) (written_of signature.jar signature.takes)

abbrev pub function_at : List Stored → ℕ → Option Function
function_at stored k = option_and_then (λ entry. function_of entry.signature) (slice_get stored k)

abbrev pub stored_named : Known → List ℕ → Option Function
stored_named known name = option_and_then (λ k. function_at known.stored k) (stored_of known name)

abbrev pub of_stored : Known → List ℕ → Option Function → Meaning
of_stored known name (Some f) = meaning.Function f
of_stored known name None = of_method known name

-- a function of a module needs its import
abbrev pub is_available : Known → Module → Bool
is_available known Language = true
is_available known Xkey = is_imported known (codes "xkey")

abbrev pub of_function : Known → List ℕ → Option Function → Meaning
of_function known name (Some f) = if is_available known f.«module» then meaning.Function f else meaning.Unknown
of_function known name None = of_stored known name (stored_named known name)

abbrev pub of_maker : Known → Option DirectorKind → Meaning
of_maker known (Some kind) = if is_imported known (codes "directors") then meaning.Maker kind else meaning.Unknown
of_maker known None = meaning.Unknown

abbrev pub of_word : Option Word → Meaning
of_word None = meaning.Unknown
of_word (Some w) = meaning.Word w

-- a subroutine that the text declares
abbrev pub of_called : Option Symbol → Meaning
of_called (Some (symbol.Subroutine k)) = meaning.Subroutine
of_called _ = meaning.Unknown

-- what a name stands for by what it is used for
unfoldable pub meaning_of : Known → Use → List ℕ → Meaning
meaning_of known use'.Read name = of_read known name (variable_named name)
meaning_of known use'.Set name = of_variable (variable_named name)
meaning_of known use'.Append name = of_variable (variable_named name)
meaning_of known use'.Unset name = of_variable (variable_named name)
meaning_of known use'.Function name = of_function known name (function_named name)
meaning_of known use'.Maker name = of_maker known (maker_named name)
meaning_of known use'.Word name = of_word (word_named name)
meaning_of known use'.Subroutine name = of_called (symbol_named known name)
