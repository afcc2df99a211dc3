-- The stored functions that the program has: those of the modules `std` and `cookie`.
use Rattle.std.specs.Prelude.{ℕ, ◌≡◌, ◌==◌, List, [], ◌∷◌, Option, Some, codes}
use Rattle.std.specs.List.{find}
use Rattle.std.specs.Option.{option_map}
use Rattle.vcl_values.specs.declared.value.Kind.{Kind}
use Rattle.vcl_values.specs.declared.value.Kind.TheVariants.{String, Int, Bool}
use Rattle.vcl_values.specs.declared.value.Value.{Value}
use Rattle.vmod_host.specs.Meanings.{IsMeaning}
use Rattle.vmod_host.specs.declared.TheConstants.{TOLOWER, TOUPPER, INTEGER, STRLEN, PARSE, SET, GET, ISSET, DELETE, KEEP, FILTER, CLEAN, GET_STRING}
use Rattle.vmod_host.specs.declared.signature.JarUse.{JarUse}
use Rattle.vmod_host.specs.declared.signature.JarUse.TheVariants as jar
use Rattle.vmod_host.specs.declared.signature.Signature.{Signature}
use Rattle.vmod_host.specs.declared.signature.Stored.{Stored}
use Rattle.vmod_host.specs.Stored.{entry_of, passed}
use Rattle.vcl_library.specs.declared.functions.StdSignatures.{StdSignatures}
use Rattle.vcl_library.specs.declared.functions.JarSignatures.{JarSignatures}
use Rattle.vcl_library.specs.declared.functions.ChoiceSignatures.{ChoiceSignatures}
use Rattle.vcl_library.specs.declared.functions.LookSignatures.{LookSignatures}

-- a function of the module `std`, and one of the module `cookie`
abbrev pub std_signature : List ℕ → List Kind → Kind → Signature
std_signature name takes gives = record { «module» = codes "std"; name = name; takes = takes; gives = gives; jar = jar.None }

abbrev pub cookie_signature : JarUse → List ℕ → List Kind → Kind → Signature
cookie_signature use_of_jar name takes gives =
    record { «module» = codes "cookie"; name = name; takes = passed use_of_jar takes; gives = gives; jar = use_of_jar }

abbrev pub std_signatures : StdSignatures
std_signatures = record {
  tolower = std_signature (codes "tolower") (String ∷ []) String;
  toupper = std_signature (codes "toupper") (String ∷ []) String;
  integer = std_signature (codes "integer") (String ∷ Int ∷ []) Int;
  strlen = std_signature (codes "strlen") (String ∷ []) Int;
}

abbrev pub jar_signatures : JarSignatures
jar_signatures = record {
  parse = cookie_signature jar.Changes (codes "parse") (String ∷ []) String;
  set = cookie_signature jar.Changes (codes "set") (String ∷ String ∷ []) String;
  clean = cookie_signature jar.Changes (codes "clean") [] String;
}

abbrev pub choice_signatures : ChoiceSignatures
choice_signatures = record {
  delete = cookie_signature jar.Changes (codes "delete") (String ∷ []) String;
  keep = cookie_signature jar.Changes (codes "keep") (String ∷ []) String;
  filter = cookie_signature jar.Changes (codes "filter") (String ∷ []) String;
}

abbrev pub look_signatures : LookSignatures
look_signatures = record {
  get = cookie_signature jar.Asks (codes "get") (String ∷ []) String;
  isset = cookie_signature jar.Asks (codes "isset") (String ∷ []) Bool;
  get_string = cookie_signature jar.Asks (codes "get_string") [] String;
}

-- the functions with these signatures
abbrev pub table_of : StdSignatures → JarSignatures → ChoiceSignatures → LookSignatures → List Stored
table_of plain jars choices looks =
    entry_of TOLOWER plain.tolower
    ∷ entry_of TOUPPER plain.toupper
    ∷ entry_of INTEGER plain.integer
    ∷ entry_of STRLEN plain.strlen
    ∷ entry_of PARSE jars.parse
    ∷ entry_of SET jars.set
    ∷ entry_of GET looks.get
    ∷ entry_of ISSET looks.isset
    ∷ entry_of DELETE choices.delete
    ∷ entry_of KEEP choices.keep
    ∷ entry_of FILTER choices.filter
    ∷ entry_of CLEAN jars.clean
    ∷ entry_of GET_STRING looks.get_string
    ∷ []

unfoldable pub std_functions : List Stored
std_functions = table_of std_signatures jar_signatures choice_signatures look_signatures

-- the signature of the function of a tag, where there is one
abbrev pub signature_of : ℕ → Option Signature
signature_of tag = option_map (λ entry. entry.signature) (find (λ entry. entry.tag == tag) std_functions)

-- values of these types may be passed to the function of this tag
abbrev pub IsPassed : ℕ → List Kind → Type 0
IsPassed tag kinds = option_map (λ signature. signature.takes) (signature_of tag) ≡ Some kinds

-- the value is what the function of this tag means on these arguments, and of the type that the function gives
abbrev pub IsAnswer : ℕ → List Value → Value → Type 0
IsAnswer tag arguments answer = (signature : Signature) → signature_of tag ≡ Some signature → IsMeaning tag signature.gives arguments answer
