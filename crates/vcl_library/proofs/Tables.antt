-- The table of the functions that the program has.
use Rattle.std.proofs.Common.{◌≡◌, ◌∙◌, ap, List}
use Rattle.vcl_library.specs.declared.functions.StdSignatures.{StdSignatures}
use Rattle.vcl_library.specs.declared.functions.JarSignatures.{JarSignatures}
use Rattle.vcl_library.specs.declared.functions.ChoiceSignatures.{ChoiceSignatures}
use Rattle.vcl_library.specs.declared.functions.LookSignatures.{LookSignatures}
use Rattle.vcl_library.specs.Functions.{std_signatures, jar_signatures, choice_signatures, look_signatures, table_of, std_functions}

pub table-made : (plain : StdSignatures) (jars : JarSignatures) (choices : ChoiceSignatures) (looks : LookSignatures)
    → plain ≡ std_signatures → jars ≡ jar_signatures → choices ≡ choice_signatures → looks ≡ look_signatures → table_of plain jars choices looks ≡ std_functions
unfolding std_functions
table-made plain jars choices looks p q r s =
    ap (λ (x : StdSignatures). table_of x jars choices looks) p
    ∙ (ap (λ (x : JarSignatures). table_of std_signatures x choices looks) q
    ∙ (ap (λ (x : ChoiceSignatures). table_of std_signatures jar_signatures x looks) r
    ∙ ap (λ (x : LookSignatures). table_of std_signatures jar_signatures choice_signatures x) s))
