-- The functions, one after another, leave the text of the jar that the operations make.
use Rattle.std.proofs.Common.{◌≡◌, ℕ, List, [], ◌∷◌, sym, ap, ◌∙◌, subst, refl}
use Rattle.std.specs.Prelude.{fold, Some, All, is_some}
use Rattle.std.specs.List.{AllByRecursion}
use Rattle.std.specs.Str.{byte}
use Rattle.std.proofs.lemmas.List.Elements.{recursion_from_All}
use Rattle.vcl_values.specs.declared.value.Value.TheVariants as value
use Rattle.vmod_host.specs.Jar.{Cookies, with_cookie, without_name, without, only, parts_at, field_of, value_in}
use Rattle.vmod_host.specs.JarText.{written, jar_of}
use Rattle.vmod_host.specs.JarMeanings.{jar_meaning, text_value}
use Rattle.vmod_cookie.specs.Operations.{Operation, Parse, Set, Delete, Keep, Filter, Clean, after, jar_after, tag_of, arguments_of, Leaves, HasBytes, Answers}
use Rattle.vmod_cookie.proofs.ReadingBack.{IsGood, jar_back, good_none, good_set, good_filter, good_parsed}

one_text : (a b : List ℕ) → Some (text_value a) ≡ Some (text_value b) → b ≡ a
one_text a b e = cc

next_text : (operation : Operation) (jar : Cookies) (next : List ℕ) → jar_of (written jar) ≡ jar → jar_meaning (tag_of operation) (text_value (written jar) ∷ arguments_of operation) ≡ Some (text_value next) → next ≡ written (after jar operation)
next_text (Parse text) jar next back e = one_text _ next e
next_text (Set name text) jar next back e = one_text _ next e ∙ ap (λ j. written (with_cookie j name text)) back
next_text (Delete name) jar next back e = one_text _ next e ∙ ap (λ j. written (without_name j name)) back
next_text (Keep list) jar next back e = one_text _ next e ∙ ap (λ j. written (only j (parts_at (byte ",") list))) back
next_text (Filter list) jar next back e = one_text _ next e ∙ ap (λ j. written (without j (parts_at (byte ",") list))) back
next_text Clean jar next back e = one_text _ next e

good_after : (operation : Operation) (jar : Cookies) → IsGood jar → HasBytes operation → IsGood (after jar operation)
good_after (Parse text) jar good h = good_parsed text h
good_after (Set name text) jar good h = good_set jar name text good h.0 h.1
good_after (Delete name) jar good h = good_filter _ jar good
good_after (Keep list) jar good h = good_filter _ jar good
good_after (Filter list) jar good h = good_filter _ jar good
good_after Clean jar good h = good_none

left : (operations : List Operation) (jar : Cookies) (last : List ℕ) → IsGood jar → AllByRecursion HasBytes operations → Leaves (written jar) operations last → IsGood (fold after jar operations) × (last ≡ written (fold after jar operations))
left [] jar last good h leaves = (good, sym leaves)
left (operation ∷ more) jar last good h leaves =
    let next = next_text operation jar leaves.0 (jar_back jar good) leaves.1 in
    left more (after jar operation) last (good_after operation jar good h.0) h.1 (subst (λ t. Leaves t more last) next leaves.2)

pub answers_follow : (operations : List Operation) (last : List ℕ) → All HasBytes operations → Leaves [] operations last → Answers last (jar_after operations)
answers_follow operations last h leaves =
    let end = left operations [] last good_none (recursion_from_All _ _ h) leaves in
    let back : jar_of last ≡ jar_after operations = ap jar_of end.1 ∙ jar_back (jar_after operations) end.0 in
    record {
      get_string = ap (λ j. Some (text_value (field_of j))) back;
      get = λ name. ap (λ j. Some (value.String (value_in j name))) back;
      isset = λ name. ap (λ j. Some (value.Bool (is_some (value_in j name)))) back;
    }
