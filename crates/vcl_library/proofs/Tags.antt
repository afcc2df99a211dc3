-- The functions of the table by their tags.
use Rattle.std.proofs.Common.{◌≡◌, ◌==◌, ◌∙◌, ap, ℕ, zero, suc, List, [], ◌∷◌, Option, Some, None, Result, Ok, Err, IfOk, slice_get, refl, sym, subst}
use Rattle.std.proofs.lemmas.Bool.{ne_eqb}
use Rattle.std.proofs.lemmas.Option.{none-some, same_Some}
use Rattle.std.specs.List.{find}
use Rattle.std.specs.Option.{option_map}
use Rattle.vmod_host.specs.declared.TheConstants.{TOLOWER, TOUPPER, INTEGER, STRLEN, PARSE, SET, GET, ISSET, DELETE, KEEP, FILTER, CLEAN, GET_STRING}
use Rattle.vcl_values.specs.declared.value.Kind.{Kind}
use Rattle.vcl_values.specs.declared.value.Value.{Value}
use Rattle.vmod_host.specs.Meanings.{IsMeaning}
use Rattle.vmod_host.specs.declared.signature.Signature.{Signature}
use Rattle.vmod_host.specs.declared.signature.Stored.{Stored}
use Rattle.vcl_library.specs.Functions.{std_functions, signature_of, IsPassed, IsAnswer}

-- each entry's signature is that of its tag
pub own-signature : (k : ℕ) (entry : Stored) → slice_get std_functions k ≡ Some entry → signature_of entry.tag ≡ Some entry.signature
unfolding std_functions
own-signature zero entry e = subst (λ (x : Stored). signature_of x.tag ≡ Some x.signature) (same_Some _ entry e) refl
own-signature (suc zero) entry e = subst (λ (x : Stored). signature_of x.tag ≡ Some x.signature) (same_Some _ entry e) refl
own-signature (suc (suc zero)) entry e = subst (λ (x : Stored). signature_of x.tag ≡ Some x.signature) (same_Some _ entry e) refl
own-signature (suc (suc (suc zero))) entry e = subst (λ (x : Stored). signature_of x.tag ≡ Some x.signature) (same_Some _ entry e) refl
own-signature (suc (suc (suc (suc zero)))) entry e = subst (λ (x : Stored). signature_of x.tag ≡ Some x.signature) (same_Some _ entry e) refl
own-signature (suc (suc (suc (suc (suc zero))))) entry e = subst (λ (x : Stored). signature_of x.tag ≡ Some x.signature) (same_Some _ entry e) refl
own-signature (suc (suc (suc (suc (suc (suc zero)))))) entry e = subst (λ (x : Stored). signature_of x.tag ≡ Some x.signature) (same_Some _ entry e) refl
own-signature (suc (suc (suc (suc (suc (suc (suc zero))))))) entry e = subst (λ (x : Stored). signature_of x.tag ≡ Some x.signature) (same_Some _ entry e) refl
own-signature (suc (suc (suc (suc (suc (suc (suc (suc zero)))))))) entry e = subst (λ (x : Stored). signature_of x.tag ≡ Some x.signature) (same_Some _ entry e) refl
own-signature (suc (suc (suc (suc (suc (suc (suc (suc (suc zero))))))))) entry e = subst (λ (x : Stored). signature_of x.tag ≡ Some x.signature) (same_Some _ entry e) refl
own-signature (suc (suc (suc (suc (suc (suc (suc (suc (suc (suc zero)))))))))) entry e = subst (λ (x : Stored). signature_of x.tag ≡ Some x.signature) (same_Some _ entry e) refl
own-signature (suc (suc (suc (suc (suc (suc (suc (suc (suc (suc (suc zero))))))))))) entry e = subst (λ (x : Stored). signature_of x.tag ≡ Some x.signature) (same_Some _ entry e) refl
own-signature (suc (suc (suc (suc (suc (suc (suc (suc (suc (suc (suc (suc zero)))))))))))) entry e = subst (λ (x : Stored). signature_of x.tag ≡ Some x.signature) (same_Some _ entry e) refl
own-signature (suc (suc (suc (suc (suc (suc (suc (suc (suc (suc (suc (suc (suc k))))))))))))) entry e = absurd (none-some entry e)

signature-at : (tag k : ℕ) (entry : Stored) → slice_get std_functions k ≡ Some entry → tag ≡ entry.tag → signature_of tag ≡ Some entry.signature
signature-at tag k entry at e = ap (λ (n : ℕ). signature_of n) e ∙ own-signature k entry at

-- what a signature takes
taken : Option Signature → Option (List Kind)
taken signature = option_map (λ (s : Signature). s.takes) signature

-- no entry has the tag
Others : ℕ → List Stored → Type 0
Others tag [] = Unit {0}
Others tag (entry ∷ entries) = (entry.tag ≡ tag → ⊥) × Others tag entries

unfound : (tag : ℕ) (entries : List Stored) → Others tag entries → find (λ x. x.tag == tag) entries ≡ None
unfolding Others
unfound tag [] others = refl
unfound tag (entry ∷ entries) others = rw (ne_eqb entry.tag tag others.0) (unfound tag entries others.1)

pub none-passed : (tag : ℕ) (kinds : List Kind)
    → (TOLOWER ≡ tag → ⊥) → (TOUPPER ≡ tag → ⊥) → (INTEGER ≡ tag → ⊥) → (STRLEN ≡ tag → ⊥) → (PARSE ≡ tag → ⊥) → (SET ≡ tag → ⊥) → (GET ≡ tag → ⊥) → (ISSET ≡ tag → ⊥) → (DELETE ≡ tag → ⊥) → (KEEP ≡ tag → ⊥) → (FILTER ≡ tag → ⊥) → (CLEAN ≡ tag → ⊥) → (GET_STRING ≡ tag → ⊥)
    → IsPassed tag kinds → ⊥
unfolding std_functions taken Others
none-passed tag kinds n1 n2 n3 n4 n5 n6 n7 n8 n9 n10 n11 n12 n13 passed =
    let none : find (λ x. x.tag == tag) std_functions ≡ None = unfound tag std_functions (n1, (n2, (n3, (n4, (n5, (n6, (n7, (n8, (n9, (n10, (n11, (n12, (n13, tt {0}))))))))))))) in
    none-some kinds (sym (ap (λ (x : Option Stored). taken (option_map (λ (entry : Stored). entry.signature) x)) none) ∙ passed)

-- what may be passed to an entry's function is of the types that it takes, and the other way round
pub takes-at : (tag k : ℕ) (entry : Stored) (kinds : List Kind) → slice_get std_functions k ≡ Some entry → tag ≡ entry.tag → IsPassed tag kinds → kinds ≡ entry.signature.takes
unfolding taken
takes-at tag k entry kinds at e passed =
    sym (same_Some entry.signature.takes kinds (sym (ap taken (signature-at tag k entry at e)) ∙ passed))

pub passes-at : (k : ℕ) (entry : Stored) (kinds : List Kind) → slice_get std_functions k ≡ Some entry → kinds ≡ entry.signature.takes → IsPassed entry.tag kinds
unfolding taken
passes-at k entry kinds at e = ap taken (own-signature k entry at) ∙ ap (λ (l : List Kind). Some l) (sym e)

-- and what it means is its answer
pub answers-at : {E : Type 0} (tag k : ℕ) (entry : Stored) (arguments : List Value) → slice_get std_functions k ≡ Some entry → tag ≡ entry.tag
    → (result : Result Value E) → IfOk result (IsMeaning entry.tag entry.signature.gives arguments) → IfOk result (IsAnswer tag arguments)
answers-at tag k entry arguments at e (Ok answer) means = λ signature found.
    subst (λ (s : Signature). IsMeaning tag s.gives arguments answer) (same_Some entry.signature signature (sym (signature-at tag k entry at e) ∙ found))
    (subst (λ (n : ℕ). IsMeaning n entry.signature.gives arguments answer) (sym e) means)
answers-at tag k entry arguments at e (Err error) means = means
