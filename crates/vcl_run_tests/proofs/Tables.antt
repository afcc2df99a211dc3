-- Tables of functions of the module `std`.
use Rattle.std.proofs.Common.{◌≡◌, inl, inr, ℕ, zero, suc, List, [], ◌∷◌, Option, Some, None, slice_get, refl, sym, subst}
use Rattle.std.proofs.lemmas.Option.{none-some, same_Some}
use Rattle.vcl_values.specs.declared.value.Kind.{Kind}
use Rattle.vcl_values.specs.declared.value.Kind.TheVariants.{String, Int}
use Rattle.vmod_host.specs.declared.TheConstants.{TOLOWER, TOUPPER, INTEGER, STRLEN}
use Rattle.vmod_host.specs.declared.signature.JarUse.TheVariants as jar
use Rattle.vmod_host.specs.declared.signature.Signature.{Signature}
use Rattle.vmod_host.specs.declared.signature.Stored.{Stored}
use Rattle.vmod_host.specs.Stored.{entry_of}
use Rattle.vcl_soundness.specs.Laws.{AreMeant, IsStandard, StandardAreMeant}

-- a function that has no jar, with what it takes and gives
pub record IsPlain (signature : Signature) (wanted : List Kind) (given : Kind) : Type 0 where
  pub takes : signature.takes ≡ wanted
  pub gives : signature.gives ≡ given
  pub jar : signature.jar ≡ jar.None

all-four : (a b c d : Signature) → IsPlain a (String ∷ []) String → IsPlain b (String ∷ []) String → IsPlain c (String ∷ Int ∷ []) Int → IsPlain d (String ∷ []) Int
    → (k : ℕ) (entry : Stored) → slice_get (entry_of TOLOWER a ∷ entry_of TOUPPER b ∷ entry_of INTEGER c ∷ entry_of STRLEN d ∷ []) k ≡ Some entry → IsStandard entry
all-four a b c d p q r s zero entry e = subst (λ (x : Stored). IsStandard x) (same_Some _ entry e) (inl (inl (record { tag = refl; jar = p.jar; takes = p.takes; gives = p.gives })))
all-four a b c d p q r s (suc zero) entry e = subst (λ (x : Stored). IsStandard x) (same_Some _ entry e) (inl (inr (inl (record { tag = refl; jar = q.jar; takes = q.takes; gives = q.gives }))))
all-four a b c d p q r s (suc (suc zero)) entry e =
    subst (λ (x : Stored). IsStandard x) (same_Some _ entry e) (inl (inr (inr (inl (record { tag = refl; jar = r.jar; takes = r.takes; gives = r.gives })))))
all-four a b c d p q r s (suc (suc (suc zero))) entry e =
    subst (λ (x : Stored). IsStandard x) (same_Some _ entry e) (inl (inr (inr (inr (record { tag = refl; jar = s.jar; takes = s.takes; gives = s.gives })))))
all-four a b c d p q r s (suc (suc (suc (suc k)))) entry e = absurd (none-some entry e)

pub four-meant : StandardAreMeant → (a b c d : Signature) → IsPlain a (String ∷ []) String → IsPlain b (String ∷ []) String → IsPlain c (String ∷ Int ∷ []) Int → IsPlain d (String ∷ []) Int
    → AreMeant (entry_of TOLOWER a ∷ entry_of TOUPPER b ∷ entry_of INTEGER c ∷ entry_of STRLEN d ∷ [])
four-meant law a b c d p q r s = law (entry_of TOLOWER a ∷ entry_of TOUPPER b ∷ entry_of INTEGER c ∷ entry_of STRLEN d ∷ []) (all-four a b c d p q r s)

length-alone : (d : Signature) → IsPlain d (String ∷ []) Int → (k : ℕ) (entry : Stored) → slice_get (entry_of STRLEN d ∷ []) k ≡ Some entry → IsStandard entry
length-alone d s zero entry e = subst (λ (x : Stored). IsStandard x) (same_Some _ entry e) (inl (inr (inr (inr (record { tag = refl; jar = s.jar; takes = s.takes; gives = s.gives })))))
length-alone d s (suc k) entry e = absurd (none-some entry e)

pub length-meant : StandardAreMeant → (d : Signature) → IsPlain d (String ∷ []) Int → AreMeant (entry_of STRLEN d ∷ [])
length-meant law d s = law (entry_of STRLEN d ∷ []) (length-alone d s)
