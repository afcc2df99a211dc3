-- When entries are sound, and that one fault alone is the first.
use Rattle.std.proofs.Common.{◌≡◌, ◌≤◌, ◌<◌, ℕ, List, [], ◌∷◌, ◌++◌, Some, take, length, sym, ◌∙◌, ap, subst, refl, ⊎_elim, arith}
use Rattle.std.specs.List.{Any, Contains, slice_get}
use Rattle.std.proofs.lemmas.List.{get_or-take, length-take, take_all}
use Rattle.std.proofs.lemmas.Option.{get_or_from_slice_get, slice_get_within}
use Rattle.std.proofs.lemmas.List.Elements.{Contains-push_cases}
use Rattle.acl_match.specs.declared.entry.AclEntry.{AclEntry}
use Rattle.acl_match.specs.Acl.{AllShort, Clash, IsSound, IsFirstMask, IsFirstClash}
use Rattle.std.specs.Prelude.{Bool, Result, Ok, Err, OnOk, IsErrOf}
use Rattle.std.proofs.lemmas.Bool.{cases_order}
use Rattle.acl_match.specs.declared.acl.AclError.{AclError}
use Rattle.acl_match.specs.declared.acl.AclError.TheVariants as errors
use Rattle.std.specs.BTreeMap.{BTreeMap, get}
use Rattle.acl_match.specs.declared.network.Network.{Network}
use Rattle.acl_match.specs.Signs.{Records, network, network_cmp}

pub AllShort-nil : AllShort []
AllShort-nil = λ entry listed. absurd (omega (arith, listed.1))

pub AllShort-push : (before : List AclEntry) (last : AclEntry) → AllShort before → last.mask ≤ 32 → AllShort (before ++ last ∷ [])
AllShort-push before last all short = λ entry listed. ⊎_elim (λ inside. all entry inside) (λ same. let P : AclEntry → Type 0 = λ x. x.mask ≤ 32 in subst P same short) (Contains-push_cases before last entry listed)

-- entries whose signs one map keeps don't clash
pub IsSound-recorded : (entries : List AclEntry) (signs : BTreeMap Network Bool) → AllShort entries → Records entries signs → IsSound entries
IsSound-recorded entries signs short records = record {
  masks = short;
  signs = λ first second one two clash.
      let same : network first ≡ network second = cc (clash.mask, clash.network) in
      let there : get network_cmp signs (network second) ≡ Some first.negated = ap (get network_cmp signs) (sym same) ∙ records.known first one in
      clash.signs (cc (there, records.known second two));
}

-- an entry before that clashes with the last one
listed_clash : (before : List AclEntry) (last first : AclEntry) → Contains before first → Clash first last → Any (Clash last) before
listed_clash before last first listed clash = (listed.0, first, listed.1, listed.2, record { mask = sym clash.mask; network = sym clash.network; signs = λ same. clash.signs (sym same) })

-- what stands at a place is among the entries before a later one
Contains-take : (entries : List AclEntry) (place later : ℕ) (entry : AclEntry) → slice_get entries place ≡ Some entry → place < later → Contains (take later entries) entry
Contains-take entries place later entry here below =
    let inside : place < length entries = slice_get_within entries place entry here in
    (place, omega (arith, length-take later entries), get_or-take later entries place entry below ∙ get_or_from_slice_get entries place entry entry here)

-- a place with a mask over 32 isn't among sound entries
IsFirstMask-unsound : (entries : List AclEntry) (place later : ℕ) → IsFirstMask entries place → IsSound (take later entries) → place < later → ⊥
IsFirstMask-unsound entries place later fault sound below =
    omega (arith, fault.here.2, sound.masks fault.here.0 (Contains-take entries place later fault.here.0 fault.here.1 below))

-- what stands before a place is among the entries before a later one
Contains-take_more : (entries : List AclEntry) (place later : ℕ) (entry : AclEntry) → Contains (take place entries) entry → place < later → Contains (take later entries) entry
Contains-take_more entries place later entry there below =
    let inside : there.0 < place = omega (arith, length-take place entries, there.1) in
    (there.0, omega (arith, length-take later entries, length-take place entries, there.1), get_or-take later entries there.0 entry (omega arith) ∙ sym (get_or-take place entries there.0 entry inside) ∙ there.2)

IsFirstClash-unsound : (entries : List AclEntry) (place later : ℕ) → IsFirstClash entries place → IsSound (take later entries) → place < later → ⊥
IsFirstClash-unsound entries place later fault sound below =
    let other = fault.here.2 in
    sound.signs fault.here.0 other.1 (Contains-take entries place later fault.here.0 fault.here.1 below) (Contains-take_more entries place later other.1 (other.0, other.2, other.3) below) other.4

-- at one place a clash and a mask over 32 aren't both the first fault
faults_apart : (entries : List AclEntry) (place : ℕ) → IsFirstMask entries place → IsFirstClash entries place → ⊥
faults_apart entries place mask clash =
    let other = clash.here.2 in
    let same : mask.here.0 ≡ clash.here.0 = cc (mask.here.1, clash.here.1) in
    omega (arith, mask.here.2, ap (λ (e : AclEntry). e.mask) same, other.4.mask, clash.before.masks other.1 (other.0, other.2, other.3))

whole : (entries : List AclEntry) → IsSound entries → IsSound (take (length entries) entries)
whole entries sound = let P : List AclEntry → Type 0 = λ es. IsSound es in subst P (sym (take_all (length entries) entries (omega arith))) sound

-- An answer that is right of sound entries and of first faults, and that memory was wanting only where there are none,
-- tells each first fault.
pub mask_told : {T : Type 0} (entries : List AclEntry) (answer : Result T AclError) → OnOk answer (IsSound entries)
    → ((place : ℕ) → IsErrOf answer (errors.Mask place) → IsFirstMask entries place) → ((place : ℕ) → IsErrOf answer (errors.Clash place) → IsFirstClash entries place)
    → (IsErrOf answer errors.NoMemory → IsSound entries) → (place : ℕ) → IsFirstMask entries place → IsErrOf answer (errors.Mask place)
mask_told entries (Ok done) ok mask clash wanting place fault = absurd (IsFirstMask-unsound entries place (length entries) fault (whole entries ok) (slice_get_within entries place fault.here.0 fault.here.1))
mask_told entries (Err (errors.Mask other)) ok mask clash wanting place fault = ⊎_elim
    (λ same. ap (λ (n : ℕ). Err (errors.Mask n)) (sym same))
    (⊎_elim (λ below. absurd (IsFirstMask-unsound entries place other fault (mask other refl).before below)) (λ above. absurd (IsFirstMask-unsound entries other place (mask other refl) fault.before above)))
    (cases_order place other)
mask_told entries (Err (errors.Clash other)) ok mask clash wanting place fault = ⊎_elim
    (λ same. let P : ℕ → Type 0 = λ n. IsFirstClash entries n in absurd (faults_apart entries place fault (subst P (sym same) (clash other refl))))
    (⊎_elim (λ below. absurd (IsFirstMask-unsound entries place other fault (clash other refl).before below)) (λ above. absurd (IsFirstClash-unsound entries other place (clash other refl) fault.before above)))
    (cases_order place other)
mask_told entries (Err errors.NoMemory) ok mask clash wanting place fault = absurd (IsFirstMask-unsound entries place (length entries) fault (whole entries (wanting refl)) (slice_get_within entries place fault.here.0 fault.here.1))

pub clash_told : {T : Type 0} (entries : List AclEntry) (answer : Result T AclError) → OnOk answer (IsSound entries)
    → ((place : ℕ) → IsErrOf answer (errors.Mask place) → IsFirstMask entries place) → ((place : ℕ) → IsErrOf answer (errors.Clash place) → IsFirstClash entries place)
    → (IsErrOf answer errors.NoMemory → IsSound entries) → (place : ℕ) → IsFirstClash entries place → IsErrOf answer (errors.Clash place)
clash_told entries (Ok done) ok mask clash wanting place fault = absurd (IsFirstClash-unsound entries place (length entries) fault (whole entries ok) (slice_get_within entries place fault.here.0 fault.here.1))
clash_told entries (Err (errors.Clash other)) ok mask clash wanting place fault = ⊎_elim
    (λ same. ap (λ (n : ℕ). Err (errors.Clash n)) (sym same))
    (⊎_elim (λ below. absurd (IsFirstClash-unsound entries place other fault (clash other refl).before below)) (λ above. absurd (IsFirstClash-unsound entries other place (clash other refl) fault.before above)))
    (cases_order place other)
clash_told entries (Err (errors.Mask other)) ok mask clash wanting place fault = ⊎_elim
    (λ same. let P : ℕ → Type 0 = λ n. IsFirstMask entries n in absurd (faults_apart entries place (subst P (sym same) (mask other refl)) fault))
    (⊎_elim (λ below. absurd (IsFirstClash-unsound entries place other fault (mask other refl).before below)) (λ above. absurd (IsFirstMask-unsound entries other place (mask other refl) fault.before above)))
    (cases_order place other)
clash_told entries (Err errors.NoMemory) ok mask clash wanting place fault = absurd (IsFirstClash-unsound entries place (length entries) fault (whole entries (wanting refl)) (slice_get_within entries place fault.here.0 fault.here.1))

-- one more entry that clashes with none before it
pub IsSound-push : (before : List AclEntry) (last : AclEntry) → IsSound before → last.mask ≤ 32 → (Any (Clash last) before → ⊥) → IsSound (before ++ last ∷ [])
IsSound-push before last sound short none = record {
  masks = AllShort-push before last sound.masks short;
  signs = λ first second one two clash. ⊎_elim
      (λ inside. ⊎_elim
      (λ other. sound.signs first second inside other clash)
      (λ same. let P : AclEntry → Type 0 = λ x. Clash first x in none (listed_clash before last first inside (subst P (sym same) clash)))
      (Contains-push_cases before last second two))
      (λ same. ⊎_elim
      (λ other. let P : AclEntry → Type 0 = λ x. Clash x second in none (other.0, second, other.1, other.2, subst P (sym same) clash))
      (λ both. clash.signs (ap (λ (e : AclEntry). e.negated) (sym same ∙ both)))
      (Contains-push_cases before last second two))
      (Contains-push_cases before last first one);
}

pub IsSound-nil : IsSound []
IsSound-nil = record { masks = AllShort-nil; signs = λ first second one two clash. omega (arith, one.1) }
