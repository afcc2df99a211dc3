-- What a map from networks to signs keeps when one more entry's sign is put into it.
use Rattle.std.proofs.Common.{◌≡◌, ℕ, List, [], ◌∷◌, ◌++◌, Bool, true, false, cond, Some, None, sym, ◌∙◌, ap, subst, ◌⊎◌, ⊎_elim, inl, inr, arith}
use Rattle.std.specs.List.{Any}
use Rattle.std.specs.Bool.{beq}
use Rattle.std.specs.Map.{lookup}
use Rattle.std.specs.Ordering.{nat_cmp, is_eq}
use Rattle.std.specs.Cmp.{Equal-is, booleans_Decides}
use Rattle.std.proofs.lemmas.Cmp.{nat_cmp_total, on_total, then_total, tied_itself}
use Rattle.std.proofs.lemmas.Bool.{cases_Bool}
use Rattle.std.specs.BTreeMap.{BTreeMap, get, Updates, IsEmpty}
use Rattle.std.proofs.lemmas.Map.Lookups.{exact_unsigned, exact_pairs}
use Rattle.std.proofs.lemmas.List.Elements.{Contains-push, Contains-push_cases, Contains-append_left}
use Rattle.acl_match.specs.declared.entry.AclEntry.{AclEntry}
use Rattle.acl_match.specs.declared.network.Network.{Network}
use Rattle.acl_match.specs.Acl.{Clash}
use Rattle.acl_match.specs.Signs.{Records, network, network_cmp}

pub network_cmp-exact : (a b : Network) → is_eq (network_cmp a b) ≡ true → a ≡ b
network_cmp-exact a b same =
    let network_of : ℕ × ℕ → Network = λ p. record { mask = p.0; number = p.1 } in
    ap network_of (exact_pairs nat_cmp nat_cmp exact_unsigned exact_unsigned (a.mask, a.number) (b.mask, b.number) ((Equal-is (network_cmp a b)).0 same))

pub network_cmp-itself : (a : Network) → is_eq (network_cmp a a) ≡ true
network_cmp-itself a = ap is_eq (tied_itself (then_total (on_total (λ (n : Network). n.mask) nat_cmp_total) (on_total (λ (n : Network). n.number) nat_cmp_total)) a)

pub Records-nil : (signs : BTreeMap Network Bool) → IsEmpty signs → Records [] signs
Records-nil signs empty = record {
  known = λ entry listed. absurd (omega (arith, listed.1));
  noted = λ key negated found. let nothing : get network_cmp signs key ≡ None = ap (λ es. lookup (λ k. is_eq (network_cmp key k)) es) empty in absurd (cc);
}

-- what the map has at a key when one more sign is in it
at_key : (last : AclEntry) (old new : BTreeMap Network Bool) → Updates network_cmp old new (network last) (Some last.negated)
    → (key : Network) → ((network last ≡ key) × (get network_cmp new key ≡ Some last.negated)) ⊎ (get network_cmp new key ≡ get network_cmp old key)
at_key last old new updates key =
    ⊎_elim
    (λ same. inl (network_cmp-exact (network last) key same, updates.0 key ∙ ap (λ b. cond b (Some last.negated) (get network_cmp old key)) same))
    (λ apart. inr (updates.2 key apart))
    (cases_Bool (is_eq (network_cmp (network last) key)))

-- one more sign, where the map had none at its network or the same
pub Records-push : (before : List AclEntry) (last : AclEntry) (old new : BTreeMap Network Bool) → Records before old → Updates network_cmp old new (network last) (Some last.negated)
    → ((negated : Bool) → get network_cmp old (network last) ≡ Some negated → negated ≡ last.negated) → Records (before ++ last ∷ []) new
Records-push before last old new records updates agree = record {
  known = λ entry listed. ⊎_elim
      (λ inside. ⊎_elim
      (λ (same, now). let was : get network_cmp old (network last) ≡ Some entry.negated = ap (get network_cmp old) same ∙ records.known entry inside in now ∙ ap Some (sym (agree entry.negated was)))
      (λ kept. kept ∙ records.known entry inside)
      (at_key last old new updates (network entry)))
      (λ same. let P : AclEntry → Type 0 = λ x. get network_cmp new (network x) ≡ Some x.negated in subst P same (updates.1))
      (Contains-push_cases before last entry listed);
  noted = λ key negated found. ⊎_elim
      (λ (same, now). (last, Contains-push before last, same, cc))
      (λ kept. let there = records.noted key negated (sym kept ∙ found) in (there.0, Contains-append_left before (last ∷ []) there.0 there.1, there.2, there.3))
      (at_key last old new updates key);
}

-- an entry whose network the map has with the other sign clashes with an entry before
pub Clash-recorded : (before : List AclEntry) (last : AclEntry) (signs : BTreeMap Network Bool) (negated : Bool) → Records before signs
    → get network_cmp signs (network last) ≡ Some negated → beq negated last.negated ≡ false → Any (Clash last) before
Clash-recorded before last signs negated records found differs =
    let there = records.noted (network last) negated found in (
      there.1.0,
      there.0,
      there.1.1,
      there.1.2,
      record {
        mask = ap (λ (n : Network). n.mask) (sym there.2);
        network = ap (λ (n : Network). n.number) (sym there.2);
        signs = λ same. let told : beq negated last.negated ≡ true = (booleans_Decides negated last.negated).1 (sym there.3 ∙ sym same) in cc;
      },
    )
