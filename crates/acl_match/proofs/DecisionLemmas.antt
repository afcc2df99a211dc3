-- What decides when one more entry comes, and at the end of the list.
use Rattle.std.proofs.Common.{◌≡◌, ◌≢◌, ◌↔◌, ℕ, ◌≤◌, List, [], ◌∷◌, ◌++◌, not, IsTrue, sym, ◌∙◌, ap, subst, ⊎_elim, arith}
use Rattle.std.specs.List.{Contains}
use Rattle.std.proofs.lemmas.Bool.{cases_Bool, not-true}
use Rattle.std.proofs.lemmas.List.Elements.{Contains-push, Contains-push_cases, Contains-append_left}
use Rattle.acl_match.specs.declared.entry.AclEntry.{AclEntry}
use Rattle.acl_match.specs.Acl.{Holds, Decides, Matches, IsSound, network_number}

-- an entry that decided still does, where the last one has no longer mask or doesn't hold the address
pub Decides-push_kept : (before : List AclEntry) (address : List ℕ) (entry last : AclEntry) → Decides before address entry → (Holds last address → last.mask ≤ entry.mask) → Decides (before ++ last ∷ []) address entry
Decides-push_kept before address entry last decided short = record {
  listed = Contains-append_left before (last ∷ []) entry decided.listed;
  holds = decided.holds;
  longest = λ other listed holds. ⊎_elim (λ inside. decided.longest other inside holds) (λ same. let P : AclEntry → Type 0 = λ x. Holds x address → x.mask ≤ entry.mask in subst P same short holds) (Contains-push_cases before last other listed);
}

-- the last entry decides, where it holds the address and none before has a longer mask
pub Decides-push_last : (before : List AclEntry) (address : List ℕ) (last : AclEntry) → Holds last address → ((other : AclEntry) → Contains before other → Holds other address → other.mask ≤ last.mask) → Decides (before ++ last ∷ []) address last
Decides-push_last before address last here shorter = record {
  listed = Contains-push before last;
  holds = here;
  longest = λ other listed holds. ⊎_elim (λ inside. shorter other inside holds) (λ same. let P : AclEntry → Type 0 = λ x. x.mask ≤ last.mask in subst P same (omega arith)) (Contains-push_cases before last other listed);
}

-- two entries that decide for one address have one sign, where no two entries clash
pub Decides-one_sign : (entries : List AclEntry) (address : List ℕ) (one other : AclEntry) → IsSound entries → Decides entries address one → Decides entries address other → one.negated ≢ other.negated → ⊥
Decides-one_sign entries address one other sound first second signs =
    let masks : one.mask ≡ other.mask = omega (arith, second.longest one first.listed first.holds, first.longest other second.listed second.holds) in
    sound.signs one other first.listed second.listed (record { mask = masks; network = sym first.holds ∙ ap (network_number address) masks ∙ second.holds; signs = signs })

-- an entry that isn't negated decides exactly where the list takes the address
pub Matches-Some : (entries : List AclEntry) (address : List ℕ) (entry : AclEntry) → IsSound entries → Decides entries address entry → IsTrue (not entry.negated) ↔ Matches entries address
Matches-Some entries address entry sound decides = (
  λ taken. (entry, decides, not-true entry.negated taken),
  λ (other, first, sign). ⊎_elim (λ negated. absurd (Decides-one_sign entries address other entry sound first decides (λ same. cc))) (λ plain. ap not plain) (cases_Bool entry.negated),
)
