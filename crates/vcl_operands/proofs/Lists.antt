-- The test whether a list takes an address says what the list's meaning says.
use Rattle.std.proofs.Common.{◌≡◌, ◌↔◌, ℕ, ◌≤◌, ◌<◌, Bool, true, false, not, ◌&&◌, length, List, refl, sym, subst, arith, slice_index_or}
use Rattle.std.specs.Bool.{Decides}
use Rattle.std.specs.List.{Contains, list_all}
use Rattle.std.proofs.lemmas.Bool.{eqb-true, eq-eqb}
use Rattle.std.proofs.lemmas.Bool.Decides.{same_from_decides, nat_tests}
use Rattle.std.proofs.lemmas.List.Folds.{Any-from_list_any, list_any-from_Any}
use Rattle.std.proofs.lemmas.List.Sums.{AllPass-from_list_all, list_all-from_AllPass}
use Rattle.std.proofs.lemmas.List.{get_or_default}
use Rattle.acl_match.specs.declared.entry.AclEntry.{AclEntry}
use Rattle.acl_match.specs.Acl.{network_number, Holds, Decides as IsDecider, Matches}
use Rattle.vcl_operands.specs.Lists.{holds, gives_way, lets_in, takes}

and-parts : (a b : Bool) → (a && b) ≡ true → (a ≡ true) × (b ≡ true)
and-parts true true h = (refl, refl)
and-parts true false h = absurd (let q : ⊥ = cc in q)
and-parts false true h = absurd (let q : ⊥ = cc in q)
and-parts false false h = absurd (let q : ⊥ = cc in q)

and-made : (a b : Bool) → a ≡ true → b ≡ true → (a && b) ≡ true
and-made a b p q = rw (p, q) refl

not-made : (b : Bool) → b ≡ false → not b ≡ true
not-made b p = rw p refl

not-part : (b : Bool) → not b ≡ true → b ≡ false
not-part true h = sym h
not-part false h = refl

holds-true : (address : List ℕ) (entry : AclEntry) → holds address entry ≡ true → Holds entry address
holds-true address entry h = eqb-true (network_number address entry.mask) (network_number entry.address entry.mask) h

true-holds : (address : List ℕ) (entry : AclEntry) → Holds entry address → holds address entry ≡ true
true-holds address entry h = eq-eqb (network_number address entry.mask) (network_number entry.address entry.mask) h

way-le : (address : List ℕ) (entry other : AclEntry) → gives_way address entry other ≡ true → Holds other address → other.mask ≤ entry.mask
way-le address entry other h k = let e : holds address other ≡ true = true-holds address other k in grind (arith, nat_tests)

way-made : (address : List ℕ) (entry other : AclEntry) (b : Bool) → holds address other ≡ b → (Holds other address → other.mask ≤ entry.mask) → gives_way address entry other ≡ true
way-made address entry other true e h = let k : other.mask ≤ entry.mask = h (holds-true address other e) in grind (arith, nat_tests)
way-made address entry other false e h = grind (arith, nat_tests)

decider-of : (entries : List AclEntry) (address : List ℕ) (entry : AclEntry) → Contains entries entry → lets_in entries address entry ≡ true
    → IsDecider entries address entry × (entry.negated ≡ false)
decider-of entries address entry listed h =
    let p = and-parts (holds address entry && list_all (gives_way address entry) entries) (not entry.negated) h in
    let q = and-parts (holds address entry) (list_all (gives_way address entry) entries) p.0 in (
      record {
        listed = listed;
        holds = holds-true address entry q.0;
        longest = λ other there. way-le address entry other (subst (λ (x : AclEntry). gives_way address entry x ≡ true) there.2 (AllPass-from_list_all (gives_way address entry) entries q.1 there.0 other there.1));
      },
      not-part entry.negated p.1,
    )

default-same : (entries : List AclEntry) (k : ℕ) (d e : AclEntry) → k < length entries → slice_index_or entries k d ≡ slice_index_or entries k e
default-same entries k d e h = get_or_default entries k d e h

lets-made : (entries : List AclEntry) (address : List ℕ) (entry : AclEntry) → IsDecider entries address entry → entry.negated ≡ false → lets_in entries address entry ≡ true
lets-made entries address entry d sign =
    and-made (holds address entry && list_all (gives_way address entry) entries) (not entry.negated)
    (and-made (holds address entry) (list_all (gives_way address entry) entries) (true-holds address entry d.holds)
    (list_all-from_AllPass (gives_way address entry) entries (λ k x low.
    way-made address entry (slice_index_or entries k x) (holds address (slice_index_or entries k x)) refl
    (d.longest (slice_index_or entries k x) (k, low, default-same entries k (slice_index_or entries k x) x low)))))
    (not-made entry.negated sign)

takes-tells : (entries : List AclEntry) (address : List ℕ) → Decides (takes entries address) (Matches entries address)
takes-tells entries address = (
  λ h. let found = Any-from_list_any (lets_in entries address) entries h in
      let d = decider-of entries address found.1 (found.0, found.2, found.3) found.4 in (found.1, d.0, d.1),
  λ m. list_any-from_Any (lets_in entries address) entries (m.1.listed.0, m.0, m.1.listed.1, m.1.listed.2, lets-made entries address m.0 m.1 m.2),
)

pub takes-is : (entries : List AclEntry) (address : List ℕ) (b : Bool) → (b ≡ true) ↔ Matches entries address → b ≡ takes entries address
takes-is entries address b h = same_from_decides b (takes entries address) (h.0, h.1) (takes-tells entries address)
