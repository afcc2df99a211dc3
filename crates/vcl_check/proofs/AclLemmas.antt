-- Networks of entries.
use Rattle.std.proofs.Common.{◌≡◌, ◌<◌, ◌≤◌, ℕ, zero, suc, ℤ, pos, negsuc, unsigned_abs, Bool, true, false, List, [], ◌∷◌, length, refl, sym, subst, Option, Some, None, slice_get, option_map, arith, if◌then◌else◌}
use Rattle.std.specs.Prelude.{IfSome}
use Rattle.std.proofs.lemmas.Bool.Decides.{nat_tests}
use Rattle.acl_match.specs.declared.entry.AclEntry.{AclEntry as Network}
use Rattle.std.proofs.lemmas.Option.{get_or_from_slice_get, slice_get_within}
use Rattle.acl_match.specs.Acl.{AllShort, IsFirstMask}
use Rattle.vcl_tree.specs.declared.error.Fault.{Fault}
use Rattle.vcl_tree.specs.declared.error.Refusal.{Refusal}
use Rattle.vcl_tree.specs.declared.item.AclEntry.{AclEntry}
use Rattle.vcl_tree.specs.declared.item.Mask.{Mask}
use Rattle.vcl_check.specs.Acls.{is_mask, mask_bits, network, network_of, in_front_of, networks, address_place}
use Rattle.vcl_check.specs.Least.{fault_at}

-- a mask has at most 32 bits
mask-short : (z : ℤ) → is_mask z ≡ true → unsigned_abs z ≤ 32
mask-short (pos n) e = grind (arith, nat_tests)
mask-short (negsuc n) e = absurd (cc)

bits-short : (z : ℤ) (b : Bool) (n : ℕ) → is_mask z ≡ b → (if b then Some (unsigned_abs z) else None) ≡ Some n → n ≤ 32
bits-short z true n fits e = let P : ℕ → Type 0 = λ m. m ≤ 32 in subst P (cc) (mask-short z fits)
bits-short z false n fits e = absurd (cc)

mask_bits-short : (mask : Option Mask) (n : ℕ) → mask_bits mask ≡ Some n → n ≤ 32
mask_bits-short None n e = let same : 32 ≡ n = cc in omega (arith, same)
mask_bits-short (Some m) n e = bits-short m.bits (is_mask m.bits) n refl e

same-some : (a b : Network) → Some a ≡ Some b → a ≡ b
same-some a b e = cc

network-short : (negated : Bool) (address : Option (List ℕ)) (bits : Option ℕ) (n : Network) → ((k : ℕ) → bits ≡ Some k → k ≤ 32) → network negated address bits ≡ Some n → n.mask ≤ 32
network-short negated (Some a) (Some k) n short e = let P : Network → Type 0 = λ m. m.mask ≤ 32 in subst P (same-some _ n e) (short k refl)
network-short negated None bits n short e = absurd (cc)
network-short negated (Some a) None n short e = absurd (cc)

front-short : (o : Option Network) (more : List Network) → ((n : Network) → o ≡ Some n → n.mask ≤ 32) → AllShort more → AllShort (in_front_of o more)
front-short None more short all n listed = absurd (omega (arith, listed.1))
front-short (Some m) more short all n (zero, low, at) = let P : Network → Type 0 = λ x. x.mask ≤ 32 in subst P at (short m refl)
front-short (Some m) more short all n (suc i, low, at) = all n (i, omega (arith, low), at)

pub networks-short : (entries : List AclEntry) → AllShort (networks entries)
networks-short [] = λ n listed. absurd (omega (arith, listed.1))
networks-short (e ∷ es) =
    front-short (network_of e) (networks es) (λ n made. network-short _ _ (mask_bits e.mask) n (mask_bits-short e.mask) made) (networks-short es)

pub all-short : (list : List Network) (place : ℕ) → AllShort list → IsFirstMask list place → ⊥
all-short list place short first =
    let e = first.here.0 in
    omega (arith, first.here.2, short e (place, slice_get_within list place e first.here.1, get_or_from_slice_get list place e e first.here.1))

front-fewer : (o : Option Network) (more : List Network) → length (in_front_of o more) ≤ suc (length more)
front-fewer None more = omega arith
front-fewer (Some n) more = omega arith

networks-fewer : (entries : List AclEntry) → length (networks entries) ≤ length entries
networks-fewer [] = omega arith
networks-fewer (e ∷ es) = omega (arith, networks-fewer es, front-fewer (network_of e) (networks es))

none-some : {A : Type 0} (x : A) → None ≡ Some x → ⊥
none-some x e = cc

found-within : {A : Type 0} (xs : List A) (k : ℕ) → k < length xs → (x : A) × (slice_get xs k ≡ Some x)
found-within [] k low = absurd (omega (arith, low))
found-within (x ∷ xs) zero low = (x, refl)
found-within (x ∷ xs) (suc k) low = found-within xs k (omega (arith, low))

-- no fault is told of networks only where none clashes
pub no-clash : (why : Refusal) (entries : List AclEntry) (clash : Option ℕ) → IfSome clash (λ k. k < length (networks entries))
    → fault_at why (address_place entries clash) ≡ None → clash ≡ None
no-clash why entries None within e = refl
no-clash why entries (Some k) within e =
    let there = found-within entries k (omega (arith, within, networks-fewer entries)) in
    let at : Fault = record { place = there.0.address_place; kind = why } in
    let P : Option AclEntry → Type 0 = λ o. fault_at why (option_map (λ x. x.address_place) o) ≡ None in
    absurd (none-some at (sym (subst P there.1 e)))
