-- The tags that were met so far, as a set.
use Rattle.std.proofs.Common.{Less, Greater, ◌≡◌, ◌≢◌, ℕ, ◌+◌, ◌<◌, ◌≤◌, true, false, List, [], length, map, get_or, nat_eq, sym, ◌∙◌, ap, subst, inl, inr, arith}
use Rattle.std.proofs.lemmas.Bool.{cases_Bool, cases_lt, cases_order, cond-true, cond-false, false≢true, true≢false, eq-eqb}
use Rattle.std.proofs.lemmas.Map.Keys.{apart_from_distinct}
use Rattle.std.proofs.lemmas.Map.Made.{IsDistinct-from_AllPairs}
use Rattle.std.proofs.lemmas.List.{get_or_default, get_or-map, length-map}
use Rattle.std.specs.Cmp.{unsigned_Decides, nat_cmp_is}
use Rattle.std.specs.List.{IsDistinct, list_any}
use Rattle.std.specs.BTreeMap.{is_at}
use Rattle.std.specs.BTreeSet.{BTreeSet, contains, Updates}
use Rattle.std.specs.Ordering.{nat_cmp, is_eq}
use Rattle.vmod_host.specs.declared.signature.Stored.{Stored}

-- the first of the tags are those of the set, and no two of them are equal
pub record Met (tags : List ℕ) (count : ℕ) (met : BTreeSet ℕ) : Type 0 where
  pub each : (k : ℕ) → k < count → contains nat_cmp met (get_or tags k 0) ≡ true
  pub only : (tag : ℕ) → contains nat_cmp met tag ≡ true → (k : ℕ) × (k < count) × (get_or tags k 0 ≡ tag)
  pub apart : (j k : ℕ) → j < k → k < count → get_or tags j 0 ≢ get_or tags k 0

pub Met-none : (tags : List ℕ) (met : BTreeSet ℕ) → met.keys ≡ [] → Met tags 0 met
Met-none tags met empty = record {
  each = λ k h. absurd (omega arith);
  only = λ tag h. absurd (true≢false (sym h ∙ ap (list_any (is_at (nat_cmp tag))) empty));
  apart = λ j k h below. absurd (omega arith);
}

same_tag : (tag other : ℕ) → is_eq (nat_cmp tag other) ≡ true → tag ≡ other
same_tag tag other h = elim (cases_order tag other) [
  | inl e ↦ e
  | inr apart ↦ elim apart [
    | inl below ↦ absurd (true≢false (sym h ∙ ap is_eq (sym (nat_cmp_is tag other Less below))))
    | inr above ↦ absurd (true≢false (sym h ∙ ap is_eq (sym (nat_cmp_is tag other Greater above))))
  ]
]

pub Met-more : (tags : List ℕ) (i : ℕ) (met met' : BTreeSet ℕ) → Met tags i met → contains nat_cmp met (get_or tags i 0) ≡ false → Updates nat_cmp met met' (get_or tags i 0) true → Met tags (i + 1) met'
Met-more tags i met met' so_far lacks updates =
    let has_old : (tag : ℕ) → contains nat_cmp met tag ≡ true → contains nat_cmp met' tag ≡ true = λ tag h. elim (cases_Bool (is_eq (nat_cmp (get_or tags i 0) tag))) [
      | inl e ↦ updates.0 tag ∙ cond-true _ _ _ e
      | inr e ↦ updates.0 tag ∙ cond-false _ _ _ e ∙ h
    ] in
    record {
      each = λ k h. elim (cases_lt k i) [
        | inl below ↦ has_old _ (so_far.each k below)
        | inr past ↦ let same : i ≡ k = omega arith in let at : ℕ → Type 0 = λ n. contains nat_cmp met' (get_or tags n 0) ≡ true in subst at same updates.1
      ];
      only = λ tag h. elim (cases_Bool (is_eq (nat_cmp (get_or tags i 0) tag))) [
        | inl e ↦ (i, omega arith, same_tag _ _ e)
        | inr e ↦ let found = so_far.only tag (sym (updates.0 tag ∙ cond-false _ _ _ e) ∙ h) in (found.0, omega (arith, found.1), found.2)
      ];
      apart = λ j k h below same. elim (cases_lt k i) [
        | inl before ↦ so_far.apart j k h before same
        | inr past ↦ let here : k ≡ i = omega arith in
            let at : ℕ → Type 0 = λ n. get_or tags j 0 ≡ get_or tags n 0 in
            let met_it : contains nat_cmp met (get_or tags i 0) ≡ true = (let P : ℕ → Type 0 = λ t. contains nat_cmp met t ≡ true in subst P (subst at here same) (so_far.each j (omega arith))) in
            absurd (true≢false (sym met_it ∙ lacks))
      ];
    }

pub IsDistinct-met : (tags : List ℕ) (met : BTreeSet ℕ) → Met tags (length tags) met → IsDistinct nat_eq tags
IsDistinct-met tags met so_far = IsDistinct-from_AllPairs unsigned_Decides tags (λ i j d h below same. so_far.apart i j h below (get_or_default tags i 0 d (omega arith) ∙ same ∙ get_or_default tags j d 0 below))

pub twice-met : (tags : List ℕ) (i : ℕ) (met : BTreeSet ℕ) → i < length tags → Met tags i met → contains nat_cmp met (get_or tags i 0) ≡ true → IsDistinct nat_eq tags → ⊥
twice-met tags i met within so_far has distinct =
    let first = so_far.only (get_or tags i 0) has in
    false≢true (sym (apart_from_distinct nat_eq tags first.0 i 0 distinct first.1 within) ∙ eq-eqb _ _ first.2)

pub tag-at : (entries : List Stored) (i : ℕ) (item : Stored) → i < length entries → item ≡ get_or entries i item → get_or (map (λ entry. entry.tag) entries) i 0 ≡ item.tag
tag-at entries i item within is = get_or-map (λ entry. entry.tag) entries i item 0 within ∙ ap (λ entry. entry.tag) (sym is)

pub tags-within : (entries : List Stored) (i : ℕ) → i < length entries → i < length (map (λ entry. entry.tag) entries)
tags-within entries i within = rw length-map within

pub tags-whole : (entries : List Stored) (i : ℕ) → i ≤ length entries → length entries ≤ i → i ≡ length (map (λ entry. entry.tag) entries)
tags-whole entries i within past = rw length-map (omega arith)
