-- Strings that must be patterns, tried one after another.
use Rattle.std.proofs.Common.{◌≡◌, inl, inr, ℕ, List, [], ◌∷◌, ◌++◌, length, length-append, Option, None, refl, sym, ap, ◌∙◌, subst, append-nil, arith}
use Rattle.std.specs.List.{cons_option}
use Rattle.std.specs.Prelude.{Contains}
use Rattle.std.proofs.lemmas.List.Elements.{Contains-append_left, Contains-push, Contains-push_cases, filter_map-append}
use Rattle.vcl_check.specs.declared.mentions.MentionKind.{MentionKind}
use Rattle.vcl_check.specs.declared.mentions.MentionKind.TheVariants as kind
use Rattle.vcl_check.specs.Mentions.{Said}
use Rattle.vcl_check.specs.Texts.{AreRefused, MustRefuse, MayRefuse, AreTried, pattern_of, pattern_if, pattern_texts}

pub refused-none : AreRefused [] []
refused-none = record { each = λ s h k m. absurd (omega (arith, h.1)); only = λ p h. absurd (omega (arith, h.1)) }

-- one that is refused
pub refused-push : (xs : List Said) (ps : List ℕ) (s : Said) → AreRefused xs ps → s.kind ≡ kind.Pattern → MayRefuse s.name → AreRefused (xs ++ s ∷ []) (ps ++ s.place ∷ [])
refused-push xs ps s r k may = record {
  each = λ t h tk must.
      let P : Said → Type 0 = λ u. Contains (ps ++ s.place ∷ []) u.place in
      elim (Contains-push_cases xs s t h) [ inl h ↦ Contains-append_left ps (s.place ∷ []) t.place (r.each t h tk must) | inr e ↦ subst P e (Contains-push ps s.place) ];
  only = λ p h.
      elim (Contains-push_cases ps s.place p h) [
        | inl h ↦ (let x = r.only p h in (x.0, Contains-append_left xs (s ∷ []) x.0 x.1, x.2, x.3, x.4))
        | inr e ↦ (s, Contains-push xs s, k, e, may)
      ];
}

-- one that isn't tried, or isn't refused
pub refused-skip : (xs : List Said) (ps : List ℕ) (s : Said) → AreRefused xs ps → (s.kind ≡ kind.Pattern → MustRefuse s.name → ⊥) → AreRefused (xs ++ s ∷ []) ps
refused-skip xs ps s r none = record {
  each = λ t h tk must.
      let K : Said → Type 0 = λ u. u.kind ≡ kind.Pattern in
      let M : Said → Type 0 = λ u. MustRefuse u.name in
      elim (Contains-push_cases xs s t h) [ inl h ↦ r.each t h tk must | inr e ↦ absurd (none (subst K (sym e) tk) (subst M (sym e) must)) ];
  only = λ p h. let x = r.only p h in (x.0, Contains-append_left xs (s ∷ []) x.0 x.1, x.2, x.3, x.4);
}

push-not_nil : (ps : List ℕ) (p : ℕ) → ps ++ p ∷ [] ≡ [] → ⊥
push-not_nil ps p e = omega (arith, length-append ps (p ∷ []), ap length e)

other-kind : (k : MentionKind) (text : List ℕ) → (k ≡ kind.Pattern → ⊥) → pattern_if k text ≡ None
other-kind kind.Import text h = refl
other-kind kind.Backend text h = refl
other-kind kind.Probe text h = refl
other-kind kind.Acl text h = refl
other-kind kind.Subroutine text h = refl
other-kind kind.Object text h = refl
other-kind kind.NoObject text h = refl
other-kind kind.Call text h = refl
other-kind kind.Pattern text h = absurd (h refl)

texts-push : (xs : List Said) (s : Said) → s.kind ≡ kind.Pattern → pattern_texts (xs ++ s ∷ []) ≡ pattern_texts xs ++ s.name ∷ []
texts-push xs s e = filter_map-append pattern_of xs (s ∷ []) ∙ ap (λ (k : MentionKind). pattern_texts xs ++ cons_option (pattern_if k s.name) []) e

texts-skip : (xs : List Said) (s : Said) → (s.kind ≡ kind.Pattern → ⊥) → pattern_texts (xs ++ s ∷ []) ≡ pattern_texts xs
texts-skip xs s h =
    filter_map-append pattern_of xs (s ∷ []) ∙ ap (λ (o : Option (List ℕ)). pattern_texts xs ++ cons_option o []) (other-kind s.kind s.name h) ∙ append-nil (pattern_texts xs)

pub tried-none : AreTried [] [] []
tried-none = record { refused = refused-none; built = λ e. refl }

-- one that is refused
pub tried-refused : (xs : List Said) (ps : List ℕ) (bs : List (List ℕ)) (s : Said) → AreTried xs ps bs → s.kind ≡ kind.Pattern → MayRefuse s.name
    → AreTried (xs ++ s ∷ []) (ps ++ s.place ∷ []) bs
tried-refused xs ps bs s r k may = record { refused = refused-push xs ps s r.refused k may; built = λ e. absurd (push-not_nil ps s.place e) }

-- one that is a pattern
pub tried-built : (xs : List Said) (ps : List ℕ) (bs : List (List ℕ)) (s : Said) → AreTried xs ps bs → s.kind ≡ kind.Pattern → (MustRefuse s.name → ⊥)
    → AreTried (xs ++ s ∷ []) ps (bs ++ s.name ∷ [])
tried-built xs ps bs s r k may = record {
  refused = refused-skip xs ps s r.refused (λ e. may);
  built = λ e. ap (λ (ts : List (List ℕ)). ts ++ s.name ∷ []) (r.built e) ∙ sym (texts-push xs s k);
}

-- what isn't tried
pub tried-skip : (xs : List Said) (ps : List ℕ) (bs : List (List ℕ)) (s : Said) → AreTried xs ps bs → (s.kind ≡ kind.Pattern → ⊥) → AreTried (xs ++ s ∷ []) ps bs
tried-skip xs ps bs s r k = record {
  refused = refused-skip xs ps s r.refused (λ e. absurd (k e));
  built = λ e. r.built e ∙ sym (texts-skip xs s k);
}

-- the same by what a step did
pub found-pattern : (s : Said) (ps : List ℕ) (bs new : List (List ℕ)) (p : List ℕ) → s.kind ≡ kind.Pattern → p ≡ s.name → (MustRefuse s.name → ⊥) → new ≡ bs ++ p ∷ []
    → (before : List Said) → AreTried before ps bs → AreTried (before ++ s ∷ []) ps new
found-pattern s ps bs new p k e may en before h =
    let B : List (List ℕ) → Type 0 = λ b. AreTried (before ++ s ∷ []) ps b in
    let same : new ≡ bs ++ s.name ∷ [] = en ∙ ap (λ (t : List ℕ). bs ++ t ∷ []) e in
    subst B (sym same) (tried-built before ps bs s h k may)

pub found-refused : (s : Said) (ps new : List ℕ) (bs : List (List ℕ)) → s.kind ≡ kind.Pattern → MayRefuse s.name → new ≡ ps ++ s.place ∷ []
    → (before : List Said) → AreTried before ps bs → AreTried (before ++ s ∷ []) new bs
found-refused s ps new bs k may en before h =
    let B : List ℕ → Type 0 = λ b. AreTried (before ++ s ∷ []) b bs in
    subst B (sym en) (tried-refused before ps bs s h k may)

pub found-other : (s : Said) (ps : List ℕ) (bs : List (List ℕ)) → (s.kind ≡ kind.Pattern → ⊥) → (before : List Said) → AreTried before ps bs → AreTried (before ++ s ∷ []) ps bs
found-other s ps bs k before h = tried-skip before ps bs s h k
