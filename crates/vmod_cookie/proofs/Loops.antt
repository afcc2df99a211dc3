-- Steps of the loops over parts and cookies.
use Rattle.std.proofs.Common.{◌≡◌, ℕ, List, [], ◌∷◌, ◌++◌, Bool, true, false, cond, map, sym, ap, ◌∙◌, refl}
use Rattle.std.specs.Prelude.{fold}
use Rattle.std.specs.Prelude.{◌||◌}
use Rattle.std.specs.Str.{bytes_eq}
use Rattle.std.specs.Cmp.Lexicographic.{nat_list_eq_equiv}
use Rattle.std.proofs.lemmas.List.{map-append}
use Rattle.std.proofs.lemmas.List.Sums.{fold_push}
use Rattle.std.proofs.lemmas.List.Folds.{list_any-append}
use denote.Ref.{Bor}
use Rattle.units.specs.Blanks.{trimmed}
use Rattle.vmod_host.specs.Jar.{Cookies, with_part, is_among}

or_false : (b : Bool) → (b || false) ≡ b
or_false true = refl
or_false false = refl

pub part_more : (jar new : Cookies) (parts : List (Bor (List ℕ))) (part : Bor (List ℕ)) → jar ≡ fold with_part [] (map trimmed (map (λ p. p.now) parts)) → new ≡ with_part jar (trimmed part.now) → new ≡ fold with_part [] (map trimmed (map (λ p. p.now) (parts ++ part ∷ [])))
part_more jar new parts part e k =
    k ∙ (ap (λ j. with_part j (trimmed part.now)) e
    ∙ (sym (fold_push with_part [] (map trimmed (map (λ p. p.now) parts)) (trimmed part.now))
    ∙ ap (fold with_part []) (sym (map-append trimmed (map (λ p. p.now) parts) (part.now ∷ [])) ∙ ap (map trimmed) (sym (map-append (λ p. p.now) parts (part ∷ []))))))

among_chosen : (v name : List ℕ) (b t : Bool) → bytes_eq v name ≡ t → cond t true b ≡ (b || bytes_eq name v)
among_chosen v name true true e = refl
among_chosen v name false true e = sym (nat_list_eq_equiv.symm name v ∙ e)
among_chosen v name true false e = refl
among_chosen v name false false e = sym (nat_list_eq_equiv.symm name v ∙ e)

-- the names of a list
among_more : (parts : List (Bor (List ℕ))) (part : Bor (List ℕ)) (name : List ℕ) → is_among (map trimmed (map (λ p. p.now) (parts ++ part ∷ []))) name ≡ (is_among (map trimmed (map (λ p. p.now) parts)) name || bytes_eq name (trimmed part.now))
among_more parts part name =
    ap (λ ps. is_among ps name) (ap (map trimmed) (map-append (λ p. p.now) parts (part ∷ [])) ∙ map-append trimmed (map (λ p. p.now) parts) (part.now ∷ []))
    ∙ (list_any-append (bytes_eq name) (map trimmed (map (λ p. p.now) parts)) (trimmed part.now ∷ [])
    ∙ ap (λ b. is_among (map trimmed (map (λ p. p.now) parts)) name || b) (or_false (bytes_eq name (trimmed part.now))))

pub among_step : (parts : List (Bor (List ℕ))) (part : Bor (List ℕ)) (v : List ℕ) (old new : List ℕ → Bool)
    → ((name : List ℕ) → old name ≡ is_among (map trimmed (map (λ p. p.now) parts)) name) → v ≡ trimmed part.now → ((name : List ℕ) → new name ≡ cond (bytes_eq v name) true (old name))
    → (name : List ℕ) → new name ≡ is_among (map trimmed (map (λ p. p.now) (parts ++ part ∷ []))) name
among_step parts part v old new h e k name =
    k name
    ∙ (among_chosen v name (old name) (bytes_eq v name) refl
    ∙ (ap (λ b. b || bytes_eq name v) (h name)
    ∙ (ap (λ w. is_among (map trimmed (map (λ p. p.now) parts)) name || bytes_eq name w) e ∙ sym (among_more parts part name))))
