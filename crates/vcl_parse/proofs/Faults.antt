-- Tokens have one fault at most.
use Rattle.std.proofs.Common.{◌≡◌, ℕ, ◌<◌, List, [], ◌∷◌, ◌++◌, refl, sym, ap, subst, ◌∙◌, append_assoc}
use Rattle.vcl_tree.specs.Nesting.{deepest}
use Rattle.vcl_tree.specs.declared.token.Token.{Token}
use Rattle.vcl_tree.specs.declared.error.Refusal.{Refusal}
use Rattle.vcl_tree.specs.declared.error.Refusal.TheVariants as refusal
use Rattle.vcl_tree.specs.Grammar.{IsFile}
use Rattle.vcl_parse.specs.Parsing.{IsWrong, Good, Bad, head_of, HasVersion, Continues, EndsHere, IsSyntaxFault, IsNestingFault, first_place}
use Rattle.vcl_parse.proofs.Trees.{too_deep}

-- two ways to cut the same tokens: at one place, or one of them further on
data Cuts : List Token → List Token → List Token → List Token → Type 0 where
  alike : {front behind other after : List Token} → front ≡ other → behind ≡ after → Cuts front behind other after
  before : {front behind other after : List Token} (x : Token) (r : List Token) → other ≡ front ++ x ∷ r → behind ≡ x ∷ (r ++ after) → Cuts front behind other after
  further : {front behind other after : List Token} (x : Token) (r : List Token) → front ≡ other ++ x ∷ r → after ≡ x ∷ (r ++ behind) → Cuts front behind other after

one_more : (x y : Token) (front behind other after : List Token) → x ≡ y → Cuts front behind other after → Cuts (x ∷ front) behind (y ∷ other) after
one_more x y front behind other after e (alike p q) = let same : x ∷ front ≡ y ∷ other = cc in alike same q
one_more x y front behind other after e (before z r p q) = let same : y ∷ other ≡ x ∷ (front ++ z ∷ r) = cc in before z r same q
one_more x y front behind other after e (further z r p q) = let same : x ∷ front ≡ y ∷ (other ++ z ∷ r) = cc in further z r same q

cuts : (front behind other after : List Token) → front ++ behind ≡ other ++ after → Cuts front behind other after
cuts [] behind [] after e = alike refl e
cuts [] behind (y ∷ other) after e = before y other refl e
cuts (x ∷ front) behind [] after e = further x front refl (sym e)
cuts (x ∷ front) behind (y ∷ other) after e =
    let first : x ≡ y = cc in
    let others : front ++ behind ≡ other ++ after = cc in
    one_more x y front behind other after first (cuts front behind other after others)

shorter : (front more : List Token) → Continues (front ++ more) → Continues front
shorter front more h = (h.0, h.1, more ++ h.2, subst (λ r. IsFile (h.0) (h.1) r) (append_assoc front more (h.2)) (h.3))

-- what ends here has no longer front that goes on
clash : (front behind longer r others : List Token) (x : Token) → longer ≡ front ++ x ∷ r → behind ≡ x ∷ others → EndsHere front behind → Continues longer → ⊥
clash front behind longer r others x e f h k =
    let ended : EndsHere front (x ∷ others) = subst (λ b. EndsHere front b) f h in
    let long : Continues (front ++ x ∷ [] ++ r) = subst (λ l. Continues l) (e ∙ sym (append_assoc front (x ∷ []) r)) k in
    ended (shorter (front ++ x ∷ []) r long)

two_syntax : (end : ℕ) (tokens : List Token) (place elsewhere : ℕ) (f : IsSyntaxFault end tokens place) (g : IsSyntaxFault end tokens elsewhere) → Cuts f.front f.behind g.front g.behind → place ≡ elsewhere
two_syntax end tokens place elsewhere f g (alike p q) = f.placed ∙ ap (first_place end) q ∙ sym g.placed
two_syntax end tokens place elsewhere f g (before x r p q) = absurd (clash f.front f.behind g.front r (r ++ g.behind) x p q f.ended g.continued)
two_syntax end tokens place elsewhere f g (further x r p q) = absurd (clash g.front g.behind f.front r (r ++ f.behind) x p q g.ended f.continued)

syntax_and_deep : (end : ℕ) (tokens : List Token) (place elsewhere : ℕ) (f : IsSyntaxFault end tokens place) (g : IsNestingFault tokens elsewhere) → Cuts f.front f.behind g.front (g.token ∷ g.behind) → ⊥
syntax_and_deep end tokens place elsewhere f g (alike p q) = clash f.front f.behind (g.front ++ g.token ∷ []) [] g.behind g.token (ap (λ l. l ++ g.token ∷ []) (sym p)) q f.ended g.continued
syntax_and_deep end tokens place elsewhere f g (before x r p q) =
    clash f.front f.behind (g.front ++ g.token ∷ []) (r ++ g.token ∷ []) (r ++ g.token ∷ g.behind) x (ap (λ l. l ++ g.token ∷ []) p ∙ append_assoc f.front (x ∷ r) (g.token ∷ [])) q f.ended g.continued
syntax_and_deep end tokens place elsewhere f g (further x r p q) =
    let same : g.token ≡ x = cc in
    too_deep g.front r f.front x p f.within (subst (λ y. 64 < deepest 0 (g.front ++ y ∷ [])) same g.deeper)

two_deep : (tokens : List Token) (place elsewhere : ℕ) (f : IsNestingFault tokens place) (g : IsNestingFault tokens elsewhere) → Cuts f.front (f.token ∷ f.behind) g.front (g.token ∷ g.behind) → place ≡ elsewhere
two_deep tokens place elsewhere f g (alike p q) = let same : f.token ≡ g.token = cc in f.placed ∙ ap (λ y. y.place) same ∙ sym g.placed
two_deep tokens place elsewhere f g (before x r p q) =
    let same : f.token ≡ x = cc in
    absurd (too_deep f.front r g.front x p g.within (subst (λ y. 64 < deepest 0 (f.front ++ y ∷ [])) same f.deeper))
two_deep tokens place elsewhere f g (further x r p q) =
    let same : g.token ≡ x = cc in
    absurd (too_deep g.front r f.front x p f.within (subst (λ y. 64 < deepest 0 (g.front ++ y ∷ [])) same g.deeper))

no_version : (end : ℕ) (tokens : List Token) (place : ℕ) → head_of end tokens ≡ Bad place → HasVersion end tokens → ⊥
no_version end tokens place h k = let other : Good (k.0) (k.1) ≡ Bad place = sym (k.2) ∙ h in cc

pub same_fault : (end : ℕ) (tokens : List Token) (why other : Refusal) (place elsewhere : ℕ) → IsWrong end tokens why place → IsWrong end tokens other elsewhere → (why ≡ other) × (place ≡ elsewhere)
same_fault end tokens refusal.Version refusal.Version place elsewhere h k = let same : Bad place ≡ Bad elsewhere = sym h ∙ k in let places : place ≡ elsewhere = cc in (refl, places)
same_fault end tokens refusal.Version refusal.Syntax place elsewhere h k = absurd (no_version end tokens place h (k.0))
same_fault end tokens refusal.Version refusal.TooDeep place elsewhere h k = absurd (no_version end tokens place h (k.0))
same_fault end tokens refusal.Syntax refusal.Version place elsewhere h k = absurd (no_version end tokens elsewhere k (h.0))
same_fault end tokens refusal.Syntax refusal.Syntax place elsewhere h k =
    let f = h.1 in
    let g = k.1 in
    (refl, two_syntax end tokens place elsewhere f g (cuts f.front f.behind g.front g.behind (sym f.parts ∙ g.parts)))
same_fault end tokens refusal.Syntax refusal.TooDeep place elsewhere h k =
    let f = h.1 in
    let g = k.1 in
    absurd (syntax_and_deep end tokens place elsewhere f g (cuts f.front f.behind g.front (g.token ∷ g.behind) (sym f.parts ∙ g.parts)))
same_fault end tokens refusal.TooDeep refusal.Version place elsewhere h k = absurd (no_version end tokens elsewhere k (h.0))
same_fault end tokens refusal.TooDeep refusal.Syntax place elsewhere h k =
    let f = k.1 in
    let g = h.1 in
    absurd (syntax_and_deep end tokens elsewhere place f g (cuts f.front f.behind g.front (g.token ∷ g.behind) (sym f.parts ∙ g.parts)))
same_fault end tokens refusal.TooDeep refusal.TooDeep place elsewhere h k =
    let f = h.1 in
    let g = k.1 in
    (refl, two_deep tokens place elsewhere f g (cuts f.front (f.token ∷ f.behind) g.front (g.token ∷ g.behind) (sym f.parts ∙ g.parts)))
same_fault end tokens refusal.Version _ place elsewhere h k = absurd k
same_fault end tokens refusal.Syntax _ place elsewhere h k = absurd k
same_fault end tokens refusal.TooDeep _ place elsewhere h k = absurd k
same_fault end tokens _ other place elsewhere h k = absurd h
