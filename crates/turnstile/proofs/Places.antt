-- The places of a caller's entries in a history that grows.
use Rattle.std.proofs.Common.{◌≡◌, ℕ, ◌+◌, ◌==◌, Bool, true, false, List, [], ◌∷◌, ◌++◌, length, if◌then◌else◌, refl, sym, ap, ◌∙◌, subst, arith, append-nil, append_assoc, inl, inr, eq-eqb, ne_eqb}
use Rattle.std.specs.List.{All}
use Rattle.std.proofs.lemmas.List.{length-append}
use Rattle.std.proofs.lemmas.List.Elements.{All-head, All-tail, All-weaker, All-append}
use Rattle.turnstile.specs.Knowledge.{Owns, Silent, Grown, Meets, Leaves, GainsPlaces, saw, mine, places, places_from}
use Rattle.turnstile.specs.declared.knowledge.Known.{Known}

module _ {E : Type 0} (caller : E → ℕ) where
  chosen : (b : Bool) (at : ℕ) (p q r : List ℕ) → p ≡ q ++ r → (if b then at ∷ p else p) ≡ (if b then at ∷ q else q) ++ r
  chosen true at p q r e = ap (λ (l : List ℕ). at ∷ l) e
  chosen false at p q r e = e

  pub places_from-append : (n at : ℕ) (xs ys : List E) → places_from caller n at (xs ++ ys) ≡ places_from caller n at xs ++ places_from caller n (at + length xs) ys
  places_from-append n at [] ys = let z : at ≡ at + 0 = omega arith in ap (λ (k : ℕ). places_from caller n k ys) z
  places_from-append n at (x ∷ xs) ys =
      let ih = places_from-append n (at + 1) xs ys in
      let z : at + 1 + length xs ≡ at + length (x ∷ xs) = omega arith in
      let r : places_from caller n (at + 1) (xs ++ ys) ≡ places_from caller n (at + 1) xs ++ places_from caller n (at + length (x ∷ xs)) ys =
      ih ∙ ap (λ (k : ℕ). places_from caller n (at + 1) xs ++ places_from caller n k ys) z in
      chosen (caller x == n) at _ _ _ r

  -- none of the entries is by this caller
  abbrev pub Lacks : ℕ → List E → Type 0
  Lacks n es = All (λ e. ¬ (caller e ≡ n)) es

  pub places_from-lacking : (n at : ℕ) (es : List E) → Lacks n es → places_from caller n at es ≡ []
  places_from-lacking n at [] l = refl
  places_from-lacking n at (e ∷ es) l =
      let no_place = ne_eqb (caller e) n (All-head (λ e. ¬ (caller e ≡ n)) e es l) in
      let rest = places_from-lacking n (at + 1) es (All-tail (λ e. ¬ (caller e ≡ n)) e es l) in
      subst (λ (b : Bool). (if b then at ∷ places_from caller n (at + 1) es else places_from caller n (at + 1) es) ≡ []) (sym no_place) rest

  pub places-lacking : (n : ℕ) (xs ys : List E) → Lacks n ys → places caller n (xs ++ ys) ≡ places caller n xs
  places-lacking n xs ys l =
      places_from-append n 0 xs ys ∙ (ap (λ (ps : List ℕ). places caller n xs ++ ps) (places_from-lacking n (0 + length xs) ys l) ∙ append-nil (places caller n xs))

  pub places-one_more : (n : ℕ) (xs : List E) (e : E) → caller e ≡ n → places caller n (xs ++ e ∷ []) ≡ places caller n xs ++ length xs ∷ []
  places-one_more n xs e is =
      let z : 0 + length xs ≡ length xs = omega arith in
      places_from-append n 0 xs (e ∷ [])
      ∙ ap (λ (ps : List ℕ). places caller n xs ++ ps)
      (subst (λ (b : Bool). (if b then (0 + length xs) ∷ [] else []) ≡ length xs ∷ []) (sym (eq-eqb (caller e) n is)) (ap (λ (k : ℕ). k ∷ []) z))

one_last : {A : Type 0} (xs : List A) (a b : A) → xs ++ a ∷ [] ≡ xs ++ b ∷ [] → a ≡ b
one_last [] a b e = cc
one_last {A = A} (x ∷ xs) a b e = let rest : xs ++ a ∷ [] ≡ xs ++ b ∷ [] = cc in one_last xs a b rest

module _ {E G : Type 0} (caller : E → ℕ) where
  pub silent_lacks : (k : Known E G) (n : ℕ) (es : List E) → Owns k n → Silent caller k es → Lacks caller n es
  silent_lacks k n es own silent = All-weaker (λ e. ¬ (Owns k (caller e))) (λ e. ¬ (caller e ≡ n)) (λ e not is. not (subst (λ (m : ℕ). Owns k m) (sym is) own)) es silent

  pub mine-grown : (k : Known E G) (history : List E) → Grown caller k history → places caller k.number history ≡ mine caller k
  mine-grown k history g = ap (places caller k.number) g.1 ∙ places-lacking caller k.number k.seen g.0 (silent_lacks k k.number g.0 (inl refl) g.2)

  pub grown-again : (k : Known E G) (h h' : List E) → Grown caller k h → Grown caller (saw k h) h' → Grown caller k h'
  grown-again k h h' g g' =
      (g.0 ++ g'.0, g'.1 ∙ (ap (λ (xs : List E). xs ++ g'.0) g.1 ∙ append_assoc k.seen g.0 g'.0), All-append (λ e. ¬ (Owns k (caller e))) g.0 g'.0 g.2 g'.2)

  pub meets-again : (k : Known E G) (h h' : List E) → Grown caller k h → Meets caller (saw k h) h' → Meets caller k h'
  meets-again k h h' g m =
      let g' = grown-again k h h' g m.grown in record { grown = g'; mine = mine-grown k h' g'; ended = m.ended; whole = m.whole }

  -- an entry more is the pass's own
  own_entry : (k : Known E G) (history : List E) (e : E) → Leaves caller k history → history ≡ k.seen ++ e ∷ [] → caller e ≡ k.number
  own_entry k history e (inl same) is = let n = ap length (sym same ∙ is) in let m = length-append k.seen (e ∷ []) in absurd (omega arith)
  own_entry k history e (inr more) is = ap caller (one_last k.seen e more.0 (sym is ∙ more.1)) ∙ more.2

  pub gains : (k k' : Known E G) (history : List E) → k' ≡ saw k history → Leaves caller k history → GainsPlaces caller k k'
  gains k k' history e does = subst (λ (z : Known E G). GainsPlaces caller k z) (sym e)
      (record {
        same = λ is. ap (places caller k.number) is;
        one_more = λ x is. ap (places caller k.number) is ∙ places-one_more caller k.number k.seen x (own_entry k history x does is);
      })

  -- over several turns, in each of which nothing was done
  pub meets_later : (k k' : Known E G) (h : List E) → k' ≡ saw k k'.seen → Grown caller k k'.seen → Meets caller k' h → Meets caller k h
  meets_later k k' h e g m = meets-again k k'.seen h g (subst (λ (z : Known E G). Meets caller z h) e m)

  pub known_later : (k k' held k'' : Known E G) (h : List E) → k' ≡ saw k k'.seen → held ≡ saw k' h → k'' ≡ saw held h → k'' ≡ saw k k''.seen
  known_later k k' held k'' h c b a =
      let e : k'' ≡ saw k h = a ∙ (ap (λ (z : Known E G). saw z h) b ∙ ap (λ (z : Known E G). saw z h) c) in
      e ∙ ap (λ (l : List E). saw k l) (sym (ap (λ (z : Known E G). z.seen) e))

  pub grown_later : (k k' held k'' : Known E G) (h : List E) → k' ≡ saw k k'.seen → Grown caller k k'.seen → Meets caller k' h → k'' ≡ saw held h → Grown caller k k''.seen
  grown_later k k' held k'' h c g m a = subst (λ (l : List E). Grown caller k l) (sym (ap (λ (z : Known E G). z.seen) a)) (meets_later k k' h c g m).grown
