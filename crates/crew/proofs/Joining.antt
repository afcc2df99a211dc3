-- Passes that are joined one after another.
use Rattle.std.proofs.Common.{◌≡◌, ℕ, List, [], ◌∷◌, ◌++◌, Option, map, refl, sym, ap, ◌∙◌, subst}
use Rattle.std.proofs.lemmas.List.{append-nil, append_assoc}
use Rattle.cache_law.specs.declared.call.Entry.{Entry}
use Rattle.cache_law.specs.Beginning.{Beginning}
use Rattle.turnstile.specs.declared.knowledge.Ended.{Ended}
use Rattle.turnstile.specs.Knowledge.{Grown, mine, places, merged}
use Rattle.turnstile.proofs.Places.{mine-grown}
use Rattle.shared_cache.specs.Sharing.{CallerKnows, caller_of}
use Rattle.wire.specs.Talks.{Adds}
use Rattle.entrance.proofs.Adding.{adds_then}
use Rattle.crew.specs.Hiring.{AllFronts, ended_of}

abbrev known_by : ℕ → Option Beginning → ℕ → ℕ → List Entry → List ℕ → List Ended → CallerKnows
known_by first setting number upto seen made ended =
    record { first = first; setting = setting; number = number; upto = upto; seen = seen; made = made; ended = ended }

-- two that agree in each part are one
same_known : (f f' : ℕ) (s s' : Option Beginning) (n n' u u' : ℕ) (h h' : List Entry) (m m' : List ℕ) (e e' : List Ended)
    → f ≡ f' → s ≡ s' → n ≡ n' → u ≡ u' → h ≡ h' → m ≡ m' → e ≡ e' → known_by f s n u h m e ≡ known_by f' s' n' u' h' m' e'
same_known f f' s s' n n' u u' h h' m m' e e' a b c d i j k = cc

pub joined_known : (start now other new : CallerKnows) (before : List Ended) → now ≡ record start { seen = now.seen; ended = before } → new ≡ merged caller_of now other
    → other.made ≡ [] → other.ended ≡ [] → new ≡ record start { seen = new.seen; ended = before ++ ended_of other ∷ [] }
joined_known start now other new before so_far one none_made none_ended =
    same_known new.first start.first new.setting start.setting new.number start.number new.upto start.upto new.seen new.seen new.made start.made new.ended (before ++ ended_of other ∷ [])
    (ap (λ (k : CallerKnows). k.first) one ∙ ap (λ (k : CallerKnows). k.first) so_far)
    (ap (λ (k : CallerKnows). k.setting) one ∙ ap (λ (k : CallerKnows). k.setting) so_far)
    (ap (λ (k : CallerKnows). k.number) one ∙ ap (λ (k : CallerKnows). k.number) so_far)
    (ap (λ (k : CallerKnows). k.upto) one ∙ ap (λ (k : CallerKnows). k.upto) so_far)
    refl
    (ap (λ (k : CallerKnows). k.made) one ∙ (ap (λ (ns : List ℕ). now.made ++ ns) none_made ∙ (append-nil now.made ∙ ap (λ (k : CallerKnows). k.made) so_far)))
    (ap (λ (k : CallerKnows). k.ended) one ∙ (ap (λ (es : List Ended). (now.ended ++ es) ++ ended_of other ∷ []) none_ended
    ∙ (ap (λ (es : List Ended). es ++ ended_of other ∷ []) (append-nil now.ended) ∙ ap (λ (k : CallerKnows). k.ended ++ ended_of other ∷ []) so_far)))

pub joined_mine : (now new : CallerKnows) → new.number ≡ now.number → Grown caller_of now new.seen → mine caller_of new ≡ mine caller_of now
joined_mine now new same grown = ap (λ (n : ℕ). places caller_of n new.seen) same ∙ mine-grown caller_of now new.seen grown

pub fronts_longer : (h h' rest : List Entry) (ks : List CallerKnows) → h' ≡ h ++ rest → AllFronts h ks → AllFronts h' ks
fronts_longer h h' rest [] longer all = tt
fronts_longer h h' rest (k ∷ ks) longer all = (
  (all.0.0 ++ rest, longer ∙ (ap (λ (l : List Entry). l ++ rest) all.0.1 ∙ append_assoc k.seen all.0.0 rest)),
  fronts_longer h h' rest ks longer all.1,
)

pub fronts_more : {X : Type 0} (knows : X → CallerKnows) (h : List Entry) (xs : List X) (x : X) (rest : List Entry) → AllFronts h (map knows xs) → h ≡ (knows x).seen ++ rest
    → AllFronts h (map knows (xs ++ x ∷ []))
fronts_more knows h [] x rest all here = ((rest, here), tt)
fronts_more knows h (y ∷ ys) x rest all here = (all.0, fronts_more knows h ys x rest all.1 here)

map_more : {X A : Type 0} (f : X → A) (xs : List X) (x : X) → map f (xs ++ x ∷ []) ≡ map f xs ++ f x ∷ []
map_more f [] x = refl
map_more {A = A} f (y ∷ ys) x = ap (λ (rest : List A). f y ∷ rest) (map_more f ys x)

pub joined_more : {X : Type 0} (knows : X → CallerKnows) (xs : List X) (x : X) (start now new : CallerKnows)
    → now ≡ record start { seen = now.seen; ended = start.ended ++ map (λ y. ended_of (knows y)) xs } → new ≡ merged caller_of now (knows x)
    → (knows x).made ≡ [] → (knows x).ended ≡ [] → new ≡ record start { seen = new.seen; ended = start.ended ++ map (λ y. ended_of (knows y)) (xs ++ x ∷ []) }
joined_more {X = X} knows xs x start now new so_far one none_made none_ended =
    joined_known start now (knows x) new (start.ended ++ map (λ (y : X). ended_of (knows y)) xs) so_far one none_made none_ended
    ∙ ap (λ (es : List Ended). record start { seen = new.seen; ended = es })
    (append_assoc start.ended (map (λ (y : X). ended_of (knows y)) xs) (ended_of (knows x) ∷ [])
    ∙ ap (λ (es : List Ended). start.ended ++ es) (sym (map_more (λ (y : X). ended_of (knows y)) xs x)))

pub adds_more : {X A : Type 0} (f : X → A) (xs : List X) (x : X) (first second third : Option (List A)) → Adds first second (map f xs) → Adds second third (f x ∷ [])
    → Adds first third (map f (xs ++ x ∷ []))
adds_more {A = A} f xs x first second third a b =
    subst (λ (l : List A). Adds first third l) (sym (map_more f xs x)) (adds_then first second third (map f xs) (f x ∷ []) a b)

pub items_more : {X A : Type 0} (f : X → A) (xs : List X) (x : X) (start now new : List A) → now ≡ start ++ map f xs → new ≡ now ++ f x ∷ [] → new ≡ start ++ map f (xs ++ x ∷ [])
items_more {A = A} f xs x start now new so_far one =
    one ∙ (ap (λ (l : List A). l ++ f x ∷ []) so_far ∙ (append_assoc start (map f xs) (f x ∷ []) ∙ ap (λ (l : List A). start ++ l) (sym (map_more f xs x))))
