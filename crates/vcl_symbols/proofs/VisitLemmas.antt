-- What a visit of one more of a row does.
use Rattle.std.proofs.Common.{◌≡◌, ℕ, zero, suc, ◌+◌, ◌<◌, ◌⊎◌, Bool, true, false, not, cond, List, [], ◌∷◌, ◌++◌, length, get_or, set, ◌∙◌, ap, subst, refl, inl, inr, arith, length-set, length-append}
use Rattle.std.proofs.lemmas.Bool.{false≢true}
use Rattle.std.proofs.lemmas.List.Sums.{sum_by-set}
use Rattle.vcl_symbols.specs.Calls.{Marked}
use Rattle.vcl_symbols.specs.Visits.{Among, unmarked, Visited}

pub Among-last : (xs : List ℕ) (y : ℕ) → Among (xs ++ y ∷ []) y
Among-last [] y = inl refl
Among-last (x ∷ xs) y = inr (Among-last xs y)

pub Among-front : (xs : List ℕ) (y w : ℕ) → Among xs w → Among (xs ++ y ∷ []) w
Among-front [] y w h = absurd h
Among-front (x ∷ xs) y w (inl e) = inl e
Among-front (x ∷ xs) y w (inr h) = inr (Among-front xs y w h)

pub Among-parts : (xs : List ℕ) (y w : ℕ) → Among (xs ++ y ∷ []) w → Among xs w ⊎ (y ≡ w)
Among-parts [] y w (inl e) = inr e
Among-parts [] y w (inr h) = absurd h
Among-parts (x ∷ xs) y w (inl e) = inl (inl e)
Among-parts (x ∷ xs) y w (inr h) = elim (Among-parts xs y w h) [ inl k ↦ inl (inr k) | inr e ↦ inr e ]

pub Among-at : (xs : List ℕ) (i : ℕ) → i < length xs → Among xs (get_or xs i 0)
Among-at [] i within = absurd (omega arith)
Among-at (x ∷ xs) zero within = inl refl
Among-at (x ∷ xs) (suc i) within = inr (Among-at xs i (omega arith))

pub Marked-below : (marks : List Bool) (v : ℕ) → Marked marks v → v < length marks
Marked-below [] v h = absurd (false≢true h)
Marked-below (m ∷ ms) zero h = omega arith
Marked-below (m ∷ ms) (suc v) h = omega (arith, Marked-below ms v h)

pub Marked-new : (marks : List Bool) (v : ℕ) → v < length marks → Marked (set marks v true) v
Marked-new [] v within = absurd (omega arith)
Marked-new (m ∷ ms) zero within = refl
Marked-new (m ∷ ms) (suc v) within = Marked-new ms v (omega arith)

pub Marked-kept : (marks : List Bool) (v w : ℕ) → Marked marks w → Marked (set marks v true) w
Marked-kept [] v w h = h
Marked-kept (m ∷ ms) zero zero h = refl
Marked-kept (m ∷ ms) zero (suc w) h = h
Marked-kept (m ∷ ms) (suc v) zero h = h
Marked-kept (m ∷ ms) (suc v) (suc w) h = Marked-kept ms v w h

pub Marked-parts : (marks : List Bool) (v w : ℕ) → Marked (set marks v true) w → Marked marks w ⊎ (v ≡ w)
Marked-parts [] v w h = inl h
Marked-parts (m ∷ ms) zero zero h = inr refl
Marked-parts (m ∷ ms) zero (suc w) h = inl h
Marked-parts (m ∷ ms) (suc v) zero h = inl h
Marked-parts (m ∷ ms) (suc v) (suc w) h = elim (Marked-parts ms v w h) [ inl k ↦ inl k | inr e ↦ inr (ap suc e) ]

pub unmarked-new : (marks : List Bool) (v : ℕ) → v < length marks → get_or marks v false ≡ false → unmarked marks ≡ unmarked (set marks v true) + 1
unmarked-new marks v within is =
    let one : ◌≡◌ {A = ℕ} (cond (not (get_or marks v false)) 1 0) 1 = ap (λ mark. cond (not mark) 1 0) is in
    omega (arith, one, sum_by-set (λ mark. cond (not mark) 1 0) marks v true false within)

pub Visited-nil : (marks : List Bool) (waiting : List ℕ) → Visited [] marks waiting marks waiting
Visited-nil marks waiting = record {
  long = refl;
  keeps = λ v h. h;
  row_marked = λ v h. absurd h;
  new_of_row = λ v h. inl h;
  new_wait = λ v h. inl h;
  still_wait = λ v h. h;
  waiters_marked = λ v h. inl h;
  less = omega arith;
}

pub Visited-known : (row : List ℕ) (marks : List Bool) (waiting : List ℕ) (marks' : List Bool) (waiting' : List ℕ) (u : ℕ) → Visited row marks waiting marks' waiting' → Marked marks' u → Visited (row ++ u ∷ []) marks waiting marks' waiting'
Visited-known row marks waiting marks' waiting' u so_far known = record {
  long = so_far.long;
  keeps = so_far.keeps;
  row_marked = λ v h. elim (Among-parts row u v h) [ inl k ↦ so_far.row_marked v k | inr e ↦ let P : ℕ → Type 0 = λ w. Marked marks' w in subst P e known ];
  new_of_row = λ v h. elim (so_far.new_of_row v h) [ inl k ↦ inl k | inr k ↦ inr (Among-front row u v k) ];
  new_wait = so_far.new_wait;
  still_wait = so_far.still_wait;
  waiters_marked = λ v h. elim (so_far.waiters_marked v h) [ inl k ↦ inl k | inr k ↦ inr (Among-front row u v k) ];
  less = so_far.less;
}

pub Visited-new : (row : List ℕ) (marks : List Bool) (waiting : List ℕ) (marks' : List Bool) (waiting' : List ℕ) (u : ℕ) → Visited row marks waiting marks' waiting' → u < length marks' → get_or marks' u false ≡ false → Visited (row ++ u ∷ []) marks waiting (set marks' u true) (waiting' ++ u ∷ [])
Visited-new row marks waiting marks' waiting' u so_far within new =
    let last : Among (row ++ u ∷ []) u = Among-last row u in
    let here : ℕ → Type 0 = λ w. Among (row ++ u ∷ []) w in
    record {
      long = length-set marks' u true ∙ so_far.long;
      keeps = λ v h. Marked-kept marks' u v (so_far.keeps v h);
      row_marked = λ v h. elim (Among-parts row u v h) [
        | inl k ↦ Marked-kept marks' u v (so_far.row_marked v k)
        | inr e ↦ let P : ℕ → Type 0 = λ w. Marked (set marks' u true) w in subst P e (Marked-new marks' u within)
      ];
      new_of_row = λ v h. elim (Marked-parts marks' u v h) [
        | inl k ↦ elim (so_far.new_of_row v k) [ inl m ↦ inl m | inr m ↦ inr (Among-front row u v m) ]
        | inr e ↦ inr (subst here e last)
      ];
      new_wait = λ v h. elim (Marked-parts marks' u v h) [
        | inl k ↦ elim (so_far.new_wait v k) [ inl m ↦ inl m | inr m ↦ inr (Among-front waiting' u v m) ]
        | inr e ↦ let P : ℕ → Type 0 = λ w. Among (waiting' ++ u ∷ []) w in inr (subst P e (Among-last waiting' u))
      ];
      still_wait = λ v h. Among-front waiting' u v (so_far.still_wait v h);
      waiters_marked = λ v h. elim (Among-parts waiting' u v h) [
        | inl k ↦ elim (so_far.waiters_marked v k) [ inl m ↦ inl m | inr m ↦ inr (Among-front row u v m) ]
        | inr e ↦ inr (subst here e last)
      ];
      less = omega (arith, so_far.less, unmarked-new marks' u within new, length-append waiting' (u ∷ []));
    }
