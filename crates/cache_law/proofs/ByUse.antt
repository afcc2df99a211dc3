-- Objects that stand by their last use.
use Rattle.std.proofs.Common.{◌≡◌, ◌≢◌, ℕ, Bool, true, false, cond, List, [], ◌∷◌, ◌+◌, ◌<◌, ◌≤◌, ◌⊎◌, nat_le, length, filter, inl, inr, refl, arith, sym, ap, ◌∙◌}
use Rattle.std.specs.Prelude.{⊤}
use Rattle.std.proofs.lemmas.Bool.{cases_order, cond-true, cond-false, leb-true, leb-false, le-leb}
use Rattle.std.proofs.lemmas.List.Sums.{sum_by-cons}
use Rattle.std.specs.List.{AllByRecursion}
use Rattle.cache_law.specs.Object.{size_of}
use Rattle.cache_law.specs.State.{Held, sizes_of}
use Rattle.cache_law.specs.Room.{AreUsedApart, put_by_use, by_use}
use Rattle.cache_law.proofs.Held.{all-filter, all-weaken}

-- each was used before those behind it
abbrev pub Rising : List Held → Type 0
Rising [] = ⊤
Rising (held ∷ objects) = AllByRecursion (λ (other : Held). held.used < other.used) objects × Rising objects

all_step : (P : Held → Type 0) (held other : Held) (others put : List Held) (b : Bool) → P held → P other → AllByRecursion P others → AllByRecursion P put
    → AllByRecursion P (cond b (held ∷ other ∷ others) (other ∷ put))
all_step P held other others put true p q rest later = (p, (q, rest))
all_step P held other others put false p q rest later = (q, later)

pub all-put : (P : Held → Type 0) (held : Held) (objects : List Held) → P held → AllByRecursion P objects → AllByRecursion P (put_by_use held objects)
all-put P held [] p all = (p, tt)
all-put P held (other ∷ others) p all = all_step P held other others (put_by_use held others) (nat_le held.used other.used) p all.0 all.1 (all-put P held others p all.1)

pub all-by_use : (P : Held → Type 0) (objects : List Held) → AllByRecursion P objects → AllByRecursion P (by_use objects)
all-by_use P [] all = tt
all-by_use P (held ∷ objects) all = all-put P held (by_use objects) all.0 (all-by_use P objects all.1)

less_apart : (a b : ℕ) → a ≤ b → a ≢ b → a < b
less_apart a b low apart = by_order (cases_order a b)
  where
    by_order : (a ≡ b) ⊎ ((a < b) ⊎ (b < a)) → a < b
    by_order (inl same) = absurd (apart same)
    by_order (inr (inl below)) = below
    by_order (inr (inr above)) = absurd (omega (arith, low, above))

rising_step : (held other : Held) (others put : List Held) (b : Bool) → b ≡ nat_le held.used other.used → held.used ≢ other.used → AllByRecursion (λ (o : Held). other.used < o.used) others → Rising others
    → (other.used < held.used → AllByRecursion (λ (o : Held). other.used < o.used) put) → Rising put → Rising (cond b (held ∷ other ∷ others) (other ∷ put))
rising_step held other others put true e apart above rising below later =
    let less : held.used < other.used = less_apart held.used other.used (leb-true held.used other.used (sym e)) apart in
    ((less, all-weaken (λ (o : Held). other.used < o.used) (λ (o : Held). held.used < o.used) (λ o h. omega (arith, less, h)) others above), (above, rising))
rising_step held other others put false e apart above rising below later =
    (below (leb-false held.used other.used (sym e)), later)

pub rising-put : (held : Held) (objects : List Held) → AllByRecursion (λ (o : Held). held.used ≢ o.used) objects → Rising objects → Rising (put_by_use held objects)
rising-put held [] apart rising = (tt, tt)
rising-put held (other ∷ others) apart rising =
    rising_step held other others (put_by_use held others) (nat_le held.used other.used) refl apart.0 rising.0 rising.1
    (λ below. all-put (λ (o : Held). other.used < o.used) held others below rising.0) (rising-put held others apart.1 rising.1)

pub rising-by_use : (objects : List Held) → AreUsedApart objects → Rising (by_use objects)
rising-by_use [] apart = tt
rising-by_use (held ∷ objects) apart = rising-put held (by_use objects) (all-by_use (λ (o : Held). held.used ≢ o.used) objects apart.0) (rising-by_use objects apart.1)

put_first : (held : Held) (objects : List Held) → AllByRecursion (λ (o : Held). held.used ≤ o.used) objects → put_by_use held objects ≡ held ∷ objects
put_first held [] all = refl
put_first held (other ∷ others) all = cond-true _ _ _ (le-leb held.used other.used all.0)

-- an object that is put before or behind others, where a test is made of all
put-filter : (p : Held → Bool) (held : Held) (objects : List Held) → Rising objects → filter p (put_by_use held objects) ≡ cond (p held) (put_by_use held (filter p objects)) (filter p objects)
put-filter p held [] rising = refl
put-filter p held (other ∷ others) rising = by_order (put-filter p held others rising.1) (nat_le held.used other.used) refl
  where
    swap : nat_le held.used other.used ≡ false → (own first : Bool)
        → cond first (other ∷ cond own (put_by_use held (filter p others)) (filter p others)) (cond own (put_by_use held (filter p others)) (filter p others))
        ≡ cond own (put_by_use held (cond first (other ∷ filter p others) (filter p others))) (cond first (other ∷ filter p others) (filter p others))
    swap e true true = sym (cond-false _ _ _ e)
    swap e true false = refl
    swap e false true = refl
    swap e false false = refl

    no_less : nat_le held.used other.used ≡ true → AllByRecursion (λ (o : Held). held.used ≤ o.used) (other ∷ others)
    no_less e =
        let low : held.used ≤ other.used = leb-true held.used other.used e in
        (low, all-weaken (λ (o : Held). other.used < o.used) (λ (o : Held). held.used ≤ o.used) (λ o h. omega (arith, low, h)) others rising.0)

    by_order : filter p (put_by_use held others) ≡ cond (p held) (put_by_use held (filter p others)) (filter p others)
        → (b : Bool) → nat_le held.used other.used ≡ b → filter p (cond b (held ∷ other ∷ others) (other ∷ put_by_use held others)) ≡ cond (p held) (put_by_use held (filter p (other ∷ others))) (filter p (other ∷ others))
    by_order later true e =
        ap (λ (l : List Held). cond (p held) l (filter p (other ∷ others))) (sym (put_first held (filter p (other ∷ others)) (all-filter (λ (o : Held). held.used ≤ o.used) p (other ∷ others) (no_less e))))
    by_order later false e = ap (λ (l : List Held). cond (p other) (other ∷ l) l) later ∙ swap e (p held) (p other)

by_use_one : (b : Bool) (held : Held) (objects : List Held) → by_use (cond b (held ∷ objects) objects) ≡ cond b (put_by_use held (by_use objects)) (by_use objects)
by_use_one true held objects = refl
by_use_one false held objects = refl

-- some of the objects by their last use are some of those by their last use
pub by_use-filter : (p : Held → Bool) (objects : List Held) → AreUsedApart objects → by_use (filter p objects) ≡ filter p (by_use objects)
by_use-filter p [] apart = refl
by_use-filter p (held ∷ objects) apart =
    by_use_one (p held) held (filter p objects)
    ∙ ap (λ (l : List Held). cond (p held) (put_by_use held l) l) (by_use-filter p objects apart.1)
    ∙ sym (put-filter p held (by_use objects) (rising-by_use objects apart.1))

put_sizes : (held other : Held) (others put : List Held) (b : Bool) → sizes_of put ≡ size_of held.view.object + sizes_of others → sizes_of (cond b (held ∷ other ∷ others) (other ∷ put)) ≡ size_of held.view.object + sizes_of (other ∷ others)
put_sizes held other others put true e = sum_by-cons (λ (h : Held). size_of h.view.object) held (other ∷ others)
put_sizes held other others put false e =
    omega (arith, sum_by-cons (λ (h : Held). size_of h.view.object) other put, sum_by-cons (λ (h : Held). size_of h.view.object) other others, e)

sizes-put : (held : Held) (objects : List Held) → sizes_of (put_by_use held objects) ≡ size_of held.view.object + sizes_of objects
sizes-put held [] = sum_by-cons (λ (h : Held). size_of h.view.object) held []
sizes-put held (other ∷ others) = put_sizes held other others (put_by_use held others) (nat_le held.used other.used) (sizes-put held others)

pub sizes-by_use : (objects : List Held) → sizes_of (by_use objects) ≡ sizes_of objects
sizes-by_use [] = refl
sizes-by_use (held ∷ objects) = omega (arith, sizes-put held (by_use objects), sum_by-cons (λ (h : Held). size_of h.view.object) held objects, sizes-by_use objects)

put_length : (held other : Held) (others put : List Held) (b : Bool) → length put ≡ 1 + length others → length (cond b (held ∷ other ∷ others) (other ∷ put)) ≡ 1 + length (other ∷ others)
put_length held other others put true e = omega arith
put_length held other others put false e = omega (arith, e)

length-put : (held : Held) (objects : List Held) → length (put_by_use held objects) ≡ 1 + length objects
length-put held [] = omega arith
length-put held (other ∷ others) = put_length held other others (put_by_use held others) (nat_le held.used other.used) (length-put held others)

pub length-by_use : (objects : List Held) → length (by_use objects) ≡ length objects
length-by_use [] = refl
length-by_use (held ∷ objects) = omega (arith, length-put held (by_use objects), length-by_use objects)
