-- A pass over a list that changes one element after another.
use Rattle.std.specs.List.{list_any}
use Rattle.std.specs.Option.{option_or}
use Rattle.std.proofs.lemmas.List.Folds.{find-append}
use Rattle.std.proofs.Common.{find, Option, Some, None, zero, suc, ◌≡◌, ℕ, List, [], ◌∷◌, ◌+◌, ◌<◌, ◌++◌, ◌||◌, Bool, true, false, length, get_or, set, map, take, drop, refl, arith, ap, add-one, ◌∙◌, sym}

-- the list as the pass leaves it behind so many elements
abbrev pub passed : {X : Type 0} → (X → X) → ℕ → List X → List X
passed change zero xs = xs
passed change (suc n) [] = []
passed change (suc n) (x ∷ xs) = change x ∷ passed change n xs

pub length-passed : {X : Type 0} (change : X → X) (n : ℕ) (xs : List X) → length (passed change n xs) ≡ length xs
length-passed change zero xs = refl
length-passed change (suc n) [] = refl
length-passed change (suc n) (x ∷ xs) = omega (arith, length-passed change n xs)

pub get_or-passed : {X : Type 0} (change : X → X) (n : ℕ) (xs : List X) (d : X) → get_or (passed change n xs) n d ≡ get_or xs n d
get_or-passed change zero xs d = refl
get_or-passed change (suc n) [] d = refl
get_or-passed change (suc n) (x ∷ xs) d = get_or-passed change n xs d

-- the next element is changed
pub set-passed : {X : Type 0} (change : X → X) (n : ℕ) (xs : List X) (d : X) → n < length xs → set (passed change n xs) n (change (get_or xs n d)) ≡ passed change (suc n) xs
set-passed change n [] d h = absurd (omega arith)
set-passed change zero (x ∷ xs) d h = refl
set-passed change (suc n) (x ∷ xs) d h = ap (λ ys. change x ∷ ys) (set-passed change n xs d (omega arith))

pub passed_whole : {X : Type 0} (change : X → X) (n : ℕ) (xs : List X) → n ≡ length xs → passed change n xs ≡ map change xs
passed_whole change zero [] e = refl
passed_whole change zero (x ∷ xs) e = absurd (omega arith)
passed_whole change (suc n) [] e = refl
passed_whole change (suc n) (x ∷ xs) e = ap (λ ys. change x ∷ ys) (passed_whole change n xs (omega arith))

-- one element more is changed
pub one_passed : {X : Type 0} (change : X → X) (n : ℕ) (xs now : List X) (seen new : X) → n < length xs → now ≡ passed change n xs → seen ≡ get_or now n seen → new ≡ change seen → set now n new ≡ passed change (n + 1) xs
one_passed change n xs now seen new below so_far at_ changed =
    let here : seen ≡ get_or xs n seen = at_ ∙ ap (λ ys. get_or ys n seen) so_far ∙ get_or-passed change n xs seen in
    ap (λ y. set now n y) (changed ∙ ap change here)
    ∙ ap (λ ys. set ys n (change (get_or xs n seen))) so_far
    ∙ set-passed change n xs seen below
    ∙ ap (λ (k : ℕ). passed change k xs) (sym (add-one n))

pub at_next : {X : Type 0} (n : ℕ) (xs : List X) (d : X) → n < length xs → drop n xs ≡ get_or xs n d ∷ drop (suc n) xs
at_next n [] d h = absurd (omega arith)
at_next zero (x ∷ xs) d h = refl
at_next (suc n) (x ∷ xs) d h = at_next n xs d (omega arith)

-- what is left behind a place is its element before the rest
pub drop_one : {X : Type 0} (xs : List X) (n : ℕ) (x : X) → n < length xs → x ≡ get_or xs n x → drop n xs ≡ x ∷ drop (n + 1) xs
drop_one xs n x below at_ =
    at_next n xs x below ∙ ap (λ y. y ∷ drop (suc n) xs) (sym at_) ∙ ap (λ (k : ℕ). x ∷ drop k xs) (sym (add-one n))

pub drop_all : {X : Type 0} (xs : List X) (n : ℕ) → n ≡ length xs → drop n xs ≡ []
drop_all [] zero e = refl
drop_all [] (suc n) e = refl
drop_all (x ∷ xs) zero e = absurd (omega arith)
drop_all (x ∷ xs) (suc n) e = drop_all xs n (omega arith)

pub take_all : {X : Type 0} (xs : List X) (n : ℕ) → n ≡ length xs → take n xs ≡ xs
take_all [] zero e = refl
take_all [] (suc n) e = refl
take_all (x ∷ xs) zero e = absurd (omega arith)
take_all (x ∷ xs) (suc n) e = ap (λ ys. x ∷ ys) (take_all xs n (omega arith))

map_next : {X Y : Type 0} (f : X → Y) (n : ℕ) (xs : List X) (d : X) → n < length xs → map f (take n xs) ++ f (get_or xs n d) ∷ [] ≡ map f (take (suc n) xs)
map_next f n [] d h = absurd (omega arith)
map_next f zero (x ∷ xs) d h = refl
map_next f (suc n) (x ∷ xs) d h = ap (λ ys. f x ∷ ys) (map_next f n xs d (omega arith))

-- one element more is mapped
pub map_one : {X Y : Type 0} (f : X → Y) (n : ℕ) (xs : List X) (x : X) (y : Y) (done new : List Y) → n < length xs → done ≡ map f (take n xs) → x ≡ get_or xs n x → y ≡ f x → new ≡ done ++ y ∷ [] → new ≡ map f (take (n + 1) xs)
map_one f n xs x y done new below so_far at_ is_ puts =
    puts
    ∙ ap (λ z. done ++ z ∷ []) is_
    ∙ ap (λ ys. ys ++ f x ∷ []) so_far
    ∙ ap (λ y. map f (take n xs) ++ f y ∷ []) at_
    ∙ map_next f n xs x below
    ∙ ap (λ (k : ℕ). map f (take k xs)) (sym (add-one n))

pub map_whole : {X Y : Type 0} (f : X → Y) (n : ℕ) (xs : List X) (done : List Y) → n ≡ length xs → done ≡ map f (take n xs) → done ≡ map f xs
map_whole f n xs done end_ so_far = so_far ∙ ap (map f) (take_all xs n end_)

or_assoc_ : (a b c : Bool) → (a || (b || c)) ≡ ((a || b) || c)
or_assoc_ true b c = refl
or_assoc_ false b c = refl

or_false : (a : Bool) → (a || false) ≡ a
or_false true = refl
or_false false = refl

any_next : {X : Type 0} (test : X → Bool) (n : ℕ) (xs : List X) (d : X) → n < length xs → list_any test (take (suc n) xs) ≡ (list_any test (take n xs) || test (get_or xs n d))
any_next test n [] d h = absurd (omega arith)
any_next test zero (x ∷ xs) d h = or_false (test x)
any_next test (suc n) (x ∷ xs) d h = ap (λ (b : Bool). test x || b) (any_next test n xs d (omega arith)) ∙ or_assoc_ (test x) (list_any test (take n xs)) (test (get_or xs n d))

-- one element more doesn't pass
pub any_more : {X : Type 0} (test : X → Bool) (n : ℕ) (xs : List X) (x : X) → n < length xs → list_any test (take n xs) ≡ false → x ≡ get_or xs n x → test x ≡ false → list_any test (take (n + 1) xs) ≡ false
any_more test n xs x below so_far at_ fails =
    ap (λ (k : ℕ). list_any test (take k xs)) (add-one n)
    ∙ any_next test n xs x below
    ∙ ap (λ (b : Bool). b || test (get_or xs n x)) so_far
    ∙ ap test (sym at_) ∙ fails

any_behind : (b later : Bool) → later ≡ true → (b || later) ≡ true
any_behind true later e = refl
any_behind false later e = e

any_taken : {X : Type 0} (test : X → Bool) (n m : ℕ) (xs : List X) (d : X) → n < m → n < length xs → test (get_or xs n d) ≡ true → list_any test (take m xs) ≡ true
any_taken test n zero xs d h below passes = absurd (omega arith)
any_taken test n (suc m) [] d h below passes = absurd (omega arith)
any_taken test zero (suc m) (x ∷ xs) d h below passes = ap (λ (b : Bool). b || list_any test (take m xs)) passes
any_taken test (suc n) (suc m) (x ∷ xs) d h below passes = any_behind (test x) _ (any_taken test n m xs d (omega arith) (omega arith) passes)

-- an element passes
pub any_here : {X : Type 0} (test : X → Bool) (n m : ℕ) (xs : List X) (x : X) → n < m → n < length xs → x ≡ get_or xs n x → test x ≡ true → list_any test (take m xs) ≡ true
any_here test n m xs x h below at_ passes = any_taken test n m xs x h below (ap test (sym at_) ∙ passes)

-- what is found in a list is found in it and another behind it
pub find-front : {X : Type 0} (p : X → Bool) (xs ys : List X) (x : X) → Some x ≡ find p xs → Some x ≡ find p (xs ++ ys)
find-front p xs ys x e = ap (λ o. option_or o (find p ys)) e ∙ sym (find-append p xs ys)

pub find-behind : {X : Type 0} (p : X → Bool) (xs ys : List X) (found : Option X) → None ≡ find p xs → found ≡ find p ys → found ≡ find p (xs ++ ys)
find-behind p xs ys found none_ e = e ∙ ap (λ o. option_or o (find p ys)) none_ ∙ sym (find-append p xs ys)
