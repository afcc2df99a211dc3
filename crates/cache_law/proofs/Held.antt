-- What holds of each object holds of each that stays.
use Rattle.std.proofs.Common.{◌≡◌, ℕ, Bool, true, false, cond, List, [], ◌∷◌, Option, Some, filter, map, inl, inr, refl, sym, subst}
use Rattle.std.specs.List.{AllByRecursion}
use Rattle.cache_law.specs.declared.object.ObjectView.{ObjectView}
use Rattle.cache_law.specs.declared.call.Query.{Query}
use Rattle.cache_law.specs.Object.{key_of, same_texts}
use Rattle.cache_law.specs.State.{Held}
use Rattle.cache_law.specs.BansAtOnce.{is_met, cleared}
use Rattle.cache_law.specs.Lookup.{scanned, is_chosen_by, is_fresh, is_in_grace, ending, seeing, passing, first_of}
use Rattle.cache_law.specs.BanHistories.{IsAmong}

all_step : {X : Type 0} (P : X → Type 0) (b : Bool) (x : X) (xs : List X) → P x → AllByRecursion P xs → AllByRecursion P (cond b (x ∷ xs) xs)
all_step P true x xs p rest = (p, rest)
all_step P false x xs p rest = rest

pub all-filter : {X : Type 0} (P : X → Type 0) (test : X → Bool) (xs : List X) → AllByRecursion P xs → AllByRecursion P (filter test xs)
all-filter P test [] all = tt
all-filter P test (x ∷ xs) all = all_step P (test x) x (filter test xs) all.0 (all-filter P test xs all.1)

pub all-map : {X : Type 0} (P Q : X → Type 0) (f : X → X) → ((x : X) → P x → Q (f x)) → (xs : List X) → AllByRecursion P xs → AllByRecursion Q (map f xs)
all-map P Q f on [] all = tt
all-map P Q f on (x ∷ xs) all = (on x all.0, all-map P Q f on xs all.1)

pub all-weaken : {X : Type 0} (P Q : X → Type 0) → ((x : X) → P x → Q x) → (xs : List X) → AllByRecursion P xs → AllByRecursion Q xs
all-weaken P Q on [] all = tt
all-weaken P Q on (x ∷ xs) all = (on x all.0, all-weaken P Q on xs all.1)

-- what is known of all is known of one
pub all_at : (P : Held → Type 0) (held : Held) (objects : List Held) → AllByRecursion P objects → IsAmong held objects → P held
all_at P held [] all among = absurd among
all_at P held (other ∷ objects) all (inl same) = subst P (sym same) all.0
all_at P held (other ∷ objects) all (inr among) = all_at P held objects all.1 among

-- what a lookup finds
scan_step : (P : ObjectView → Type 0) (moment : ℕ) (query : Query) (held : Held) (rest : List Held) (ours met suits fresh : Bool) (view : ObjectView)
    → (met ≡ false → P held.view) → ((scanned moment query rest).fresh ≡ Some view → P view)
    → (cond ours (cond met (scanned moment query rest) (cond suits (cond fresh (ending held.view (cleared held) rest) (seeing moment query.options held.view (cleared held) (scanned moment query rest))) (passing (cleared held) (scanned moment query rest)))) (passing held (scanned moment query rest))).fresh ≡ Some view → P view
scan_step P moment query held rest false met suits fresh view here later e = later e
scan_step P moment query held rest true true suits fresh view here later e = later e
scan_step P moment query held rest true false false fresh view here later e = later e
scan_step P moment query held rest true false true false view here later e = later e
scan_step P moment query held rest true false true true view here later e =
    let same : held.view ≡ view = cc in subst P same (here refl)

-- what is known of each object that no waiting ban meets is known of the fresh one
pub fresh_is : (P : ObjectView → Type 0) (moment : ℕ) (query : Query) (objects : List Held) → AllByRecursion (λ held. is_met query.request held ≡ false → P held.view) objects
    → (view : ObjectView) → (scanned moment query objects).fresh ≡ Some view → P view
fresh_is P moment query [] all view e = cc
fresh_is P moment query (held ∷ objects) all view e =
    scan_step P moment query held objects (same_texts (key_of held.view.object) query.key) (is_met query.request held) (is_chosen_by query held.view.object) (is_fresh moment query.options held.view.object) view
    all.0 (fresh_is P moment query objects all.1 view) e

first_step : (P : ObjectView → Type 0) (passes : Bool) (own view : ObjectView) (later : Option ObjectView) → P own → (later ≡ Some view → P view) → first_of passes own later ≡ Some view → P view
first_step P true own view later here behind e = let same : own ≡ view = cc in subst P same here
first_step P false own view later here behind e = behind e

grace_step : (P : ObjectView → Type 0) (moment : ℕ) (query : Query) (held : Held) (rest : List Held) (ours met suits fresh : Bool) (view : ObjectView)
    → (met ≡ false → P held.view) → ((scanned moment query rest).grace ≡ Some view → P view)
    → (cond ours (cond met (scanned moment query rest) (cond suits (cond fresh (ending held.view (cleared held) rest) (seeing moment query.options held.view (cleared held) (scanned moment query rest))) (passing (cleared held) (scanned moment query rest)))) (passing held (scanned moment query rest))).grace ≡ Some view → P view
grace_step P moment query held rest false met suits fresh view here later e = later e
grace_step P moment query held rest true true suits fresh view here later e = later e
grace_step P moment query held rest true false false fresh view here later e = later e
grace_step P moment query held rest true false true false view here later e =
    first_step P (is_in_grace moment query.options held.view.object) held.view view (scanned moment query rest).grace (here refl) later e
grace_step P moment query held rest true false true true view here later e = cc

pub grace_is : (P : ObjectView → Type 0) (moment : ℕ) (query : Query) (objects : List Held) → AllByRecursion (λ held. is_met query.request held ≡ false → P held.view) objects
    → (view : ObjectView) → (scanned moment query objects).grace ≡ Some view → P view
grace_is P moment query [] all view e = cc
grace_is P moment query (held ∷ objects) all view e =
    grace_step P moment query held objects (same_texts (key_of held.view.object) query.key) (is_met query.request held) (is_chosen_by query held.view.object) (is_fresh moment query.options held.view.object) view
    all.0 (grace_is P moment query objects all.1 view) e
