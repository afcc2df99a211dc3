-- Open rounds and fetches, as lists.
use Rattle.std.proofs.Common.{◌≡◌, ◌≢◌, ℕ, Bool, true, false, not, cond, List, [], ◌∷◌, ◌||◌, ◌==◌, filter, Option, refl, sym, ap, ◌∙◌}
use Rattle.std.specs.List.{AllByRecursion}
use Rattle.std.proofs.lemmas.Bool.{eqb-false, eqb-true, eq-eqb, ne_eqb}
use Rattle.cache_law.specs.declared.state.OpenFetch.{OpenFetch}
use Rattle.cache_law.specs.declared.state.OpenRound.{OpenRound}
use Rattle.cache_law.specs.State.{has_round, with_wait, without_fetches_of, without_round_of}

pub all_map : {X : Type 0} (P Q : X → Type 0) (xs : List X) → ((x : X) → P x → Q x) → AllByRecursion P xs → AllByRecursion Q xs
all_map P Q [] f all = tt
all_map P Q (x ∷ xs) f all = (f x all.0, all_map P Q xs f all.1)

all_kept : {X : Type 0} (P : X → Type 0) (kept : Bool) (x : X) (xs : List X) → P x → AllByRecursion P xs → AllByRecursion P (cond kept (x ∷ xs) xs)
all_kept P true x xs p all = (p, all)
all_kept P false x xs p all = all

pub all_filter : {X : Type 0} (P : X → Type 0) (q : X → Bool) (xs : List X) → AllByRecursion P xs → AllByRecursion P (filter q xs)
all_filter P q [] all = tt
all_filter P q (x ∷ xs) all = all_kept P (q x) x (filter q xs) all.0 (all_filter P q xs all.1)

caller_stays : (waits : Bool) (token : Option ℕ) (round : OpenRound) → (cond waits (record round { waits = token }) round).caller ≡ round.caller
caller_stays true token round = refl
caller_stays false token round = refl

-- rounds remember something, and are those of the same callers
pub has_waiting : (caller : ℕ) (token : Option ℕ) (rounds : List OpenRound) (other : ℕ) → has_round (with_wait caller token rounds) other ≡ has_round rounds other
has_waiting caller token [] other = refl
has_waiting caller token (round ∷ rounds) other =
    ap (λ (own : ℕ). (own == other) || has_round (with_wait caller token rounds) other) (caller_stays (round.caller == caller) token round)
    ∙ ap (λ (rest : Bool). (round.caller == other) || rest) (has_waiting caller token rounds other)

has_kept : (caller other : ℕ) (round : OpenRound) (rest : List OpenRound) (is : Bool) → (round.caller == caller) ≡ is → other ≢ caller
    → has_round (cond (not is) (round ∷ rest) rest) other ≡ ((round.caller == other) || has_round rest other)
has_kept caller other round rest true e apart =
    ap (λ (own : Bool). own || has_round rest other) (sym (ne_eqb round.caller other (λ same. apart (sym same ∙ eqb-true round.caller caller e))))
has_kept caller other round rest false e apart = refl

-- without a caller's round there are the rounds of others
pub has_without : (caller other : ℕ) (rounds : List OpenRound) → other ≢ caller → has_round (without_round_of caller rounds) other ≡ has_round rounds other
has_without caller other [] apart = refl
has_without caller other (round ∷ rounds) apart =
    has_kept caller other round (without_round_of caller rounds) (round.caller == caller) refl apart
    ∙ ap (λ (rest : Bool). (round.caller == other) || rest) (has_without caller other rounds apart)

fetch_kept : (caller : ℕ) (rounds : List OpenRound) (fetch : OpenFetch) (rest : List OpenFetch) (is : Bool) → (fetch.caller == caller) ≡ is → has_round rounds fetch.caller ≡ true
    → AllByRecursion (λ (f : OpenFetch). has_round (without_round_of caller rounds) f.caller ≡ true) rest
    → AllByRecursion (λ (f : OpenFetch). has_round (without_round_of caller rounds) f.caller ≡ true) (cond (not is) (fetch ∷ rest) rest)
fetch_kept caller rounds fetch rest true e has all = all
fetch_kept caller rounds fetch rest false e has all = (has_without caller fetch.caller rounds (eqb-false fetch.caller caller e) ∙ has, all)

-- behind the end of a caller's round the fetches of others are still of open rounds
pub fetches_left : (caller : ℕ) (rounds : List OpenRound) (fetches : List OpenFetch) → AllByRecursion (λ (f : OpenFetch). has_round rounds f.caller ≡ true) fetches
    → AllByRecursion (λ (f : OpenFetch). has_round (without_round_of caller rounds) f.caller ≡ true) (without_fetches_of caller fetches)
fetches_left caller rounds [] all = tt
fetches_left caller rounds (fetch ∷ fetches) all =
    fetch_kept caller rounds fetch (without_fetches_of caller fetches) (fetch.caller == caller) refl all.0 (fetches_left caller rounds fetches all.1)

pub own_round : (caller : ℕ) (rest : Bool) → ((caller == caller) || rest) ≡ true
own_round caller rest = ap (λ (own : Bool). own || rest) (eq-eqb caller caller refl)

or_true : (own : Bool) → (own || true) ≡ true
or_true true = refl
or_true false = refl

pub one_more_round : (own rest : Bool) → rest ≡ true → (own || rest) ≡ true
one_more_round own rest e = ap (λ (others : Bool). own || others) e ∙ or_true own
