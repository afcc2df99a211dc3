-- What the numbers of bans say of those that are newer than a mark or a place.
use Rattle.std.proofs.Common.{◌≡◌, ◌≤◌, ◌+◌, ℕ, Bool, true, false, not, List, [], ◌∷◌, ◌&&◌, nat_lt, refl, arith, sym, ◌∙◌}
use Rattle.std.specs.List.{list_any, AllByRecursion}
use Rattle.std.proofs.lemmas.Bool.{false≢true, and_from, and_left, and_parts, le-ltb, lt-ltb, ltb-true}
use Rattle.cache_law.specs.declared.ban.Issued.{Issued}
use Rattle.cache_law.specs.Bases.{AreFalling}
use Rattle.cache_law.proofs.Held.{all-weaken}
use Rattle.ban_lurker.specs.Looks.{is_above, is_alone}
use Rattle.lazy_law.specs.Placed.{above, is_since, since}
use Rattle.lazy_law.proofs.Filters.{any_more, any_of_filter, filter_none}

-- the bans have numbers up to this one
abbrev pub AreUpTo : ℕ → List Issued → Type 0
AreUpTo most bans = AllByRecursion (λ issued. issued.number ≤ most) bans

pub up_to : (bound most : ℕ) (bans : List Issued) → bound ≤ most + 1 → AreFalling bound bans → AreUpTo most bans
up_to bound most [] less falling = tt
up_to bound most (ban ∷ bans) less falling = (omega (arith, falling.0), up_to ban.number most bans (omega (arith, falling.0)) falling.1)

pub not_above : (mark : ℕ) (issued : Issued) → issued.number ≤ mark → is_above mark issued ≡ false
not_above mark issued less = and_left (nat_lt mark issued.number) (is_alone issued) (le-ltb mark issued.number less)

not_since : (place : ℕ) (issued : Issued) → issued.number ≤ place → is_since place issued ≡ false
not_since place issued less = and_left (nat_lt place issued.number) (not (is_alone issued)) (le-ltb place issued.number less)

-- none is newer than the newest
pub above_none : (most mark : ℕ) (bans : List Issued) → AreUpTo most bans → most ≤ mark → above mark bans ≡ []
above_none most mark bans up less =
    filter_none (is_above mark) bans (all-weaken (λ (i : Issued). i.number ≤ most) (λ i. is_above mark i ≡ false) (λ i here. not_above mark i (omega (arith, here))) bans up)

pub since_none : (most place : ℕ) (bans : List Issued) → AreUpTo most bans → most ≤ place → since place bans ≡ []
since_none most place bans up less =
    filter_none (is_since place) bans (all-weaken (λ (i : Issued). i.number ≤ most) (λ i. is_since place i ≡ false) (λ i here. not_since place i (omega (arith, here))) bans up)

-- what is newer than a mark is newer than an earlier one
above_more : (mark later : ℕ) → mark ≤ later → (test : Issued → Bool) (i : Issued) → (is_above later i && test i) ≡ true → (is_above mark i && test i) ≡ true
above_more mark later less test i e =
    let parts = and_parts (is_above later i) (test i) e in
    let inner = and_parts (nat_lt later i.number) (is_alone i) parts.0 in
    let newer = ltb-true later i.number inner.0 in
    and_from (is_above mark i) (test i) (and_from (nat_lt mark i.number) (is_alone i) (lt-ltb mark i.number (omega (arith, less, newer))) inner.1) parts.1

pub any_above_more : (mark later : ℕ) (test : Issued → Bool) (bans : List Issued) → mark ≤ later → list_any test (above later bans) ≡ true → list_any test (above mark bans) ≡ true
any_above_more mark later test bans less e =
    any_of_filter test (is_above mark) bans
    ∙ any_more (λ i. is_above later i && test i) (λ i. is_above mark i && test i) (above_more mark later less test) bans (sym (any_of_filter test (is_above later) bans) ∙ e)

false_of : (a b : Bool) → (b ≡ true → a ≡ true) → a ≡ false → b ≡ false
false_of a true more e = absurd (false≢true (sym e ∙ more refl))
false_of a false more e = refl

-- where none above a mark matches, none above a later one does
pub any_above_none : (mark later : ℕ) (test : Issued → Bool) (bans : List Issued) → mark ≤ later → list_any test (above mark bans) ≡ false → list_any test (above later bans) ≡ false
any_above_none mark later test bans less e = false_of _ _ (any_above_more mark later test bans less) e
