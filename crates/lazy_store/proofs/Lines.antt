-- The lines that are newer than a number are the first, and what they say of an object.
use Rattle.std.proofs.Common.{◌≡◌, ◌≤◌, ◌+◌, ℕ, zero, suc, Bool, true, false, not, cond, List, [], ◌∷◌, ◌&&◌, ◌||◌, Option, filter, length, take, refl, add-one, arith, sym, ap, ◌∙◌}
use Rattle.std.specs.Prelude.{nat_lt, slice_get}
use Rattle.std.specs.List.{list_any}
use Rattle.std.specs.Option.{option_map_or}
use Rattle.std.proofs.lemmas.Bool.{false≢true, ltb-false}
use Rattle.cache_law.specs.declared.object.Object.{Object}
use Rattle.cache_law.specs.declared.call.RequestView.{RequestView}
use Rattle.cache_law.specs.declared.ban.BanLine.{BanLine}
use Rattle.cache_law.specs.declared.ban.Issued.{Issued}
use Rattle.cache_law.specs.ShownBans.{those_open}
use Rattle.ban_list.specs.Bans.{is_newer, newer}
use Rattle.ban_list.specs.Kept.{AreFalling, number_of}
use Rattle.ban_list.proofs.LineLemmas.{falling_weaker, none_newer}
use Rattle.lazy_law.proofs.Filters.{any_of_filter, any_of_map, any_on, each}
use Rattle.lazy_store.specs.Testing.{is_for, is_hit, is_matched, strikes}

first_case : (number : ℕ) (line : BanLine) (lines : List BanLine) (b : Bool) → is_newer number line ≡ b
    → filter (is_newer number) lines ≡ take (newer number lines) lines → (b ≡ false → newer number lines ≡ zero)
    → cond b (line ∷ filter (is_newer number) lines) (filter (is_newer number) lines) ≡ take (length (cond b (line ∷ filter (is_newer number) lines) (filter (is_newer number) lines))) (line ∷ lines)
first_case number line lines true e rest none = ap (λ (xs : List BanLine). line ∷ xs) rest
first_case number line lines false e rest none =
    rest ∙ ap (λ (n : ℕ). take n lines) (none refl) ∙ sym (ap (λ (n : ℕ). take n (line ∷ lines)) (none refl))

none_behind : (number : ℕ) (line : BanLine) (lines : List BanLine) → is_newer number line ≡ false → AreFalling (number_of line) lines → newer number lines ≡ zero
none_behind number line lines e falling =
    let order : number_of line ≤ number = ltb-false number (number_of line) e in
    none_newer number lines (falling_weaker (number_of line) number lines order falling)

pub newer_are_first : (bound number : ℕ) (lines : List BanLine) → AreFalling bound lines → filter (is_newer number) lines ≡ take (newer number lines) lines
newer_are_first bound number [] falling = refl
newer_are_first bound number (line ∷ lines) falling =
    first_case number line lines (is_newer number line) refl (newer_are_first (number_of line) number lines falling.1) (λ e. none_behind number line lines e falling.1)

regroup : (open_ newer_ for_ hit : Bool) → (open_ && ((newer_ && for_) && hit)) ≡ (newer_ && (open_ && (for_ && hit)))
regroup true true for_ hit = refl
regroup true false for_ hit = refl
regroup false true for_ hit = refl
regroup false false for_ hit = refl

pub matched_is : (bound number : ℕ) (lines : List BanLine) (object : Object) (request : Option RequestView) → AreFalling bound lines
    → is_matched object request number lines ≡ list_any (is_hit object request) (take (newer number lines) lines)
matched_is bound number lines object request falling =
    any_of_filter (strikes object request) (λ (issued : Issued). nat_lt number issued.number && is_for request issued) (those_open lines)
    ∙ any_of_map (λ (issued : Issued). (nat_lt number issued.number && is_for request issued) && strikes object request issued) (λ (line : BanLine). line.issued) (filter (λ (line : BanLine). not line.completed) lines)
    ∙ any_of_filter (λ (line : BanLine). (nat_lt number line.issued.number && is_for request line.issued) && strikes object request line.issued) (λ (line : BanLine). not line.completed) lines
    ∙ any_on (λ (line : BanLine). not line.completed && ((nat_lt number line.issued.number && is_for request line.issued) && strikes object request line.issued))
    (λ (line : BanLine). is_newer number line && is_hit object request line) lines
    (each _ (λ line. regroup (not line.completed) (nat_lt number line.issued.number) (is_for request line.issued) (strikes object request line.issued)) lines)
    ∙ sym (any_of_filter (is_hit object request) (is_newer number) lines)
    ∙ ap (list_any (is_hit object request)) (newer_are_first bound number lines falling)

-- ---- one line after another

or_none : (b : Bool) → (b || false) ≡ b
or_none true = refl
or_none false = refl

next_case : {X : Type 0} (test : X → Bool) (xs : List X) (at : ℕ) (b : Bool) → (list_any test (take at xs) ≡ false → list_any test (take (suc at) xs) ≡ option_map_or test (slice_get xs at) false)
    → (b || list_any test (take at xs)) ≡ false → (b || list_any test (take (suc at) xs)) ≡ option_map_or test (slice_get xs at) false
next_case test xs at true rest none = absurd (false≢true (sym none))
next_case test xs at false rest none = rest none

-- where none of the first passes, one of the first and the next does where the next does
pub any_next : {X : Type 0} (test : X → Bool) (xs : List X) (at : ℕ) → list_any test (take at xs) ≡ false → list_any test (take (suc at) xs) ≡ option_map_or test (slice_get xs at) false
any_next test [] zero none = refl
any_next test [] (suc at) none = refl
any_next test (x ∷ xs) zero none = or_none (test x)
any_next test (x ∷ xs) (suc at) none = next_case test xs at (test x) (any_next test xs at) none

-- the same at one more
pub any_one_more : {X : Type 0} (test : X → Bool) (xs : List X) (at : ℕ) → list_any test (take at xs) ≡ false → list_any test (take (at + 1) xs) ≡ option_map_or test (slice_get xs at) false
any_one_more test xs at none = rw add-one (any_next test xs at none)

longer_case : (b more longer : Bool) → (more ≡ true → longer ≡ true) → (b || more) ≡ true → (b || longer) ≡ true
longer_case true more longer step e = refl
longer_case false more longer step e = step e

-- where one of the first passes, one of more does
pub any_longer : {X : Type 0} (test : X → Bool) (xs : List X) (few many : ℕ) → few ≤ many → list_any test (take few xs) ≡ true → list_any test (take many xs) ≡ true
any_longer test [] zero many less e = absurd (false≢true e)
any_longer test [] (suc few) many less e = absurd (false≢true e)
any_longer test (x ∷ xs) zero many less e = absurd (false≢true e)
any_longer test (x ∷ xs) (suc few) zero less e = absurd (omega (arith, less))
any_longer test (x ∷ xs) (suc few) (suc many) less e =
    longer_case (test x) (list_any test (take few xs)) (list_any test (take many xs)) (any_longer test xs few many (omega (arith, less))) e
