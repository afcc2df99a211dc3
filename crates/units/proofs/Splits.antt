-- Durations: how their text splits, and that it does so in one way.
use Rattle.std.proofs.Common.{◌≡◌, ℕ, ◌+◌, ◌*◌, ◌<◌, ◌≤◌, ◌/◌, ◌^◌, List, [], ◌∷◌, ◌++◌, length, sym, ap, ◌∙◌, subst, refl, arith, eqb, false}
use Rattle.std.specs.Prelude.{Some, None, ◌≢◌}
use Rattle.std.specs.Char.{digit_value}
use Rattle.std.specs.Str.Parse.{digits_value, IsNumeral, AllDigits}
use Rattle.std.proofs.lemmas.Option.{same_Some, none-some}
use Rattle.std.proofs.lemmas.Str.Parse.{digit_from_value}
use Rattle.std.proofs.lemmas.Bool.Decides.{nat_tests}
use native.Mathlib.Decide.{dec_le}
use Rattle.units.specs.Durations.{IsDuration, IsSplit, Stops, HasNoPoint, unit_millis, pointed}

-- digits end in one place
pub digits_end : (a b x y : List ℕ) → AllDigits 10 a → AllDigits 10 b → Stops x → Stops y → a ++ x ≡ b ++ y → (a ≡ b) × (x ≡ y)
digits_end [] [] x y p q s t e = (refl, e)
digits_end [] (c ∷ b) x y p q s t e =
    let at : List ℕ → Type 0 = λ r. Stops r in
    let k : 10 ≤ digit_value c = subst at e s in
    absurd (omega (arith, q.0))
digits_end (c ∷ a) [] x y p q s t e =
    let at : List ℕ → Type 0 = λ r. Stops r in
    let k : 10 ≤ digit_value c = subst at (sym e) t in
    absurd (omega (arith, p.0))
digits_end (c ∷ a) (d ∷ b) x y p q s t e =
    let tails : a ++ x ≡ b ++ y = cc in
    let heads : c ≡ d = cc in
    let r = digits_end a b x y p.1 q.1 s t tails in
    let r0 = r.0 in
    (cc, r.1)

-- a unit begins with no digit and no point
later_letter : (c letter : ℕ) → c < 58 → 58 ≤ letter → eqb c letter ≡ false
later_letter c letter small large = grind (arith, nat_tests)

unit_first : (c : ℕ) (cs : List ℕ) (each : ℕ) → c < 58 → unit_millis (c ∷ cs) ≡ Some each → ⊥
unit_first c cs each small e =
    let m = later_letter c 109 small (omega arith) in
    let s = later_letter c 115 small (omega arith) in
    let h = later_letter c 104 small (omega arith) in
    let d = later_letter c 100 small (omega arith) in
    let w = later_letter c 119 small (omega arith) in
    let y = later_letter c 121 small (omega arith) in
    let none : unit_millis (c ∷ cs) ≡ None = rw (m, s, h, d, w, y) refl in
    none-some each (sym none ∙ e)

unit_stops : (unit : List ℕ) (each : ℕ) → unit_millis unit ≡ Some each → Stops unit
unit_stops [] each e = tt
unit_stops (c ∷ cs) each e =
    elim (dec_le 10 (digit_value c)) [ yes h ↦ h | no h ↦ absurd (unit_first c cs each (omega (arith, digit_from_value c (omega arith))) e) ]

unit_no_point : (unit : List ℕ) (each : ℕ) → unit_millis unit ≡ Some each → HasNoPoint unit
unit_no_point [] each e = tt
unit_no_point (c ∷ cs) each e = λ k. unit_first c cs each (omega arith) e

-- a point and a fraction go before a unit, or nothing does
pointed_stops : (fraction unit : List ℕ) → Stops unit → Stops (pointed fraction ++ unit)
pointed_stops [] unit s = s
pointed_stops (d ∷ ds) unit s = omega arith

fractions_same : (f g u v : List ℕ) → AllDigits 10 f → AllDigits 10 g → Stops u → Stops v → (f ≡ [] → HasNoPoint u) → (g ≡ [] → HasNoPoint v) → pointed f ++ u ≡ pointed g ++ v → (f ≡ g) × (u ≡ v)
fractions_same [] [] u v p q s t m n e = (refl, e)
fractions_same [] (d ∷ g) u v p q s t m n e =
    let at : List ℕ → Type 0 = λ r. HasNoPoint r in
    let k : 46 ≢ 46 = subst at e (m refl) in
    absurd (k refl)
fractions_same (d ∷ f) [] u v p q s t m n e =
    let at : List ℕ → Type 0 = λ r. HasNoPoint r in
    let k : 46 ≢ 46 = subst at (sym e) (n refl) in
    absurd (k refl)
fractions_same (d ∷ f) (h ∷ g) u v p q s t m n e =
    let tails : (d ∷ f) ++ u ≡ (h ∷ g) ++ v = cc in
    digits_end (d ∷ f) (h ∷ g) u v p q s t tails

pub split_same : (bytes w f u x g v : List ℕ) → IsSplit bytes w f u → IsSplit bytes x g v → (w ≡ x) × ((f ≡ g) × (u ≡ v))
split_same bytes w f u x g v a b =
    let e = digits_end w x (pointed f ++ u) (pointed g ++ v) a.whole_digits.1 b.whole_digits.1 (pointed_stops f u a.stops) (pointed_stops g v b.stops) (sym a.spelled ∙ b.spelled) in
    (e.0, fractions_same f g u v a.fraction_digits.0 b.fraction_digits.0 a.stops b.stops a.no_point b.no_point e.1)

pub split_of : (bytes : List ℕ) (n : ℕ) → (d : IsDuration bytes n) → IsSplit bytes d.whole d.fraction d.unit
split_of bytes n d = record { spelled = d.spelled; whole_digits = d.whole_digits; fraction_digits = d.fraction_digits; stops = unit_stops d.unit d.each d.of_unit; no_point = λ _. unit_no_point d.unit d.each d.of_unit }

pub fraction_small : (ds : List ℕ) → AllDigits 10 ds → length ds ≤ 3 → digits_value 10 ds < 1000
fraction_small [] d s = omega arith
fraction_small (a ∷ []) d s = omega arith
fraction_small (a ∷ b ∷ []) d s = omega arith
fraction_small (a ∷ b ∷ c ∷ []) d s = omega arith
fraction_small (a ∷ b ∷ c ∷ e ∷ ds) d s = omega arith

none_first : (whole more rest : List ℕ) → IsNumeral 10 whole → whole ++ more ≡ rest → Stops rest → ⊥
none_first [] more rest k e s = omega (arith, k.0)
none_first (c ∷ cs) more rest k e s =
    let at : List ℕ → Type 0 = λ r. Stops r in
    let stops : 10 ≤ digit_value c = subst at (sym e) s in
    omega (arith, k.1.0)

-- the whole bytes have no reading where their digits are none
pub no_whole : (bytes rest : List ℕ) (n : ℕ) → bytes ≡ rest → Stops rest → IsDuration bytes n → ⊥
no_whole bytes rest n e s d = none_first d.whole (pointed d.fraction ++ d.unit) rest d.whole_digits (sym d.spelled ∙ e) s

-- what is behind the whole digits is the point, the fraction and the unit
pub behind_whole : (bytes whole rest : List ℕ) (n : ℕ) → bytes ≡ whole ++ rest → AllDigits 10 whole → Stops rest → (d : IsDuration bytes n) → pointed d.fraction ++ d.unit ≡ rest
behind_whole bytes whole rest n e a s d =
    let k = split_of bytes n d in
    (digits_end d.whole whole (pointed d.fraction ++ d.unit) rest d.whole_digits.1 a (pointed_stops d.fraction d.unit k.stops) s (sym d.spelled ∙ e)).1

-- behind a point stands the fraction
behind_point : (fraction unit behind digits more : List ℕ) (each : ℕ) → unit_millis unit ≡ Some each → AllDigits 10 fraction → length fraction ≤ 3 → pointed fraction ++ unit ≡ 46 ∷ behind → behind ≡ digits ++ more → AllDigits 10 digits → Stops more → (0 < length digits) × (length digits ≤ 3)
behind_point [] unit behind digits more each u a short e f d s =
    let at : List ℕ → Type 0 = λ r. HasNoPoint r in
    let k : 46 ≢ 46 = subst at e (unit_no_point unit each u) in
    absurd (k refl)
behind_point (x ∷ fraction) unit behind digits more each u a short e f d s =
    let tails : (x ∷ fraction) ++ unit ≡ behind = cc in
    let same = digits_end (x ∷ fraction) digits unit more a d (unit_stops unit each u) s (tails ∙ f) in
    let n = ap length same.0 in
    (omega arith, omega arith)

pub bad_fraction : (bytes whole rest behind digits more : List ℕ) (n : ℕ) → bytes ≡ whole ++ rest → AllDigits 10 whole → Stops rest → rest ≡ 46 ∷ behind → behind ≡ digits ++ more → AllDigits 10 digits → Stops more → IsDuration bytes n → (0 < length digits) × (length digits ≤ 3)
bad_fraction bytes whole rest behind digits more n e a s p f d t k =
    behind_point k.fraction k.unit behind digits more k.each k.of_unit k.fraction_digits.0 k.fraction_digits.1 (behind_whole bytes whole rest n e a s k ∙ p) f d t

-- a duration of parts that are known
pub duration_of : (bytes whole fraction unit : List ℕ) (each : ℕ) → IsSplit bytes whole fraction unit → unit_millis unit ≡ Some each → digits_value 10 whole * each + (digits_value 10 fraction * each) / 10 ^ length fraction ≤ 10000000000000 → IsDuration bytes (digits_value 10 whole * each + (digits_value 10 fraction * each) / 10 ^ length fraction)
duration_of bytes whole fraction unit each s u r = record { whole = whole; fraction = fraction; unit = unit; each = each; spelled = s.spelled; whole_digits = s.whole_digits; fraction_digits = s.fraction_digits; of_unit = u; value = refl; range = r }

pub unit_known : (bytes whole fraction unit : List ℕ) (n : ℕ) → IsSplit bytes whole fraction unit → (d : IsDuration bytes n) → unit_millis unit ≡ Some d.each
unit_known bytes whole fraction unit n s d =
    let same = split_same bytes whole fraction unit d.whole d.fraction d.unit s (split_of bytes n d) in
    ap unit_millis same.1.1 ∙ d.of_unit

pub value_known : (bytes whole fraction unit : List ℕ) (each n : ℕ) → IsSplit bytes whole fraction unit → unit_millis unit ≡ Some each → IsDuration bytes n → n ≡ digits_value 10 whole * each + (digits_value 10 fraction * each) / 10 ^ length fraction
value_known bytes whole fraction unit each n s u d =
    let same = split_same bytes whole fraction unit d.whole d.fraction d.unit s (split_of bytes n d) in
    let w = same.0 in
    let f = same.1.0 in
    let e : each ≡ d.each = same_Some each d.each (sym u ∙ unit_known bytes whole fraction unit n s d) in
    d.value ∙ (ap (λ x. digits_value 10 x * d.each + (digits_value 10 d.fraction * d.each) / 10 ^ length d.fraction) (sym w) ∙ (ap (λ x. digits_value 10 whole * d.each + (digits_value 10 x * d.each) / 10 ^ length x) (sym f) ∙ ap (λ x. digits_value 10 whole * x + (digits_value 10 fraction * x) / 10 ^ length fraction) (sym e)))

pub duration_same : (bytes : List ℕ) (m n : ℕ) → IsDuration bytes m → IsDuration bytes n → m ≡ n
duration_same bytes m n d e =
    let s = split_of bytes m d in
    d.value ∙ sym (value_known bytes d.whole d.fraction d.unit d.each n s d.of_unit e)
