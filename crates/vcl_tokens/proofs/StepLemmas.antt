-- What is read byte by byte behind a letter, a digit, a `"` and the marks of a comment on one line.
use Rattle.std.proofs.Common.{◌≡◌, ℕ, ◌≤◌, ◌+◌, List, [], ◌∷◌, ◌++◌, length, Bool, true, false, Some, None, refl, sym, ◌∙◌, subst, ap, inl, inr, ◌⊎◌, arith, append_assoc, append-nil, length-append, eqb-true}
use Rattle.std.proofs.lemmas.Bool.Decides.{nat_tests}
use Rattle.std.specs.Prelude.{◌==◌, ◌&&◌, ◌||◌, not, if◌then◌else◌}
use Rattle.std.specs.List.{list_all}
use Rattle.std.specs.Option.{option_and_then}
use Rattle.std.specs.Char.{is_ascii_digit, is_ascii_alphabetic}
use Rattle.std.proofs.lemmas.List.Folds.{list_all-append}
use Rattle.vcl_tokens.specs.declared.spelling.Form.{Form}
use Rattle.vcl_tokens.specs.declared.spelling.Form.TheVariants as form
use Rattle.vcl_tokens.specs.declared.spelling.State.{State}
use Rattle.vcl_tokens.specs.declared.spelling.State.TheVariants as state
use Rattle.vcl_tokens.specs.Spelling.{is_blank, is_name_byte, is_line_byte, is_quoted_byte, IsUnit, milliseconds, seconds, minutes, hours, days, weeks, years, IsDigits, IsDecimal, IsTimed, IsSpelled}
use Rattle.vcl_tokens.specs.Steps.{form_at, next_state, first_state, unit_state, form_behind, form_of}
use Rattle.vcl_tokens.proofs.MarkLemmas.{whole_behind}

-- a test that is true of a list is true of its first and its others
pub first_holds : (test : ℕ → Bool) (b : ℕ) (bytes : List ℕ) → list_all test (b ∷ bytes) ≡ true → (test b ≡ true) × (list_all test bytes ≡ true)
first_holds test b bytes h = go (test b) refl h
  where
    go : (x : Bool) → test b ≡ x → (x && list_all test bytes) ≡ true → (test b ≡ true) × (list_all test bytes ≡ true)
    go true e h = (e, h)
    go false e h = absurd cc

both_hold : (x y : Bool) → x ≡ true → y ≡ true → (x && y) ≡ true
both_hold x y e d = rw (e, d) refl

-- one byte more at the end
pub one_more : (test : ℕ → Bool) (bytes : List ℕ) (b : ℕ) → list_all test bytes ≡ true → test b ≡ true → list_all test (bytes ++ b ∷ []) ≡ true
one_more test bytes b h e = list_all-append test bytes (b ∷ []) ∙ both_hold (list_all test bytes) (test b && true) h (both_hold (test b) true e refl)

-- a state that a test keeps
pub kept_on : (s : State) (f : Form) (test : ℕ → Bool) → form_at s ≡ Some f → ((b : ℕ) → next_state s b ≡ (if test b then Some s else None)) →
    (bytes : List ℕ) → form_behind s bytes ≡ (if list_all test bytes then Some f else None)
kept_on s f test ends next [] = ends
kept_on s f test ends next (b ∷ bytes) = ap (option_and_then (λ u. form_behind u bytes)) (next b) ∙ go (kept_on s f test ends next bytes) (test b)
  where
    go : form_behind s bytes ≡ (if list_all test bytes then Some f else None) → (x : Bool) →
        option_and_then (λ u. form_behind u bytes) (if x then Some s else None) ≡ (if x && list_all test bytes then Some f else None)
    go later true = later
    go later false = refl

pub names : (bytes : List ℕ) → form_behind state.Name bytes ≡ (if list_all is_name_byte bytes then Some form.Name else None)
names bytes = kept_on state.Name form.Name is_name_byte refl (λ b. refl) bytes

pub lines : (bytes : List ℕ) → form_behind state.LineComment bytes ≡ (if list_all is_line_byte bytes then Some form.Comment else None)
lines bytes = kept_on state.LineComment form.Comment is_line_byte refl (λ b. turned (b == 10)) bytes
  where
    turned : (x : Bool) → (if x then None else Some state.LineComment) ≡ (if not x then Some state.LineComment else None)
    turned true = refl
    turned false = refl

-- what holds where a test chooses a form
pub chosen : (x : Bool) (f g : Form) → (if x then Some f else None) ≡ Some g → (x ≡ true) × (g ≡ f)
chosen true f g e = (refl, cc)
chosen false f g e = absurd cc

-- a string on one line
abbrev pub IsLine : List ℕ → Form → Type 0
IsLine bytes f = ((f ≡ form.Unended) × (list_all is_quoted_byte bytes ≡ true)) ⊎ ((f ≡ form.Quoted) × ((body : List ℕ) × (bytes ≡ body ++ 34 ∷ []) × (list_all is_quoted_byte body ≡ true)))

pub line_is : (bytes : List ℕ) (f : Form) → form_behind state.Line bytes ≡ Some f → IsLine bytes f
line_is [] f e = inl (cc, refl)
line_is (b ∷ bytes) f e = go (line_is bytes f) (b == 34) refl (b == 10) refl e
  where
    longer : IsLine bytes f → is_quoted_byte b ≡ true → IsLine (b ∷ bytes) f
    longer (inl h) q = inl (h.0, both_hold (is_quoted_byte b) (list_all is_quoted_byte bytes) q h.1)
    longer (inr h) q = inr (h.0, (b ∷ h.1.0, ap (λ rest. b ∷ rest) h.1.1, both_hold (is_quoted_byte b) (list_all is_quoted_byte h.1.0) q h.1.2))

    go : (form_behind state.Line bytes ≡ Some f → IsLine bytes f) → (x : Bool) → (b == 34) ≡ x → (y : Bool) → (b == 10) ≡ y →
        option_and_then (λ u. form_behind u bytes) (if x then Some (state.Whole form.Quoted) else (if y then None else Some state.Line)) ≡ Some f → IsLine (b ∷ bytes) f
    go later true d y k e = let w = whole_behind form.Quoted bytes f e in inr (w.1, ([], rw (w.0, eqb-true b 34 d) refl, refl))
    go later false d true k e = absurd cc
    go later false d false k e = longer (later e) (rw (d, k) refl)

pub line_unended : (bytes : List ℕ) → list_all is_quoted_byte bytes ≡ true → form_behind state.Line bytes ≡ Some form.Unended
line_unended [] h = refl
line_unended (b ∷ bytes) h = let k = first_holds is_quoted_byte b bytes h in go (line_unended bytes (k.1)) (b == 34) (b == 10) (k.0)
  where
    go : form_behind state.Line bytes ≡ Some form.Unended → (x y : Bool) → not (x || y) ≡ true →
        option_and_then (λ u. form_behind u bytes) (if x then Some (state.Whole form.Quoted) else (if y then None else Some state.Line)) ≡ Some form.Unended
    go later true y q = absurd cc
    go later false true q = absurd cc
    go later false false q = later

pub line_ended : (body : List ℕ) → list_all is_quoted_byte body ≡ true → form_behind state.Line (body ++ 34 ∷ []) ≡ Some form.Quoted
line_ended [] h = refl
line_ended (b ∷ body) h = let k = first_holds is_quoted_byte b body h in go (line_ended body (k.1)) (b == 34) (b == 10) (k.0)
  where
    go : form_behind state.Line (body ++ 34 ∷ []) ≡ Some form.Quoted → (x y : Bool) → not (x || y) ≡ true →
        option_and_then (λ u. form_behind u (body ++ 34 ∷ [])) (if x then Some (state.Whole form.Quoted) else (if y then None else Some state.Line)) ≡ Some form.Quoted
    go later true y q = absurd cc
    go later false true q = absurd cc
    go later false false q = later

-- numbers

-- behind a number, the rest is nothing or a unit
pub unit_on : {bytes : List ℕ} → IsUnit bytes → (b : ℕ) (rest : List ℕ) → bytes ≡ b ∷ rest → (is_ascii_digit b ≡ false) × ((b == 46) ≡ false) × (option_and_then (λ u. form_behind u rest) (unit_state b) ≡ Some form.Duration)
unit_on milliseconds b rest e = let d : 109 ≡ b = cc in let r : 115 ∷ [] ≡ rest = cc in rw (← d, ← r) (refl, refl, refl)
unit_on seconds b rest e = let d : 115 ≡ b = cc in let r : [] ≡ rest = cc in rw (← d, ← r) (refl, refl, refl)
unit_on minutes b rest e = let d : 109 ≡ b = cc in let r : [] ≡ rest = cc in rw (← d, ← r) (refl, refl, refl)
unit_on hours b rest e = let d : 104 ≡ b = cc in let r : [] ≡ rest = cc in rw (← d, ← r) (refl, refl, refl)
unit_on days b rest e = let d : 100 ≡ b = cc in let r : [] ≡ rest = cc in rw (← d, ← r) (refl, refl, refl)
unit_on weeks b rest e = let d : 119 ≡ b = cc in let r : [] ≡ rest = cc in rw (← d, ← r) (refl, refl, refl)
unit_on years b rest e = let d : 121 ≡ b = cc in let r : [] ≡ rest = cc in rw (← d, ← r) (refl, refl, refl)

pub unit_is : (b : ℕ) (rest : List ℕ) (f : Form) → option_and_then (λ u. form_behind u rest) (unit_state b) ≡ Some f → (f ≡ form.Duration) × IsUnit (b ∷ rest)
unit_is b rest f e = minute (b == 109) refl e
  where
    is : (k : ℕ) → (b == k) ≡ true → IsUnit (k ∷ []) → form_behind (state.Whole form.Duration) rest ≡ Some f → (f ≡ form.Duration) × IsUnit (b ∷ rest)
    is k d u e = let w = whole_behind form.Duration rest f e in (w.1, rw (w.0, eqb-true b k d) u)

    other : (v w x y z : Bool) → (b == 115) ≡ v → (b == 104) ≡ w → (b == 100) ≡ x → (b == 119) ≡ y → (b == 121) ≡ z →
        option_and_then (λ u. form_behind u rest) (if v || w || x || y || z then Some (state.Whole form.Duration) else None) ≡ Some f → (f ≡ form.Duration) × IsUnit (b ∷ rest)
    other true w x y z d _ _ _ _ e = is 115 d seconds e
    other false true x y z _ d _ _ _ e = is 104 d hours e
    other false false true y z _ _ d _ _ e = is 100 d days e
    other false false false true z _ _ _ d _ e = is 119 d weeks e
    other false false false false true _ _ _ _ d e = is 121 d years e
    other false false false false false _ _ _ _ _ e = absurd cc

    behind : (rest : List ℕ) → form_behind state.Minutes rest ≡ Some f → (f ≡ form.Duration) × IsUnit (109 ∷ rest)
    behind [] e = (cc, minutes)
    behind (c ∷ later) e = second (c == 115) refl e
      where
        second : (x : Bool) → (c == 115) ≡ x → option_and_then (λ u. form_behind u later) (if x then Some (state.Whole form.Duration) else None) ≡ Some f → (f ≡ form.Duration) × IsUnit (109 ∷ c ∷ later)
        second true d e = let w = whole_behind form.Duration later f e in (w.1, rw (w.0, eqb-true c 115 d) milliseconds)
        second false d e = absurd cc

    minute : (x : Bool) → (b == 109) ≡ x → option_and_then (λ u. form_behind u rest) (if x then Some state.Minutes else (if b == 115 || b == 104 || b == 100 || b == 119 || b == 121 then Some (state.Whole form.Duration) else None)) ≡ Some f → (f ≡ form.Duration) × IsUnit (b ∷ rest)
    minute true d e = rw (eqb-true b 109 d) (behind rest e)
    minute false d e = other (b == 115) (b == 104) (b == 100) (b == 119) (b == 121) refl refl refl refl refl e

pub no_blank_digit : (b : ℕ) → is_ascii_digit b ≡ true → is_blank b ≡ false
no_blank_digit b h = grind (arith, nat_tests)

pub no_letter_digit : (b : ℕ) → is_ascii_digit b ≡ true → is_ascii_alphabetic b ≡ false
no_letter_digit b h = grind (arith, nat_tests)

pub no_blank_letter : (b : ℕ) → is_ascii_alphabetic b ≡ true → is_blank b ≡ false
no_blank_letter b h = grind (arith, nat_tests)

pub no_point_digit : (b : ℕ) → is_ascii_digit b ≡ true → (b == 46) ≡ false
no_point_digit b h = grind (arith, nat_tests)

pub starts_number : (b : ℕ) → is_ascii_digit b ≡ true → first_state b ≡ Some state.Digits
starts_number b h = rw (no_blank_digit b h, no_letter_digit b h, h) refl

pub starts_name : (b : ℕ) → is_ascii_alphabetic b ≡ true → first_state b ≡ Some state.Name
starts_name b h = rw (no_blank_letter b h, h) refl

digits_on : (digits rest : List ℕ) → list_all is_ascii_digit digits ≡ true → form_behind state.Digits (digits ++ rest) ≡ form_behind state.Digits rest
digits_on [] rest h = refl
digits_on (b ∷ digits) rest h = let k = first_holds is_ascii_digit b digits h in rw (no_point_digit b k.0, k.0) (digits_on digits rest k.1)

-- a number's whole digits
pub number_on : (whole rest : List ℕ) → IsDigits whole → form_of (whole ++ rest) ≡ form_behind state.Digits rest
number_on [] rest h = absurd (omega arith)
number_on (b ∷ digits) rest h =
    let k = first_holds is_ascii_digit b digits h.1 in
    ap (option_and_then (λ u. form_behind u (digits ++ rest))) (starts_number b k.0) ∙ digits_on digits rest k.1

-- a state behind some decimals
record IsDecimals (s : State) : Type 0 where
  ends : form_at s ≡ Some form.Decimal
  units : (b : ℕ) → is_ascii_digit b ≡ false → next_state s b ≡ unit_state b

decimals_on : (fraction rest : List ℕ) → IsDigits fraction → length fraction ≤ 3 → (s : State) × IsDecimals s × (form_behind state.Point (fraction ++ rest) ≡ form_behind s rest)
decimals_on [] rest h few = absurd (omega arith)
decimals_on (a ∷ []) rest h few =
    let k = first_holds is_ascii_digit a [] h.1 in
    (state.OneDecimal, record { ends = refl; units = λ b d. rw d refl }, rw (k.0) refl)
decimals_on (a ∷ b ∷ []) rest h few =
    let k = first_holds is_ascii_digit a (b ∷ []) h.1 in
    let l = first_holds is_ascii_digit b [] k.1 in
    (state.TwoDecimals, record { ends = refl; units = λ b d. rw d refl }, rw (k.0, l.0) refl)
decimals_on (a ∷ b ∷ c ∷ []) rest h few =
    let k = first_holds is_ascii_digit a (b ∷ c ∷ []) h.1 in
    let l = first_holds is_ascii_digit b (c ∷ []) k.1 in
    let m = first_holds is_ascii_digit c [] l.1 in
    (state.ThreeDecimals, record { ends = refl; units = λ b d. refl }, rw (k.0, l.0, m.0) refl)
decimals_on (a ∷ b ∷ c ∷ d ∷ more) rest h few = absurd (omega arith)

pub integer_on : (bytes : List ℕ) → IsDigits bytes → form_of bytes ≡ Some form.Integer
integer_on bytes h = ap form_of (sym (append-nil bytes)) ∙ number_on bytes [] h

pub decimal_on : (bytes : List ℕ) → IsDecimal bytes → form_of bytes ≡ Some form.Decimal
decimal_on bytes d =
    let on = decimals_on d.fraction [] d.decimals d.few in
    ap form_of d.parts ∙ number_on d.whole (46 ∷ d.fraction) d.digits ∙ ap (form_behind state.Point) (sym (append-nil d.fraction)) ∙ on.2 ∙ on.1.ends

unit_behind : (s : State) (unit : List ℕ) → IsUnit unit → ((b : ℕ) → is_ascii_digit b ≡ false → (b == 46) ≡ false → next_state s b ≡ unit_state b) → form_behind s unit ≡ Some form.Duration
unit_behind s [] known units = absurd (none known refl)
  where
    none : {bytes : List ℕ} → IsUnit bytes → bytes ≡ [] → ⊥
    none milliseconds e = cc
    none seconds e = cc
    none minutes e = cc
    none hours e = cc
    none days e = cc
    none weeks e = cc
    none years e = cc
unit_behind s (b ∷ rest) known units =
    let on = unit_on known b rest refl in
    ap (option_and_then (λ u. form_behind u rest)) (units b on.0 on.1) ∙ on.2

pub timed_on : (bytes : List ℕ) → IsTimed bytes → form_of bytes ≡ Some form.Duration
timed_on bytes t = ap form_of t.parts ∙ go t.spelled
  where
    go : IsDigits t.number ⊎ IsDecimal t.number → form_of (t.number ++ t.unit) ≡ Some form.Duration
    go (inl h) = number_on t.number t.unit h ∙ unit_behind state.Digits t.unit t.known (λ b d p. rw (p, d) refl)
    go (inr d) =
        let on = decimals_on d.fraction t.unit d.decimals d.few in
        let front : t.number ++ t.unit ≡ d.whole ++ (46 ∷ (d.fraction ++ t.unit)) = rw (d.parts) (append_assoc d.whole (46 ∷ d.fraction) t.unit) in
        ap form_of front ∙ number_on d.whole (46 ∷ (d.fraction ++ t.unit)) d.digits ∙ on.2 ∙ unit_behind on.0 t.unit t.known (λ b e p. on.1.units b e)

-- and back
decimal_of : (whole fraction : List ℕ) → IsDigits whole → IsDigits fraction → length fraction ≤ 3 → IsDecimal (whole ++ 46 ∷ fraction)
decimal_of whole fraction h k few = record { whole = whole; fraction = fraction; parts = refl; digits = h; decimals = k; few = few }

digits_more : (digits : List ℕ) (b : ℕ) → IsDigits digits → is_ascii_digit b ≡ true → IsDigits (digits ++ b ∷ [])
digits_more digits b h d = let long = length-append digits (b ∷ []) in (omega arith, one_more is_ascii_digit digits b h.1 d)

-- behind decimals, the end or a unit
abbrev Decimals : List ℕ → List ℕ → Type 0
Decimals whole fraction = IsDigits whole × IsDigits fraction × (length fraction ≤ 3)

decimals_end : (whole fraction : List ℕ) (f : Form) → Decimals whole fraction → Some form.Decimal ≡ Some f → IsSpelled f ((whole ++ 46 ∷ fraction) ++ [])
decimals_end whole fraction f h e = let same : form.Decimal ≡ f = cc in rw (append-nil (whole ++ 46 ∷ fraction)) (subst (λ g. IsSpelled g (whole ++ 46 ∷ fraction)) same (decimal_of whole fraction h.0 h.1 h.2))

decimals_unit : (whole fraction : List ℕ) (b : ℕ) (rest : List ℕ) (f : Form) → Decimals whole fraction → option_and_then (λ u. form_behind u rest) (unit_state b) ≡ Some f → IsSpelled f ((whole ++ 46 ∷ fraction) ++ b ∷ rest)
decimals_unit whole fraction b rest f h e =
    let u = unit_is b rest f e in
    subst (λ g. IsSpelled g ((whole ++ 46 ∷ fraction) ++ b ∷ rest)) (sym u.0)
    (record { number = whole ++ 46 ∷ fraction; unit = b ∷ rest; parts = refl; spelled = inr (decimal_of whole fraction h.0 h.1 h.2); known = u.1 })

one_decimal_more : (whole fraction : List ℕ) (b : ℕ) (rest : List ℕ) (f : Form) → IsSpelled f ((whole ++ 46 ∷ (fraction ++ b ∷ [])) ++ rest) → IsSpelled f ((whole ++ 46 ∷ fraction) ++ b ∷ rest)
one_decimal_more whole fraction b rest f h =
    let same : (whole ++ 46 ∷ (fraction ++ b ∷ [])) ++ rest ≡ (whole ++ 46 ∷ fraction) ++ b ∷ rest =
    ap (λ x. x ++ rest) (sym (append_assoc whole (46 ∷ fraction) (b ∷ []))) ∙ append_assoc (whole ++ 46 ∷ fraction) (b ∷ []) rest in
    subst (IsSpelled f) same h

three_is : (whole fraction bytes : List ℕ) (f : Form) → Decimals whole fraction → form_behind state.ThreeDecimals bytes ≡ Some f → IsSpelled f ((whole ++ 46 ∷ fraction) ++ bytes)
three_is whole fraction [] f h e = decimals_end whole fraction f h e
three_is whole fraction (b ∷ rest) f h e = decimals_unit whole fraction b rest f h e

two_is : (whole fraction bytes : List ℕ) (f : Form) → Decimals whole fraction → length fraction ≤ 2 → form_behind state.TwoDecimals bytes ≡ Some f → IsSpelled f ((whole ++ 46 ∷ fraction) ++ bytes)
two_is whole fraction [] f h few e = decimals_end whole fraction f h e
two_is whole fraction (b ∷ rest) f h few e = go (is_ascii_digit b) refl e
  where
    go : (x : Bool) → is_ascii_digit b ≡ x → option_and_then (λ u. form_behind u rest) (if x then Some state.ThreeDecimals else unit_state b) ≡ Some f → IsSpelled f ((whole ++ 46 ∷ fraction) ++ b ∷ rest)
    go true d e = let long = length-append fraction (b ∷ []) in one_decimal_more whole fraction b rest f (three_is whole (fraction ++ b ∷ []) rest f (h.0, digits_more fraction b h.1 d, omega arith) e)
    go false d e = decimals_unit whole fraction b rest f h e

one_is : (whole fraction bytes : List ℕ) (f : Form) → Decimals whole fraction → length fraction ≤ 1 → form_behind state.OneDecimal bytes ≡ Some f → IsSpelled f ((whole ++ 46 ∷ fraction) ++ bytes)
one_is whole fraction [] f h few e = decimals_end whole fraction f h e
one_is whole fraction (b ∷ rest) f h few e = go (is_ascii_digit b) refl e
  where
    go : (x : Bool) → is_ascii_digit b ≡ x → option_and_then (λ u. form_behind u rest) (if x then Some state.TwoDecimals else unit_state b) ≡ Some f → IsSpelled f ((whole ++ 46 ∷ fraction) ++ b ∷ rest)
    go true d e = let long = length-append fraction (b ∷ []) in one_decimal_more whole fraction b rest f (two_is whole (fraction ++ b ∷ []) rest f (h.0, digits_more fraction b h.1 d, omega arith) (omega arith) e)
    go false d e = decimals_unit whole fraction b rest f h e

point_is : (whole bytes : List ℕ) (f : Form) → IsDigits whole → form_behind state.Point bytes ≡ Some f → IsSpelled f (whole ++ 46 ∷ bytes)
point_is whole [] f h e = absurd cc
point_is whole (b ∷ rest) f h e = go (is_ascii_digit b) refl e
  where
    go : (x : Bool) → is_ascii_digit b ≡ x → option_and_then (λ u. form_behind u rest) (if x then Some state.OneDecimal else None) ≡ Some f → IsSpelled f (whole ++ 46 ∷ b ∷ rest)
    go true d e =
        let spelled = one_is whole (b ∷ []) rest f (h, (omega arith, both_hold (is_ascii_digit b) true d refl), omega arith) (omega arith) e in
        subst (IsSpelled f) (append_assoc whole (46 ∷ b ∷ []) rest) spelled
    go false d e = absurd cc

pub digits_is : (whole bytes : List ℕ) (f : Form) → IsDigits whole → form_behind state.Digits bytes ≡ Some f → IsSpelled f (whole ++ bytes)
digits_is whole [] f h e = let same : form.Integer ≡ f = cc in rw (append-nil whole) (subst (λ g. IsSpelled g whole) same h)
digits_is whole (b ∷ rest) f h e = go (digits_is (whole ++ b ∷ []) rest f) (b == 46) refl (is_ascii_digit b) refl e
  where
    go : (IsDigits (whole ++ b ∷ []) → form_behind state.Digits rest ≡ Some f → IsSpelled f ((whole ++ b ∷ []) ++ rest)) →
        (x : Bool) → (b == 46) ≡ x → (y : Bool) → is_ascii_digit b ≡ y → option_and_then (λ u. form_behind u rest) (if x then Some state.Point else (if y then Some state.Digits else unit_state b)) ≡ Some f → IsSpelled f (whole ++ b ∷ rest)
    go later true p y d e = rw (eqb-true b 46 p) (point_is whole rest f h e)
    go later false p true d e = subst (IsSpelled f) (append_assoc whole (b ∷ []) rest) (later (digits_more whole b h d) e)
    go later false p false d e =
        let u = unit_is b rest f e in
        subst (λ g. IsSpelled g (whole ++ b ∷ rest)) (sym u.0) (record { number = whole; unit = b ∷ rest; parts = refl; spelled = inl h; known = u.1 })
