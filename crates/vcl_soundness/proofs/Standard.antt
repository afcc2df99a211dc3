-- The functions of the modules `std` and `cookie` have meanings.
use Rattle.std.proofs.Common.{◌≡◌, inl, inr, refl, sym, subst, ℕ, ◌≤◌, length, map, List, [], ◌∷◌, Some, slice_get, arith}
use Rattle.vcl_values.specs.declared.value.Kind.{Kind}
use Rattle.vcl_values.specs.declared.value.Kind.TheVariants as kind
use Rattle.vcl_values.specs.declared.value.Value.{Value}
use Rattle.vcl_values.specs.declared.value.Value.TheVariants as value
use Rattle.vcl_values.specs.Values.{kind_of}
use Rattle.vmod_host.specs.declared.TheConstants.{TOLOWER, TOUPPER, INTEGER, STRLEN, PARSE, SET, GET, ISSET, DELETE, KEEP, FILTER, CLEAN, GET_STRING}
use Rattle.vmod_host.specs.declared.signature.JarUse.{JarUse}
use Rattle.vmod_host.specs.declared.signature.JarUse.TheVariants as jar
use Rattle.vmod_host.specs.Meanings.{IsMeaning}
use Rattle.vmod_host.specs.declared.signature.Stored.{Stored}
use Rattle.vmod_host.specs.Stored.{passed}
use Rattle.vcl_soundness.specs.Laws.{AreMeant, BeginsWithJar, IsRow, IsOfStd, IsOfCookie, IsStandard}
use Rattle.vcl_soundness.proofs.Values.{int-is}

-- what is asked of a function of a tag that is passed and gives values of these types
abbrev Answers : ℕ → List Kind → Kind → Type 0
Answers tag takes gives = (arguments : List Value) → map kind_of arguments ≡ takes → (answer : Value) × IsMeaning tag gives arguments answer

abbrev Row : ℕ → JarUse → List Kind → Kind → Type 0
Row tag use_of_jar takes gives = (length takes ≤ 3) × Answers tag takes gives × BeginsWithJar use_of_jar takes

text-is : (v : Value) → kind_of v ≡ kind.String → (t : _) × (v ≡ value.String t)
text-is (value.String t) e = (t, refl)
text-is (value.Int n) e = absurd (cc)
text-is (value.Duration n) e = absurd (cc)
text-is (value.Bool b) e = absurd (cc)
text-is (value.Ip a) e = absurd (cc)
text-is (value.Backend b) e = absurd (cc)

-- arguments of a text, and of a text and a number
one-text : (P : List Value → Type 0) → ((t : _) → P (value.String t ∷ [])) → (arguments : List Value) → map kind_of arguments ≡ kind.String ∷ [] → P arguments
one-text P h (v ∷ []) e =
    let same : kind_of v ≡ kind.String = cc in
    let t = text-is v same in
    subst (λ (x : Value). P (x ∷ [])) (sym t.1) (h t.0)
one-text P h [] e = absurd (cc)
one-text P h (v ∷ w ∷ more) e = absurd (cc)

text-number : (P : List Value → Type 0) → ((t : _) (n : _) → P (value.String t ∷ value.Int n ∷ [])) → (arguments : List Value) → map kind_of arguments ≡ kind.String ∷ kind.Int ∷ [] → P arguments
text-number P h (v ∷ w ∷ []) e =
    let first : kind_of v ≡ kind.String = cc in
    let second : kind_of w ≡ kind.Int = cc in
    let t = text-is v first in
    let n = int-is w second in
    subst (λ (x : Value). P (x ∷ w ∷ [])) (sym t.1) (subst (λ (x : Value). P (value.String t.0 ∷ x ∷ [])) (sym n.1) (h t.0 n.0))
text-number P h [] e = absurd (cc)
text-number P h (v ∷ []) e = absurd (cc)
text-number P h (v ∷ w ∷ x ∷ more) e = absurd (cc)

two-texts : (P : List Value → Type 0) → ((t u : _) → P (value.String t ∷ value.String u ∷ [])) → (arguments : List Value) → map kind_of arguments ≡ kind.String ∷ kind.String ∷ [] → P arguments
two-texts P h (v ∷ w ∷ []) e =
    let first : kind_of v ≡ kind.String = cc in
    let second : kind_of w ≡ kind.String = cc in
    let t = text-is v first in
    let u = text-is w second in
    subst (λ (x : Value). P (x ∷ w ∷ [])) (sym t.1) (subst (λ (x : Value). P (value.String t.0 ∷ x ∷ [])) (sym u.1) (h t.0 u.0))
two-texts P h [] e = absurd (cc)
two-texts P h (v ∷ []) e = absurd (cc)
two-texts P h (v ∷ w ∷ x ∷ more) e = absurd (cc)

three-texts : (P : List Value → Type 0) → ((t u r : _) → P (value.String t ∷ value.String u ∷ value.String r ∷ [])) → (arguments : List Value)
    → map kind_of arguments ≡ kind.String ∷ kind.String ∷ kind.String ∷ [] → P arguments
three-texts P h (v ∷ w ∷ x ∷ []) e =
    let first : kind_of v ≡ kind.String = cc in
    let second : kind_of w ≡ kind.String = cc in
    let third : kind_of x ≡ kind.String = cc in
    let t = text-is v first in
    let u = text-is w second in
    let r = text-is x third in
    subst (λ (y : Value). P (y ∷ w ∷ x ∷ [])) (sym t.1)
    (subst (λ (y : Value). P (value.String t.0 ∷ y ∷ x ∷ [])) (sym u.1) (subst (λ (y : Value). P (value.String t.0 ∷ value.String u.0 ∷ y ∷ [])) (sym r.1) (h t.0 u.0 r.0)))
three-texts P h [] e = absurd (cc)
three-texts P h (v ∷ []) e = absurd (cc)
three-texts P h (v ∷ w ∷ []) e = absurd (cc)
three-texts P h (v ∷ w ∷ x ∷ y ∷ more) e = absurd (cc)

-- what a function of one, two and three texts answers
of-text : (tag : ℕ) (gives : Kind) → ((t : _) → (answer : Value) × IsMeaning tag gives (value.String t ∷ []) answer) → Answers tag (kind.String ∷ []) gives
of-text tag gives h = one-text (λ l. (answer : Value) × IsMeaning tag gives l answer) h

of-texts : (tag : ℕ) (gives : Kind) → ((t u : _) → (answer : Value) × IsMeaning tag gives (value.String t ∷ value.String u ∷ []) answer) → Answers tag (kind.String ∷ kind.String ∷ []) gives
of-texts tag gives h = two-texts (λ l. (answer : Value) × IsMeaning tag gives l answer) h

tolower-row : Row TOLOWER jar.None (kind.String ∷ []) kind.String
tolower-row = (omega arith, of-text TOLOWER kind.String (λ t. (_, record { means = refl; kind = refl })), tt)

toupper-row : Row TOUPPER jar.None (kind.String ∷ []) kind.String
toupper-row = (omega arith, of-text TOUPPER kind.String (λ t. (_, record { means = refl; kind = refl })), tt)

strlen-row : Row STRLEN jar.None (kind.String ∷ []) kind.Int
strlen-row = (omega arith, of-text STRLEN kind.Int (λ t. (_, record { means = refl; kind = refl })), tt)

integer-row : Row INTEGER jar.None (kind.String ∷ kind.Int ∷ []) kind.Int
integer-row = (omega arith, text-number (λ l. (answer : Value) × IsMeaning INTEGER kind.Int l answer) (λ t n. (_, record { means = refl; kind = refl })), tt)

parse-row : Row PARSE jar.Changes (kind.String ∷ kind.String ∷ []) kind.String
parse-row = (omega arith, of-texts PARSE kind.String (λ t u. (_, record { means = refl; kind = refl })), (_, refl))

set-row : Row SET jar.Changes (kind.String ∷ kind.String ∷ kind.String ∷ []) kind.String
set-row = (omega arith, three-texts (λ l. (answer : Value) × IsMeaning SET kind.String l answer) (λ t u r. (_, record { means = refl; kind = refl })), (_, refl))

get-row : Row GET jar.Asks (kind.String ∷ kind.String ∷ []) kind.String
get-row = (omega arith, of-texts GET kind.String (λ t u. (_, record { means = refl; kind = refl })), (_, refl))

isset-row : Row ISSET jar.Asks (kind.String ∷ kind.String ∷ []) kind.Bool
isset-row = (omega arith, of-texts ISSET kind.Bool (λ t u. (_, record { means = refl; kind = refl })), (_, refl))

delete-row : Row DELETE jar.Changes (kind.String ∷ kind.String ∷ []) kind.String
delete-row = (omega arith, of-texts DELETE kind.String (λ t u. (_, record { means = refl; kind = refl })), (_, refl))

keep-row : Row KEEP jar.Changes (kind.String ∷ kind.String ∷ []) kind.String
keep-row = (omega arith, of-texts KEEP kind.String (λ t u. (_, record { means = refl; kind = refl })), (_, refl))

filter-row : Row FILTER jar.Changes (kind.String ∷ kind.String ∷ []) kind.String
filter-row = (omega arith, of-texts FILTER kind.String (λ t u. (_, record { means = refl; kind = refl })), (_, refl))

clean-row : Row CLEAN jar.Changes (kind.String ∷ []) kind.String
clean-row = (omega arith, of-text CLEAN kind.String (λ t. (_, record { means = refl; kind = refl })), (_, refl))

get-string-row : Row GET_STRING jar.Asks (kind.String ∷ []) kind.String
get-string-row = (omega arith, of-text GET_STRING kind.String (λ t. (_, record { means = refl; kind = refl })), (_, refl))

as-row : (tag : ℕ) (u : JarUse) (wanted : List Kind) (gives : Kind) → Row tag u (passed u wanted) gives → (entry : Stored) → IsRow tag u wanted gives entry
    → Row entry.tag entry.signature.jar entry.signature.takes entry.signature.gives
as-row tag u wanted gives h entry is =
    subst (λ (t : ℕ). Row t entry.signature.jar entry.signature.takes entry.signature.gives) (sym is.tag)
    (subst (λ (j : JarUse). Row tag j entry.signature.takes entry.signature.gives) (sym is.jar)
    (subst (λ (k : List Kind). Row tag u k entry.signature.gives) (sym is.takes) (subst (λ (g : Kind). Row tag u (passed u wanted) g) (sym is.gives) h)))

abbrev RowOf : Stored → Type 0
RowOf entry = Row entry.tag entry.signature.jar entry.signature.takes entry.signature.gives

std-row : (entry : Stored) → IsOfStd entry → RowOf entry
std-row entry (inl is) = as-row TOLOWER jar.None (kind.String ∷ []) kind.String tolower-row entry is
std-row entry (inr (inl is)) = as-row TOUPPER jar.None (kind.String ∷ []) kind.String toupper-row entry is
std-row entry (inr (inr (inl is))) = as-row INTEGER jar.None (kind.String ∷ kind.Int ∷ []) kind.Int integer-row entry is
std-row entry (inr (inr (inr is))) = as-row STRLEN jar.None (kind.String ∷ []) kind.Int strlen-row entry is

cookie-row : (entry : Stored) → IsOfCookie entry → RowOf entry
cookie-row entry (inl is) = as-row PARSE jar.Changes (kind.String ∷ []) kind.String parse-row entry is
cookie-row entry (inr (inl is)) = as-row SET jar.Changes (kind.String ∷ kind.String ∷ []) kind.String set-row entry is
cookie-row entry (inr (inr (inl is))) = as-row GET jar.Asks (kind.String ∷ []) kind.String get-row entry is
cookie-row entry (inr (inr (inr (inl is)))) = as-row ISSET jar.Asks (kind.String ∷ []) kind.Bool isset-row entry is
cookie-row entry (inr (inr (inr (inr (inl is))))) = as-row DELETE jar.Changes (kind.String ∷ []) kind.String delete-row entry is
cookie-row entry (inr (inr (inr (inr (inr (inl is)))))) = as-row KEEP jar.Changes (kind.String ∷ []) kind.String keep-row entry is
cookie-row entry (inr (inr (inr (inr (inr (inr (inl is))))))) = as-row FILTER jar.Changes (kind.String ∷ []) kind.String filter-row entry is
cookie-row entry (inr (inr (inr (inr (inr (inr (inr (inl is)))))))) = as-row CLEAN jar.Changes [] kind.String clean-row entry is
cookie-row entry (inr (inr (inr (inr (inr (inr (inr (inr is)))))))) = as-row GET_STRING jar.Asks [] kind.String get-string-row entry is

standard-row : (entry : Stored) → IsStandard entry → RowOf entry
standard-row entry (inl is) = std-row entry is
standard-row entry (inr is) = cookie-row entry is

pub standard-meant : (stored : List Stored) → ((k : ℕ) (entry : Stored) → slice_get stored k ≡ Some entry → IsStandard entry) → AreMeant stored
standard-meant stored h k entry e = standard-row entry (h k entry e)
