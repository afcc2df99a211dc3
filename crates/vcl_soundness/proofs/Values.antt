-- What operators make of values of the types that fit.
use Rattle.std.proofs.Common.{◌≡◌, refl, sym, ap, subst, ℕ, ℤ, ◌+ℤ◌, ◌-ℤ◌, List, length, nat_lt, Bool, true, false, not, Option, Some, None, option_map, option_and_then, Result, Ok, Err, is_some, if◌then◌else◌}
use Rattle.std.specs.Bool.{beq}
use Rattle.std.proofs.lemmas.Option.{none-some, same_Some}
use Rattle.vcl_values.specs.declared.comparisons.Comparison.{Comparison}
use Rattle.vcl_values.specs.declared.comparisons.Comparison.TheVariants as compare
use Rattle.vcl_values.specs.declared.sums.ValueError.{ValueError}
use Rattle.vcl_values.specs.declared.sums.ValueError.TheVariants as errors
use Rattle.vcl_values.specs.declared.value.Kind.{Kind}
use Rattle.vcl_values.specs.declared.value.Kind.TheVariants as kind
use Rattle.vcl_values.specs.declared.value.Value.{Value}
use Rattle.vcl_values.specs.declared.value.Value.TheVariants as value
use Rattle.vcl_values.specs.Values.{kind_of, truth_of}
use Rattle.vcl_values.specs.Operators.{text_value, int_value, duration_value, sum_of, difference_of, compared}
use Rattle.vcl_check.specs.declared.seen.Sort.TheVariants as sort
use Rattle.vcl_check.specs.Kinds.{is_condition, is_ordered, same_kind, adds, sum_kind, difference_kind, accepts}
use Rattle.vcl_context.specs.declared.turn.Answer.{Answer}
use Rattle.vcl_operands.specs.Outs.{On, and_then, made_on}
use Rattle.vcl_operands.specs.Meaning.{Operand, decided_by, decides}
use Rattle.vcl_operands.specs.Values.{ok_of, as_text, truth_value, opposite, ordered, matched, fitted, text, replaced_in, substituted}
use Rattle.vcl_soundness.proofs.Rows.{false-true}
use Rattle.vcl_soundness.proofs.Holds.{Holds, IsOf, Makes, bind-holds, made-holds, IsGiven, map-of}

-- a value of a type
pub int-is : (v : Value) → kind_of v ≡ kind.Int → (n : ℤ) × (v ≡ value.Int n)
int-is (value.Int n) e = (n, refl)
int-is (value.String t) e = absurd (cc)
int-is (value.Duration t) e = absurd (cc)
int-is (value.Bool b) e = absurd (cc)
int-is (value.Ip a) e = absurd (cc)
int-is (value.Backend b) e = absurd (cc)

pub duration-is : (v : Value) → kind_of v ≡ kind.Duration → (n : ℤ) × (v ≡ value.Duration n)
duration-is (value.Duration n) e = (n, refl)
duration-is (value.String t) e = absurd (cc)
duration-is (value.Int t) e = absurd (cc)
duration-is (value.Bool b) e = absurd (cc)
duration-is (value.Ip a) e = absurd (cc)
duration-is (value.Backend b) e = absurd (cc)

-- in a condition
pub truth-is : (v : Value) → is_condition (sort.Value (Some (kind_of v))) ≡ true → (b : Bool) × (truth_of v ≡ Some b)
truth-is (value.String t) h = (is_some t, refl)
truth-is (value.Int n) h = (_, refl)
truth-is (value.Duration n) h = (_, refl)
truth-is (value.Bool b) h = (b, refl)
truth-is (value.Ip a) h = absurd (false-true h)
truth-is (value.Backend None) h = (false, refl)
truth-is (value.Backend (Some b)) h = (_, refl)

pub truth-has : (k : Kind) (v : Value) → IsOf k v → is_condition (sort.Value (Some k)) ≡ true → (b : Bool) × (truth_of v ≡ Some b)
truth-has k v e h = truth-is v (subst (λ (x : Kind). is_condition (sort.Value (Some x)) ≡ true) (sym e) h)

truth-some : (o : Option Bool) (b : Bool) (f : Bool → Bool) → o ≡ Some b → Makes (IsOf kind.Bool) (option_map (λ c. Some (value.Bool (f c))) o)
truth-some (Some c) b f e = refl
truth-some None b f e = absurd (none-some b e)

pub value-some : (k : Kind) (v : Value) → IsOf k v → is_condition (sort.Value (Some k)) ≡ true → Makes (IsOf kind.Bool) (truth_value v)
value-some k v e h = let t = truth-has k v e h in truth-some (truth_of v) t.0 (λ b. b) t.1

pub opposite-some : (k : Kind) (v : Value) → IsOf k v → is_condition (sort.Value (Some k)) ≡ true → Makes (IsOf kind.Bool) (opposite v)
opposite-some k v e h = let t = truth-has k v e h in truth-some (truth_of v) t.0 not t.1

-- `||` and `&&`
pub decides-holds : (decided : Bool) (k l : Kind) → is_condition (sort.Value (Some k)) ≡ true → is_condition (sort.Value (Some l)) ≡ true → (right : Operand)
    → ((s : List Answer) → Holds (IsOf l) (right s)) → (v : Value) → IsOf k v → (s : List Answer) → Holds (IsOf kind.Bool) (decides decided right v s)
decides-holds decided k l c d right h v e s = let t = truth-has k v e c in by-truth (truth_of v) t.0 t.1
  where
    by-side : (b : Bool) → Holds (IsOf kind.Bool) (if b then On (value.Bool decided) s else and_then (right s) (λ w. made_on (truth_value w)))
    by-side true = refl
    by-side false = bind-holds (IsOf l) (IsOf kind.Bool) (right s) (λ w. made_on (truth_value w)) (h s) (λ w f z. made-holds (IsOf kind.Bool) (truth_value w) (value-some l w f d) z)

    by-truth : (o : Option Bool) (b : Bool) → o ≡ Some b → Holds (IsOf kind.Bool) (decided_by decided right o s)
    by-truth (Some left) b e = by-side (beq left decided)
    by-truth None b e = absurd (none-some b e)

-- comparisons of two values of one type
IsBool : Option Bool → Type 0
IsBool o = (b : Bool) × (o ≡ Some b)

equal-is : (v w : Value) → same_kind (kind_of v) (kind_of w) ≡ true → (b : Bool) × (compared compare.Equal v w ≡ Some b)
equal-is (value.String t) (value.String u) h = (_, refl)
equal-is (value.Int n) (value.Int m) h = (_, refl)
equal-is (value.Duration n) (value.Duration m) h = (_, refl)
equal-is (value.Bool n) (value.Bool m) h = (_, refl)
equal-is (value.Ip n) (value.Ip m) h = (_, refl)
equal-is (value.Backend n) (value.Backend m) h = (_, refl)
equal-is (value.String t) _ h = absurd (false-true h)
equal-is (value.Int t) _ h = absurd (false-true h)
equal-is (value.Duration t) _ h = absurd (false-true h)
equal-is (value.Bool t) _ h = absurd (false-true h)
equal-is (value.Ip t) _ h = absurd (false-true h)
equal-is (value.Backend t) _ h = absurd (false-true h)

less-is : (v w : Value) → is_ordered (sort.Value (Some (kind_of v))) ≡ true → same_kind (kind_of v) (kind_of w) ≡ true → (b : Bool) × (compared compare.Less v w ≡ Some b)
less-is (value.Int n) (value.Int m) o h = (_, refl)
less-is (value.Duration n) (value.Duration m) o h = (_, refl)
less-is (value.Int t) _ o h = absurd (false-true h)
less-is (value.Duration t) _ o h = absurd (false-true h)
less-is (value.String t) w o h = absurd (false-true o)
less-is (value.Bool t) w o h = absurd (false-true o)
less-is (value.Ip t) w o h = absurd (false-true o)
less-is (value.Backend t) w o h = absurd (false-true o)

more-is : (v w : Value) → is_ordered (sort.Value (Some (kind_of v))) ≡ true → same_kind (kind_of v) (kind_of w) ≡ true → (b : Bool) × (compared compare.Greater v w ≡ Some b)
more-is (value.Int n) (value.Int m) o h = (_, refl)
more-is (value.Duration n) (value.Duration m) o h = (_, refl)
more-is (value.Int t) _ o h = absurd (false-true h)
more-is (value.Duration t) _ o h = absurd (false-true h)
more-is (value.String t) w o h = absurd (false-true o)
more-is (value.Bool t) w o h = absurd (false-true o)
more-is (value.Ip t) w o h = absurd (false-true o)
more-is (value.Backend t) w o h = absurd (false-true o)

-- what a comparison asks of the types of its sides
abbrev pub Compares : Comparison → Kind → Kind → Type 0
Compares compare.Equal k l = same_kind k l ≡ true
Compares compare.NotEqual k l = same_kind k l ≡ true
Compares _ k l = (is_ordered (sort.Value (Some k)) ≡ true) × (same_kind k l ≡ true)

compared-is : (how : Comparison) (v w : Value) → Compares how (kind_of v) (kind_of w) → (b : Bool) × (compared how v w ≡ Some b)
compared-is compare.Equal v w h = equal-is v w h
compared-is compare.NotEqual v w h = let e = equal-is v w h in (not e.0, ap (option_map not) e.1)
compared-is compare.Less v w h = less-is v w h.0 h.1
compared-is compare.LessOrEqual v w h = let e = more-is v w h.0 h.1 in (not e.0, ap (option_map not) e.1)
compared-is compare.Greater v w h = more-is v w h.0 h.1
compared-is compare.GreaterOrEqual v w h = let e = less-is v w h.0 h.1 in (not e.0, ap (option_map not) e.1)

pub ordered-some : (how : Comparison) (k l : Kind) (v w : Value) → IsOf k v → IsOf l w → Compares how k l → Makes (IsOf kind.Bool) (ordered how v w)
ordered-some how k l v w e f h =
    let g = subst (λ (x : Kind). Compares how (kind_of v) x) (sym f) (subst (λ (x : Kind). Compares how x l) (sym e) h) in
    let c = compared-is how v w g in
    truth-some (compared how v w) c.0 (λ b. b) c.1

-- sums and differences
text-given : (t : List ℕ) → IsGiven kind.String (text_value t)
text-given t = by-limit (nat_lt _ (length t))
  where
    by-limit : (b : Bool) → IsGiven kind.String (if b then Err errors.TooLong else Ok (value.String (Some t)))
    by-limit true = tt
    by-limit false = refl

ranged : (k : Kind) (v : Value) (b : Bool) → IsOf k v → IsGiven k (if b then Err errors.Range else Ok v)
ranged k v true e = tt
ranged k v false e = e

int-given : (z : ℤ) → IsGiven kind.Int (int_value z)
int-given z = ranged kind.Int (value.Int z) _ refl

duration-given : (z : ℤ) → IsGiven kind.Duration (duration_value z)
duration-given z = ranged kind.Duration (value.Duration z) _ refl

abbrev SumGiven : Value → Value → Type 0
SumGiven v w = (m : Kind) → sum_kind (kind_of v) (kind_of w) ≡ Some m → IsGiven m (sum_of v w)

as-sort : (r : Result Value ValueError) (k m : Kind) → IsGiven k r → Some k ≡ Some m → IsGiven m r
as-sort r k m h e = subst (λ (x : Kind). IsGiven x r) (cc) h

pub sum-given : (v w : Value) → adds (kind_of v) (kind_of w) ≡ true → (m : Kind) → sum_kind (kind_of v) (kind_of w) ≡ Some m → IsGiven m (sum_of v w)
sum-given (value.String t) w h m e = as-sort _ kind.String m (text-given _) e
sum-given (value.Int n) (value.Int o) h m e = as-sort (int_value (n +ℤ o)) kind.Int m (int-given (n +ℤ o)) e
sum-given (value.Int n) (value.String t) h m e = as-sort _ kind.String m (text-given _) e
sum-given (value.Int n) _ h m e = absurd (false-true h)
sum-given (value.Duration n) (value.Duration o) h m e = as-sort (duration_value (n +ℤ o)) kind.Duration m (duration-given (n +ℤ o)) e
sum-given (value.Duration n) (value.String t) h m e = as-sort _ kind.String m (text-given _) e
sum-given (value.Duration n) _ h m e = absurd (false-true h)
sum-given (value.Bool n) (value.String t) h m e = as-sort _ kind.String m (text-given _) e
sum-given (value.Bool n) _ h m e = absurd (false-true h)
sum-given (value.Ip n) (value.String t) h m e = as-sort _ kind.String m (text-given _) e
sum-given (value.Ip n) _ h m e = absurd (false-true h)
sum-given (value.Backend n) (value.String t) h m e = as-sort _ kind.String m (text-given _) e
sum-given (value.Backend n) _ h m e = absurd (false-true h)

pub difference-given : (v w : Value) → is_ordered (sort.Value (Some (kind_of v))) ≡ true → same_kind (kind_of v) (kind_of w) ≡ true → (m : Kind)
    → difference_kind (kind_of v) (kind_of w) ≡ Some m → IsGiven m (difference_of v w)
difference-given (value.Int n) (value.Int o) o' h m e = as-sort (int_value (n -ℤ o)) kind.Int m (int-given (n -ℤ o)) e
difference-given (value.Duration n) (value.Duration o) o' h m e = as-sort (duration_value (n -ℤ o)) kind.Duration m (duration-given (n -ℤ o)) e
difference-given (value.Int t) _ o h m e = absurd (false-true h)
difference-given (value.Duration t) _ o h m e = absurd (false-true h)
difference-given (value.String t) w o h m e = absurd (false-true o)
difference-given (value.Bool t) w o h m e = absurd (false-true o)
difference-given (value.Ip t) w o h m e = absurd (false-true o)
difference-given (value.Backend t) w o h m e = absurd (false-true o)

-- texts that are matched, made and replaced
pub matched-of : (pattern : List ℕ) (wanted : Bool) (v w : Value) → matched pattern wanted v ≡ Some w → IsOf kind.Bool w
matched-of pattern wanted v w e = map-of kind.Bool (λ t. value.Bool (beq (is_some _) wanted)) (as_text v) (λ t. refl) w e

pub text-of : (t : List ℕ) (v : Value) → ok_of (text_value t) ≡ Some v → IsOf kind.String v
text-of t v e = by-limit (nat_lt _ (length t)) e
  where
    by-limit : (b : Bool) → ok_of {A = Value} {E = ValueError} (if b then Err errors.TooLong else Ok (value.String (Some t))) ≡ Some v → IsOf kind.String v
    by-limit true e = absurd (none-some v e)
    by-limit false e = subst (λ (x : Value). kind_of x ≡ kind.String) (same_Some (value.String (Some t)) v e) refl

behind : {A : Type 0} (o : Option A) (f : A → Option Value) (k : Kind) → ((a : A) (v : Value) → f a ≡ Some v → IsOf k v) → (v : Value) → option_and_then f o ≡ Some v → IsOf k v
behind None f k h v e = absurd (none-some v e)
behind (Some a) f k h v e = h a v e

pub substituted-of : (pattern : List ℕ) (all : Bool) (v w x : Value) → substituted pattern all v w ≡ Some x → IsOf kind.String x
substituted-of pattern all v w x e =
    behind (as_text v) (λ t. option_and_then (replaced_in pattern all t) (as_text w)) kind.String
    (λ t y f. behind (as_text w) (replaced_in pattern all t) kind.String (λ u z g. text-of _ z g) y f) x e

-- a value where one of a type is wanted
text-makes : (o : Option (List ℕ)) → Makes (IsOf kind.String) (Some (option_map text o))
text-makes (Some t) = refl
text-makes None = tt

pub string-fitted : (v : Value) → Makes (IsOf kind.String) (fitted kind.String v)
string-fitted (value.String t) = refl
string-fitted (value.Int n) = text-makes (as_text (value.Int n))
string-fitted (value.Duration n) = text-makes (as_text (value.Duration n))
string-fitted (value.Bool n) = text-makes (as_text (value.Bool n))
string-fitted (value.Ip n) = text-makes (as_text (value.Ip n))
string-fitted (value.Backend n) = text-makes (as_text (value.Backend n))

pub fitted-makes : (wanted k : Kind) (v : Value) → IsOf k v → accepts wanted (sort.Value (Some k)) ≡ true → Makes (IsOf wanted) (fitted wanted v)
fitted-makes wanted k v e h = by-kind wanted v (subst (λ (x : Kind). accepts wanted (sort.Value (Some x)) ≡ true) (sym e) h)
  where
    by-kind : (wanted : Kind) (v : Value) → accepts wanted (sort.Value (Some (kind_of v))) ≡ true → Makes (IsOf wanted) (fitted wanted v)
    by-kind kind.String v h = string-fitted v
    by-kind kind.Int (value.Int n) h = refl
    by-kind kind.Int _ h = absurd (false-true h)
    by-kind kind.Duration (value.Duration n) h = refl
    by-kind kind.Duration _ h = absurd (false-true h)
    by-kind kind.Bool (value.Bool n) h = refl
    by-kind kind.Bool _ h = absurd (false-true h)
    by-kind kind.Ip (value.Ip n) h = refl
    by-kind kind.Ip _ h = absurd (false-true h)
    by-kind kind.Backend (value.Backend n) h = refl
    by-kind kind.Backend _ h = absurd (false-true h)
