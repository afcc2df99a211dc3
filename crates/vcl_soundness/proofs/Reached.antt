-- A subroutine that is called by one that is reached from a built-in one is reached from it too.
use Rattle.std.proofs.Common.{◌≡◌, ℕ, zero, suc, ◌+◌, ◌<◌, nat_lt, Bool, true, false, not, length, map, List, [], ◌∷◌, ◌++◌, refl, sym, ap, ◌∙◌, subst, position, filter_map, Option, Some, None, option_and_then, slice_get, slice_index_or, get_or, if◌then◌else◌, arith}
use Rattle.std.specs.List.{list_all, position_or_len, cons_option}
use Rattle.std.specs.Prelude.{Contains}
use Rattle.std.specs.Str.{bytes_eq}
use Rattle.std.proofs.lemmas.Bool.{ltb-true, lt-ltb}
use Rattle.std.proofs.lemmas.List.{length-append}
use Rattle.std.proofs.lemmas.List.Quantifiers.{position-Some}
use Rattle.std.proofs.lemmas.Option.{none-some, same_Some, slice_get-get_or}
use Rattle.std.proofs.lemmas.Slice.Eq.{bytes_eq-Decides}
use Rattle.vcl_symbols.specs.declared.call_graph.Call.{Call}
use Rattle.vcl_symbols.specs.Calls.{Calls, Walk, Reaches}
use Rattle.vcl_language.specs.Names.{is_reserved, subroutine_named}
use Rattle.vcl_language.specs.declared.scope.Subroutine.{Subroutine}
use Rattle.vcl_language.specs.declared.subroutines.TheConstants.{SUBROUTINES, SUBROUTINE_NAMES}
use Rattle.vcl_symbols.specs.Known.{Known, symbol_named}
use Rattle.vcl_symbols.specs.declared.symbol_table.Symbol.{Symbol}
use Rattle.vcl_symbols.specs.declared.symbol_table.Symbol.TheVariants as symbol
use Rattle.vcl_check.specs.declared.mentions.MentionKind.TheVariants as kind
use Rattle.vcl_check.specs.Mentions.{Said, said}
use Rattle.vcl_check.specs.Reaching.{numbered_names, number_in, is_subroutine, call_between, callee, call_of, calls_of, AreReached, marking, reaching, roots_by, roots_of}
use Rattle.vcl_soundness.proofs.Rows.{false-true, passes}

-- walks with one more call at their end
walk-on : (calls : List Call) (n v a b : ℕ) → Walk calls v n a → Calls calls a b → Walk calls v (suc n) b
walk-on calls zero v a b w c = (b, subst (λ (x : ℕ). Calls calls x b) (sym w) c, refl)
walk-on calls (suc n) v a b w c = (w.0, w.1, walk-on calls n w.0 a b w.2 c)

-- subroutines that calls lead to from a built-in one
abbrev pub From : List Call → Subroutine → ℕ → Type 0
From calls s v = (k : ℕ) × (slice_get SUBROUTINES k ≡ Some s) × Reaches calls k v

from-on : (calls : List Call) (s : Subroutine) (a b : ℕ) → From calls s a → Calls calls a b → From calls s b
from-on calls s a b f c = (f.0, f.1, (suc f.2.0, walk-on calls f.2.0 f.0 a b f.2.1 c))

later-contains : {A : Type 0} (y : A) (xs : List A) (x : A) → Contains xs x → Contains (y ∷ xs) x
later-contains y xs x c = (suc c.0, omega (arith, c.1), c.2)

marked-contains : (calls : List Call) (i : ℕ) (rows : List (List Bool)) (ss : List Subroutine) (s : Subroutine) (k v : ℕ) → AreReached calls i rows → length rows ≡ length ss
    → slice_get ss k ≡ Some s → Reaches calls (i + k) v → Contains (marking rows ss v) s
marked-contains calls i [] [] s k v all long e r = absurd (none-some s e)
marked-contains calls i [] (x ∷ ss) s k v all long e r = absurd (omega (arith, long))
marked-contains calls i (row ∷ rows) [] s k v all long e r = absurd (none-some s e)
marked-contains calls i (row ∷ rows) (x ∷ ss) s zero v all long e r =
    let same : i + zero ≡ i = omega arith in
    let mark : slice_index_or row v false ≡ true = (all.0 v).1 (subst (λ (n : ℕ). Reaches calls n v) same r) in
    let first : Contains (x ∷ marking rows ss v) s = (zero, omega arith, same_Some x s e) in
    subst (λ (b : Bool). Contains (if b then x ∷ marking rows ss v else marking rows ss v) s) (sym mark) first
marked-contains calls i (row ∷ rows) (x ∷ ss) s (suc k) v all long e r =
    let next : i + suc k ≡ suc i + k = omega arith in
    by-mark (slice_index_or row v false) (marked-contains calls (suc i) rows ss s k v all.1 (omega (arith, long)) e (subst (λ (n : ℕ). Reaches calls n v) next r))
  where
    by-mark : (b : Bool) → Contains (marking rows ss v) s → Contains (if b then x ∷ marking rows ss v else marking rows ss v) s
    by-mark true c = later-contains x (marking rows ss v) s c
    by-mark false c = c

-- the name of a subroutine that is reached
pub record Held (calls : List Call) (numbers : List (List ℕ)) (s : Subroutine) (name : List ℕ) : Type 0 where
  pub number : ℕ
  pub at : number_in numbers name ≡ Some number
  pub from : From calls s number

-- a name that isn't reserved is no built-in subroutine's
built-reserved : list_all (λ name. is_reserved name) (map (λ name. name.now) SUBROUTINE_NAMES) ≡ true
built-reserved = refl

number-of : (name : List ℕ) (s : Subroutine) → subroutine_named name ≡ Some s
    → (k : ℕ) × (k < length (map (λ n. n.now) SUBROUTINE_NAMES)) × (get_or (map (λ n. n.now) SUBROUTINE_NAMES) k name ≡ name) × (slice_get SUBROUTINES k ≡ Some s)
    × ((j : ℕ) → j < k → bytes_eq (get_or (map (λ n. n.now) SUBROUTINE_NAMES) j name) name ≡ false)
unfolding subroutine_named
number-of name s e = by-row (position (λ other. bytes_eq other name) (map (λ n. n.now) SUBROUTINE_NAMES)) refl e
  where
    by-row : (o : Option ℕ) → position (λ other. bytes_eq other name) (map (λ n. n.now) SUBROUTINE_NAMES) ≡ o → option_and_then (λ k. slice_get SUBROUTINES k) o ≡ Some s
        → (k : ℕ) × (k < length (map (λ n. n.now) SUBROUTINE_NAMES)) × (get_or (map (λ n. n.now) SUBROUTINE_NAMES) k name ≡ name) × (slice_get SUBROUTINES k ≡ Some s)
        × ((j : ℕ) → j < k → bytes_eq (get_or (map (λ n. n.now) SUBROUTINE_NAMES) j name) name ≡ false)
    by-row None f e = absurd (none-some s e)
    by-row (Some k) f e =
        let p = position-Some (λ other. bytes_eq other name) (map (λ n. n.now) SUBROUTINE_NAMES) k name f in
        (k, p.0, (bytes_eq-Decides (get_or (map (λ n. n.now) SUBROUTINE_NAMES) k name) name).0 p.1, e, p.2)

reserved-named : (name : List ℕ) (s : Subroutine) → subroutine_named name ≡ Some s → is_reserved name ≡ true
reserved-named name s e =
    let n = number-of name s e in
    let names : List (List ℕ) = map (λ n. n.now) SUBROUTINE_NAMES in
    let all = passes (λ other. is_reserved other) names n.0 (get_or names n.0 name) built-reserved (slice_get-get_or names n.0 name n.1) in
    subst (λ (x : List ℕ). is_reserved x ≡ true) n.2 all

none-named : (name : List ℕ) → is_reserved name ≡ false → subroutine_named name ≡ None
none-named name r = by-name (subroutine_named name) refl
  where
    by-name : (o : Option Subroutine) → subroutine_named name ≡ o → o ≡ None
    by-name None e = refl
    by-name (Some s) e = absurd (false-true (sym r ∙ reserved-named name s e))

-- the first place where a test passes
first-at : {A : Type 0} (p : A → Bool) (xs ys : List A) (k : ℕ) (d : A) → k < length xs → p (get_or xs k d) ≡ true → ((j : ℕ) → j < k → p (get_or xs j d) ≡ false)
    → position p (xs ++ ys) ≡ Some k
first-at {A} p xs ys k d low here before = at-least (position_or_len p (xs ++ ys)) (first-len xs k low here before)
  where
    first-len : (xs : List A) (k : ℕ) → k < length xs → p (get_or xs k d) ≡ true → ((j : ℕ) → j < k → p (get_or xs j d) ≡ false) → position_or_len p (xs ++ ys) ≡ k
    first-len [] k low here before = absurd (omega (arith, low))
    first-len (x ∷ xs) zero low here before = ap (λ (b : Bool). if not b then 1 + position_or_len p (xs ++ ys) else 0) here
    first-len (x ∷ xs) (suc k) low here before =
        let more : position_or_len p (xs ++ ys) ≡ k = first-len xs k (omega (arith, low)) here (λ j l. before (suc j) (omega (arith, l))) in
        let next : 1 + position_or_len p (xs ++ ys) ≡ suc k = omega (arith, more) in
        ap (λ (b : Bool). if not b then 1 + position_or_len p (xs ++ ys) else 0) (before zero (omega arith)) ∙ next

    at-least : (n : ℕ) → n ≡ k → (if nat_lt n (length (xs ++ ys)) then Some n else None) ≡ Some k
    at-least n e =
        let within : nat_lt n (length (xs ++ ys)) ≡ true = lt-ltb n (length (xs ++ ys)) (omega (arith, e, low, length-append xs ys)) in
        ap (λ (b : Bool). if b then Some n else None) within ∙ ap Some e

flipped : (a b : List ℕ) → bytes_eq a b ≡ false → bytes_eq b a ≡ false
flipped a b e = by-side (bytes_eq b a) refl
  where
    by-side : (c : Bool) → bytes_eq b a ≡ c → c ≡ false
    by-side false f = refl
    by-side true f =
        let same : b ≡ a = (bytes_eq-Decides b a).0 f in
        let there : bytes_eq a b ≡ true = (bytes_eq-Decides a b).1 (sym same) in
        absurd (false-true (sym e ∙ there))

pub built-held : (calls : List Call) (names : List (List ℕ)) (s : Subroutine) (name : List ℕ) → subroutine_named name ≡ Some s → Held calls (numbered_names names) s name
unfolding numbered_names
built-held calls names s name e =
    let n = number-of name s e in
    let built : List (List ℕ) = map (λ n. n.now) SUBROUTINE_NAMES in
    let here : bytes_eq name (get_or built n.0 name) ≡ true = (bytes_eq-Decides name (get_or built n.0 name)).1 (sym n.2) in
    record {
      number = n.0;
      at = first-at (λ other. bytes_eq name other) built names n.0 name n.1 here (λ j l. flipped (get_or built j name) name (n.4 j l));
      from = (n.0, n.3, (zero, refl));
    }

-- a text's own subroutine that is called by a name that is reached
none-later : {A : Type 0} (p : A → Bool) (xs ys : List A) (k : ℕ) → position p ys ≡ Some k → position p (xs ++ ys) ≡ None → ⊥
none-later p [] ys k e f = none-some k (sym f ∙ e)
none-later {A} p (x ∷ xs) ys k e f = by-first (p x) f (none-later p xs ys k e)
  where
    q : ℕ
    q = position_or_len p (xs ++ ys)

    n : ℕ
    n = length (xs ++ ys)

    at : Bool → ℕ → Option ℕ
    at b i = if b then Some i else None

    by-first : (b : Bool) → at (nat_lt (if not b then 1 + q else 0) (suc n)) (if not b then 1 + q else 0) ≡ None → (at (nat_lt q n) q ≡ None → ⊥) → ⊥
    by-first true g more = none-some 0 (sym g ∙ ap (λ (b : Bool). at b 0) (lt-ltb 0 (suc n) (omega arith)))
    by-first false g more = more (by-order (nat_lt q n) refl)
      where
        by-order : (b : Bool) → nat_lt q n ≡ b → at b q ≡ None
        by-order true h = absurd (none-some (1 + q) (sym g ∙ ap (λ (b : Bool). at b (1 + q)) (lt-ltb (1 + q) (suc n) (omega (arith, ltb-true q n h)))))
        by-order false h = refl

some-of : {A : Type 0} (o : Option A) → (o ≡ None → ⊥) → (a : A) × (o ≡ Some a)
some-of None h = absurd (h refl)
some-of (Some a) h = (a, refl)

own-number : (known : Known) (name : List ℕ) (t : Symbol) → symbol_named known name ≡ Some t → (b : ℕ) × (number_in (numbered_names known.names) name ≡ Some b)
unfolding numbered_names
own-number known name t e = by-place (position (λ other. bytes_eq name other) known.names) refl e
  where
    by-place : (o : Option ℕ) → position (λ other. bytes_eq name other) known.names ≡ o → option_and_then (λ k. slice_get known.symbols k) o ≡ Some t
        → (b : ℕ) × (position (λ other. bytes_eq name other) (map (λ n. n.now) SUBROUTINE_NAMES ++ known.names) ≡ Some b)
    by-place None f e = absurd (none-some t e)
    by-place (Some k) f e =
        some-of (position (λ other. bytes_eq name other) (map (λ n. n.now) SUBROUTINE_NAMES ++ known.names))
        (none-later (λ other. bytes_eq name other) (map (λ n. n.now) SUBROUTINE_NAMES) known.names k f)

mapped-contains : {A B : Type 0} (f : A → Option B) (xs : List A) (x : A) (y : B) (k : ℕ) → k < length xs → slice_index_or xs k x ≡ x → f x ≡ Some y → Contains (filter_map f xs) y
mapped-contains f [] x y k low e g = absurd (omega (arith, low))
mapped-contains {A} {B} f (z ∷ xs) x y zero low e g =
    let here : f z ≡ Some y = ap f e ∙ g in
    let first : Contains (y ∷ filter_map f xs) y = (zero, omega arith, refl) in
    subst (λ (o : Option B). Contains (cons_option o (filter_map f xs)) y) (sym here) first
mapped-contains {A} {B} f (z ∷ xs) x y (suc k) low e g = by-first (f z) (mapped-contains f xs x y k (omega (arith, low)) e g)
  where
    by-first : (o : Option B) → Contains (filter_map f xs) y → Contains (cons_option o (filter_map f xs)) y
    by-first None c = c
    by-first (Some w) c = later-contains w (filter_map f xs) y c

pub called-held : (known : Known) (says : List Said) (s : Subroutine) (owner name : List ℕ) → Held (calls_of known (numbered_names known.names) says) (numbered_names known.names) s owner
    → (place : ℕ) → Contains says (said kind.Call place name owner) → (k : ℕ) → symbol_named known name ≡ Some (symbol.Subroutine k)
    → Held (calls_of known (numbered_names known.names) says) (numbered_names known.names) s name
called-held known says s owner name h place c k e =
    let N : List (List ℕ) = numbered_names known.names in
    let b = own-number known name (symbol.Subroutine k) e in
    let one : Call = record { from = h.number; to = b.0; place = place } in
    let found : callee known N name ≡ Some b.0 = ap (λ (o : Option Symbol). if is_subroutine o then number_in N name else None) e ∙ b.1 in
    let is : call_of known N (said kind.Call place name owner) ≡ Some one =
    ap (λ (o : Option ℕ). call_between o (callee known N name) place) h.at ∙ ap (λ (o : Option ℕ). call_between (Some h.number) o place) found in
    let there : Contains (calls_of known N says) one = mapped-contains (call_of known N) says (said kind.Call place name owner) one c.0 c.1 c.2 is in
    record { number = b.0; at = b.1; from = from-on (calls_of known N says) s h.number b.0 h.from (one, there, refl, refl) }

-- it is reached from that built-in subroutine
pub held-root : (calls : List Call) (numbers : List (List ℕ)) (rows : List (List Bool)) (s : Subroutine) (name : List ℕ) → length rows ≡ 13 → AreReached calls 0 rows
    → is_reserved name ≡ false → Held calls numbers s name → Contains (roots_of numbers rows name) s
held-root calls numbers rows s name long all custom h =
    let f = h.from in
    let zero-first : 0 + f.0 ≡ f.0 = omega arith in
    let marked : Contains (marking rows SUBROUTINES h.number) s =
    marked-contains calls 0 rows SUBROUTINES s f.0 h.number all long f.1 (subst (λ (n : ℕ). Reaches calls n h.number) (sym zero-first) f.2) in
    let R : Option Subroutine → Bool → Option ℕ → Type 0 = λ o b n. Contains (roots_by o b (reaching rows n)) s in
    subst (λ (o : Option Subroutine). R o (is_reserved name) (number_in numbers name)) (sym (none-named name custom))
    (subst (λ (b : Bool). R None b (number_in numbers name)) (sym custom) (subst (λ (n : Option ℕ). R None false n) (sym h.at) marked))

pub built-root : (numbers : List (List ℕ)) (rows : List (List Bool)) (s : Subroutine) (name : List ℕ) → subroutine_named name ≡ Some s → Contains (roots_of numbers rows name) s
built-root numbers rows s name e =
    let first : Contains (s ∷ []) s = (zero, omega arith, refl) in
    subst (λ (o : Option Subroutine). Contains (roots_by o (is_reserved name) (reaching rows (number_in numbers name))) s) (sym e) first
