-- Equal bans match alike, bans on objects alone match whatever the request, and a ban's own line shows it.
use Rattle.std.proofs.Common.{◌≡◌, ◌==◌, ℕ, Bool, true, false, ◌&&◌, ◌||◌, nat_le, List, [], ◌∷◌, Option, refl, sym, ◌∙◌, ap, arith}
use Rattle.std.specs.Prelude.{if◌then◌else◌}
use Rattle.std.specs.List.{list_any, list_all, AllByRecursion}
use Rattle.std.specs.Str.{bytes_eq}
use Rattle.std.specs.Cmp.Lexicographic.{pointwise}
use Rattle.std.proofs.lemmas.Bool.{false≢true, and_from, eq-eqb, le-leb}
use Rattle.std.proofs.lemmas.Slice.Eq.{bytes_eq-Decides}
use Rattle.cache_law.specs.declared.object.Object.{Object}
use Rattle.cache_law.specs.declared.call.RequestView.{RequestView}
use Rattle.cache_law.specs.declared.ban.TextField.{TextField}
use Rattle.cache_law.specs.declared.ban.TextField.TheVariants.{RequestUrl, RequestHeader, ObjectStatus, ObjectHeader}
use Rattle.cache_law.specs.declared.ban.TextOperator.{TextOperator}
use Rattle.cache_law.specs.declared.ban.TextOperator.TheVariants.{Equal, NotEqual, Matches, MatchesNot}
use Rattle.cache_law.specs.declared.ban.Condition.{Condition}
use Rattle.cache_law.specs.declared.ban.Condition.TheVariants.{OnText, OnTime}
use Rattle.cache_law.specs.declared.ban.Ban.{Ban}
use Rattle.cache_law.specs.declared.ban.Issued.{Issued}
use Rattle.cache_law.specs.Bans.{holds, ban_matches, is_on_object, object_only, is_on_time, lasting, same_field, same_operator, same_condition, is_equal, stands_for, is_shown}

and_parts : (x y : Bool) → (x && y) ≡ true → (x ≡ true) × (y ≡ true)
and_parts true y e = (refl, e)
and_parts false y e = absurd (false≢true e)

neither : (x y : Bool) → (x || y) ≡ false → (x ≡ false) × (y ≡ false)
neither true y e = absurd (false≢true (sym e))
neither false y e = (refl, e)

or_left : (x y : Bool) → x ≡ true → (x || y) ≡ true
or_left x y e = rw (e) refl

or_right : (x y : Bool) → y ≡ true → (x || y) ≡ true
or_right true y e = refl
or_right false y e = e

eqb_same : (n : ℕ) → (n == n) ≡ true
eqb_same n = eq-eqb n n refl

leb_same : (n : ℕ) → nat_le n n ≡ true
leb_same n = le-leb n n (omega arith)

one_text : (a b : List ℕ) → bytes_eq a b ≡ true → a ≡ b
one_text a b e = (bytes_eq-Decides a b).0 e

same_text : (a : List ℕ) → bytes_eq a a ≡ true
same_text a = (bytes_eq-Decides a a).1 refl

one_field : (f g : TextField) → same_field f g ≡ true → f ≡ g
one_field RequestUrl RequestUrl e = refl
one_field (RequestHeader a) (RequestHeader b) e = ap RequestHeader (one_text a b e)
one_field ObjectStatus ObjectStatus e = refl
one_field (ObjectHeader a) (ObjectHeader b) e = ap ObjectHeader (one_text a b e)
one_field f g e = absurd (false≢true e)

one_operator : (o p : TextOperator) → same_operator o p ≡ true → o ≡ p
one_operator Equal Equal e = refl
one_operator NotEqual NotEqual e = refl
one_operator Matches Matches e = refl
one_operator MatchesNot MatchesNot e = refl
one_operator o p e = absurd (false≢true e)

-- conditions that are the same are one, and not on a time
one_condition : (c d : Condition) → same_condition c d ≡ true → (c ≡ d) × (is_on_time c ≡ false)
one_condition (OnText f o a) (OnText g p b) e =
    let parts = and_parts (same_field f g && same_operator o p) (bytes_eq a b) e in
    let heads = and_parts (same_field f g) (same_operator o p) parts.0 in
    let field = one_field f g heads.0 in
    let operator = one_operator o p heads.1 in
    let argument = one_text a b parts.1 in
    (cc, refl)
one_condition (OnText f o a) (OnTime g k m) e = absurd (false≢true e)
one_condition (OnTime f k m) d e = absurd (false≢true e)

pub one_list : (cs ds : List Condition) → pointwise same_condition cs ds ≡ true → (cs ≡ ds) × (list_any is_on_time cs ≡ false)
one_list [] [] e = (refl, refl)
one_list [] (d ∷ ds) e = absurd (false≢true e)
one_list (c ∷ cs) [] e = absurd (false≢true e)
one_list (c ∷ cs) (d ∷ ds) e =
    let parts = and_parts (same_condition c d) (pointwise same_condition cs ds) e in
    let first = one_condition c d parts.0 in
    let rest = one_list cs ds parts.1 in
    (let one = first.0 in let more = rest.0 in cc, rw (first.1) (rest.1))

-- a condition on a text means the same at every issue
holds_alike : (m n : ℕ) (object : Object) (request : Option RequestView) (c : Condition) → is_on_time c ≡ false → holds m object request c ≡ holds n object request c
holds_alike m n object request (OnText f o a) e = refl
holds_alike m n object request (OnTime f k z) e = absurd (false≢true (sym e))

all_alike : (m n : ℕ) (object : Object) (request : Option RequestView) (cs : List Condition) → list_any is_on_time cs ≡ false
    → list_all (holds m object request) cs ≡ list_all (holds n object request) cs
all_alike m n object request [] e = refl
all_alike m n object request (c ∷ cs) e =
    let parts = neither (is_on_time c) (list_any is_on_time cs) e in
    rw (holds_alike m n object request c parts.0, all_alike m n object request cs parts.1) refl

pub equal_bans_alike : (ban other : Ban) (m n : ℕ) (object : Object) (request : Option RequestView) → is_equal ban other ≡ true
    → ban_matches ban m object request ≡ ban_matches other n object request
unfolding is_equal ban_matches
equal_bans_alike ban other m n object request e =
    let one = one_list ban.conditions other.conditions e in
    all_alike m n object request ban.conditions one.1 ∙ ap (list_all (holds n object request)) one.0

pub equal_bans_alone : (ban other : Ban) → is_equal ban other ≡ true → object_only ban ≡ object_only other
unfolding is_equal object_only
equal_bans_alone ban other e = ap (list_all is_on_object) (one_list ban.conditions other.conditions e).0

-- a condition on the object holds whatever the request
holds_alone : (m : ℕ) (object : Object) (request other : Option RequestView) (c : Condition) → is_on_object c ≡ true → holds m object request c ≡ holds m object other c
holds_alone m object request other (OnText RequestUrl o a) e = absurd (false≢true e)
holds_alone m object request other (OnText (RequestHeader name) o a) e = absurd (false≢true e)
holds_alone m object request other (OnText ObjectStatus o a) e = refl
holds_alone m object request other (OnText (ObjectHeader name) o a) e = refl
holds_alone m object request other (OnTime f k z) e = refl

all_alone : (m : ℕ) (object : Object) (request other : Option RequestView) (cs : List Condition) → list_all is_on_object cs ≡ true
    → list_all (holds m object request) cs ≡ list_all (holds m object other) cs
all_alone m object request other [] e = refl
all_alone m object request other (c ∷ cs) e =
    let parts = and_parts (is_on_object c) (list_all is_on_object cs) e in
    rw (holds_alone m object request other c parts.0, all_alone m object request other cs parts.1) refl

pub matches_alone : (ban : Ban) (m : ℕ) (object : Object) (request other : Option RequestView) → object_only ban ≡ true
    → ban_matches ban m object request ≡ ban_matches ban m object other
unfolding ban_matches object_only
matches_alone ban m object request other e = all_alone m object request other ban.conditions e

same_field_refl : (f : TextField) → same_field f f ≡ true
same_field_refl RequestUrl = refl
same_field_refl (RequestHeader name) = same_text name
same_field_refl ObjectStatus = refl
same_field_refl (ObjectHeader name) = same_text name

same_operator_refl : (o : TextOperator) → same_operator o o ≡ true
same_operator_refl Equal = refl
same_operator_refl NotEqual = refl
same_operator_refl Matches = refl
same_operator_refl MatchesNot = refl

same_condition_refl : (c : Condition) → is_on_time c ≡ false → same_condition c c ≡ true
same_condition_refl (OnText f o a) e = rw (same_field_refl f, same_operator_refl o) (same_text a)
same_condition_refl (OnTime f k z) e = absurd (false≢true (sym e))

same_list_refl : (cs : List Condition) → list_any is_on_time cs ≡ false → pointwise same_condition cs cs ≡ true
same_list_refl [] e = refl
same_list_refl (c ∷ cs) e =
    let parts = neither (is_on_time c) (list_any is_on_time cs) e in
    and_from (same_condition c c) (pointwise same_condition cs cs) (same_condition_refl c parts.0) (same_list_refl cs parts.1)

own_equal : (ban : Ban) → lasting ban ≡ false → is_equal ban ban ≡ true
unfolding is_equal lasting
own_equal ban e = same_list_refl ban.conditions e

own_line : (ban : Issued) (b : Bool) → lasting ban.ban ≡ b → (if b then b && (ban.number == ban.number) else is_equal ban.ban ban.ban) ≡ true
own_line ban true e = eqb_same ban.number
own_line ban false e = own_equal ban.ban e

stands_for_itself : (ban : Issued) → stands_for ban ban ≡ true
unfolding stands_for
stands_for_itself ban = own_line ban (lasting ban.ban) refl

shown_by_more : (line : Issued) (lines : List Issued) (ban : Issued) → is_shown lines ban ≡ true → is_shown (line ∷ lines) ban ≡ true
shown_by_more line lines ban e = or_right (nat_le ban.number line.number && stands_for ban line) (is_shown lines ban) e

all_more : (line : Issued) (lines bans : List Issued) → AllByRecursion (λ ban. is_shown lines ban ≡ true) bans → AllByRecursion (λ ban. is_shown (line ∷ lines) ban ≡ true) bans
all_more line lines [] shown = shown
all_more line lines (ban ∷ bans) shown = (shown_by_more line lines ban shown.0, all_more line lines bans shown.1)

-- a list of bans shows each ban that is in it
pub shown_by_all : (bans : List Issued) → AllByRecursion (λ ban. is_shown bans ban ≡ true) bans
shown_by_all [] = tt
shown_by_all (ban ∷ bans) = (
  or_left (nat_le ban.number ban.number && stands_for ban ban) (is_shown bans ban) (and_from (nat_le ban.number ban.number) (stands_for ban ban) (leb_same ban.number) (stands_for_itself ban)),
  all_more ban bans bans (shown_by_all bans),
)
