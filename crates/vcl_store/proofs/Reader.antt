-- A reading of a text by computing: each piece the longest, integers, decimals, whole seconds, strings on one line and signs.
use Rattle.std.proofs.Common.{◌≡◌, ℕ, zero, suc, ◌+◌, ◌-◌, ◌*◌, ◌<◌, ◌≤◌, Bool, true, false, List, [], ◌∷◌, ◌++◌, length, take, drop, Option, Some, None, refl, sym, ap, subst, ◌&&◌, ◌==◌, nat_lt, pos, arith, add-zero}
use Rattle.std.specs.Prelude.{codes, MatchOption, nat_le}
use Rattle.std.specs.Char.{digit_value}
use Rattle.std.specs.List.{list_any}
use Rattle.std.specs.Str.{bytes_eq}
use Rattle.std.specs.Str.Parse.{AllDigits, digits_value}
use Rattle.std.proofs.lemmas.Bool.Decides.{nat_tests}
use Rattle.std.proofs.lemmas.List.{take-append-drop}
use Rattle.std.proofs.lemmas.Slice.Eq.{bytes_eq-Decides}
use Rattle.units.specs.Durations.{IsDuration, millis_limit, unit_millis}
use Rattle.vcl_tree.specs.declared.token.Token.{Token}
use Rattle.vcl_tree.specs.declared.token.TokenKind.{TokenKind}
use Rattle.vcl_tree.specs.declared.token.TokenKind.TheVariants as kind
use Rattle.vcl_tokens.specs.declared.spelling.Form.{Form}
use Rattle.vcl_tokens.specs.declared.spelling.Form.TheVariants as form
use Rattle.vcl_tokens.specs.declared.spelling.State.TheVariants as state
use Rattle.vcl_tokens.specs.Longest.{longest_behind}
use Rattle.vcl_tokens.specs.Reading.{between, ended, is_passed_over, IsLongest, IsString, Means, named, one_more, passed, Reads}
use Rattle.vcl_tokens.specs.Spelling.{IsNoPiece}
use Rattle.vcl_tokens.specs.Words.{word_of}
use Rattle.vcl_tokens.proofs.LongestLemmas.{longest_behind_is, longest_piece_is}

abbrev are-digits : List ℕ → Bool
are-digits [] = true
are-digits (c ∷ cs) = nat_lt (digit_value c) 10 && are-digits cs

below : (m n : ℕ) → nat_lt m n ≡ true → m < n
below m n h = grind (arith, nat_tests)

pub within : (m n : ℕ) → nat_le m n ≡ true → m ≤ n
within m n h = grind (arith, nat_tests)

pub first-of : (a b : Bool) → (a && b) ≡ true → a ≡ true
first-of true b h = refl
first-of false b h = h

pub second-of : (a b : Bool) → (a && b) ≡ true → b ≡ true
second-of true b h = h
second-of false b h = absurd cc

all-digits : (ds : List ℕ) → are-digits ds ≡ true → AllDigits 10 ds
all-digits [] h = tt
all-digits (c ∷ cs) h =
    let rest = are-digits cs in
    (below (digit_value c) 10 (first-of (nat_lt (digit_value c) 10) rest h), all-digits cs (second-of (nat_lt (digit_value c) 10) rest h))

-- what is handed over where a test holds
abbrev where-so : Bool → TokenKind → Option TokenKind
where-so true t = Some t
where-so false t = None

where-held : (b : Bool) (t u : TokenKind) → where-so b t ≡ Some u → (b ≡ true) × (u ≡ t)
where-held true t u h = let same : u ≡ t = cc in (refl, same)
where-held false t u h = absurd cc

abbrev is-integer : List ℕ → Bool
is-integer ds = are-digits ds && nat_le (digits_value 10 ds) 9223372036854775807

abbrev integer-of : List ℕ → Option TokenKind
integer-of ds = where-so (is-integer ds) (kind.Integer (pos (digits_value 10 ds)))

integer-means : (ds : List ℕ) (t : TokenKind) → integer-of ds ≡ Some t → Means form.Integer ds t
integer-means ds t h =
    let held = where-held (is-integer ds) (kind.Integer (pos (digits_value 10 ds))) t h in
    let small = nat_le (digits_value 10 ds) 9223372036854775807 in
    (all-digits ds (first-of (are-digits ds) small held.0), within (digits_value 10 ds) 9223372036854775807 (second-of (are-digits ds) small held.0), held.1)

abbrev is-seconds : List ℕ → List ℕ → Bool
is-seconds whole unit = bytes_eq unit (codes "s") && (nat_lt 0 (length whole) && (are-digits whole && nat_le (digits_value 10 whole * 1000) millis_limit))

abbrev seconds-of : List ℕ → List ℕ → Option TokenKind
seconds-of whole unit = where-so (is-seconds whole unit) (kind.Duration (pos (digits_value 10 whole * 1000)))

abbrev but-one : List ℕ → ℕ
but-one bytes = length bytes - 1

abbrev duration-of : List ℕ → Option TokenKind
duration-of bytes = seconds-of (take (but-one bytes) bytes) (drop (but-one bytes) bytes)

seconds-are : (bytes whole unit : List ℕ) → bytes ≡ whole ++ unit → is-seconds whole unit ≡ true → IsDuration bytes (digits_value 10 whole * 1000)
seconds-are bytes whole unit spelled h =
    let small = nat_le (digits_value 10 whole * 1000) millis_limit in
    let digits = are-digits whole && small in
    let some = nat_lt 0 (length whole) && digits in
    let seconds : unit ≡ codes "s" = (bytes_eq-Decides unit (codes "s")).0 (first-of (bytes_eq unit (codes "s")) some h) in
    let rest = second-of (bytes_eq unit (codes "s")) some h in
    let numeral = second-of (nat_lt 0 (length whole)) digits rest in
    record {
      whole = whole;
      fraction = [];
      unit = unit;
      each = 1000;
      spelled = spelled;
      whole_digits = (below 0 (length whole) (first-of (nat_lt 0 (length whole)) digits rest), all-digits whole (first-of (are-digits whole) small numeral));
      fraction_digits = (tt, omega arith);
      of_unit = ap (λ (u : List ℕ). unit_millis u) seconds;
      value = sym (add-zero (digits_value 10 whole * 1000));
      range = within (digits_value 10 whole * 1000) millis_limit (second-of (are-digits whole) small numeral);
    }

duration-means : (bytes : List ℕ) (t : TokenKind) → duration-of bytes ≡ Some t → Means form.Duration bytes t
duration-means bytes t h =
    let whole : List ℕ = take (but-one bytes) bytes in
    let unit : List ℕ = drop (but-one bytes) bytes in
    let held = where-held (is-seconds whole unit) (kind.Duration (pos (digits_value 10 whole * 1000))) t h in
    (digits_value 10 whole * 1000, seconds-are bytes whole unit (sym (take-append-drop (but-one bytes) bytes)) held.0, held.1)

abbrev string-of : Bool → List ℕ → Option TokenKind
string-of true bytes = None
string-of false bytes = Some (kind.String bytes)

string-means : (b : Bool) (bytes : List ℕ) (t : TokenKind) → list_any (λ c. c == 0) bytes ≡ b → string-of b bytes ≡ Some t → IsString bytes t
string-means true bytes t clean h = absurd cc
string-means false bytes t clean h = let same : t ≡ kind.String bytes = cc in (clean, same)

-- the token that a piece is, as far as it is read here
abbrev token-of : Form → List ℕ → Option TokenKind
token-of form.Name bytes = Some (named (word_of bytes) bytes)
token-of form.Integer bytes = integer-of bytes
token-of form.Decimal bytes = Some (kind.Decimal bytes)
token-of form.Duration bytes = duration-of bytes
token-of form.Quoted bytes = string-of (list_any (λ c. c == 0) (between 1 bytes)) (between 1 bytes)
token-of (form.Sign s) bytes = Some (kind.Sign s)
token-of _ bytes = None

some-some : (t u : TokenKind) → Some t ≡ Some u → u ≡ t
some-some t u h = cc

none-some : (t : TokenKind) → None ≡ Some t → ⊥
none-some t h = cc

token-means : (f : Form) (bytes : List ℕ) (t : TokenKind) → token-of f bytes ≡ Some t → Means f bytes t
token-means form.Name bytes t h = some-some (named (word_of bytes) bytes) t h
token-means form.Integer bytes t h = integer-means bytes t h
token-means form.Decimal bytes t h = some-some (kind.Decimal bytes) t h
token-means form.Duration bytes t h = duration-means bytes t h
token-means form.Quoted bytes t h = string-means (list_any (λ c. c == 0) (between 1 bytes)) (between 1 bytes) t refl h
token-means (form.Sign s) bytes t h = some-some (kind.Sign s) t h
token-means form.Blank bytes t h = absurd (none-some t h)
token-means form.Comment bytes t h = absurd (none-some t h)
token-means form.LongQuoted bytes t h = absurd (none-some t h)
token-means form.TripleQuoted bytes t h = absurd (none-some t h)
token-means form.Unended bytes t h = absurd (none-some t h)

abbrev token-at : ℕ → TokenKind → Token
token-at place t = record { kind = t; place = place }

-- a piece in front of what is read behind it
abbrev with-piece : ℕ → Option TokenKind → Bool → Option (List Token) → Option (List Token)
with-piece place token true rest = rest
with-piece place None false rest = None
with-piece place (Some t) false None = None
with-piece place (Some t) false (Some tokens) = Some (token-at place t ∷ tokens)

abbrev read-piece : ℕ → List ℕ → Option (ℕ × Form) → (ℕ → List ℕ → Option (List Token)) → Option (List Token)
read-piece place text None on = None
read-piece place text (Some piece) on =
    with-piece place (token-of piece.1 (take piece.0 text)) (is_passed_over piece.1) (on (place + piece.0) (drop piece.0 text))

-- the tokens of a text from a place on, of so many pieces at most
abbrev pub read : ℕ → ℕ → List ℕ → Option (List Token)
read zero place text = None
read (suc most) place [] = Some []
read (suc most) place (b ∷ text) = read-piece place (b ∷ text) (longest_behind state.Start (b ∷ text)) (read most)

nothing-read : (ts : List Token) → None ≡ Some ts → ⊥
nothing-read ts h = cc

all-read : (front ts : List Token) → Some front ≡ Some ts → front ≡ ts
all-read front ts h = cc

piece-reads : (place n : ℕ) (text : List ℕ) (f : Form) → IsLongest text n f → (token : Option TokenKind) → ((t : TokenKind) → token ≡ Some t → Means f (take n text) t)
    → (over : Bool) → is_passed_over f ≡ over → (rest : Option (List Token)) → ((ts : List Token) → rest ≡ Some ts → Reads (place + n) (drop n text) ts)
    → (ts : List Token) → with-piece place token over rest ≡ Some ts → Reads place text ts
piece-reads place n text f longest token means true over rest behind ts h = passed longest over (behind ts h)
piece-reads place n text f longest None means false over rest behind ts h = absurd (nothing-read ts h)
piece-reads place n text f longest (Some t) means false over None behind ts h = absurd (nothing-read ts h)
piece-reads place n text f longest (Some t) means false over (Some tokens) behind ts h =
    subst (λ (xs : List Token). Reads place text xs) (all-read (token-at place t ∷ tokens) ts h) (one_more longest (means t refl) (behind tokens refl))

found-reads : (place : ℕ) (text : List ℕ) (found : Option (ℕ × Form)) (on : ℕ → List ℕ → Option (List Token))
    → MatchOption found ((m : ℕ) → m ≤ length text → IsNoPiece (take m text)) (λ piece. IsLongest text piece.0 piece.1)
    → ((p : ℕ) (more : List ℕ) (ts : List Token) → on p more ≡ Some ts → Reads p more ts)
    → (ts : List Token) → read-piece place text found on ≡ Some ts → Reads place text ts
found-reads place text None on longest behind ts h = absurd (nothing-read ts h)
found-reads place text (Some piece) on longest behind ts h =
    piece-reads place piece.0 text piece.1 longest (token-of piece.1 (take piece.0 text)) (λ t e. token-means piece.1 (take piece.0 text) t e)
    (is_passed_over piece.1) refl (on (place + piece.0) (drop piece.0 text)) (λ xs e. behind (place + piece.0) (drop piece.0 text) xs e) ts h

pub read-is : (most place : ℕ) (text : List ℕ) (ts : List Token) → read most place text ≡ Some ts → Reads place text ts
read-is zero place text ts h = absurd (nothing-read ts h)
read-is (suc most) place [] ts h = subst (λ (xs : List Token). Reads place [] xs) (all-read [] ts h) ended
read-is (suc most) place (b ∷ text) ts h =
    found-reads place (b ∷ text) (longest_behind state.Start (b ∷ text)) (read most)
    (longest_piece_is (b ∷ text) (longest_behind state.Start (b ∷ text)) (longest_behind_is state.Start (b ∷ text)))
    (λ p more xs e. read-is most p more xs e) ts h
