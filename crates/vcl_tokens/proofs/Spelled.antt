-- The steps over bytes give exactly the pieces that are spelled.
use Rattle.std.proofs.Common.{◌≡◌, ℕ, List, [], ◌∷◌, ◌++◌, Bool, true, false, Option, Some, None, refl, sym, ◌∙◌, subst, ap, inl, inr, ◌⊎◌, eqb-true, arith}
use Rattle.std.specs.Prelude.{◌==◌, ◌||◌, not, if◌then◌else◌, codes}
use Rattle.std.specs.List.{list_all}
use Rattle.std.specs.Map.{lookup}
use Rattle.std.specs.Option.{option_and_then}
use Rattle.std.specs.Char.{is_ascii_digit, is_ascii_alphabetic}
use Rattle.vcl_tree.specs.declared.token.Sign.{Sign}
use Rattle.vcl_tree.specs.declared.token.Sign.TheVariants as sign
use Rattle.vcl_tokens.specs.declared.spelling.Form.{Form}
use Rattle.vcl_tokens.specs.declared.spelling.Form.TheVariants as form
use Rattle.vcl_tokens.specs.declared.spelling.State.TheVariants as state
use Rattle.vcl_tokens.specs.Marks.{has, has_at_end}
use Rattle.vcl_tokens.specs.Spelling.{is_blank, is_name_byte, is_line_byte, is_quoted_byte, sign_text, IsSpelled, IsNoPiece}
use Rattle.vcl_tokens.specs.Steps.{one_byte_signs, sign_of, behind_sign, form_behind, form_of}
use Rattle.vcl_tokens.proofs.MarkLemmas.{whole_behind, block, long, triple, marked, unmarked, by_mark-is}
use Rattle.vcl_tokens.proofs.StepLemmas.{first_holds, names, lines, chosen, line_is, line_unended, line_ended, starts_name, integer_on, decimal_on, timed_on, digits_is}

-- What is spelled, the steps give.

line_comment : (bytes : List ℕ) → list_all is_line_byte bytes ≡ true → form_behind state.LineComment bytes ≡ Some form.Comment
line_comment bytes h = lines bytes ∙ rw h refl

-- behind a first `"`
quoted_on : (body : List ℕ) → list_all is_quoted_byte body ≡ true → form_behind state.Quote (body ++ 34 ∷ []) ≡ Some form.Quoted
quoted_on [] h = refl
quoted_on (b ∷ body) h = go (b == 34) (b == 10) ((first_holds is_quoted_byte b body h).0)
  where
    go : (x y : Bool) → not (x || y) ≡ true → option_and_then (λ u. form_behind u (body ++ 34 ∷ [])) (if x then Some state.EmptyLine else (if y then None else Some state.Line)) ≡ Some form.Quoted
    go true y q = absurd cc
    go false true q = absurd cc
    go false false q = line_ended body ((first_holds is_quoted_byte b body h).1)

open_on : (rest : List ℕ) → list_all is_quoted_byte rest ≡ true → form_behind state.Quote rest ≡ Some form.Unended
open_on [] h = refl
open_on (b ∷ rest) h = go (b == 34) (b == 10) ((first_holds is_quoted_byte b rest h).0)
  where
    go : (x y : Bool) → not (x || y) ≡ true → option_and_then (λ u. form_behind u rest) (if x then Some state.EmptyLine else (if y then None else Some state.Line)) ≡ Some form.Unended
    go true y q = absurd cc
    go false true q = absurd cc
    go false false q = line_unended rest ((first_holds is_quoted_byte b rest h).1)

pub complete : (f : Form) (bytes : List ℕ) → IsSpelled f bytes → form_of bytes ≡ Some f
complete form.Blank bytes h = ap form_of h.1 ∙ rw (h.2) refl
complete form.Comment bytes (inl h) = ap form_of h.parts ∙ line_comment h.rest h.holds
complete form.Comment bytes (inr (inl h)) = ap form_of h.parts ∙ line_comment h.rest h.holds
complete form.Comment bytes (inr (inr h)) = ap form_of h.parts ∙ block h.rest ∙ marked form.Comment (codes "*/") h.rest h.holds
complete form.Name bytes h = ap form_of h.2 ∙ ap (option_and_then (λ u. form_behind u h.1)) (starts_name h.0 h.3) ∙ names h.1 ∙ rw (h.4) refl
complete form.Integer bytes h = integer_on bytes h
complete form.Decimal bytes h = decimal_on bytes h
complete form.Duration bytes h = timed_on bytes h
complete form.Quoted bytes h = ap form_of h.1 ∙ quoted_on h.0 h.2
complete form.LongQuoted bytes h = ap form_of h.parts ∙ long h.rest ∙ marked form.LongQuoted (codes "\"}") h.rest h.holds
complete form.TripleQuoted bytes h = ap form_of h.parts ∙ triple h.rest ∙ marked form.TripleQuoted (codes "\"\"\"") h.rest h.holds
complete (form.Sign sign.OpenBrace) bytes h = ap form_of h
complete (form.Sign sign.CloseBrace) bytes h = ap form_of h
complete (form.Sign sign.OpenParenthesis) bytes h = ap form_of h
complete (form.Sign sign.CloseParenthesis) bytes h = ap form_of h
complete (form.Sign sign.Semicolon) bytes h = ap form_of h
complete (form.Sign sign.Comma) bytes h = ap form_of h
complete (form.Sign sign.Dot) bytes h = ap form_of h
complete (form.Sign sign.Slash) bytes h = ap form_of h
complete (form.Sign sign.Assign) bytes h = ap form_of h
complete (form.Sign sign.Equal) bytes h = ap form_of h
complete (form.Sign sign.NotEqual) bytes h = ap form_of h
complete (form.Sign sign.Match) bytes h = ap form_of h
complete (form.Sign sign.NotMatch) bytes h = ap form_of h
complete (form.Sign sign.Less) bytes h = ap form_of h
complete (form.Sign sign.LessOrEqual) bytes h = ap form_of h
complete (form.Sign sign.Greater) bytes h = ap form_of h
complete (form.Sign sign.GreaterOrEqual) bytes h = ap form_of h
complete (form.Sign sign.Not) bytes h = ap form_of h
complete (form.Sign sign.And) bytes h = ap form_of h
complete (form.Sign sign.Or) bytes h = ap form_of h
complete (form.Sign sign.Plus) bytes h = ap form_of h
complete (form.Sign sign.AddAssign) bytes h = ap form_of h
complete (form.Sign sign.Minus) bytes h = ap form_of h
complete form.Unended bytes (inl h) = ap form_of h.parts ∙ block h.rest ∙ unmarked form.Comment (codes "*/") h.rest h.holds
complete form.Unended bytes (inr (inl h)) = ap form_of h.parts ∙ open_on h.rest h.holds
complete form.Unended bytes (inr (inr (inl h))) = ap form_of h.parts ∙ long h.rest ∙ unmarked form.LongQuoted (codes "\"}") h.rest h.holds
complete form.Unended bytes (inr (inr (inr h))) = ap form_of h.parts ∙ triple h.rest ∙ unmarked form.TripleQuoted (codes "\"\"\"") h.rest h.holds

-- What the steps give, is spelled.

as_form : {f g : Form} (bytes : List ℕ) → f ≡ g → IsSpelled g bytes → IsSpelled f bytes
as_form bytes e h = subst (λ f. IsSpelled f bytes) (sym e) h

line_spelled : (mark bytes : List ℕ) (f : Form) → form_behind state.LineComment bytes ≡ Some f → (f ≡ form.Comment) × (list_all is_line_byte bytes ≡ true)
line_spelled mark bytes f e = let c = chosen (list_all is_line_byte bytes) form.Comment f (sym (lines bytes) ∙ e) in (c.1, c.0)

block_spelled : (rest : List ℕ) (f : Form) → form_behind state.BlockComment rest ≡ Some f → IsSpelled f (codes "/*" ++ rest)
block_spelled rest f e = go (by_mark-is form.Comment f (codes "*/") rest (sym (block rest) ∙ e))
  where
    go : ((f ≡ form.Comment) × (has_at_end (codes "*/") rest ≡ true)) ⊎ ((f ≡ form.Unended) × (not (has (codes "*/") rest) ≡ true)) → IsSpelled f (codes "/*" ++ rest)
    go (inl h) = as_form (codes "/*" ++ rest) h.0 (inr (inr (record { rest = rest; parts = refl; holds = h.1 })))
    go (inr h) = as_form (codes "/*" ++ rest) h.0 (inl (record { rest = rest; parts = refl; holds = h.1 }))

long_spelled : (rest : List ℕ) (f : Form) → form_behind state.Long rest ≡ Some f → IsSpelled f (codes "{\"" ++ rest)
long_spelled rest f e = go (by_mark-is form.LongQuoted f (codes "\"}") rest (sym (long rest) ∙ e))
  where
    go : ((f ≡ form.LongQuoted) × (has_at_end (codes "\"}") rest ≡ true)) ⊎ ((f ≡ form.Unended) × (not (has (codes "\"}") rest) ≡ true)) → IsSpelled f (codes "{\"" ++ rest)
    go (inl h) = as_form (codes "{\"" ++ rest) h.0 (record { rest = rest; parts = refl; holds = h.1 })
    go (inr h) = as_form (codes "{\"" ++ rest) h.0 (inr (inr (inl (record { rest = rest; parts = refl; holds = h.1 }))))

triple_spelled : (rest : List ℕ) (f : Form) → form_behind state.Triple rest ≡ Some f → IsSpelled f (codes "\"\"\"" ++ rest)
triple_spelled rest f e = go (by_mark-is form.TripleQuoted f (codes "\"\"\"") rest (sym (triple rest) ∙ e))
  where
    go : ((f ≡ form.TripleQuoted) × (has_at_end (codes "\"\"\"") rest ≡ true)) ⊎ ((f ≡ form.Unended) × (not (has (codes "\"\"\"") rest) ≡ true)) → IsSpelled f (codes "\"\"\"" ++ rest)
    go (inl h) = as_form (codes "\"\"\"" ++ rest) h.0 (record { rest = rest; parts = refl; holds = h.1 })
    go (inr h) = as_form (codes "\"\"\"" ++ rest) h.0 (inr (inr (inr (record { rest = rest; parts = refl; holds = h.1 }))))

-- behind `""`
empty_spelled : (rest : List ℕ) (f : Form) → form_behind state.EmptyLine rest ≡ Some f → IsSpelled f (34 ∷ 34 ∷ rest)
empty_spelled [] f e = let same : f ≡ form.Quoted = cc in as_form (34 ∷ 34 ∷ []) same ([], refl, refl)
empty_spelled (b ∷ rest) f e = go (b == 34) refl e
  where
    go : (x : Bool) → (b == 34) ≡ x → option_and_then (λ u. form_behind u rest) (if x then Some state.Triple else None) ≡ Some f → IsSpelled f (34 ∷ 34 ∷ b ∷ rest)
    go true d e = rw (eqb-true b 34 d) (triple_spelled rest f e)
    go false d e = absurd cc

-- behind a `"`
quote_spelled : (rest : List ℕ) (f : Form) → form_behind state.Quote rest ≡ Some f → IsSpelled f (34 ∷ rest)
quote_spelled [] f e = let same : f ≡ form.Unended = cc in as_form (34 ∷ []) same (inr (inl (record { rest = []; parts = refl; holds = refl })))
quote_spelled (b ∷ rest) f e = go (b == 34) refl (b == 10) refl e
  where
    line : is_quoted_byte b ≡ true → ((f ≡ form.Unended) × (list_all is_quoted_byte rest ≡ true)) ⊎ ((f ≡ form.Quoted) × ((body : List ℕ) × (rest ≡ body ++ 34 ∷ []) × (list_all is_quoted_byte body ≡ true))) → IsSpelled f (34 ∷ b ∷ rest)
    line q (inl h) = as_form (34 ∷ b ∷ rest) h.0 (inr (inl (record { rest = b ∷ rest; parts = refl; holds = rw (q, h.1) refl })))
    line q (inr h) = as_form (34 ∷ b ∷ rest) h.0 (b ∷ h.1.0, ap (λ r. 34 ∷ b ∷ r) h.1.1, rw (q, h.1.2) refl)

    go : (x : Bool) → (b == 34) ≡ x → (y : Bool) → (b == 10) ≡ y → option_and_then (λ u. form_behind u rest) (if x then Some state.EmptyLine else (if y then None else Some state.Line)) ≡ Some f → IsSpelled f (34 ∷ b ∷ rest)
    go true d y k e = rw (eqb-true b 34 d) (empty_spelled rest f e)
    go false d true k e = absurd cc
    go false d false k e = line (rw (d, k) refl) (line_is rest f e)

-- signs of one byte
abbrev AllFit : List (ℕ × Sign) → Type 0
AllFit [] = Unit {0}
AllFit (p ∷ pairs) = (sign_text p.1 ≡ p.0 ∷ []) × AllFit pairs

fitting : (b : ℕ) (s : Sign) (pairs : List (ℕ × Sign)) → AllFit pairs → lookup (λ c. b == c) pairs ≡ Some s → sign_text s ≡ b ∷ []
fitting b s [] fit e = absurd cc
fitting b s (p ∷ pairs) fit e = go (fitting b s pairs fit.1) (b == p.0) refl e
  where
    go : (lookup (λ c. b == c) pairs ≡ Some s → sign_text s ≡ b ∷ []) → (x : Bool) → (b == p.0) ≡ x → (if x then Some p.1 else lookup (λ c. b == c) pairs) ≡ Some s → sign_text s ≡ b ∷ []
    go later true d e = let same : p.1 ≡ s = cc in ap sign_text (sym same) ∙ fit.0 ∙ ap (λ c. c ∷ []) (sym (eqb-true b p.0 d))
    go later false d e = later e

all_fit : AllFit one_byte_signs
all_fit = (refl, (refl, (refl, (refl, (refl, (refl, (refl, (refl, (refl, (refl, (refl, (refl, (refl, (refl, (refl, tt)))))))))))))))

-- a sign that one byte more may carry on
carried : (c k : ℕ) (rest : List ℕ) (f : Form) (longer : Sign) (front : ℕ) → sign_text longer ≡ front ∷ k ∷ [] →
    option_and_then (λ u. form_behind u rest) (if c == k then Some (state.Whole (form.Sign longer)) else None) ≡ Some f → IsSpelled f (front ∷ c ∷ rest)
carried c k rest f longer front e h = go (c == k) refl h
  where
    go : (x : Bool) → (c == k) ≡ x → option_and_then (λ u. form_behind u rest) (if x then Some (state.Whole (form.Sign longer)) else None) ≡ Some f → IsSpelled f (front ∷ c ∷ rest)
    go true d h = let w = whole_behind (form.Sign longer) rest f h in as_form (front ∷ c ∷ rest) w.1 (sym (e ∙ ap (λ x. front ∷ x ∷ []) (sym (eqb-true c k d)) ∙ ap (λ r. front ∷ c ∷ r) (sym w.0)))
    go false d h = absurd cc

-- behind a sign of one byte, one byte more
sign_more : (s : Sign) (c : ℕ) (rest : List ℕ) (f : Form) (b : ℕ) → sign_text s ≡ b ∷ [] → option_and_then (λ u. form_behind u rest) (behind_sign s c) ≡ Some f → IsSpelled f (b ∷ c ∷ rest)
sign_more sign.Assign c rest f b t e = let same : 61 ≡ b = cc in rw (← same) (carried c 61 rest f sign.Equal 61 refl e)
sign_more sign.Not c rest f b t e = let same : 33 ≡ b = cc in rw (← same) (go (c == 61) refl e)
  where
    go : (x : Bool) → (c == 61) ≡ x → option_and_then (λ u. form_behind u rest) (if x then Some (state.Whole (form.Sign sign.NotEqual)) else (if c == 126 then Some (state.Whole (form.Sign sign.NotMatch)) else None)) ≡ Some f → IsSpelled f (33 ∷ c ∷ rest)
    go true d e = carried c 61 rest f sign.NotEqual 33 refl (rw d e)
    go false d e = carried c 126 rest f sign.NotMatch 33 refl e
sign_more sign.Less c rest f b t e = let same : 60 ≡ b = cc in rw (← same) (carried c 61 rest f sign.LessOrEqual 60 refl e)
sign_more sign.Greater c rest f b t e = let same : 62 ≡ b = cc in rw (← same) (carried c 61 rest f sign.GreaterOrEqual 62 refl e)
sign_more sign.Plus c rest f b t e = let same : 43 ≡ b = cc in rw (← same) (carried c 61 rest f sign.AddAssign 43 refl e)
sign_more sign.OpenBrace c rest f b t e = let same : 123 ≡ b = cc in rw (← same) (go (c == 34) refl e)
  where
    go : (x : Bool) → (c == 34) ≡ x → option_and_then (λ u. form_behind u rest) (if x then Some state.Long else None) ≡ Some f → IsSpelled f (123 ∷ c ∷ rest)
    go true d e = rw (eqb-true c 34 d) (long_spelled rest f e)
    go false d e = absurd cc
sign_more sign.Slash c rest f b t e = let same : 47 ≡ b = cc in rw (← same) (go (c == 47) refl (c == 42) refl e)
  where
    go : (x : Bool) → (c == 47) ≡ x → (y : Bool) → (c == 42) ≡ y → option_and_then (λ u. form_behind u rest) (if x then Some state.LineComment else (if y then Some state.BlockComment else None)) ≡ Some f → IsSpelled f (47 ∷ c ∷ rest)
    go true d y k e = let l = line_spelled [] rest f e in rw (eqb-true c 47 d) (as_form (47 ∷ 47 ∷ rest) l.0 (inr (inl (record { rest = rest; parts = refl; holds = l.1 }))))
    go false d true k e = rw (eqb-true c 42 k) (block_spelled rest f e)
    go false d false k e = absurd cc
sign_more _ c rest f b t e = absurd cc

sign_spelled : (s : Sign) (bytes : List ℕ) (f : Form) (b : ℕ) → sign_text s ≡ b ∷ [] → form_behind (state.Sign s) bytes ≡ Some f → IsSpelled f (b ∷ bytes)
sign_spelled s [] f b t e = let same : f ≡ form.Sign s = cc in as_form (b ∷ []) same (sym t)
sign_spelled s (c ∷ rest) f b t e = sign_more s c rest f b t e

-- `&&` and `||`
double_spelled : (k : ℕ) (s : Sign) (rest : List ℕ) (f : Form) (c : ℕ) → sign_text s ≡ k ∷ k ∷ [] →
    option_and_then (λ u. form_behind u rest) (if c == k then Some (state.Whole (form.Sign s)) else None) ≡ Some f → IsSpelled f (k ∷ c ∷ rest)
double_spelled k s rest f c t e = carried c k rest f s k t e

ampersand : (bytes : List ℕ) (f : Form) → form_behind state.Ampersand bytes ≡ Some f → IsSpelled f (38 ∷ bytes)
ampersand [] f e = absurd cc
ampersand (c ∷ rest) f e = double_spelled 38 sign.And rest f c refl e

bar : (bytes : List ℕ) (f : Form) → form_behind state.Bar bytes ≡ Some f → IsSpelled f (124 ∷ bytes)
bar [] f e = absurd cc
bar (c ∷ rest) f e = double_spelled 124 sign.Or rest f c refl e

-- what a first byte begins, test by test
from_sign : (b : ℕ) (bytes : List ℕ) (f : Form) (s : Option Sign) → sign_of b ≡ s → option_and_then (λ u. form_behind u bytes) (option_and_then (λ s. Some (state.Sign s)) s) ≡ Some f → IsSpelled f (b ∷ bytes)
from_sign b bytes f None d e = absurd cc
from_sign b bytes f (Some s) d e = sign_spelled s bytes f b (fitting b s one_byte_signs all_fit d) e

from_mark : (b : ℕ) (bytes : List ℕ) (f : Form) (w x y z : Bool) → (b == 34) ≡ w → (b == 35) ≡ x → (b == 38) ≡ y → (b == 124) ≡ z →
    option_and_then (λ u. form_behind u bytes) (if w then Some state.Quote else (if x then Some state.LineComment else (if y then Some state.Ampersand else (if z then Some state.Bar else option_and_then (λ s. Some (state.Sign s)) (sign_of b))))) ≡ Some f → IsSpelled f (b ∷ bytes)
from_mark b bytes f true x y z d _ _ _ e = rw (eqb-true b 34 d) (quote_spelled bytes f e)
from_mark b bytes f false true y z _ d _ _ e = let l = line_spelled [] bytes f e in rw (eqb-true b 35 d) (as_form (35 ∷ bytes) l.0 (inl (record { rest = bytes; parts = refl; holds = l.1 })))
from_mark b bytes f false false true z _ _ d _ e = rw (eqb-true b 38 d) (ampersand bytes f e)
from_mark b bytes f false false false true _ _ _ d e = rw (eqb-true b 124 d) (bar bytes f e)
from_mark b bytes f false false false false _ _ _ _ e = from_sign b bytes f (sign_of b) refl e

from_first : (b : ℕ) (bytes : List ℕ) (f : Form) (x y z : Bool) → is_blank b ≡ x → is_ascii_alphabetic b ≡ y → is_ascii_digit b ≡ z →
    option_and_then (λ u. form_behind u bytes) (if x then Some (state.Whole form.Blank) else (if y then Some state.Name else (if z then Some state.Digits else
    (if b == 34 then Some state.Quote else (if b == 35 then Some state.LineComment else (if b == 38 then Some state.Ampersand else (if b == 124 then Some state.Bar else option_and_then (λ s. Some (state.Sign s)) (sign_of b)))))))) ≡ Some f → IsSpelled f (b ∷ bytes)
from_first b bytes f true y z d _ _ e = let w = whole_behind form.Blank bytes f e in as_form (b ∷ bytes) w.1 (b, ap (λ r. b ∷ r) w.0, d)
from_first b bytes f false true z _ d _ e = let c = chosen (list_all is_name_byte bytes) form.Name f (sym (names bytes) ∙ e) in as_form (b ∷ bytes) c.1 (b, bytes, refl, d, c.0)
from_first b bytes f false false true _ _ d e = digits_is (b ∷ []) bytes f (omega arith, rw d refl) e
from_first b bytes f false false false _ _ _ e = from_mark b bytes f (b == 34) (b == 35) (b == 38) (b == 124) refl refl refl refl e

pub sound : (bytes : List ℕ) (f : Form) → form_of bytes ≡ Some f → IsSpelled f bytes
sound [] f e = absurd cc
sound (b ∷ bytes) f e = from_first b bytes f (is_blank b) (is_ascii_alphabetic b) (is_ascii_digit b) refl refl refl e

pub no_piece : (bytes : List ℕ) → form_of bytes ≡ None → IsNoPiece bytes
no_piece bytes none f h = clash none (complete f bytes h)
  where
    clash : {x : Option Form} → x ≡ None → x ≡ Some f → ⊥
    clash d e = cc

-- bytes are one piece at most
pub one_spelling : (f g : Form) (bytes : List ℕ) → IsSpelled f bytes → IsSpelled g bytes → f ≡ g
one_spelling f g bytes h k = same (complete f bytes h) (complete g bytes k)
  where
    same : {x : Option Form} → x ≡ Some f → x ≡ Some g → f ≡ g
    same d e = cc
