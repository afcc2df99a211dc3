-- Signs of one number are one sign.
use Rattle.std.proofs.Common.{◌≡◌, ℕ, refl, ap, sym, ◌∙◌, subst}
use Rattle.std.specs.Prelude.{◌==◌, true, if◌then◌else◌}
use Rattle.std.proofs.lemmas.Bool.{eqb-true}
use Rattle.vcl_tree.specs.Signs.{sign_number, same_sign, is_sign, is_kind_of_sign}
use Rattle.vcl_tree.specs.Tokens.{a_sign}
use Rattle.vcl_tree.specs.declared.token.Token.{Token}
use Rattle.vcl_tree.specs.declared.token.TokenKind.{TokenKind}
use Rattle.vcl_tree.specs.declared.token.TokenKind.TheVariants as kind
use Rattle.vcl_tree.specs.declared.token.Sign.{Sign}
use Rattle.vcl_tree.specs.declared.token.Sign.TheVariants as sign

abbrev sign_at : ℕ → Sign
sign_at n =
    if n == 0 then sign.OpenBrace else (
    if n == 1 then sign.CloseBrace else (
    if n == 2 then sign.OpenParenthesis else (
    if n == 3 then sign.CloseParenthesis else (
    if n == 4 then sign.Semicolon else (
    if n == 5 then sign.Comma else (
    if n == 6 then sign.Dot else (
    if n == 7 then sign.Slash else (
    if n == 8 then sign.Assign else (
    if n == 9 then sign.Equal else (
    if n == 10 then sign.NotEqual else (
    if n == 11 then sign.Match else (
    if n == 12 then sign.NotMatch else (
    if n == 13 then sign.Less else (
    if n == 14 then sign.LessOrEqual else (
    if n == 15 then sign.Greater else (
    if n == 16 then sign.GreaterOrEqual else (
    if n == 17 then sign.Not else (
    if n == 18 then sign.And else (
    if n == 19 then sign.Or else (
    if n == 20 then sign.Plus else (
    if n == 21 then sign.AddAssign else sign.Minus)))))))))))))))))))))

back : (s : Sign) → sign_at (sign_number s) ≡ s
back sign.OpenBrace = refl
back sign.CloseBrace = refl
back sign.OpenParenthesis = refl
back sign.CloseParenthesis = refl
back sign.Semicolon = refl
back sign.Comma = refl
back sign.Dot = refl
back sign.Slash = refl
back sign.Assign = refl
back sign.Equal = refl
back sign.NotEqual = refl
back sign.Match = refl
back sign.NotMatch = refl
back sign.Less = refl
back sign.LessOrEqual = refl
back sign.Greater = refl
back sign.GreaterOrEqual = refl
back sign.Not = refl
back sign.And = refl
back sign.Or = refl
back sign.Plus = refl
back sign.AddAssign = refl
back sign.Minus = refl

pub same : (a b : Sign) → same_sign a b ≡ true → a ≡ b
same a b e = sym (back a) ∙ ap sign_at (eqb-true (sign_number a) (sign_number b) e) ∙ back b

of_kind : (P : Token → Type 0) (t : Sign) (p : ℕ) (k : TokenKind) → is_kind_of_sign t k ≡ true → P (a_sign t p) → P (record { kind = k; place = p })
of_kind P t p (kind.Sign u) e h = subst (λ s. P (a_sign s p)) (same t u e) h
of_kind P t p (kind.Name x) e h = cc
of_kind P t p (kind.Word w x) e h = cc
of_kind P t p (kind.Integer n) e h = cc
of_kind P t p (kind.Decimal x) e h = cc
of_kind P t p (kind.Duration n) e h = cc
of_kind P t p (kind.String x) e h = cc

-- what holds of a sign holds of a token that is this sign
pub as_sign : (P : Token → Type 0) (t : Sign) (x : Token) → is_sign t x ≡ true → P (a_sign t x.place) → P x
as_sign P t x e h = of_kind P t x.place x.kind e h
