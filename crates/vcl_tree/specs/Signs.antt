-- Which sign a token is, and what signs stand for.
use Rattle.std.specs.Prelude.{ℕ, ◌==◌, Bool, false, Option, Some, None, List, [], ◌∷◌}
use Rattle.vcl_tree.specs.declared.token.Token.{Token}
use Rattle.vcl_tree.specs.declared.token.TokenKind.{TokenKind}
use Rattle.vcl_tree.specs.declared.token.TokenKind.TheVariants as kind
use Rattle.vcl_tree.specs.declared.token.Sign.{Sign}
use Rattle.vcl_tree.specs.declared.token.Sign.TheVariants as sign
use Rattle.vcl_tree.specs.declared.expression.Comparison.{Comparison}
use Rattle.vcl_tree.specs.declared.expression.Comparison.TheVariants as comparison

abbrev pub sign_number : Sign → ℕ
sign_number sign.OpenBrace = 0
sign_number sign.CloseBrace = 1
sign_number sign.OpenParenthesis = 2
sign_number sign.CloseParenthesis = 3
sign_number sign.Semicolon = 4
sign_number sign.Comma = 5
sign_number sign.Dot = 6
sign_number sign.Slash = 7
sign_number sign.Assign = 8
sign_number sign.Equal = 9
sign_number sign.NotEqual = 10
sign_number sign.Match = 11
sign_number sign.NotMatch = 12
sign_number sign.Less = 13
sign_number sign.LessOrEqual = 14
sign_number sign.Greater = 15
sign_number sign.GreaterOrEqual = 16
sign_number sign.Not = 17
sign_number sign.And = 18
sign_number sign.Or = 19
sign_number sign.Plus = 20
sign_number sign.AddAssign = 21
sign_number sign.Minus = 22

abbrev pub same_sign : Sign → Sign → Bool
same_sign a b = sign_number a == sign_number b

abbrev pub is_kind_of_sign : Sign → TokenKind → Bool
is_kind_of_sign s (kind.Sign t) = same_sign s t
is_kind_of_sign s _ = false

-- whether the token is this sign
abbrev pub is_sign : Sign → Token → Bool
is_sign s x = is_kind_of_sign s x.kind

-- whether the first token is this sign
abbrev pub first_is : Sign → List Token → Bool
first_is s [] = false
first_is s (x ∷ xs) = is_sign s x

-- how a sign compares
abbrev pub comparison_of : Sign → Option Comparison
comparison_of sign.Equal = Some comparison.Equal
comparison_of sign.NotEqual = Some comparison.NotEqual
comparison_of sign.Less = Some comparison.Less
comparison_of sign.LessOrEqual = Some comparison.LessOrEqual
comparison_of sign.Greater = Some comparison.Greater
comparison_of sign.GreaterOrEqual = Some comparison.GreaterOrEqual
comparison_of sign.Match = Some comparison.Match
comparison_of sign.NotMatch = Some comparison.NotMatch
comparison_of _ = None
