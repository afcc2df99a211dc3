-- How deep tokens nest: each open brace and parenthesis counts, whatever it belongs to.
use Rattle.std.specs.Prelude.{ℕ, suc, pred, max, Bool, ◌||◌, List, [], ◌∷◌, if◌then◌else◌}
use Rattle.vcl_tree.specs.declared.token.Token.{Token}
use Rattle.vcl_tree.specs.declared.token.Sign.TheVariants as sign
use Rattle.vcl_tree.specs.Signs.{is_sign}

abbrev pub opens : Token → Bool
opens x = is_sign sign.OpenBrace x || is_sign sign.OpenParenthesis x

abbrev pub closes : Token → Bool
closes x = is_sign sign.CloseBrace x || is_sign sign.CloseParenthesis x

-- how deep it nests behind a token
abbrev pub level : ℕ → Token → ℕ
level depth x = if opens x then suc depth else (if closes x then pred depth else depth)

-- the deepest that tokens nest which begin at a depth
abbrev pub deepest : ℕ → List Token → ℕ
deepest depth [] = depth
deepest depth (x ∷ xs) = max depth (deepest (level depth x) xs)
