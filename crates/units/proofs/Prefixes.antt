-- What std's `strip_prefix` says of a prefix of one byte.
use Rattle.std.proofs.Common.{◌≡◌, ℕ, List, [], ◌∷◌, take, drop, true, false, nat_eq, arith}
use Rattle.std.specs.Cmp.Lexicographic.{pointwise}
use Rattle.std.proofs.lemmas.Bool.Decides.{nat_tests}

pub begins : (first : ℕ) (text rest : List ℕ) → pointwise nat_eq (take 1 text) (first ∷ []) ≡ true → rest ≡ drop 1 text → text ≡ first ∷ rest
begins first [] rest e k = cc
begins first (x ∷ text) rest e k = let same : x ≡ first = grind (arith, nat_tests) in cc

pub begins_not : (first : ℕ) (text rest : List ℕ) → pointwise nat_eq (take 1 text) (first ∷ []) ≡ false → text ≡ first ∷ rest → ⊥
begins_not first [] rest e k = cc
begins_not first (x ∷ text) rest e k = let same : x ≡ first = cc in grind (arith, nat_tests)
