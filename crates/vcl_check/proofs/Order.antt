-- The order of faults, as numbers.
use Rattle.std.proofs.Common.{◌≡◌, ℕ, Bool, true, false, ◌||◌, ◌&&◌, ◌==◌, nat_lt, arith}
use Rattle.std.proofs.lemmas.Bool.Decides.{nat_tests}
use Rattle.vcl_tree.specs.Numbers.{number_of}
use Rattle.vcl_tree.specs.Faults.{comes_before}
use Rattle.vcl_tree.specs.declared.error.Fault.{Fault}

abbrev before : ℕ → ℕ → ℕ → ℕ → Bool
before p k q l = nat_lt p q || (p == q && nat_lt k l)

before-itself : (p k : ℕ) → before p k p k ≡ false
before-itself p k = grind (arith, nat_tests)

before-over : (p k q l r m : ℕ) → before p k q l ≡ false → before r m q l ≡ true → before p k r m ≡ false
before-over p k q l r m h e = grind (arith, nat_tests)

before-behind : (p k q l r m : ℕ) → before p k r m ≡ false → before r m q l ≡ false → before p k q l ≡ false
before-behind p k q l r m h e = grind (arith, nat_tests)

pub comes-itself : (a : Fault) → comes_before a a ≡ false
comes-itself a = before-itself a.place (number_of a.kind)

-- what doesn't come before x doesn't come before what does
pub comes-over : (f x y : Fault) → comes_before f x ≡ false → comes_before y x ≡ true → comes_before f y ≡ false
comes-over f x y h e = before-over f.place (number_of f.kind) x.place (number_of x.kind) y.place (number_of y.kind) h e

-- what doesn't come before y, which doesn't come before x, doesn't come before x
pub comes-behind : (f x y : Fault) → comes_before f y ≡ false → comes_before y x ≡ false → comes_before f x ≡ false
comes-behind f x y h e = before-behind f.place (number_of f.kind) x.place (number_of x.kind) y.place (number_of y.kind) h e
