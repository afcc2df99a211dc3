-- A word is one number at most.
use Rattle.std.proofs.Common.{◌≡◌, ◌<◌, ℕ, List, sym, ◌∙◌, arith}
use Rattle.std.proofs.lemmas.Fmt.{decimal_injective}
use Rattle.units.specs.Numbers.{IsNumber}
use Rattle.command_line.specs.Words.{IsWithin}

pub same_number : (word : List ℕ) (m n : ℕ) → IsNumber word m → IsNumber word n → m ≡ n
same_number word m n x y = decimal_injective m n x.0 y.0 (sym x.1 ∙ y.1)

pub one_number : (least most : ℕ) (word : List ℕ) (m n : ℕ) → IsWithin least most word m → IsWithin least most word n → m ≡ n
one_number least most word m n x y = same_number word m n x.is y.is

-- a number that is too small, or too great, is no other one
pub too_small : (least most : ℕ) (bytes word : List ℕ) (number other : ℕ) → bytes ≡ word → IsNumber bytes number → number < least → IsWithin least most word other → ⊥
too_small least most bytes word number other is read under w =
    let same : number ≡ other = decimal_injective number other read.0 w.is.0 (sym read.1 ∙ (is ∙ w.is.1)) in
    omega (arith, w.not_less, under)

pub too_great : (least most : ℕ) (bytes word : List ℕ) (number other : ℕ) → bytes ≡ word → IsNumber bytes number → most < number → IsWithin least most word other → ⊥
too_great least most bytes word number other is read over w =
    let same : number ≡ other = decimal_injective number other read.0 w.is.0 (sym read.1 ∙ (is ∙ w.is.1)) in
    omega (arith, w.not_more, over)
