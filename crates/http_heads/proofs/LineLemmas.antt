-- Lines that are ended by LF.
use Rattle.std.proofs.Common.{◌≡◌, ℕ, zero, suc, ◌+◌, ◌<◌, true, false, List, [], ◌∷◌, length, take, drop, get_or, refl, arith, eqb}
use Rattle.std.proofs.lemmas.Bool.Decides.{nat_tests}
use Rattle.http_heads.specs.Lines.{ended_lines, is_empty_line, from_full}

one_more : (n : ℕ) → 1 + n ≡ suc n
one_more n = omega arith

-- an empty line at the front is passed over
pub from_full-empty : (line : List ℕ) (lines : List (List ℕ)) → is_empty_line line ≡ true → from_full (line ∷ lines) ≡ from_full lines
from_full-empty line lines empty = rw (empty, one_more) refl

-- a full line at the front stays
pub from_full-full : (line : List ℕ) (lines : List (List ℕ)) → is_empty_line line ≡ false → from_full (line ∷ lines) ≡ line ∷ lines
from_full-full line lines full = rw full refl

-- the first LF ends the first line
pub first_line : (bytes : List ℕ) (i : ℕ) → i < length bytes → ((k : ℕ) → k < i → get_or bytes k 0 ≡ 10 → ⊥) → get_or bytes i 0 ≡ 10
    → ended_lines bytes ≡ take i bytes ∷ ended_lines (drop (suc i) bytes)
unfolding ended_lines
first_line [] i lt before here = absurd (omega arith)
first_line (byte ∷ bytes) zero lt before here =
    let is : eqb byte 10 ≡ true = grind (arith, nat_tests) in
    rw is refl
first_line (byte ∷ bytes) (suc i) lt before here =
    let differs : byte ≡ 10 → ⊥ = before 0 (omega arith) in
    let is : eqb byte 10 ≡ false = grind (arith, nat_tests) in
    let rest = first_line bytes i (omega arith) (λ k lt'. before (suc k) (omega arith)) here in
    rw (is, rest) refl

-- bytes without LF end no line
pub no_line : (bytes : List ℕ) → ((k : ℕ) → k < length bytes → get_or bytes k 0 ≡ 10 → ⊥) → ended_lines bytes ≡ []
unfolding ended_lines
no_line [] none = refl
no_line (byte ∷ bytes) none =
    let differs : byte ≡ 10 → ⊥ = none 0 (omega arith) in
    let is : eqb byte 10 ≡ false = grind (arith, nat_tests) in
    let rest = no_line bytes (λ k lt. none (suc k) (omega arith)) in
    rw (is, rest) refl
