-- Lines at the front of longer and longer bytes.
use Rattle.std.proofs.Common.{◌≡◌, ℕ, suc, ◌+◌, ◌<◌, ◌≤◌, Bool, true, false, cond, not, List, [], ◌∷◌, ◌++◌, length, take, drop, refl, sym, ◌∙◌, ap, subst, arith}
use Rattle.std.proofs.lemmas.List.{take-append-le, drop-append-le, length-append}
use Rattle.std.proofs.lemmas.List.Sums.{prefix_len-le-length}
use Rattle.std.specs.List.{prefix_len}
use Rattle.std.specs.Io.BufRead.{strip_last}
use Rattle.console_link.specs.Lines.{BeginsLine, BeginsLines, IsBegun, IsTooLong, is_lf, line_length}

found_case : (b : Bool) (m n k : ℕ) → (m < n → k ≡ m) → cond b (1 + m) 0 < suc n → cond b (1 + k) 0 ≡ cond b (1 + m) 0
found_case true m n k next short = ap (λ (i : ℕ). 1 + i) (next (omega (arith, short)))
found_case false m n k next short = refl

found_prefix : (p : ℕ → Bool) (xs ys : List ℕ) → prefix_len p xs < length xs → prefix_len p (xs ++ ys) ≡ prefix_len p xs
found_prefix p [] ys short = absurd (omega (arith, short))
found_prefix p (x ∷ xs) ys short = found_case (p x) (prefix_len p xs) (length xs) (prefix_len p (xs ++ ys)) (found_prefix p xs ys) short

-- an LF that is there stays the first one
pub found_longer : (xs ys : List ℕ) → line_length xs < length xs → line_length (xs ++ ys) ≡ line_length xs
found_longer xs ys short = found_prefix (λ x. not (is_lf x)) xs ys short

grown_case : (b : Bool) (m k : ℕ) → m ≤ k → cond b (1 + m) 0 ≤ cond b (1 + k) 0
grown_case true m k within = omega (arith, within)
grown_case false m k within = omega arith

grown_prefix : (p : ℕ → Bool) (xs ys : List ℕ) → prefix_len p xs ≤ prefix_len p (xs ++ ys)
grown_prefix p [] ys = omega arith
grown_prefix p (x ∷ xs) ys = grown_case (p x) (prefix_len p xs) (prefix_len p (xs ++ ys)) (grown_prefix p xs ys)

-- the first LF never comes earlier
pub no_earlier : (xs ys : List ℕ) → line_length xs ≤ line_length (xs ++ ys)
no_earlier xs ys = grown_prefix (λ x. not (is_lf x)) xs ys

pub within_all : (xs : List ℕ) → line_length xs ≤ length xs
within_all xs = prefix_len-le-length (λ x. not (is_lf x)) xs

-- ---- one line

pub one : (input line other rest left : List ℕ) → BeginsLine input line rest → BeginsLine input other left → (line ≡ other) × (rest ≡ left)
one input line other rest left x y = (x.line_is ∙ sym y.line_is, x.rest_is ∙ sym y.rest_is)

pub longer_one : (input more line rest : List ℕ) → BeginsLine input line rest → BeginsLine (input ++ more) line (rest ++ more)
longer_one input more line rest x =
    let same = found_longer input more x.ended in
    record {
      ended = omega (arith, x.ended, same, length-append input more);
      within = omega (arith, x.within, same);
      line_is = x.line_is ∙ sym (ap (λ (l : List ℕ). strip_last 13 l)
          (ap (λ (n : ℕ). take n (input ++ more)) same ∙ take-append-le (line_length input) input more (omega (arith, x.ended))));
      rest_is = ap (λ (l : List ℕ). l ++ more) x.rest_is
          ∙ sym (ap (λ (n : ℕ). drop (n + 1) (input ++ more)) same ∙ drop-append-le (line_length input + 1) input more (omega (arith, x.ended)));
    }

-- ---- lines one behind another

pub longer : (input more : List ℕ) (lines : List (List ℕ)) (rest : List ℕ) → BeginsLines input lines rest → BeginsLines (input ++ more) lines (rest ++ more)
longer input more [] rest x = ap (λ (l : List ℕ). l ++ more) x
longer input more (line ∷ lines) rest x = (x.0 ++ more, longer_one input more line x.0 x.1, longer x.0 more lines rest x.2)

pub joined : (input : List ℕ) (lines others : List (List ℕ)) (mid rest : List ℕ) → BeginsLines input lines mid → BeginsLines mid others rest
    → BeginsLines input (lines ++ others) rest
joined input [] others mid rest x y = subst (λ (t : List ℕ). BeginsLines t others rest) x y
joined input (line ∷ lines) others mid rest x y = (x.0, x.1, joined x.0 lines others mid rest x.2 y)

-- ---- no whole line

pub too_long_longer : (input more : List ℕ) → IsTooLong input → IsTooLong (input ++ more)
too_long_longer input more long = omega (arith, long, no_earlier input more)

pub not_long : (input line rest : List ℕ) → BeginsLine input line rest → IsTooLong input → ⊥
not_long input line rest x long = omega (arith, x.within, long)

pub not_begun : (input line rest : List ℕ) → BeginsLine input line rest → IsBegun input → ⊥
not_begun input line rest x begun = omega (arith, x.ended, begun.0)
