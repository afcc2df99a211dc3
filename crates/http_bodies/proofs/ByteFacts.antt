-- A byte of one class is none of another.
use Rattle.std.proofs.Common.{◌≡◌, ℕ, Bool, true, false, List, [], ◌∷◌, refl, sym, ◌∙◌, ap, arith}
use Rattle.std.proofs.lemmas.Bool.Decides.{nat_tests}
use Rattle.std.proofs.lemmas.List.Elements.{All-head, All-tail, All-cons, All-nil}
use Rattle.std.specs.Prelude.{IsTrue}
use Rattle.std.specs.Char.{is_ascii_hexdigit}
use Rattle.httparse.specs.Grammar.{AllPass, is_ows, is_token_byte}

-- a byte that passes a test isn't one that fails it
pub other_byte : (test : ℕ → Bool) (b c : ℕ) → test b ≡ true → test c ≡ false → b ≡ c → ⊥
other_byte test b c passes fails same = let never : true ≡ false = sym passes ∙ ap test same ∙ fails in cc

pub hex_is_no_blank : (b : ℕ) → is_ascii_hexdigit b ≡ true → is_ows b ≡ true → ⊥
hex_is_no_blank b hex blank = grind (arith, nat_tests)

pub no_token_13 : is_token_byte 13 ≡ false
unfolding is_token_byte
no_token_13 = refl

pub no_token_10 : is_token_byte 10 ≡ false
unfolding is_token_byte
no_token_10 = refl

pub no_token_58 : is_token_byte 58 ≡ false
unfolding is_token_byte
no_token_58 = refl

-- each byte of a list passes
pub pass_nil : (test : ℕ → Bool) → AllPass test []
pass_nil test = All-nil (λ b. IsTrue (test b))

pub pass_cons : (test : ℕ → Bool) (c : ℕ) (xs : List ℕ) → test c ≡ true → AllPass test xs → AllPass test (c ∷ xs)
pass_cons test c xs first others = All-cons (λ b. IsTrue (test b)) c xs first others

pub pass_head : (test : ℕ → Bool) (c : ℕ) (xs : List ℕ) → AllPass test (c ∷ xs) → test c ≡ true
pass_head test c xs all = All-head (λ b. IsTrue (test b)) c xs all

pub pass_tail : (test : ℕ → Bool) (c : ℕ) (xs : List ℕ) → AllPass test (c ∷ xs) → AllPass test xs
pass_tail test c xs all = All-tail (λ b. IsTrue (test b)) c xs all
