use Rattle.std.proofs.Common.{arith, ◌≡◌, Bool, true, false, List, ℕ, [], length, ◌==◌, refl, sym, subst, ap, ◌∙◌, ◌++◌, ◌∷◌}
use Rattle.std.specs.Prelude.{codes}
use Rattle.std.proofs.lemmas.Bool.{false≢true}
use Rattle.std.proofs.lemmas.Bool.Decides.{nat_tests}
use Rattle.std.proofs.lemmas.List.{nil_from_length}
use Rattle.session_text.specs.declared.session.Line.TheVariants.{Probe}
use Rattle.session_text.specs.Readings.{IsLine}
use Rattle.session_text.proofs.Commanded.{one_line}
use Rattle.session_text.proofs.Cuts.{words_same, word_alone}
use Rattle.session_text.proofs.Words.{bad_probe}
use Rattle.session_text.proofs.reading.read_probe.Goals as goal

pub returns-in_default : goal.returns-in_default
returns-in_default c = bad_probe c.args.argument.now (λ b g w some e. word_alone c.args.argument.now b _ c.in_default.ensures e)

pub returns-in-None : goal.returns-in-None
returns-in-None c =
    bad_probe c.args.argument.now
    (λ b g w some e. c.in-None.ensures g (words_same c.in-Some.backend.now b c.in-Some.health.now _ c.in-Some.ensures.0 w (sym c.in-Some.ensures.1 ∙ e)).1)

pub returns-in-Some-health_of : goal.returns-in-Some-health_of
returns-in-Some-health_of c =
    one_line (λ line. IsLine (codes "probe" ++ 32 ∷ c.args.argument.now) line) (Probe c.in-Some.backend.now c.in-Some-health_of.good)
    (c.args.argument.now, refl, (c.in-Some.ensures.0, (λ none. false≢true (subst (λ (t : List ℕ). false ≡ (length t == 0)) none c.if-is_empty.ensures)), c.in-Some.ensures.1 ∙ ap (λ (word : List ℕ). c.in-Some.backend.now ++ 32 ∷ word) c.in-Some-health_of.ensures))

empty_text : (text : List ℕ) → true ≡ (length text == 0) → text ≡ []
empty_text text e = let none : length text ≡ 0 = grind (arith, nat_tests, e) in nil_from_length text none

pub returns-then-is_empty : goal.returns-then-is_empty
returns-then-is_empty c =
    let none : c.in-Some.backend.now ≡ [] = empty_text c.in-Some.backend.now c.if-is_empty.ensures in
    bad_probe c.args.argument.now
    (λ b g w some e. some (sym (words_same c.in-Some.backend.now b c.in-Some.health.now _ c.in-Some.ensures.0 w (sym c.in-Some.ensures.1 ∙ e)).0 ∙ none))
