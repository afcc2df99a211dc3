-- The reading of single tokens without a limit of nesting.
use Rattle.std.proofs.Common.{◌≡◌, List, [], ◌∷◌, length, refl}
use Rattle.std.specs.Prelude.{false}
use Rattle.vcl_tree.specs.Phrase.{Phrase, Label}
use Rattle.vcl_tree.specs.declared.token.Token.{Token}
use Rattle.vcl_parse.specs.Machine.{Want, Tail, Go, Join, Outcome, step, ends, moved, join}

abbrev pub run : List Want → List Phrase → List Token → Outcome
run s vs [] = ends s vs
run s vs (x ∷ xs) = moved (length (x ∷ xs)) false (step s vs x) (λ c. run (c.0) (c.1) xs)

-- The rest of a part ends before these tokens.
abbrev pub EndsAt : Tail → List Token → Type 0
EndsAt tail ts = (s : List Want) (vs : List Phrase) → run (Go tail ∷ s) vs ts ≡ run s vs ts

pub join_on : (l : Label) (s : List Want) (vs : List Phrase) (ts : List Token) → run (Join l ∷ s) vs ts ≡ run s (join l vs) ts
join_on l s vs [] = refl
join_on l s vs (x ∷ ts) = refl
