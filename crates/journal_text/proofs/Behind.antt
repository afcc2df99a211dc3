-- Words that are put behind others.
use Rattle.std.proofs.Common.{◌≡◌, List, ◌++◌, ap, ◌∙◌, append_assoc}
use Rattle.std.specs.Prelude.{Result, Ok, Err, OnOk}

-- what is put last, behind what was put before
pub joined : {X E : Type 0} (r : Result (Unit {0}) E) (new mid old more front : List X) → OnOk r (new ≡ mid ++ more) → mid ≡ old ++ front → OnOk r (new ≡ old ++ (front ++ more))
joined (Ok u) new mid old more front h e = h ∙ (ap (λ m. m ++ more) e ∙ append_assoc old front more)
joined (Err e) new mid old more front h k = tt

pub behind_both : {X : Type 0} (new mid old more front : List X) → new ≡ mid ++ more → mid ≡ old ++ front → new ≡ old ++ (front ++ more)
behind_both new mid old more front h e = h ∙ (ap (λ m. m ++ more) e ∙ append_assoc old front more)
