-- What goes over a connection, call by call.
use Rattle.std.proofs.Common.{ℕ, List, [], ◌++◌, Option, Some, None, refl, sym, ◌∙◌, ap}
use Rattle.std.proofs.lemmas.List.{append-nil, append_assoc}
use Rattle.wire.specs.Flow.{Flow, Moves}

pub Moves-none : (flow : Option Flow) → Moves flow flow [] []
Moves-none None = tt
Moves-none (Some f) = (sym (append-nil f.given), refl, sym (append-nil f.took))

pub Moves-trans : (first second third : Option Flow) (read more written further : List ℕ) → Moves first second read written → Moves second third more further
    → Moves first third (read ++ more) (written ++ further)
Moves-trans None None None read more written further x y = tt
Moves-trans None None (Some c) read more written further x y = absurd y
Moves-trans None (Some b) third read more written further x y = absurd x
Moves-trans (Some a) None third read more written further x y = absurd x
Moves-trans (Some a) (Some b) None read more written further x y = absurd y
Moves-trans (Some a) (Some b) (Some c) read more written further x y = (
  y.0 ∙ ap (λ (l : List ℕ). l ++ more) x.0 ∙ append_assoc a.given read more,
  x.1 ∙ ap (λ (l : List ℕ). read ++ l) y.1 ∙ sym (append_assoc read more c.left),
  y.2 ∙ ap (λ (l : List ℕ). l ++ further) x.2 ∙ append_assoc a.took written further,
)
