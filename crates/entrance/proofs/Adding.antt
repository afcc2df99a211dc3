-- Lists that are told grow by nothing, and by more and more.
use Rattle.std.proofs.Common.{List, [], ◌++◌, Option, Some, None, sym, ap, ◌∙◌}
use Rattle.std.proofs.lemmas.List.{append-nil, append_assoc}
use Rattle.wire.specs.Talks.{Adds}

pub adds_none : {X : Type 0} → (told : Option (List X)) → Adds told told []
adds_none None = tt
adds_none (Some items) = sym (append-nil items)

pub adds_then : {X : Type 0} → (first second third : Option (List X)) (more others : List X) → Adds first second more → Adds second third others → Adds first third (more ++ others)
adds_then None None None more others a b = tt
adds_then None None (Some zs) more others a b = absurd b
adds_then None (Some ys) third more others a b = absurd a
adds_then (Some xs) None third more others a b = absurd a
adds_then (Some xs) (Some ys) None more others a b = absurd b
adds_then (Some xs) (Some ys) (Some zs) more others a b = b ∙ (ap (λ items. items ++ others) a ∙ append_assoc xs more others)
