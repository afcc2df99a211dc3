-- Members that go one after another.
use Rattle.std.proofs.Common.{◌≡◌, ◌<◌, ◌+◌, ℕ, List, [], ◌∷◌, length, take, get_or, refl, ap, arith}
use Rattle.std.specs.Prelude.{nat_eq}
use Rattle.std.proofs.lemmas.List.Folds.{list_any_more}
use Rattle.object_heads.specs.Members.{without, without_all}

pub gone_more : {X : Type 0} (gone : List ℕ) (i d : ℕ) (members : List (ℕ × X)) → i < length gone
    → without (get_or gone i d) (without_all (take i gone) members) ≡ without_all (take (i + 1) gone) members
gone_more gone i d [] within = refl
gone_more gone i d (member ∷ members) within =
    grind (arith, list_any_more (λ (handle : ℕ). nat_eq handle member.0) gone i d within, gone_more gone i d members within)

pub none_gone : {X : Type 0} (members : List (ℕ × X)) → without_all [] members ≡ members
none_gone [] = refl
none_gone {X = X} (member ∷ members) = ap (λ (rest : List (ℕ × X)). member ∷ rest) (none_gone members)
