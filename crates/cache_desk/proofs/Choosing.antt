-- What a target chooses is the place of a member.
use Rattle.std.proofs.Common.{◌≡◌, ◌<◌, ℕ, List, [], ◌∷◌, Option, Some, None, zero, suc, length, map, arith, ap}
use Rattle.std.specs.Prelude.{IfSome, slice_index}
use Rattle.std.proofs.lemmas.List.{length-map}
use Rattle.directors.specs.declared.director.DirectorKind.{DirectorKind}
use Rattle.directors.specs.declared.director.DirectorKind.TheVariants.{One, RoundRobin, Fallback, Random, Hash}
use Rattle.directors.specs.Choice.{Chooses}
use Rattle.directors.specs.declared.target.Member.{Member}
use Rattle.cache_law.specs.declared.vcl.ForcedHealth.{ForcedHealth}
use Rattle.cache_law.specs.Targets.{weight_of}

healthy_within : (weights : List ℕ) (place : ℕ) → 0 < slice_index weights place → place < length weights
healthy_within [] zero h = absurd (omega (arith, h))
healthy_within [] (suc n) h = absurd (omega (arith, h))
healthy_within (weight ∷ weights) zero h = omega arith
healthy_within (weight ∷ weights) (suc n) h = omega (arith, healthy_within weights n h)

chosen_within : (kind : DirectorKind) (weights : List ℕ) (next word place : ℕ) → Chooses kind weights next word place → place < length weights
chosen_within One weights next word place chosen = healthy_within weights place chosen.healthy
chosen_within Fallback weights next word place chosen = healthy_within weights place chosen.healthy
chosen_within RoundRobin weights next word place chosen = healthy_within weights place chosen.healthy
chosen_within Random weights next word place chosen = chosen.within
chosen_within Hash weights next word place chosen = chosen.within

pub member_chosen : (kind : DirectorKind) (health : List ForcedHealth) (vcl : ℕ) (members : List Member) (weights : List ℕ) (next word : ℕ) (place : Option ℕ) → weights ≡ map (weight_of health vcl) members → IfSome place (Chooses kind weights next word) → IfSome place (λ (p : ℕ). p < length members)
member_chosen kind health vcl members weights next word None are chosen = tt
member_chosen kind health vcl members weights next word (Some place) are chosen =
    omega (arith, chosen_within kind weights next word place chosen, ap length are, length-map members (weight_of health vcl))
