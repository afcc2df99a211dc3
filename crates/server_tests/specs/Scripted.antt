-- The scripts of texts.
use Rattle.std.proofs.Common.{◌≡◌, ℕ, List, [], ◌∷◌, Some, codes, refl, sym, ◌∙◌, subst}
use Rattle.directors.specs.declared.director.DirectorKind.TheVariants.{Random}
use Rattle.directors.specs.declared.target.Target.{Target}
use Rattle.vcl_runs.specs.Evaluators.{Evaluator, IsLike}
use Rattle.vcl_scripts.specs.Scripts.{turn_of}
use Rattle.vcl_scripts.specs.declared.script.Route.{Route}
use Rattle.vcl_scripts.specs.declared.script.Route.TheVariants as route
use Rattle.vcl_scripts.specs.declared.script.Script.{Script}

-- how vcl_recv ends: an empty text looks up, and others pass
abbrev pub route_of : List ℕ → Route
route_of [] = route.Hash
route_of (byte ∷ bytes) = route.Pass

-- the one backend
abbrev pub one_target : Target
one_target = record { kind = Random; name = codes "b"; members = record { name = codes "b"; weight = 1 } ∷ [] }

abbrev pub script_of : List ℕ → Script
script_of text = record { ban = []; keys = []; route = route_of text; target = one_target }

abbrev pub scripted : Script → Evaluator
scripted script = record { turns = λ ran turn. turn ≡ turn_of script ran; target = λ backend. Some script.target; otherwise = script.target }

pub one-meaning : (text : List ℕ) (one other : Script) → one ≡ script_of text → other ≡ script_of text → IsLike (scripted one) (scripted other)
one-meaning text one other p q =
    subst (λ (script : Script). IsLike (scripted one) (scripted script)) (p ∙ sym q) (record { turns = λ ran turn t. t; targets = λ backend. refl; otherwise = refl })
