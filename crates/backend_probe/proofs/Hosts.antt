-- What stands among the fields once Host was put there, or couldn't be.
use Rattle.std.proofs.Common.{◌≡◌, ◌∙◌, ℕ, List, [], Ok, codes, ap, sym, subst}
use Rattle.std.specs.Prelude.{IsErrOf}
use Rattle.http_heads.specs.declared.fields.Field.{Field}
use Rattle.http_heads.specs.declared.fields.FieldError.TheVariants.{Bad}
use Rattle.http_heads.specs.Fields.{MayStand, replaced}
use Rattle.backend_probe.specs.Probes.{IsHostAlone}

put_for : (host : List ℕ) (new : List Field) → new ≡ replaced (codes "Host") host [] → (¬ MayStand (codes "Host") host → ⊥) → IsHostAlone host new
put_for host new put may = record { one = λ stands. put; none = λ bad. absurd (may bad) }

pub was_put : (name host : List ℕ) (old new : List Field) → name ≡ codes "Host" → old ≡ [] → new ≡ replaced name host old → (¬ MayStand name host → ⊥) → IsHostAlone host new
was_put name host old new named none put may =
    put_for host new (put ∙ (ap (λ (fields : List Field). replaced name host fields) none ∙ ap (λ (n : List ℕ). replaced n host []) named))
    (subst (λ (n : List ℕ). ¬ MayStand n host → ⊥) named may)

pub was_not_put : (name host : List ℕ) (old new : List Field) → name ≡ codes "Host" → old ≡ [] → new ≡ old → ¬ MayStand name host → IsHostAlone host new
was_not_put name host old new named none same bad =
    record { one = λ stands. absurd (bad (subst (λ (n : List ℕ). MayStand n host) (sym named) stands)); none = λ other. same ∙ none }

-- an answer that is right isn't this fault
pub isnt_bad : {T : Type 0} (value : T) → IsErrOf {T = T} (Ok value) Bad → ⊥
isnt_bad value is = absurd (cc)
