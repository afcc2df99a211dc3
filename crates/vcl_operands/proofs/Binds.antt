-- Parts of a run one after another.
use Rattle.std.proofs.Common.{◌≡◌, Option, Some, None, option_map, refl, subst}
use Rattle.std.specs.Prelude.{IsSome}
use Rattle.vcl_operands.specs.Outs.{Out, On, Ends, Asks, Stuck, and_then, IsSure, made_on}

pub bind_bind : {S A B C : Type 0} (m : Out S A) (f : A → S → Out S B) (g : B → S → Out S C) → and_then (and_then m f) g ≡ and_then m (λ a s. and_then (f a s) g)
bind_bind (On a s) f g = refl
bind_bind (Ends word s) f g = refl
bind_bind (Asks command) f g = refl
bind_bind Stuck f g = refl

pub and-then-same : {S A B : Type 0} (m : Out S A) {f g : A → S → Out S B} → ((a : A) (s : S) → f a s ≡ g a s) → and_then m f ≡ and_then m g
and-then-same (On a s) h = h a s
and-then-same (Ends word s) h = refl
and-then-same (Asks command) h = refl
and-then-same Stuck h = refl

-- what isn't stuck
pub sure-along : {S A : Type 0} (x y : Out S A) → x ≡ y → IsSure x → IsSure y
sure-along {S} {A} x y e h = subst (λ (o : Out S A). IsSure o) e h

pub sure-not : {S A : Type 0} (x : Out S A) → x ≡ Stuck → IsSure x → ⊥
sure-not {S} {A} x e h = subst (λ (o : Out S A). IsSure o) e h

pub made-sure : {S A B : Type 0} (o : Option (Option A)) (f : A → S → Out S B) (s : S) → IsSure (and_then (made_on o s) f) → IsSome o
made-sure (Some a) f s h = refl
made-sure None f s h = absurd h

-- what is made of something is made where there is something
pub some-before : {A B : Type 0} (f : A → B) (o : Option A) → IsSome (option_map f o) → IsSome o
some-before f (Some a) h = refl
some-before f None h = h
