use Rattle.std.proofs.Common.{◌≡◌, ◌∷◌, ◌++◌, [], List, is_some, true, refl, subst}
use Rattle.vcl_check.specs.Mentions.{Said}
use Rattle.vcl_check.specs.Texts.{AreTried}
use Rattle.vcl_check.proofs.RefusedLemmas.{found-pattern, found-refused, found-other}
use Rattle.vcl_check.proofs.patterns.try_pattern.Goals as goal

pub returns-in_ok-push-in-Some : goal.returns-in_ok-push-in-Some
returns-in_ok-push-in-Some c =
    let P : Said → Type 0 = λ s. (before : List Said) → AreTried before c.args.places.now.items c.args.patterns.now.items → AreTried (before ++ s ∷ []) c.args.places.now.items c.push.new.self.items in
    let some : is_some c.in_ok-pattern-in-Pattern.field-0 ≡ true = rw c.in-Some.is refl in
    let source : c.in-Some.pattern ≡ c.mention.inside.name.now = rw c.in-Some.is at c.in_ok-pattern-in-Pattern.ensures.source in
    subst P c.mention.view_is
    (found-pattern _ c.args.places.now.items c.args.patterns.now.items c.push.new.self.items c.in-Some.pattern c.in-Pattern.is source
    (c.in_ok-pattern-in-Pattern.ensures.must some) c.in_ok-push-in-Some.ensures.items)

pub returns-in_ok-push-in-None : goal.returns-in_ok-push-in-None
returns-in_ok-push-in-None c =
    let P : Said → Type 0 = λ s. (before : List Said) → AreTried before c.args.places.now.items c.args.patterns.now.items → AreTried (before ++ s ∷ []) c.push-in-None.new.self.items c.args.patterns.now.items in
    subst P c.mention.view_is
    (found-refused _ c.args.places.now.items c.push-in-None.new.self.items c.args.patterns.now.items c.in-Pattern.is
    (c.in_ok-pattern-in-Pattern.ensures.may c.in-None.is) c.in_ok-push-in-None.ensures.items)

pub returns-in_default : goal.returns-in_default
returns-in_default c =
    let P : Said → Type 0 = λ s. (before : List Said) → AreTried before c.args.places.now.items c.args.patterns.now.items → AreTried (before ++ s ∷ []) c.args.places.now.items c.args.patterns.now.items in
    subst P c.mention.view_is (found-other _ c.args.places.now.items c.args.patterns.now.items c.in_default.not-Pattern)
