use Rattle.std.proofs.Common.{◌≡◌, ap, ◌∙◌, subst}
use Rattle.lazy_law.specs.Placed.{Lazy}
use Rattle.lazy_law.specs.Purging.{is_of_key}
use Rattle.lazy_store.specs.Members.{number_in}
use Rattle.lazy_store.specs.Numbered.{numbers_at, numbers_where}
use Rattle.lazy_store.specs.Tied.{AreApart}
use Rattle.lazy_store.proofs.Findings.{apart_placed}
use Rattle.lazy_store.proofs.Numbers.{numbers_by_key}
use Rattle.lazy_store.proofs.Results.{ok_on}
use Rattle.lazy_store.proofs.store.Store.numbers_of_key.Goals as goal

pub returns-in_err-handles-clause-apart : goal.returns-in_err-handles-clause-apart
returns-in_err-handles-clause-apart c = subst (λ (lazy : Lazy). AreApart number_in lazy.objects) c.self.view_is (apart_placed c.self.inside.heads c.self.invariant.numbers)

pub returns-clause-found : goal.returns-clause-found
returns-clause-found c =
    ok_on (λ numbers. numbers.items ≡ numbers_at c.self.inside.heads _) (λ numbers. numbers.items ≡ numbers_where (is_of_key c.args.key.now) c.args.self.now.objects)
    (λ numbers is.
    is ∙ ap (numbers_at c.self.inside.heads) (c.deref.ensures.value ∙ c.in_ok-handles.ensures) ∙ numbers_by_key c.args.key.now c.self.inside.heads c.self.invariant.handles
    ∙ ap (λ (lazy : Lazy). numbers_where (is_of_key c.args.key.now) lazy.objects) c.self.view_is) c.numbers_at.result c.numbers_at.ensures

pub returns-clause-apart : goal.returns-clause-apart
returns-clause-apart c = subst (λ (lazy : Lazy). AreApart number_in lazy.objects) c.self.view_is (apart_placed c.self.inside.heads c.self.invariant.numbers)
