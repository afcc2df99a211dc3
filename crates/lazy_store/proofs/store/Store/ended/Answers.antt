use Rattle.std.proofs.Common.{◌≡◌, true, Option, sym, ◌∙◌, subst}
use Rattle.std.specs.Prelude.{ℕ, IfNone, IfSome}
use Rattle.std.specs.List.{AllByRecursion, list_any}
use Rattle.lazy_law.specs.Placed.{Lazy, Placed}
use Rattle.lazy_store.specs.Members.{number_in}
use Rattle.lazy_store.specs.Tied.{AreApart}
use Rattle.lazy_store.specs.Tidying.{is_ended_as, is_timely}
use Rattle.lazy_store.proofs.Findings.{apart_placed}
use Rattle.lazy_store.proofs.Tidyings.{IsOver, all_timely, one_over}
use Rattle.lazy_store.proofs.store.Store.ended.Goals as goal

pub returns-in-Some-clause-apart : goal.returns-in-Some-clause-apart
returns-in-Some-clause-apart c = subst (λ (lazy : Lazy). AreApart number_in lazy.objects) c.self.view_is (apart_placed c.self.inside.heads c.self.invariant.numbers)

pub returns-in-Some-clause-some : goal.returns-in-Some-clause-some
returns-in-Some-clause-some c =
    let over : IsOver c.args.moment c.in-Some.handle c.self.inside.heads =
    one_over c.args.moment c.in-Some.handle c.in-Some.ensures.over.0 c.self.inside.room c.self.inside.heads c.self.invariant.handles c.self.invariant.room_ c.in-Some.ensures.over.1 in
    subst (λ (o : Option ℕ). IfSome o (λ number. list_any (is_ended_as c.args.moment number) c.args.self.now.objects ≡ true)) (sym (c.number_at.ensures ∙ over.at))
    (subst (λ (lazy : Lazy). list_any (is_ended_as c.args.moment over.number) lazy.objects ≡ true) c.self.view_is over.ended)

pub returns-in-Some-clause-none : goal.returns-in-Some-clause-none
returns-in-Some-clause-none c =
    let over : IsOver c.args.moment c.in-Some.handle c.self.inside.heads =
    one_over c.args.moment c.in-Some.handle c.in-Some.ensures.over.0 c.self.inside.room c.self.inside.heads c.self.invariant.handles c.self.invariant.room_ c.in-Some.ensures.over.1 in
    subst (λ (o : Option ℕ). IfNone o (AllByRecursion (λ (p : Placed). is_timely c.args.moment p ≡ true) c.args.self.now.objects)) (sym (c.number_at.ensures ∙ over.at)) tt

pub returns-in-None-clause-apart : goal.returns-in-None-clause-apart
returns-in-None-clause-apart c = subst (λ (lazy : Lazy). AreApart number_in lazy.objects) c.self.view_is (apart_placed c.self.inside.heads c.self.invariant.numbers)

pub returns-in-None-clause-none : goal.returns-in-None-clause-none
returns-in-None-clause-none c =
    subst (λ (lazy : Lazy). AllByRecursion (λ (p : Placed). is_timely c.args.moment p ≡ true) lazy.objects) c.self.view_is
    (all_timely c.args.moment c.self.inside.room c.self.inside.heads c.self.invariant.room_ c.in-None.ensures.none)
