use Rattle.std.proofs.Common.{find, ap, subst, ◌∙◌}
use Rattle.std.specs.Prelude.{option_map}
use Rattle.lazy_law.specs.Placed.{Lazy}
use Rattle.lazy_law.specs.Insertion.{has_number}
use Rattle.lazy_store.specs.Members.{number_in, placed_in}
use Rattle.lazy_store.specs.Tied.{AreApart}
use Rattle.lazy_store.proofs.Findings.{apart_placed, item_none, item_there}
use Rattle.lazy_store.proofs.store.Store.item.Goals as goal

pub returns-in-Some-clause-found : goal.returns-in-Some-clause-found
returns-in-Some-clause-found c =
    ap (option_map placed_in) c.get.ensures
    ∙ item_there c.args.number c.in-Some.handle c.self.inside.heads c.self.invariant.handles c.in-Some.ensures
    ∙ ap (λ (lazy : Lazy). find (has_number c.args.number) lazy.objects) c.self.view_is

pub returns-in-Some-clause-apart : goal.returns-in-Some-clause-apart
returns-in-Some-clause-apart c = subst (λ (lazy : Lazy). AreApart number_in lazy.objects) c.self.view_is (apart_placed c.self.inside.heads c.self.invariant.numbers)

pub returns-in-None-clause-found : goal.returns-in-None-clause-found
returns-in-None-clause-found c =
    item_none c.args.number c.self.inside.heads c.self.invariant.handles c.in-None.ensures
    ∙ ap (λ (lazy : Lazy). find (has_number c.args.number) lazy.objects) c.self.view_is

pub returns-in-None-clause-apart : goal.returns-in-None-clause-apart
returns-in-None-clause-apart c = subst (λ (lazy : Lazy). AreApart number_in lazy.objects) c.self.view_is (apart_placed c.self.inside.heads c.self.invariant.numbers)
