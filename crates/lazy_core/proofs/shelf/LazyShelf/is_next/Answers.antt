use Rattle.std.proofs.Common.{sym, ◌∙◌}
use Rattle.std.proofs.lemmas.Bool.{true≢false}
use Rattle.lazy_law.specs.Insertion.{has_number}
use Rattle.lazy_core.proofs.Placings.{none_there, some_there}
use Rattle.lazy_core.proofs.shelf.LazyShelf.is_next.Goals as goal

pub returns-in-Some : goal.returns-in-Some
returns-in-Some c =
    let there = some_there (has_number c.args.number) _ c.args.self.now.store.objects (sym (rw c.in-Some.is at c.item.ensures.found)) in
    ((λ never. absurd (true≢false (sym never))), (λ both. absurd (true≢false (sym there ∙ both.1))))

pub returns-in-None : goal.returns-in-None
returns-in-None c =
    let none = none_there (has_number c.args.number) c.args.self.now.store.objects (sym (rw c.in-None.is at c.item.ensures.found)) in
    ((λ latest. (c.is_latest.ensures.0 latest, none)), (λ both. c.is_latest.ensures.1 both.0))
