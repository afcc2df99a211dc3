use Rattle.std.proofs.Common.{◌≡◌, List, ℕ, filter, length, ap, ◌∙◌}
use Rattle.lazy_law.specs.Placed.{kept_bans}
use Rattle.lazy_law.specs.Purging.{count_alive, is_of_key}
use Rattle.lazy_store.specs.Numbered.{is_alive_at, without_all}
use Rattle.lazy_store.specs.Purged.{purged}
use Rattle.lazy_store.proofs.Numbers.{those_alive_are, those_gone}
use Rattle.lazy_store.proofs.Results.{ok_on, on_ok}
use Rattle.lazy_store.proofs.store.Store.purge.Goals as goal

pub returns-clause-count : goal.returns-clause-count
returns-clause-count c =
    ok_on (λ count. count ≡ length (filter (is_alive_at c.args.moment c.args.self.now) _)) (λ count. count ≡ count_alive c.args.moment (kept_bans c.args.self.now) (is_of_key c.args.key.now) c.args.self.now.objects)
    (λ count is.
    is ∙ ap (λ (numbers : List ℕ). length (filter (is_alive_at c.args.moment c.args.self.now) numbers)) (c.deref.ensures.value ∙ c.in_ok-numbers.ensures.found)
    ∙ those_alive_are c.args.moment (is_of_key c.args.key.now) c.args.self.now c.in_ok-numbers.ensures.apart) c.purge_numbers.result c.purge_numbers.ensures.count

pub returns-clause-ok : goal.returns-clause-ok
returns-clause-ok c =
    on_ok _ (c.purge_numbers.new.self ≡ purged (is_of_key c.args.key.now) c.args.self.now)
    (λ is.
    is ∙ ap (λ (numbers : List ℕ). without_all numbers c.args.self.now) (c.deref.ensures.value ∙ c.in_ok-numbers.ensures.found)
    ∙ those_gone (is_of_key c.args.key.now) c.args.self.now c.in_ok-numbers.ensures.apart) c.purge_numbers.result c.purge_numbers.ensures.ok
