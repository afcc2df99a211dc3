use Rattle.std.proofs.Common.{◌≡◌, ◌++◌, List, filter_map, take, ap, sym, ◌∙◌, arith}
use Rattle.std.specs.Prelude.{option_and_then, option_to_list, slice_get}
use Rattle.cache_law.specs.declared.ban.Issued.{Issued}
use Rattle.ban_list.specs.Bans.{newer}
use Rattle.lazy_store.specs.Chores.{alone_in}
use Rattle.lazy_store.proofs.Chored.{above_is, one_more}
use Rattle.lazy_store.proofs.errands.issued_above.Goals as goal

pub loop-at-preserved : goal.loop-at-preserved
loop-at-preserved c =
    c.in_ok-push_alone.ensures
    ∙ ap (λ (all : List Issued). all ++ option_to_list (option_and_then alone_in (slice_get c.args.bans.now.lines c.loop-at.at))) c.loop-at.invariant
    ∙ sym (one_more alone_in c.args.bans.now.lines c.loop-at.at)

pub returns : goal.returns
returns c =
    let end : newer c.args.mark c.args.bans.now.lines ≡ c.loop-at.at = omega arith in
    c.loop-at.invariant ∙ ap (λ n. filter_map alone_in (take n c.args.bans.now.lines)) (sym end) ∙ above_is c.requires.0 c.args.mark c.args.bans.now.lines c.requires.1
