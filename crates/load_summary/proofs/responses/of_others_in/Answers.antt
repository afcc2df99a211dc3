use Rattle.std.proofs.Common.{rules, tests, ◌∙◌}
use Rattle.std.specs.List.{slice_split}
use Rattle.std.proofs.lemmas.Iterator.Splits.{YieldsList-from_slice_split}
use Rattle.std.proofs.lemmas.Iterator.Consumers.{YieldsList-at, YieldsList-from_filter, count_from_yields_List}
use Rattle.std.proofs.lemmas.List.Sums.{length-filter}
use Rattle.load_summary.specs.Counts.{is_feed, is_of_another}
use Rattle.load_summary.proofs.responses.of_others_in.Goals as goal

pub returns : goal.returns
returns c =
    count_from_yields_List _ c.count.result c.count.ensures.ran
    (YieldsList-from_filter _ is_of_another
    (YieldsList-at c.filter.ensures.source (YieldsList-from_slice_split _ is_feed c.args.transcript.now c.split.ensures.rest c.split.ensures.done c.split.ensures.closure (λ x b q k. search (rules, tests))))
    c.filter.ensures.closure (λ x b q k. search (rules, tests)))
    ∙ length-filter is_of_another (slice_split is_feed c.args.transcript.now)
