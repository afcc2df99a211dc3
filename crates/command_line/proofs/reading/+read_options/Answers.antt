use Rattle.std.proofs.Common.{◌∙◌, sym}
use Rattle.std.proofs.lemmas.Result.{on_ok_weaker, IfErr-weaker}
use Rattle.command_line.proofs.Readings.{two_more, takes, reads_on, stops_on}
use Rattle.command_line.proofs.reading.+read_options.Goals as goal

pub returns-else-not-branch-clause-reads : goal.returns-else-not-branch-clause-reads
returns-else-not-branch-clause-reads t c =
    let two = two_more c.args.options.now c.name-item-2.result c.value-item.result c.in-len2-up.len_at_least c.name-item-2.is c.value-item.is in
    let taken = takes c.args.command c.args.given.now c.put.new.self c.args.place c.name-item-2.result c.value-item.result c.in_ok-option-in-len2-up.option (sym c.option_at-in-len2-up.ensures ∙ c.in_ok-option-in-len2-up.was) (c.in_ok-put-in-len2-up.ensures.put c.if-not-branch.false) in
    on_ok_weaker c.read_options.result (reads_on c.args.command c.args.given.now c.put.new.self c.read_options.new.given c.args.options.now c.name-item-2.result c.value-item.result _ two taken) c.read_options.ensures.reads

pub returns-else-not-branch-clause-stops : goal.returns-else-not-branch-clause-stops
returns-else-not-branch-clause-stops t c =
    let two = two_more c.args.options.now c.name-item-2.result c.value-item.result c.in-len2-up.len_at_least c.name-item-2.is c.value-item.is in
    let taken = takes c.args.command c.args.given.now c.put.new.self c.args.place c.name-item-2.result c.value-item.result c.in_ok-option-in-len2-up.option (sym c.option_at-in-len2-up.ensures ∙ c.in_ok-option-in-len2-up.was) (c.in_ok-put-in-len2-up.ensures.put c.if-not-branch.false) in
    IfErr-weaker c.read_options.result _ _ (stops_on c.args.command c.args.given.now c.put.new.self c.args.place c.args.options.now c.name-item-2.result c.value-item.result _ two taken) c.read_options.ensures.stops
