use Rattle.std.proofs.Common.{inr}
use Rattle.command_line.specs.declared.name.CommandName.TheVariants.{Serve}
use Rattle.command_line.specs.Words.{IsOrder}
use Rattle.command_line.specs.Faults.{missing_of_serve}
use Rattle.command_line.proofs.Readings.{outside, all_outside, first_fault, unmissed}
use Rattle.command_line.proofs.reading.read_order.Goals as goal

pub returns-in-Err-into_order-clause-outside : goal.returns-in-Err-into_order-clause-outside
returns-in-Err-into_order-clause-outside c =
    outside Serve missing_of_serve IsOrder unmissed c.args.options.now c.in-Err-into_order.fault (inr (c.read_options.new.given, rw c.nothing-given.ensures at c.in-Ok.ensures.reads, c.in-Err-into_order.ensures))

pub returns-in-Err-clause-outside : goal.returns-in-Err-clause-outside
returns-in-Err-clause-outside c =
    all_outside Serve missing_of_serve IsOrder unmissed c.args.options.now c.in-Err.error (first_fault Serve missing_of_serve c.args.options.now c.in-Err.error (rw c.nothing-given.ensures at c.in-Err.ensures.stops))
