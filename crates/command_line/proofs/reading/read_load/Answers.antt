use Rattle.std.proofs.Common.{inr}
use Rattle.command_line.specs.declared.name.CommandName.TheVariants.{Load}
use Rattle.command_line.specs.Words.{IsLoad}
use Rattle.command_line.specs.Faults.{missing_of_load}
use Rattle.command_line.proofs.Readings.{outside, all_outside, first_fault, unmissed_load}
use Rattle.command_line.proofs.reading.read_load.Goals as goal

pub returns-in-Err-into_load-clause-outside : goal.returns-in-Err-into_load-clause-outside
returns-in-Err-into_load-clause-outside c =
    outside Load missing_of_load IsLoad unmissed_load c.args.options.now c.in-Err-into_load.fault (inr (c.read_options.new.given, rw c.nothing-given.ensures at c.in-Ok.ensures.reads, c.in-Err-into_load.ensures))

pub returns-in-Err-clause-outside : goal.returns-in-Err-clause-outside
returns-in-Err-clause-outside c =
    all_outside Load missing_of_load IsLoad unmissed_load c.args.options.now c.in-Err.error (first_fault Load missing_of_load c.args.options.now c.in-Err.error (rw c.nothing-given.ensures at c.in-Err.ensures.stops))
