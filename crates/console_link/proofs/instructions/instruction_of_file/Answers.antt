-- Why what is found isn't loaded.
use Rattle.console_link.proofs.Answered.{not_loaded}
use Rattle.console_link.proofs.instructions.instruction_of_file.Goals as goal

pub returns-clause-leads : goal.returns-clause-leads
returns-clause-leads g c =
    not_loaded c.args.vmods.now.stored (g.S.Shelf.files c.args.shelf.now) (g.S.Shelf.faults c.args.shelf.now) (g.S.Shelf.faults c.find_file.new.shelf) c.args.line.now
    c.args.name c.args.file c.in_ok-found.found c.in-Err.answer c.answered.result (record { is = c.requires.load; found_there = c.in_ok-found.ensures.found })
    c.in-Err.ensures.refused c.answered.ensures
