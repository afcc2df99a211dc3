-- The numbers that the program ends with.
use Rattle.std.specs.Prelude.{ℕ}
use Rattle.varn_program.specs.declared.outcome.Status.{Status}
use Rattle.varn_program.specs.declared.outcome.Status.TheVariants.{Done, Words, Session, ReadFault, WriteFault, NoMemory, HistoryFull}

abbrev pub code_of : Status → ℕ
code_of Done = 0
code_of Words = 2
code_of Session = 3
code_of ReadFault = 4
code_of WriteFault = 5
code_of NoMemory = 6
code_of HistoryFull = 9
