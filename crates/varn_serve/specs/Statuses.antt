-- The numbers that a server's run ends with.
use Rattle.std.specs.Prelude.{ℕ}
use Rattle.varn_serve.specs.declared.ending.Status.{Status}
use Rattle.varn_serve.specs.declared.ending.Status.TheVariants.{Done, ReadFault, WriteFault, NoMemory, ListenFault, Vcl, HistoryFull}

abbrev pub code_of : Status → ℕ
code_of Done = 0
code_of ReadFault = 4
code_of WriteFault = 5
code_of NoMemory = 6
code_of ListenFault = 7
code_of Vcl = 8
code_of HistoryFull = 9
